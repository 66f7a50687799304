-- A copy of a valid recipe is valid.
use Rattle.std.proofs.Common.{sym, subst}
use Rattle.recipe_reader.specs.Records.{IsValid}
use Rattle.state_codec.specs.Reading.{IsRecordOf}
use Rattle.state_codec.proofs.sections.recipe_of.Goals as goal

pub returns-in_ok-clone-in-Some-clause-valid : goal.returns-in_ok-clone-in-Some-clause-valid
returns-in_ok-clone-in-Some-clause-valid c =
    let found : IsRecordOf c.in-Some.recipe.now c.args.bytes.now = rw c.in-Some.is at c.in_ok-recipe.ensures in
    subst IsValid (sym c.in_ok-clone-in-Some.ensures.cases) found.1
