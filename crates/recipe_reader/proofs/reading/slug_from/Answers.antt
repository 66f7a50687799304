use Rattle.std.proofs.Common.{◌≡◌, Some, sym, ap, subst}
use Rattle.std.specs.Prelude.{not}
use Rattle.std.specs.Option.{is_some}
use Rattle.plain_text.specs.Names.{bad_place}
use Rattle.recipe_reader.specs.Outcome.{only_if}
use Rattle.recipe_reader.proofs.reading.slug_from.Goals as goal

pub returns-in-Err-BadSlug : goal.returns-in-Err-BadSlug
returns-in-Err-BadSlug c =
    let n = c.in-Err-BadSlug.field-0-0 in
    let bad : bad_place c.args.text.now ≡ Some n = subst (λ s. bad_place s ≡ Some n) c.as_bytes.ensures.value ((c.slug_of.ensures.bad n).0 cc) in
    sym (ap (λ o. only_if (not (is_some o)) c.args.text.now) bad)
