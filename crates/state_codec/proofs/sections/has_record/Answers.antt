-- A recipe's own text is its record.
use Rattle.std.proofs.Common.{◌≡◌, true}
use Rattle.std.specs.Prelude.{bytes_eq}
use Rattle.state_values.specs.Values.{recipe_text}
use Rattle.state_codec.proofs.Known.{own_record}
use Rattle.state_codec.proofs.sections.has_record.Goals as goal

pub returns : goal.returns
returns c = λ is.
    let same : bytes_eq (recipe_text c.args.recipe.now) c.args.bytes.now ≡ true = cc (is, c.eq.ensures, c.as_slice.ensures.value, c.in_ok-text.ensures) in
    own_record c.args.recipe.now c.args.bytes.now c.requires c.record_length.ensures.record same
