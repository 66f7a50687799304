-- Recipes have one text exactly where they are one.
use Rattle.std.proofs.Common.{◌≡◌, true, false}
use Rattle.recipe_reader.specs.Equal.{recipe_eq}
use Rattle.state_codec.proofs.Items.{equal_texts, other_texts}
use Rattle.state_codec.proofs.row_item.RowKindRowFormRecipe.has_same_value.Goals as goal

pub returns-then-eq : goal.returns-then-eq
returns-then-eq c =
    let same : recipe_eq c.args.old.now c.args.new.now ≡ true = cc (c.eq.ensures, c.if-eq.true) in
    equal_texts c.args.old.now c.args.new.now same

pub returns : goal.returns
returns c =
    let other : recipe_eq c.args.old.now c.args.new.now ≡ false = cc (c.eq.ensures, c.if-eq.false) in
    other_texts c.args.old.now c.args.new.now c.requires.old_item c.requires.new_item c.record_length.ensures.record c.record_length-2.ensures.record other
