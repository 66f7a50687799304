-- One name more.
use Rattle.std.proofs.Common.{List, ℕ, IsTrue, refl, ◌∙◌}
use Rattle.plain_text.specs.Names.{is_name}
use Rattle.enrol_states.proofs.Alls.{all_more, all_taken}
use Rattle.enrol_states.proofs.soundness.are_names.Goals as goal

abbrev IsName : List ℕ → Type 0
IsName name = IsTrue (is_name name)

pub loop-text-preserved : goal.loop-text-preserved
loop-text-preserved c =
    let text = c.text-item.result in
    let bytes = c.as_bytes.ensures.value ∙ c.as_str.ensures.text in
    let test = c.is_name.ensures in
    let named : IsName text = cc (bytes, test, c.if-not-is_name.false) in
    all_more IsName c.args.texts.now c.loop-text.text-index text c.loop-text-test.true c.text-item.is c.loop-text.invariant named

pub returns : goal.returns
returns c = (λ is. all_taken IsName c.args.texts.now c.loop-text.text-index c.loop-text-test.false c.loop-text.invariant, λ all. refl)
