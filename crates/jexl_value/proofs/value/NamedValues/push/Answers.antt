use Rattle.std.proofs.Common.{sym, map, subst, ℕ, List}
use Rattle.json_tree.specs.Json.{members_of, IsAbove}
use Rattle.jexl_value.specs.Kept.{AreNamedValues}
use Rattle.jexl_value.specs.Value.{member_of}
use Rattle.jexl_value.specs.declared.value.Value.{Value}
use Rattle.json_tree.proofs.Growing.{map-push}
use Rattle.jexl_value.proofs.Growing.{AreNamedValues-push}
use Rattle.jexl_value.proofs.value.NamedValues.push.Goals as goal

pub invariant_of-self-2 : goal.invariant_of-self-2
invariant_of-self-2 c =
    let old = c.self.inside.pairs.items in
    let m : List ℕ × Value = (c.args.name, c.args.value) in
    let above = subst (IsAbove c.args.name) (sym c.self.view_is) c.requires in
    subst (λ ms. AreNamedValues (members_of ms)) (sym (map-push member_of old _ m c.in_ok-push.ensures.items)) (AreNamedValues-push (map member_of old) (member_of m) c.self.invariant above c.as_str-name.ensures.utf8 c.keeps.ensures.sound)
