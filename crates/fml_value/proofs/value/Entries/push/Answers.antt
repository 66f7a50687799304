use Rattle.std.proofs.Common.{sym, map, subst, ℕ, List}
use Rattle.json_tree.proofs.Growing.{map-push}
use Rattle.fml_types.proofs.Places.{rising_push}
use Rattle.fml_types.specs.Named.{AreRising, IsAbove}
use Rattle.fml_value.specs.TypedOf.{entry_of}
use Rattle.fml_value.specs.declared.value.Value.{Value}
use Rattle.fml_value.proofs.value.Entries.push.Goals as goal

pub invariant_of-self-2 : goal.invariant_of-self-2
invariant_of-self-2 c =
    let old = c.self.inside.pairs.items in
    let e : List ℕ × Value = (c.args.name, c.args.value) in
    let above = subst (IsAbove c.args.name) (sym c.self.view_is) c.requires in
    subst AreRising (sym (map-push entry_of old _ e c.in_ok-push.ensures.items)) (rising_push (entry_of e) (map entry_of old) c.self.invariant above)
