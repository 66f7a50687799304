use Rattle.std.proofs.Common.{sym, subst}
use Rattle.fml_types.specs.Named.{IsAbove, AreRising}
use Rattle.fml_types.proofs.Places.{rising_push}
use Rattle.fml_types.proofs.by_name.ByName.push.Goals as goal

pub invariant_of-self-2 : goal.invariant_of-self-2
invariant_of-self-2 g c =
    let above = subst (IsAbove c.args.name) (sym c.self.view_is) c.requires in
    subst AreRising (sym c.in_ok-push.ensures.items) (rising_push (c.args.name, c.args.value) c.self.inside.pairs.items c.self.invariant above)
