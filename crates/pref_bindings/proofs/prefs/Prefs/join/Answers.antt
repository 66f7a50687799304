use Rattle.std.proofs.Common.{rules, sym}
use Rattle.pref_bindings.specs.Preferences.{AreHeld}
use Rattle.pref_bindings.proofs.HeldAll.{held_joined}
use Rattle.pref_bindings.proofs.prefs.Prefs.join.Goals as goal

pub returns-then-are_held : goal.returns-then-are_held
returns-then-are_held c =
    let held : AreHeld c.args.values.now c.args.self.now = search rules in
    sym (held_joined c.args.slug.now c.args.values.now c.args.self.now c.as_slice-preferences.ensures.sound held)
