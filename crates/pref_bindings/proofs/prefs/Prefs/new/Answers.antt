use Rattle.std.proofs.Common.{◌≡◌, List, [], refl, sym, subst, arith}
use Rattle.pref_bindings.specs.Held.{AreKept}
use Rattle.pref_bindings.specs.Sizes.{AreSized}
use Rattle.pref_bindings.specs.declared.preference.Preference.{Preference}
use Rattle.pref_bindings.proofs.Sound.{none_sound}
use Rattle.pref_bindings.proofs.prefs.Prefs.new.Goals as goal

none_sized : AreSized [] 0
none_sized = record { sound = none_sound; size = refl; bound = omega arith }

none_kept : AreKept [] [] 0
none_kept = record { sized = none_sized; same = refl }

none_given : (ps held : List Preference) → ps ≡ [] → held ≡ [] → AreKept ps held 0
none_given ps held none none_held = subst (λ (l : List Preference). AreKept l held 0) (sym none) (subst (λ (l : List Preference). AreKept [] l 0) (sym none_held) none_kept)

pub invariant_of-result : goal.invariant_of-result
invariant_of-result c = none_given c.new.result c.new-2.result c.new.ensures c.new-2.ensures
