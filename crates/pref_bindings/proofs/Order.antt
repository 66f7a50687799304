-- How names compare, and names above one.
pub use Rattle.sequences.proofs.Texts.{turned_even}
use Rattle.std.proofs.Common.{◌≡◌, ℕ, List, subst}
use Rattle.enrol_states.specs.Order.{AreAbove}
use Rattle.pref_bindings.specs.declared.preference.Preference.{Preference}

abbrev pub name_of : Preference → List ℕ
name_of p = p.name

-- names above one name are above each that is the same
pub above_same : (a b : List ℕ) (ts : List (List ℕ)) → a ≡ b → AreAbove a ts → AreAbove b ts
above_same a b ts same above = subst (λ t. AreAbove t ts) same above
