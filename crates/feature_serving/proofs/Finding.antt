-- What holds of all that stands under names holds of what stands under one.
use Rattle.std.proofs.Common.{◌≡◌, ℕ, Bool, true, false, List, [], ◌∷◌, Option, Some, subst}
use Rattle.std.specs.Prelude.{All, bytes_eq, if◌then◌else◌}
use Rattle.std.proofs.lemmas.List.Elements.{All-head, All-tail}
use Rattle.fml_types.specs.Named.{found}

module _ {T : Type 0} (Q : T → Type 0) where
  found_at : (name : List ℕ) (p : List ℕ × T) (o : Option T) (v : T) (b : Bool) → Q p.1 → (o ≡ Some v → Q v) → (if b then Some p.1 else o) ≡ Some v → Q v
  found_at name p o v true one rest e = let same : p.1 ≡ v = cc in subst Q same one
  found_at name p o v false one rest e = rest e

  pub found_all : (name : List ℕ) (ps : List (List ℕ × T)) (v : T) → All (λ p. Q p.1) ps → found name ps ≡ Some v → Q v
  found_all name [] v all e = absurd (cc)
  found_all name (p ∷ ps) v all e = found_at name p (found name ps) v (bytes_eq p.0 name) (All-head (λ p. Q p.1) p ps all) (found_all name ps v (All-tail (λ p. Q p.1) p ps all)) e
