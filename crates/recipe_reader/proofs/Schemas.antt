-- A schema's version is 1 where its first one or two bytes say so.
use Rattle.std.proofs.Common.{◌≡◌, ℕ, List, [], ◌∷◌, Bool, true, false, refl, sym, ap, subst}
use Rattle.std.specs.Prelude.{◌==◌, ◌&&◌, bytes_eq, if◌then◌else◌}
use Rattle.std.specs.Cmp.{unsigned_Decides}
use Rattle.recipe_reader.specs.Values.{before_dot, is_schema}

abbrev pub starts_as_one : List ℕ → Bool
starts_as_one [] = false
starts_as_one (a ∷ []) = a == 49
starts_as_one (a ∷ b ∷ s) = a == 49 && b == 46

and_true : (b : Bool) → (b && true) ≡ b
and_true true = refl
and_true false = refl

no_bytes : (b : ℕ) (s : List ℕ) (dot : Bool) → bytes_eq (if dot then [] else b ∷ s) [] ≡ dot
no_bytes b s true = refl
no_bytes b s false = refl

one_byte : (a : ℕ) (dot : Bool) → (a == 46) ≡ dot → bytes_eq (if dot then [] else a ∷ []) (49 ∷ []) ≡ (a == 49)
one_byte a true e = subst (λ n. false ≡ (n == 49)) (sym ((unsigned_Decides a 46).0 e)) refl
one_byte a false e = and_true (a == 49)

more_bytes : (a b : ℕ) (s : List ℕ) (dot : Bool) → (a == 46) ≡ dot → bytes_eq (if dot then [] else a ∷ before_dot (b ∷ s)) (49 ∷ []) ≡ (a == 49 && b == 46)
more_bytes a b s true e = subst (λ n. false ≡ (n == 49 && b == 46)) (sym ((unsigned_Decides a 46).0 e)) refl
more_bytes a b s false e = ap (λ rest. a == 49 && rest) (no_bytes b (before_dot s) (b == 46))

pub schema_starts : (s : List ℕ) → is_schema s ≡ starts_as_one s
schema_starts [] = refl
schema_starts (a ∷ []) = one_byte a (a == 46) refl
schema_starts (a ∷ b ∷ s) = more_bytes a b s (a == 46) refl
