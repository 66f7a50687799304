-- Texts with spaces at their end.
use Rattle.std.proofs.Common.{◌≡◌, ℕ, zero, suc, ◌-◌, ◌<◌, ◌≤◌, false, List, [], ◌∷◌, ◌++◌, length, get_or, take, refl, sym, ap, ◌∙◌, arith}
use Rattle.std.proofs.Math.Seq.{take-suc}
use Rattle.std.specs.Prelude.{◌==◌, if◌then◌else◌}
use Rattle.fml_types.specs.TypeTexts.{onto, without_end}

pub one_space : (b : List ℕ) → without_end (b ++ 32 ∷ []) ≡ without_end b
one_space [] = refl
one_space (x ∷ b) = ap (onto x) (one_space b)

other_last : (x : ℕ) (b : List ℕ) → (x == 32) ≡ false → without_end (b ++ x ∷ []) ≡ b ++ x ∷ []
other_last x [] e = ap (λ t. if t then [] else x ∷ []) e
other_last x (y ∷ []) e = ap (onto y) (other_last x [] e)
other_last x (y ∷ z ∷ b) e = ap (onto y) (other_last x (z ∷ b) e)

pub last_space : (b : List ℕ) (n : ℕ) (d : ℕ) → 0 < n → n ≤ length b → get_or b (n - 1) d ≡ 32 → without_end (take n b) ≡ without_end (take (n - 1) b)
last_space b zero d h k e = absurd (omega arith)
last_space b (suc n) d h k e =
    let same : suc n - 1 ≡ n = omega arith in
    rw same (ap without_end (take-suc b n d (omega arith) ∙ ap (λ x. take n b ++ x ∷ []) (rw same at e)) ∙ one_space (take n b))

pub last_other : (b : List ℕ) (n : ℕ) (d : ℕ) → 0 < n → n ≤ length b → (get_or b (n - 1) d == 32) ≡ false → without_end (take n b) ≡ take n b
last_other b zero d h k e = absurd (omega arith)
last_other b (suc n) d h k e =
    let same : suc n - 1 ≡ n = omega arith in
    let whole = take-suc b n d (omega arith) in
    ap without_end whole ∙ other_last (get_or b n d) (take n b) (rw same at e) ∙ sym whole
