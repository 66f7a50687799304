-- What holds of the value of a result, and of items that were passed.
use Rattle.std.proofs.Common.{◌≡◌, ℕ, ◌+◌, ◌<◌, List, length, get_or, inl, inr, sym, ◌∙◌, subst, arith}
use Rattle.std.proofs.lemmas.Bool.{cases_lt}
use Rattle.std.proofs.lemmas.List.{get_or_default}

-- what holds of each that was passed, and of one more
pub one_more : {A : Type 0} (P : A → Type 0) (xs : List A) (i : ℕ) (x : A) → i < length xs → x ≡ get_or xs i x → ((k : ℕ) (d : A) → k < i → P (get_or xs k d)) → P x → (k : ℕ) (d : A) → k < i + 1 → P (get_or xs k d)
one_more P xs i x h is below here k d less =
    elim (cases_lt k i) [
      | inl before ↦ below k d before
      | inr last ↦ let same : k ≡ i = omega arith in subst (λ n. P (get_or xs n d)) (sym same) (subst P (is ∙ get_or_default xs i x d h) here)
    ]
