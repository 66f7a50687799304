-- A field is read by its number of bytes.
use Rattle.std.proofs.Common.{◌≡◌, ◌+◌, ◌<◌, ◌++◌, List, ℕ, Option, Some, None, length, get_or, take, drop, ◌∙◌, ap, ap₂, sym, subst, take-append-drop, arith}
use Rattle.std.specs.Prelude.{IfSome, IsNone, MatchOption}
use Rattle.std.specs.List.{IsSplitAt}
use Rattle.std.proofs.lemmas.List.{length-take-le}
use Rattle.row_batches.proofs.Fields.{cut_field, whole_field, front_below}

-- head encodes a number below bound in k bytes, which tell it, and unhead reads it
module _ (head : ℕ → List ℕ) (unhead : List ℕ → ℕ) (k bound : ℕ) (sized : (n : ℕ) → length (head n) ≡ k) (tells : (n m : ℕ) → n < bound → m < bound → head n ≡ head m → n ≡ m)
    (reads : (bs : List ℕ) (n : ℕ) → length bs ≡ k → ((i : ℕ) → get_or bs i 0 < 256) → n ≡ unhead bs → head n ≡ bs) where
  module _ (bytes size rest : List ℕ) (len : ℕ) (front : size ≡ take k bytes) (behind : rest ≡ drop k bytes) (whole : length rest + k ≡ length bytes) (small : (i : ℕ) → get_or bytes i 0 < 256) (len_is : len ≡ unhead size) (fits : len < bound) where
    encoded : head len ≡ size
    encoded =
        reads size len (ap length front ∙ length-take-le k bytes (omega (arith, whole)))
        (λ i. subst (λ (l : List ℕ). get_or l i 0 < 256) (sym front) (front_below 256 k bytes (omega arith) small i)) len_is

    numbered : bytes ≡ head len ++ rest
    numbered =
        sym (take-append-drop k bytes) ∙ ap (λ (l : List ℕ). take k bytes ++ l) (sym behind) ∙ ap (λ (l : List ℕ). l ++ rest) (sym (encoded ∙ front))

    pub some_read : {P : Type 0} (field left : P → List ℕ) (o : Option P) → MatchOption o (length rest < len) (λ p. IsSplitAt rest len (field p) (left p))
        → IfSome o (λ p. (bytes ≡ (head (length (field p)) ++ field p) ++ left p) × (length (field p) < bound))
    some_read field left None cut = tt
    some_read field left (Some p) cut =
        let split : rest ≡ field p ++ left p = sym (take-append-drop len rest) ∙ ap₂ (λ (a b : List ℕ). a ++ b) (sym cut.1) (sym cut.2) in
        (whole_field head k bound sized tells bytes rest (field p) (left p) len numbered split cut.3, omega (arith, cut.3, fits))

    pub none_read : {P : Type 0} (Q : P → Type 0) (o : Option P) → MatchOption o (length rest < len) Q → IsNone o
        → (f t : List ℕ) → length f < bound → bytes ≡ (head (length f) ++ f) ++ t → ⊥
    none_read Q None cut none f t f_in same = cut_field head k bound sized tells bytes rest len numbered fits cut f t f_in same
    none_read Q (Some p) cut none f t f_in same = absurd cc
