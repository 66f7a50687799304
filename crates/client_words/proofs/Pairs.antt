-- Words behind a text.
use Rattle.std.proofs.Common.{◌≡◌, ◌++◌, List, ℕ, OnOk, Result, Ok, Err, ◌∙◌, ap, append_assoc}
use Rattle.std.specs.Prelude.{is_ok, if◌then◌else◌}

-- two pairs of words behind a text
pub two_pairs : (old mid first second third fourth name words : List ℕ) → mid ≡ old ++ (first ++ second) → second ≡ name → (first ++ name) ++ (third ++ fourth) ≡ words → mid ++ (third ++ fourth) ≡ old ++ words
two_pairs old mid first second third fourth name words placed named is =
    ap (λ (u : List ℕ). u ++ (third ++ fourth)) (placed ∙ ap (λ (n : List ℕ). old ++ (first ++ n)) named) ∙ append_assoc old (first ++ name) (third ++ fourth) ∙ ap (λ (u : List ℕ). old ++ u) is

-- what a call appends where it is done, with other words for the same
pub appended : {T E : Type 0} (result : Result T E) (old words other new : List ℕ) → new ≡ (if is_ok result then old ++ words else old) → words ≡ other → OnOk result (new ≡ old ++ other)
appended (Ok done) old words other new is same = is ∙ ap (λ (w : List ℕ). old ++ w) same
appended (Err fault) old words other new is same = tt
