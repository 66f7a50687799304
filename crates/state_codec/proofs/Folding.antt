-- Items that are taken one after the other, as a loop does.
use Rattle.std.proofs.Common.{◌≡◌, ◌+◌, ◌<◌, ◌≤◌, ◌∷◌, List, ℕ, suc, Option, Some, None, length, get_or, drop, ◌∙◌, ap, sym, add-one, drop-cons}
use Rattle.std.proofs.lemmas.List.{drop_all}
use Rattle.state_values.specs.Outcome.{◌>>=◌}
use Rattle.state_codec.specs.Folds.{folded, with_last, keeping}

at_place : {A B : Type 0} (step : B → A → Option B) (as' : List A) (i : ℕ) (a : A) (b : B) → i < length as' → a ≡ get_or as' i a
    → folded step b (drop i as') ≡ (step b a >>= λ c. folded step c (drop (i + 1) as'))
at_place step as' i a b within is =
    let here : drop i as' ≡ a ∷ drop (i + 1) as' = rw add-one (drop-cons as' i a within ∙ ap (λ x. x ∷ drop (suc i) as') (sym is)) in
    ap (λ l. folded step b l) here

pub folded_turn : {A B : Type 0} (step : B → A → Option B) (as' : List A) (i : ℕ) (a : A) (b c : B) (all : Option B) → i < length as' → a ≡ get_or as' i a → step b a ≡ Some c
    → folded step b (drop i as') ≡ all → folded step c (drop (i + 1) as') ≡ all
folded_turn step as' i a b c all within is one so_far = sym (at_place step as' i a b within is ∙ ap (λ o. o >>= λ d. folded step d (drop (i + 1) as')) one) ∙ so_far

pub folded_fails : {A B : Type 0} (step : B → A → Option B) (as' : List A) (i : ℕ) (a : A) (b : B) (all : Option B) → i < length as' → a ≡ get_or as' i a → step b a ≡ None
    → folded step b (drop i as') ≡ all → all ≡ None
folded_fails step as' i a b all within is none so_far = sym so_far ∙ at_place step as' i a b within is ∙ ap (λ o. o >>= λ d. folded step d (drop (i + 1) as')) none

pub folded_ends : {A B : Type 0} (step : B → A → Option B) (as' : List A) (i : ℕ) (b : B) (all : Option B) → length as' ≤ i → folded step b (drop i as') ≡ all → all ≡ Some b
folded_ends step as' i b all past so_far = sym so_far ∙ ap (λ l. folded step b l) (drop_all i as' past)

-- what is read of the item comes to the end
pub kept : {A B : Type 0} (read : A → Option (Option B)) (a : A) (o : Option B) (bs grown : List B) → read a ≡ Some o → grown ≡ with_last bs o → keeping read bs a ≡ Some grown
kept read a o bs grown one grows = ap (λ p. p >>= λ q. Some (with_last bs q)) one ∙ ap (λ l. Some l) (sym grows)

pub not_kept : {A B : Type 0} (read : A → Option (Option B)) (a : A) (bs : List B) → read a ≡ None → keeping read bs a ≡ None
not_kept read a bs none = ap (λ p. p >>= λ q. Some (with_last bs q)) none
