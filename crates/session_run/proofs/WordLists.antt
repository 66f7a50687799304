-- Lists of one word and of two, and when a list of words has no form.
use Rattle.std.proofs.Common.{◌≡◌, ◌⊎◌, ℕ, ◌<◌, ◌≤◌, List, [], ◌∷◌, length, map, get_or, Some, ap, subst, sym, ◌∙◌, arith, inl, inr}
use Rattle.std.specs.Prelude.{◌^◌, codes, decimal}
use Rattle.std.proofs.lemmas.Fmt.{decimal_injective}
use Rattle.uuid.specs.Text.{parsed}
use Rattle.session_run.specs.Words.{IsRun, IsInit, IsInitOf, AreDrillNumbers, IsDrillOf, IsDrill, HasForm}

pub map-one : {A B : Type 0} (f : A → B) (xs : List A) (x : A) → 1 ≤ length xs → length xs < 2 → x ≡ get_or xs 0 x → map f xs ≡ f x ∷ []
map-one f [] x least below is = absurd (omega (arith, least))
map-one f (y ∷ []) x least below is = ap (λ v. f v ∷ []) (sym is)
map-one f (y ∷ z ∷ ys) x least below is = absurd (omega (arith, below))

pub map-two : {A B : Type 0} (f : A → B) (xs : List A) (x y : A) → 2 ≤ length xs → length xs < 3 → x ≡ get_or xs 0 x → y ≡ get_or xs 1 y → map f xs ≡ f x ∷ f y ∷ []
map-two f [] x y least below first second = absurd (omega (arith, least))
map-two f (a ∷ []) x y least below first second = absurd (omega (arith, least))
map-two f (a ∷ b ∷ []) x y least below first second = ap (λ v. f v ∷ f b ∷ []) (sym first) ∙ ap (λ v. f x ∷ f v ∷ []) (sym second)
map-two f (a ∷ b ∷ d ∷ ys) x y least below first second = absurd (omega (arith, below))

pub map-three : {A B : Type 0} (f : A → B) (xs : List A) (x y z : A) → 3 ≤ length xs → length xs < 4 → x ≡ get_or xs 0 x → y ≡ get_or xs 1 y → z ≡ get_or xs 2 z → map f xs ≡ f x ∷ f y ∷ f z ∷ []
map-three f [] x y z least below first second third = absurd (omega (arith, least))
map-three f (a ∷ []) x y z least below first second third = absurd (omega (arith, least))
map-three f (a ∷ b ∷ []) x y z least below first second third = absurd (omega (arith, least))
map-three f (a ∷ b ∷ d ∷ []) x y z least below first second third =
    ap (λ v. f v ∷ f b ∷ f d ∷ []) (sym first) ∙ ap (λ v. f x ∷ f v ∷ f d ∷ []) (sym second) ∙ ap (λ v. f x ∷ f y ∷ f v ∷ []) (sym third)
map-three f (a ∷ b ∷ d ∷ e ∷ ys) x y z least below first second third = absurd (omega (arith, below))

-- a second word that is no id
pub no_form-second : (words : List (List ℕ)) (word id : List ℕ) → words ≡ word ∷ id ∷ [] → ((bytes : List ℕ) → parsed id ≡ Some bytes → ⊥) → HasForm words → ⊥
no_form-second words word id is none (inl run) = grind (arith, is, run)
no_form-second words word id is none (inr (inl (bytes, (other, init, reads)))) =
    let same : id ≡ other = grind (arith, is, init) in
    none bytes (ap parsed same ∙ reads)
no_form-second words word id is none (inr (inr (start, count, (drill, numbers)))) = grind (arith, is, drill)

-- more than three words
pub no_form-many : (words : List (List ℕ)) → 4 ≤ length words → HasForm words → ⊥
no_form-many words many (inl run) = grind (arith, many, run)
no_form-many words many (inr (inl (bytes, (other, init, reads)))) = grind (arith, many, init)
no_form-many words many (inr (inr (start, count, (drill, numbers)))) = grind (arith, many, drill)

-- three words that are no drill
pub no_form-third : (words : List (List ℕ)) (word first second : List ℕ) → words ≡ word ∷ first ∷ second ∷ [] → ((m n : ℕ) → word ≡ codes "drill" → first ≡ decimal m → second ≡ decimal n → ¬ AreDrillNumbers m n) → HasForm words → ⊥
no_form-third words word first second is none (inl run) = grind (arith, is, run)
no_form-third words word first second is none (inr (inl (bytes, (other, init, reads)))) = grind (arith, is, init)
no_form-third words word first second is none (inr (inr (start, count, (drill, numbers)))) =
    none start count (grind (arith, is, drill)) (grind (arith, is, drill)) (grind (arith, is, drill)) numbers

-- three words that are one
pub drill_words : (words : List (List ℕ)) (word first second : List ℕ) (m n start count : ℕ) → words ≡ word ∷ first ∷ second ∷ [] → word ≡ codes "drill" → first ≡ decimal m → second ≡ decimal n → AreDrillNumbers m n
    → m ≡ start → n ≡ count → IsDrillOf start count words
drill_words words word first second m n start count is named first_is second_is numbers same_start same_count = (
  is ∙ ap (λ (w : List ℕ). w ∷ first ∷ second ∷ []) named ∙ ap (λ (w : List ℕ). codes "drill" ∷ w ∷ second ∷ []) (first_is ∙ ap decimal same_start)
      ∙ ap (λ (w : List ℕ). codes "drill" ∷ decimal start ∷ w ∷ []) (second_is ∙ ap decimal same_count),
  subst (λ (k : ℕ). AreDrillNumbers start k) same_count (subst (λ (k : ℕ). AreDrillNumbers k n) same_start numbers),
)

-- a number that is spelled in decimal is known
pub same_number : (text : List ℕ) (m n : ℕ) → m < 2 ^ 64 → n < 2 ^ 64 → text ≡ decimal m → text ≡ decimal n → m ≡ n
same_number text m n m_below n_below first second = decimal_injective m n m_below n_below (sym first ∙ second)

-- the words are of one drill alone
pub one_start : (words : List (List ℕ)) (m n k l : ℕ) → IsDrillOf m n words → IsDrillOf k l words → m ≡ k
one_start words m n k l (here, within) (there, beyond) =
    let same : decimal m ≡ decimal k = grind (arith, here, there) in
    decimal_injective m k within.below beyond.below same

pub one_count : (words : List (List ℕ)) (m n k l : ℕ) → IsDrillOf m n words → IsDrillOf k l words → n ≡ l
one_count words m n k l (here, within) (there, beyond) =
    let same : decimal n ≡ decimal l = grind (arith, here, there) in
    decimal_injective n l (omega (arith, within.at_most)) (omega (arith, beyond.at_most)) same

pub run_not_drill : (words : List (List ℕ)) → IsRun words → IsDrill words → ⊥
run_not_drill words run (start, count, (drill, numbers)) = grind (arith, run, drill)

pub init_not_drill : (words : List (List ℕ)) → IsInit words → IsDrill words → ⊥
init_not_drill words (id, (text, init, reads)) (start, count, (drill, numbers)) = grind (arith, init, drill)

-- the words are of one form alone
pub not_both : (words : List (List ℕ)) (id : List ℕ) → IsRun words → IsInitOf id words → ⊥
not_both words id run (text, init, reads) = grind (arith, run, init)

-- and of one id
pub one_id : (words : List (List ℕ)) (id other : List ℕ) → IsInitOf id words → IsInitOf other words → id ≡ other
one_id words id other (text, init, reads) (that, again, reads_again) =
    let same : text ≡ that = grind (arith, init, again) in
    let both : Some id ≡ Some other = sym reads ∙ ap parsed same ∙ reads_again in
    grind (arith, both)

-- a run makes no store
pub run_makes_none : (words : List (List ℕ)) → IsRun words → IsInit words ⊎ IsDrill words → ⊥
run_makes_none words run (inl making) = not_both words making.0 run making.1
run_makes_none words run (inr drill) = run_not_drill words run drill
