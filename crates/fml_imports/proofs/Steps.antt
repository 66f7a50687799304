-- Faults and what goes on after them.
use Rattle.std.proofs.Common.{◌≡◌, ℕ, suc, ◌+◌, ◌<◌, ◌≤◌, List, ◌∷◌, length, get_or, drop, Option, Some, None, Result, Ok, sym, ap, ◌∙◌, subst, add-one, drop-cons}
use Rattle.std.proofs.lemmas.List.{drop_all}
use Rattle.std.specs.Option.{option_or}
use Rattle.fml_imports.specs.declared.fault.JoinFault.{JoinFault}
use Rattle.fml_imports.specs.declared.fault.JoinFault.TheVariants as faults
use Rattle.fml_imports.specs.declared.fault.JoinRefusal.{JoinRefusal}
use Rattle.fml_imports.specs.Imports.{first_found}
use Rattle.fml_imports.specs.Outcome.{◌>>=◌, each, Fails}

pub fails_bind : {A B : Type 0} (e : JoinFault) (first : Result A JoinRefusal) (f : A → Result B JoinRefusal) → Fails e first → Fails e (first >>= f)
fails_bind faults.OutOfMemory first f h = tt
fails_bind (faults.Refused refusal) first f h = ap (λ r. r >>= f) h

pub fails_at : {A : Type 0} (e : JoinFault) (read other : Result A JoinRefusal) → other ≡ read → Fails e other → Fails e read
fails_at e read other same h = subst (Fails e) same h

-- ---- one after the other

pub each_turn : {T A : Type 0} (add : T → A → Result T JoinRefusal) (t u : T) (x : A) (xs : List A) (all : Result T JoinRefusal) → add t x ≡ Ok u → each add t (x ∷ xs) ≡ all → each add u xs ≡ all
each_turn add t u x xs all one so_far = sym (ap (λ r. r >>= λ v. each add v xs) one) ∙ so_far

pub each_fails : {T A : Type 0} (e : JoinFault) (add : T → A → Result T JoinRefusal) (t : T) (x : A) (xs : List A) (all : Result T JoinRefusal) → Fails e (add t x) → each add t (x ∷ xs) ≡ all → Fails e all
each_fails e add t x xs all one so_far = fails_at e all (each add t (x ∷ xs)) so_far (fails_bind e (add t x) (λ v. each add v xs) one)

here : {A : Type 0} (xs : List A) (i : ℕ) (x : A) → i < length xs → x ≡ get_or xs i x → drop i xs ≡ x ∷ drop (i + 1) xs
here xs i x h is = rw add-one (drop-cons xs i x h ∙ ap (λ y. y ∷ drop (suc i) xs) (sym is))

pub slice_turn : {T A : Type 0} (add : T → A → Result T JoinRefusal) (t u : T) (xs : List A) (i : ℕ) (x : A) (all : Result T JoinRefusal)
    → i < length xs → x ≡ get_or xs i x → add t x ≡ Ok u → each add t (drop i xs) ≡ all → each add u (drop (i + 1) xs) ≡ all
slice_turn add t u xs i x all h is one so_far = each_turn add t u x (drop (i + 1) xs) all one (sym (ap (each add t) (here xs i x h is)) ∙ so_far)

pub slice_fails : {T A : Type 0} (e : JoinFault) (add : T → A → Result T JoinRefusal) (t : T) (xs : List A) (i : ℕ) (x : A) (all : Result T JoinRefusal)
    → i < length xs → x ≡ get_or xs i x → Fails e (add t x) → each add t (drop i xs) ≡ all → Fails e all
slice_fails e add t xs i x all h is one so_far = each_fails e add t x (drop (i + 1) xs) all one (sym (ap (each add t) (here xs i x h is)) ∙ so_far)

-- ---- the first that is found

pub found_turn : {A : Type 0} (find : A → Option (List ℕ)) (xs : List A) (i : ℕ) (x : A) (all : Option (List ℕ)) → i < length xs → x ≡ get_or xs i x → None ≡ find x → first_found find (drop i xs) ≡ all → first_found find (drop (i + 1) xs) ≡ all
found_turn find xs i x all h is none so_far = ap (λ o. option_or o (first_found find (drop (i + 1) xs))) none ∙ sym (ap (first_found find) (here xs i x h is)) ∙ so_far

pub found_here : {A : Type 0} (find : A → Option (List ℕ)) (xs : List A) (i : ℕ) (x : A) (n : List ℕ) (all : Option (List ℕ)) → i < length xs → x ≡ get_or xs i x → Some n ≡ find x → first_found find (drop i xs) ≡ all → Some n ≡ all
found_here find xs i x n all h is one so_far = ap (λ o. option_or o (first_found find (drop (i + 1) xs))) one ∙ sym (ap (first_found find) (here xs i x h is)) ∙ so_far

pub found_end : {A : Type 0} (find : A → Option (List ℕ)) (xs : List A) (i : ℕ) (all : Option (List ℕ)) → length xs ≤ i → first_found find (drop i xs) ≡ all → None ≡ all
found_end find xs i all h so_far = sym (ap (first_found find) (drop_all i xs h)) ∙ so_far
