-- Faults and what goes on after them.
use Rattle.std.proofs.Common.{◌≡◌, ℕ, suc, ◌+◌, ◌<◌, ◌≤◌, List, [], ◌∷◌, ◌++◌, map, length, get_or, drop, Option, Some, None, Result, Ok, Err, refl, sym, ap, ◌∙◌, subst, add-one, drop-cons}
use Rattle.std.proofs.lemmas.List.{drop_all}
use Rattle.std.specs.Option.{option_or}
use Rattle.fml_imports.specs.Imports.{first_found}
use Rattle.fml_link.specs.declared.fault.LinkFault.{LinkFault}
use Rattle.fml_link.specs.declared.fault.LinkFault.TheVariants as faults
use Rattle.fml_link.specs.declared.fault.LinkRefusal.{LinkRefusal}
use Rattle.fml_link.specs.Outcome.{◌>>=◌, each, Fails}

pub bind_ok : {A B : Type 0} (r : Result A LinkRefusal) (f : A → Result B LinkRefusal) (b : B) → (r >>= f) ≡ Ok b → (a : A) × (r ≡ Ok a) × (f a ≡ Ok b)
bind_ok (Ok a) f b h = (a, refl, h)
bind_ok (Err e) f b h = absurd cc

pub fails_bind : {A B : Type 0} (e : LinkFault) (first : Result A LinkRefusal) (f : A → Result B LinkRefusal) → Fails e first → Fails e (first >>= f)
fails_bind faults.OutOfMemory first f h = tt
fails_bind faults.ShelfFault first f h = tt
fails_bind (faults.Refused refusal) first f h = ap (λ r. r >>= f) h

pub fails_at : {A : Type 0} (e : LinkFault) (read other : Result A LinkRefusal) → other ≡ read → Fails e other → Fails e read
fails_at e read other same h = subst (Fails e) same h

-- ---- one after the other

here : {A : Type 0} (xs : List A) (i : ℕ) (x : A) → i < length xs → x ≡ get_or xs i x → drop i xs ≡ x ∷ drop (i + 1) xs
here xs i x h is = rw add-one (drop-cons xs i x h ∙ ap (λ y. y ∷ drop (suc i) xs) (sym is))

pub mapped_turn : {T A B : Type 0} (add : T → B → Result T LinkRefusal) (f : A → B) (t u : T) (xs : List A) (i : ℕ) (x : A) (all : Result T LinkRefusal)
    → i < length xs → x ≡ get_or xs i x → add t (f x) ≡ Ok u → each add t (map f (drop i xs)) ≡ all → each add u (map f (drop (i + 1) xs)) ≡ all
mapped_turn add f t u xs i x all h is one so_far =
    sym (ap (λ r. r >>= λ v. each add v (map f (drop (i + 1) xs))) one) ∙ sym (ap (λ ys. each add t (map f ys)) (here xs i x h is)) ∙ so_far

pub mapped_fails : {T A B : Type 0} (e : LinkFault) (add : T → B → Result T LinkRefusal) (f : A → B) (t : T) (xs : List A) (i : ℕ) (x : A) (all : Result T LinkRefusal)
    → i < length xs → x ≡ get_or xs i x → Fails e (add t (f x)) → each add t (map f (drop i xs)) ≡ all → Fails e all
mapped_fails e add f t xs i x all h is one so_far =
    fails_at e all (each add t (map f (x ∷ drop (i + 1) xs))) (sym (ap (λ ys. each add t (map f ys)) (here xs i x h is)) ∙ so_far) (fails_bind e (add t (f x)) (λ v. each add v (map f (drop (i + 1) xs))) one)

pub each_append : {T A : Type 0} (add : T → A → Result T LinkRefusal) (t : T) (xs ys : List A) → each add t (xs ++ ys) ≡ (each add t xs >>= λ u. each add u ys)
each_append add t [] ys = refl
each_append {T} {A} add t (x ∷ xs) ys = elim (add t x) as (λ (r : Result T LinkRefusal). (r >>= λ u. each add u (xs ++ ys)) ≡ ((r >>= λ u. each add u xs) >>= λ u. each add u ys)) [
  | Ok u ↦ each_append add u xs ys
  | Err e ↦ refl
]

-- ---- the first that is found

pub mapped_found_turn : {A B : Type 0} (find : B → Option (List ℕ)) (f : A → B) (xs : List A) (i : ℕ) (x : A) (all : Option (List ℕ)) → i < length xs → x ≡ get_or xs i x → None ≡ find (f x)
    → first_found find (map f (drop i xs)) ≡ all → first_found find (map f (drop (i + 1) xs)) ≡ all
mapped_found_turn find f xs i x all h is none so_far =
    ap (λ o. option_or o (first_found find (map f (drop (i + 1) xs)))) none ∙ sym (ap (λ ys. first_found find (map f ys)) (here xs i x h is)) ∙ so_far

pub mapped_found_here : {A B : Type 0} (find : B → Option (List ℕ)) (f : A → B) (xs : List A) (i : ℕ) (x : A) (n : List ℕ) (all : Option (List ℕ)) → i < length xs → x ≡ get_or xs i x → Some n ≡ find (f x)
    → first_found find (map f (drop i xs)) ≡ all → Some n ≡ all
mapped_found_here find f xs i x n all h is one so_far =
    ap (λ o. option_or o (first_found find (map f (drop (i + 1) xs)))) one ∙ sym (ap (λ ys. first_found find (map f ys)) (here xs i x h is)) ∙ so_far

pub mapped_found_end : {A B : Type 0} (find : B → Option (List ℕ)) (f : A → B) (xs : List A) (i : ℕ) (all : Option (List ℕ)) → length xs ≤ i → first_found find (map f (drop i xs)) ≡ all → None ≡ all
mapped_found_end find f xs i all h so_far = sym (ap (λ ys. first_found find (map f ys)) (drop_all i xs h)) ∙ so_far

pub found_append : {A : Type 0} (find : A → Option (List ℕ)) (xs ys : List A) → first_found find (xs ++ ys) ≡ option_or (first_found find xs) (first_found find ys)
found_append find [] ys = refl
found_append {A} find (x ∷ xs) ys = elim (find x) as (λ (o : Option (List ℕ)). option_or o (first_found find (xs ++ ys)) ≡ option_or (option_or o (first_found find xs)) (first_found find ys)) [
  | Some n ↦ refl
  | None ↦ found_append find xs ys
]
