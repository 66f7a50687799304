-- Values of objects as lists.
use Rattle.std.proofs.Common.{◌≡◌, ℕ, zero, suc, ◌<◌, ◌≤◌, List, [], ◌∷◌, ◌++◌, length, inl, inr, refl, sym, ap, ◌∙◌, arith, subst}
use Rattle.std.proofs.lemmas.Bool.{cases_lt}
use Rattle.std.proofs.lemmas.List.{ext_get_or, get_or_append_left}
use Rattle.fml_types.specs.Values.{value_in, table}

pub table-length : (f : ℕ → ℕ) (n : ℕ) → length (table f n) ≡ n
table-length f zero = refl
table-length f (suc n) = length-one (table f n) (f n) n (table-length f n)
  where
    length-one : (xs : List ℕ) (x n : ℕ) → length xs ≡ n → length (xs ++ x ∷ []) ≡ suc n
    length-one [] x n h = omega (arith, h)
    length-one (y ∷ ys) x zero h = absurd (omega (arith, h))
    length-one (y ∷ ys) x (suc n) h = ap suc (length-one ys x n (omega (arith, h)))

pub past : (xs : List ℕ) (i : ℕ) → length xs ≤ i → value_in xs i ≡ 0
past [] i h = refl
past (x ∷ xs) zero h = absurd (omega arith)
past (x ∷ xs) (suc i) h = past xs i (omega arith)

last : (xs : List ℕ) (x n : ℕ) → length xs ≡ n → value_in (xs ++ x ∷ []) n ≡ x
last [] x zero h = refl
last [] x (suc n) h = absurd (omega (arith, h))
last (y ∷ ys) x zero h = absurd (omega (arith, h))
last (y ∷ ys) x (suc n) h = last ys x n (omega (arith, h))

within : (f : ℕ → ℕ) (n i : ℕ) → i < n → value_in (table f n) i ≡ f i
within f zero i h = absurd (omega arith)
within f (suc n) i h =
    elim (cases_lt i n) [
      | inl less ↦ get_or_append_left (table f n) (f n ∷ []) 0 i (let len = table-length f n in omega (arith, len)) ∙ within f n i less
      | inr least ↦ let same : i ≡ n = omega arith in subst (λ k. value_in (table f (suc n)) k ≡ f k) (sym same) (last (table f n) (f n) n (table-length f n))
    ]

-- the list of values is their function, where there is none past them
value-table : (f : ℕ → ℕ) (n : ℕ) → ((i : ℕ) → n ≤ i → f i ≡ 0) → (i : ℕ) → value_in (table f n) i ≡ f i
value-table f n none i =
    elim (cases_lt i n) [
      | inl less ↦ within f n i less
      | inr least ↦ past (table f n) i (let len = table-length f n in omega (arith, len)) ∙ sym (none i (omega arith))
    ]

pub value_in-table : (f : ℕ → ℕ) (n : ℕ) → ((i : ℕ) → n ≤ i → f i ≡ 0) → value_in (table f n) ≡ f
value_in-table f n none = λ k i. value-table f n none i k

tables : (f g : ℕ → ℕ) (n : ℕ) → ((i : ℕ) → i < n → f i ≡ g i) → table f n ≡ table g n
tables f g zero same = refl
tables f g (suc n) same = λ k. tables f g n (λ i h. same i (omega arith)) k ++ same n (omega arith) k ∷ []

pub same_tables : (f g : ℕ → ℕ) (n : ℕ) → ((i : ℕ) → i < n → f i ≡ g i) → table f n ≡ table g n
same_tables = tables

value_more : (xs : List ℕ) (x i : ℕ) → i < length xs → value_in (xs ++ x ∷ []) i ≡ value_in xs i
value_more xs x i h = get_or_append_left xs (x ∷ []) 0 i h

-- a list whose values are the function's, as many as the table has
pub is_table : (f : ℕ → ℕ) (n : ℕ) (xs : List ℕ) → length xs ≡ n → ((i : ℕ) → i < n → value_in xs i ≡ f i) → xs ≡ table f n
is_table f n xs count same =
    let len = table-length f n in
    ext_get_or 0 xs (table f n) (omega (arith, len, count)) (λ i h. same i (omega (arith, h, count)) ∙ sym (within f n i (omega (arith, h, count))))

-- the values that follow from these, where there is none past the objects
pub values_next : (step : (ℕ → ℕ) → ℕ → ℕ) (n : ℕ) (xs ys : List ℕ) → ((v : ℕ → ℕ) (i : ℕ) → n ≤ i → step v i ≡ 0) → ys ≡ table (step (value_in xs)) n → value_in ys ≡ step (value_in xs)
values_next step n xs ys none made = ap value_in made ∙ value_in-table (step (value_in xs)) n (none (value_in xs))
