-- The bytes of numbers tell the numbers.
pub use Rattle.row_batches.proofs.Fields.{front_same, rest_same}
use Rattle.std.proofs.Common.{◌≡◌, ◌<◌, ◌*◌, ◌^◌, ◌++◌, ◌∷◌, [], List, ℕ, length, get_or, ◌∙◌, ap, sym, refl, length-append, arith, w32, w64}
use Rattle.std.proofs.lemmas.List.Concat.{flat_map-cons}
use Rattle.std.proofs.lemmas.Nat.{be_bytes_4, be_bytes_8, from_be_bytes-to_be_bytes_4, from_be_bytes-to_be_bytes_8}
use Rattle.std.specs.Int.{from_be_bytes}
use Rattle.std.specs.List.{AllByRecursion}
use Rattle.event_counts.specs.Rows.{count_bytes, list_bytes, moment_bytes}

pub length-count_bytes : (n : ℕ) → length (count_bytes n) ≡ 4
unfolding count_bytes
length-count_bytes n = refl

pub length-moment_bytes : (n : ℕ) → length (moment_bytes n) ≡ 8
unfolding moment_bytes
length-moment_bytes n = refl

count_same : (n m : ℕ) → n < 2 ^ 32 → m < 2 ^ 32 → count_bytes n ≡ count_bytes m → n ≡ m
unfolding count_bytes
count_same n m n_in m_in same = sym (from_be_bytes-to_be_bytes_4 n n_in) ∙ ap (λ (l : List ℕ). from_be_bytes w32 l) same ∙ from_be_bytes-to_be_bytes_4 m m_in

pub moment_same : (n m : ℕ) → n < 2 ^ 64 → m < 2 ^ 64 → moment_bytes n ≡ moment_bytes m → n ≡ m
unfolding moment_bytes
moment_same n m n_in m_in same = sym (from_be_bytes-to_be_bytes_8 n n_in) ∙ ap (λ (l : List ℕ). from_be_bytes w64 l) same ∙ from_be_bytes-to_be_bytes_8 m m_in

pub length-list_bytes : (xs : List ℕ) → length (list_bytes xs) ≡ 4 * length xs
length-list_bytes [] = refl
length-list_bytes (x ∷ xs) =
    let step : length (list_bytes (x ∷ xs)) ≡ length (count_bytes x ++ list_bytes xs) = ap (λ (l : List ℕ). length l) (flat_map-cons count_bytes x xs) in
    omega (arith, step, length-append (count_bytes x) (list_bytes xs), length-count_bytes x, length-list_bytes xs)

pub list_same : (xs ys : List ℕ) → length xs ≡ length ys → AllByRecursion (λ x. x < 2 ^ 32) xs → AllByRecursion (λ x. x < 2 ^ 32) ys → list_bytes xs ≡ list_bytes ys → xs ≡ ys
list_same [] [] len fit more same = refl
list_same [] (y ∷ ys) len fit more same = absurd (omega (arith, len))
list_same (x ∷ xs) [] len fit more same = absurd (omega (arith, len))
list_same (x ∷ xs) (y ∷ ys) len fit more same =
    let whole : count_bytes x ++ list_bytes xs ≡ count_bytes y ++ list_bytes ys = sym (flat_map-cons count_bytes x xs) ∙ same ∙ flat_map-cons count_bytes y ys in
    let even : length (count_bytes x) ≡ length (count_bytes y) = length-count_bytes x ∙ sym (length-count_bytes y) in
    let head : x ≡ y = count_same x y fit.0 more.0 (front_same (count_bytes x) (count_bytes y) (list_bytes xs) (list_bytes ys) even whole) in
    let tail : xs ≡ ys = list_same xs ys (omega (arith, len)) fit.1 more.1 (rest_same (count_bytes x) (count_bytes y) (list_bytes xs) (list_bytes ys) even whole) in
    λ i. head i ∷ tail i

-- the bytes that a number was read from
pub count_read : (bs : List ℕ) (n : ℕ) → length bs ≡ 4 → ((i : ℕ) → get_or bs i 0 < 256) → n ≡ from_be_bytes w32 bs → count_bytes n ≡ bs
unfolding count_bytes
count_read bs n len small is = be_bytes_4 bs n len small is

pub moment_read : (bs : List ℕ) (n : ℕ) → length bs ≡ 8 → ((i : ℕ) → get_or bs i 0 < 256) → n ≡ from_be_bytes w64 bs → moment_bytes n ≡ bs
unfolding moment_bytes
moment_read bs n len small is = be_bytes_8 bs n len small is
