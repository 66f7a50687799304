-- What is read from the bytes of a value.
use Rattle.std.proofs.Common.{◌≡◌, ◌<◌, ◌≤◌, ◌+◌, ◌*◌, ◌^◌, ◌++◌, ◌∷◌, [], List, ℕ, zero, suc, length, get_or, take, drop, ◌∙◌, ap, ap₂, sym, subst, arith, w32, w64, length-drop}
use Rattle.std.proofs.Math.Seq.{take-add}
use Rattle.std.proofs.lemmas.Grind.{flat_map-append}
use Rattle.std.proofs.lemmas.List.{append-nil, drop-drop, length-take-le, take_at, take-append-drop}
use Rattle.std.proofs.lemmas.List.Concat.{flat_map-cons}
use Rattle.std.specs.Int.{from_be_bytes}
use Rattle.row_batches.specs.declared.store_row.StoreRow.{StoreRow}
use Rattle.event_counts.specs.declared.name_counts.NameCounts.{NameCounts}
use Rattle.event_counts.specs.Rows.{count_bytes, list_bytes, moment_bytes, row_of, value_of}
use Rattle.event_counts.specs.Sound.{IsSoundName}
use Rattle.event_counts.proofs.Bytes.{count_read, length-moment_bytes, moment_read, moment_same}
use Rattle.event_counts.proofs.SameRows.{length-value}

-- ---- numbers

abbrev pub AreBytes : List ℕ → Type 0
AreBytes bs = (i : ℕ) → get_or bs i 0 < 256

bytes-take : (n : ℕ) (bs : List ℕ) → AreBytes bs → AreBytes (take n bs)
bytes-take zero bs are i = omega arith
bytes-take (suc n) [] are i = omega arith
bytes-take (suc n) (b ∷ bs) are zero = are 0
bytes-take (suc n) (b ∷ bs) are (suc i) = bytes-take n bs (λ j. are (suc j)) i

bytes-drop : (n : ℕ) (bs : List ℕ) → AreBytes bs → AreBytes (drop n bs)
bytes-drop zero bs are i = are i
bytes-drop (suc n) [] are i = omega arith
bytes-drop (suc n) (b ∷ bs) are i = bytes-drop n bs (λ j. are (suc j)) i

-- the moment that the first eight bytes are
pub moment_in_front : (bytes bs : List ℕ) (n : ℕ) → bs ≡ take 8 bytes → 8 ≤ length bytes → AreBytes bytes → n ≡ from_be_bytes w64 bs → moment_bytes n ≡ take 8 bytes
moment_in_front bytes bs n is within are read =
    let len : length bs ≡ 8 = ap (λ (l : List ℕ). length l) is ∙ length-take-le 8 bytes within in
    moment_read bs n len (λ i. subst (λ (l : List ℕ). get_or l i 0 < 256) (sym is) (bytes-take 8 bytes are i)) read ∙ is

-- the count that four bytes are
pub count_at : (bytes bs : List ℕ) (place len n : ℕ) → bs ≡ take len (drop place bytes) → len ≡ 4 → place + 4 ≤ length bytes → AreBytes bytes → n ≡ from_be_bytes w32 bs → count_bytes n ≡ take 4 (drop place bytes)
count_at bytes bs place len n taken four within are read =
    let is : bs ≡ take 4 (drop place bytes) = taken ∙ ap (λ k. take k (drop place bytes)) four in
    let left : 4 ≤ length (drop place bytes) = omega (arith, length-drop place bytes, within) in
    let full : length bs ≡ 4 = ap (λ (l : List ℕ). length l) is ∙ length-take-le 4 (drop place bytes) left in
    count_read bs n full (λ i. subst (λ (l : List ℕ). get_or l i 0 < 256) (sym is) (bytes-take 4 (drop place bytes) (bytes-drop place bytes are) i)) read ∙ is

-- one more count is read
pub one_more : (bytes xs ys : List ℕ) (place n : ℕ) → ys ≡ xs ++ n ∷ [] → list_bytes xs ≡ take (4 * place) bytes → count_bytes n ≡ take 4 (drop (4 * place) bytes) → list_bytes ys ≡ take (4 * (place + 1)) bytes
one_more bytes xs ys place n is before here =
    let one : list_bytes (n ∷ []) ≡ count_bytes n = flat_map-cons count_bytes n [] ∙ append-nil (count_bytes n) in
    let next : 4 * place + 4 ≡ 4 * (place + 1) = omega arith in
    ap list_bytes is
    ∙ flat_map-append count_bytes xs (n ∷ [])
    ∙ ap₂ (λ (v w : List ℕ). v ++ w) before (one ∙ here)
    ∙ sym (take-add (4 * place) 4 bytes)
    ∙ ap (λ k. take k bytes) next

-- ---- the parts of a value

-- bytes are their parts, one behind the other
pub joined : (v : List ℕ) (n k j : ℕ) → take n v ++ (take k (drop n v) ++ (take j (drop (n + k) v) ++ drop (n + k + j) v)) ≡ v
joined v n k j =
    let last : take j (drop (n + k) v) ++ drop (n + k + j) v ≡ drop (n + k) v =
    ap (λ (r : List ℕ). take j (drop (n + k) v) ++ r) (sym (drop-drop j (n + k) v)) ∙ take-append-drop j (drop (n + k) v) in
    let middle : take k (drop n v) ++ (take j (drop (n + k) v) ++ drop (n + k + j) v) ≡ drop n v =
    ap (λ (r : List ℕ). take k (drop n v) ++ r) (last ∙ sym (drop-drop k n v)) ∙ take-append-drop k (drop n v) in
    ap (λ (r : List ℕ). take n v ++ r) middle ∙ take-append-drop n v

-- ---- rows of no name

-- the value has another length
pub other_length : (row : StoreRow) (value : List ℕ) → value ≡ row.value → (length value ≡ 728 → ⊥) → (n : NameCounts) → IsSoundName n → row_of n ≡ row → ⊥
other_length row value is other n sound same =
    let whole : value ≡ value_of n = is ∙ sym (ap (λ (r : StoreRow). r.value) same) in
    other (ap (λ (l : List ℕ). length l) whole ∙ length-value n sound)

-- the moment is after the year 9999
pub too_late : (row : StoreRow) (value : List ℕ) (moment : ℕ) → value ≡ row.value → moment_bytes moment ≡ take 8 value → moment < 2 ^ 64 → 253402300799 < moment → (n : NameCounts) → IsSoundName n → row_of n ≡ row → ⊥
too_late row value moment is read fits late n sound same =
    let whole : value ≡ value_of n = is ∙ sym (ap (λ (r : StoreRow). r.value) same) in
    let front : take 8 value ≡ moment_bytes n.latest = ap (λ (l : List ℕ). take 8 l) whole ∙ take_at (moment_bytes n.latest) (list_bytes n.hours ++ (list_bytes n.days ++ list_bytes n.weeks)) 8 (length-moment_bytes n.latest) in
    let most : n.latest ≤ 253402300799 = sound.latest in
    let one : moment ≡ n.latest = moment_same moment n.latest fits (omega (arith, most)) (read ∙ front) in
    omega (arith, one, most, late)
