-- The bytes of numbers that stand in blocks.
use Rattle.std.proofs.Common.{◌≡◌, ◌+◌, ◌*◌, ◌++◌, List, ℕ, zero, suc, map, take, drop, sym, ◌∙◌, ap, append_assoc, arith}
use Rattle.std.proofs.Math.Nat.{suc-mul, zero-mul}
use Rattle.std.proofs.lemmas.Grind.{flat_map-append}
use Rattle.std.proofs.lemmas.List.{drop-drop, take-append-drop}
use Rattle.std.proofs.lemmas.List.Folds.{flat_map-map}
use Rattle.std.specs.List.{flat_map}
use Rattle.std.specs.Simd.{first_chunks}
use Rattle.event_counts.specs.Rows.{count_bytes, list_bytes}

-- the bytes of each number, one behind the other
pub bytes_joined : (xs : List ℕ) → flat_map (λ (b : List ℕ). b) (map count_bytes xs) ≡ list_bytes xs
bytes_joined xs = flat_map-map (λ (b : List ℕ). b) count_bytes xs

-- blocks of n numbers, and what is left behind them
blocks_and_rest : (n k : ℕ) (xs : List ℕ) → flat_map list_bytes (first_chunks n k xs) ++ list_bytes (drop (k * n) xs) ≡ list_bytes xs
blocks_and_rest n zero xs = ap (λ j. list_bytes (drop j xs)) (zero-mul n)
blocks_and_rest n (suc k) xs =
    let front = list_bytes (take n xs) in
    let blocks = flat_map list_bytes (first_chunks n k (drop n xs)) in
    let end : suc k * n ≡ n + k * n = omega (arith, suc-mul k n) in
    append_assoc front blocks (list_bytes (drop (suc k * n) xs))
    ∙ ap (λ (r : List ℕ). front ++ (blocks ++ list_bytes r)) (ap (λ j. drop j xs) end ∙ sym (drop-drop (k * n) n xs))
    ∙ ap (λ (r : List ℕ). front ++ r) (blocks_and_rest n k (drop n xs))
    ∙ sym (flat_map-append count_bytes (take n xs) (drop n xs))
    ∙ ap list_bytes (take-append-drop n xs)

-- the same behind other bytes
pub blocks_added : (bs : List ℕ) (n k : ℕ) (xs : List ℕ) → (bs ++ flat_map list_bytes (first_chunks n k xs)) ++ list_bytes (drop (k * n) xs) ≡ bs ++ list_bytes xs
blocks_added bs n k xs =
    append_assoc bs (flat_map list_bytes (first_chunks n k xs)) (list_bytes (drop (k * n) xs))
    ∙ ap (λ (r : List ℕ). bs ++ r) (blocks_and_rest n k xs)
