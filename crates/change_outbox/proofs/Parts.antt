-- The part of a list from one place up to another.
use Rattle.std.proofs.Common.{◌≡◌, ℕ, ◌+◌, ◌-◌, ◌≤◌, List, ◌++◌, length, take, drop, sym, ap, ◌∙◌, arith}
use Rattle.std.specs.Prelude.{slice_range}
use Rattle.std.proofs.lemmas.List.{drop-append-le, drop-drop, drop-take, length-append, length-drop, length-take-le, take_all}

module _ {A : Type 0} (xs : List A) (start end : ℕ) (order : start ≤ end) where
  part_is : slice_range xs start end ≡ drop start (take end xs)
  part_is = let whole : start + (end - start) ≡ end = omega arith in sym (drop-take start (end - start) xs) ∙ ap (λ n. drop start (take n xs)) whole

  length-part : end ≤ length xs → length (slice_range xs start end) ≡ end - start
  length-part within = length-take-le (end - start) (drop start xs) (omega (arith, length-drop start xs))

-- a list that has the same items up to the part's end has the same part
pub part_kept : {A : Type 0} (xs ys : List A) (start end : ℕ) → start ≤ end → take end ys ≡ take end xs → slice_range ys start end ≡ slice_range xs start end
part_kept xs ys start end order kept = part_is ys start end order ∙ ap (drop start) kept ∙ sym (part_is xs start end order)

-- items that are put behind a part stand at the end of the longer part
pub part_longer : {A : Type 0} (xs ys more : List A) (start end : ℕ) → start ≤ end → end ≤ length xs → ys ≡ take end xs ++ more
    → slice_range ys start (end + length more) ≡ slice_range xs start end ++ more
part_longer xs ys more start end order within put =
    let front : length (take end xs) ≡ end = length-take-le end xs within in
    let count : length ys ≡ end + length more = ap length put ∙ length-append (take end xs) more ∙ ap (λ n. n + length more) front in
    part_is ys start (end + length more) (omega arith)
    ∙ ap (drop start) (take_all (end + length more) ys (omega (arith, count)) ∙ put)
    ∙ drop-append-le start (take end xs) more (omega (arith, front))
    ∙ ap (λ l. l ++ more) (sym (part_is xs start end order))

-- a part that begins later has what stands behind its first items
pub part_behind : {A : Type 0} (xs : List A) (start end count : ℕ) → start ≤ end → end ≤ length xs → count ≤ length (slice_range xs start end)
    → slice_range xs (start + count) end ≡ drop count (slice_range xs start end)
part_behind xs start end count order within few =
    part_is xs (start + count) end (omega (arith, few, length-part xs start end order within)) ∙ sym (drop-drop count start (take end xs)) ∙ ap (drop count) (sym (part_is xs start end order))
