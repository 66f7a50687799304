-- The part of a list that changes where one item comes, goes or is another.
use Rattle.std.proofs.Common.{◌≡◌, ◌+◌, ◌<◌, ◌≤◌, ◌++◌, ◌∷◌, List, ℕ, suc, length, take, drop, sym, ap, ◌∙◌, subst, arith, length-append}
use Rattle.std.specs.Prelude.{slice_set}
use Rattle.std.specs.List.{insert, remove}
use Rattle.std.proofs.lemmas.List.{drop-set-lt, length-set, length-take-le, take-append-drop, take-set}
use Rattle.std.proofs.Math.Seq.{drop-append-add, take-append_seam}
use Rattle.sequences.specs.ListParts.{IsPart}
use Rattle.sequences.specs.declared.list_part.ListPart.{ListPart}

abbrev pub part_of : ℕ → ℕ → ℕ → ListPart
part_of start removed added = record { start = start; removed = removed; added = added }

module _ {A : Type 0} where
  -- between what stands before a place and what stands behind it
  module _ (front behind : List A) (i : ℕ) (is : length front ≡ i) where
    front_of : (mid : List A) → take i (front ++ mid) ≡ front
    front_of mid = subst (λ (n : ℕ). take n (front ++ mid) ≡ front) is (take-append_seam front mid)

    behind_of : (mid : List A) (n : ℕ) → drop (i + n) (front ++ mid) ≡ drop n mid
    behind_of mid n = subst (λ (m : ℕ). drop (m + n) (front ++ mid) ≡ drop n mid) is (drop-append-add front mid n)

  is_part : (part new_part : ListPart) (old new other : List A) → part ≡ new_part → new ≡ other → IsPart new_part old other → IsPart part old new
  is_part part new_part old new other part_is new_is is = subst (IsPart part old) (sym new_is) (subst (λ (p : ListPart). IsPart p old other) (sym part_is) is)

  inserted : (xs : List A) (i : ℕ) (x : A) → i ≤ length xs → IsPart (part_of i 0 1) xs (insert xs i x)
  inserted xs i x within =
      let count = length-take-le i xs within in
      let whole = take-append-drop i xs in
      record {
        front = sym (front_of (take i xs) (drop i xs) i count (x ∷ drop i xs));
        behind = subst (λ (ys : List A). drop (i + 0) ys ≡ drop i xs) whole (behind_of (take i xs) (drop i xs) i count (drop i xs) 0) ∙ sym (behind_of (take i xs) (drop i xs) i count (x ∷ drop i xs) 1);
        old_end = omega (arith, within);
        new_end = omega (arith, length-append (take i xs) (x ∷ drop i xs), count);
      }

  removed : (xs : List A) (i : ℕ) → i < length xs → IsPart (part_of i 1 0) xs (remove xs i)
  removed xs i within =
      let count = length-take-le i xs (omega (arith, within)) in
      let rest = drop (suc i) xs in
      let next : i + 1 ≡ suc i = omega arith in
      record {
        front = sym (front_of (take i xs) rest i count rest);
        behind = ap (λ (n : ℕ). drop n xs) next ∙ sym (behind_of (take i xs) rest i count rest 0);
        old_end = omega (arith, within);
        new_end = omega (arith, length-append (take i xs) rest, count);
      }

  replaced : (xs : List A) (i : ℕ) (x : A) → i < length xs → IsPart (part_of i 1 1) xs (slice_set xs i x)
  replaced xs i x within = record {
    front = sym (take-set xs i x);
    behind = sym (drop-set-lt (i + 1) xs i x (omega arith));
    old_end = omega (arith, within);
    new_end = omega (arith, within, length-set xs i x);
  }

  -- an item more at a place
  pub one_comes : (x : A) (part : ListPart) (old new : List A) (i : ℕ) → part ≡ part_of i 0 1 → new ≡ insert old i x → i ≤ length old → IsPart part old new
  one_comes x part old new i part_is new_is within = is_part part (part_of i 0 1) old new (insert old i x) part_is new_is (inserted old i x within)

  -- an item less
  pub one_goes : (part : ListPart) (old new : List A) (i : ℕ) → part ≡ part_of i 1 0 → new ≡ remove old i → i < length old → IsPart part old new
  one_goes part old new i part_is new_is within = is_part part (part_of i 1 0) old new (remove old i) part_is new_is (removed old i within)

  -- another item in the place of one
  pub one_differs : (x : A) (part : ListPart) (old new : List A) (i : ℕ) → part ≡ part_of i 1 1 → new ≡ slice_set old i x → i < length old → IsPart part old new
  one_differs x part old new i part_is new_is within = is_part part (part_of i 1 1) old new (slice_set old i x) part_is new_is (replaced old i x within)
