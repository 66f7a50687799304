-- An outbox that a confirmation and an append make of another.
use Rattle.std.proofs.Common.{◌≡◌, ℕ, suc, ◌+◌, ◌-◌, ◌^◌, ◌<◌, ◌≤◌, List, [], ◌∷◌, ◌++◌, map, length, take, drop, inl, inr, refl, sym, ap, ap₂, ◌∙◌, subst, append_assoc, arith}
use Rattle.std.proofs.Math.Seq.{drop-append_seam}
use Rattle.std.proofs.lemmas.Bool.{cases_lt}
use Rattle.std.proofs.lemmas.List.{append-nil, length-append, length-drop, map-append, take-append-drop, take_all}
use Rattle.row_batches.proofs.Joining.{Precede, between-append}
use Rattle.row_batches.proofs.Walks.{empty_between}
use Rattle.row_batches.specs.Between.{changes_between}
use Rattle.row_batches.specs.Places.{AreAbove}
use Rattle.row_batches.specs.Rows.{AreRows, key_of}
use Rattle.row_batches.specs.declared.change.RowChange.{RowChange}
use Rattle.row_batches.specs.declared.store_row.StoreRow.{StoreRow}
use Rattle.change_outbox.specs.declared.change.Change.{Change}
use Rattle.change_outbox.specs.Contents.{Contents, AreNumberedFrom, IsNumbered, IsMadeOf, above, appended, confirmed, last_number, numbered}
use Rattle.change_outbox.specs.Rows.{change_row, entry_rows}
use Rattle.change_outbox.proofs.Numbers.{above-drop, from, length-numbered, numbered-append, numbered_append, numbered_from}
use Rattle.change_outbox.proofs.Order.{below_changes, changes_rise}

-- ---- what makes one of another

none_appended : (o : Contents) → o ≡ appended [] o
none_appended o = let same : o.next ≡ o.next + 0 = omega arith in (λ i. record { next = same i; entries = sym (append-nil o.entries) i })

pub confirmed_made : (number : ℕ) (o p : Contents) → p ≡ confirmed number o → IsMadeOf o p
confirmed_made number o p is = record { number = number; changes = []; is = is ∙ none_appended (confirmed number o) }

none_confirmed : (o : Contents) → IsNumbered o → o ≡ confirmed 0 o
none_confirmed o numbered =
    let first : length o.entries < o.next = numbered.first in
    let none : 0 + 1 - (o.next - length o.entries) ≡ 0 = omega (arith, first) in
    ap (λ (es : List Change). record { next = o.next; entries = es }) (ap (λ k. drop k o.entries) (sym none) ∙ sym (above-drop 0 (o.next - length o.entries) o.entries numbered.numbers))

pub made_itself : (o : Contents) → IsNumbered o → IsMadeOf o o
made_itself o numbered = confirmed_made 0 o o (none_confirmed o numbered)

appended_twice : (xs ys : List Change) (o : Contents) → appended ys (appended xs o) ≡ appended (xs ++ ys) o
appended_twice xs ys o =
    let next : o.next + length xs + length ys ≡ o.next + length (xs ++ ys) = omega (arith, length-append xs ys) in
    let entries : (o.entries ++ numbered o.next xs) ++ numbered (o.next + length xs) ys ≡ o.entries ++ numbered o.next (xs ++ ys) =
    append_assoc o.entries (numbered o.next xs) (numbered (o.next + length xs) ys) ∙ ap (λ (l : List Change). o.entries ++ l) (sym (numbered-append o.next xs ys)) in
    (λ i. record { next = next i; entries = entries i })

pub appended_made : (changes : List Change) (o p q : Contents) → IsMadeOf o p → q ≡ appended changes p → IsMadeOf o q
appended_made changes o p q made is =
    record { number = made.number; changes = made.changes ++ changes; is = is ∙ ap (appended changes) made.is ∙ appended_twice made.changes changes (confirmed made.number o) }

-- ---- rows that both have

numbered_behind : (n : ℕ) (xs ys : List Change) → AreNumberedFrom n (xs ++ ys) → AreNumberedFrom (n + length xs) ys
numbered_behind n [] ys are = from n (n + 0) ys (omega arith) are
numbered_behind n (x ∷ xs) ys are = from (n + 1 + length xs) (n + suc (length xs)) ys (omega arith) (numbered_behind (n + 1) xs ys are.1)

precede : (n : ℕ) (xs ys : List Change) → n + length xs + length ys ≤ 2 ^ 64 → AreNumberedFrom n (xs ++ ys) → Precede (entry_rows xs) (entry_rows ys)
precede n [] ys fits are = tt
precede n (x ∷ xs) ys fits are =
    let is : x.number ≡ n = are.0 in (
      below_changes x.number (n + 1 + length xs) ys (omega (arith, is)) (omega arith) (numbered_behind (n + 1) xs ys are.1),
      precede (n + 1) xs ys (omega arith) are.1,
    )

module _ (olds both news : List StoreRow) (olds_first : Precede olds (both ++ news)) (olds_before : Precede olds news) (both_first : Precede both news) (rise : AreRows both) where
  none_before : (rows : List StoreRow) → Precede rows []
  none_before [] = tt
  none_before (r ∷ rows) = (tt, none_before rows)

  both_stay : changes_between both (both ++ news) ≡ changes_between [] news
  both_stay =
      ap (λ (l : List StoreRow). changes_between l (both ++ news)) (sym (append-nil both)) ∙ between-append [] news both both both_first (none_before both)
      ∙ ap (λ (cs : List RowChange). cs ++ changes_between [] news) ((empty_between both both rise rise).1 refl)

  -- where the last of the old rows are the first of the new ones, these don't change
  stay : changes_between (olds ++ both) (both ++ news) ≡ changes_between olds news
  stay =
      between-append both (both ++ news) olds [] olds_first tt ∙ ap (λ (cs : List RowChange). changes_between olds [] ++ cs) both_stay ∙ sym (between-append [] news olds [] olds_before tt)
      ∙ ap (λ (l : List StoreRow). changes_between l news) (append-nil olds)

abbrev between : List Change → List Change → List RowChange
between xs ys = changes_between (entry_rows xs) (entry_rows ys)

shared : (n : ℕ) (xs ys zs : List Change) → n + length xs + length ys + length zs ≤ 2 ^ 64 → AreNumberedFrom n (xs ++ (ys ++ zs)) → between (xs ++ ys) (ys ++ zs) ≡ between xs zs
shared n xs ys zs fits are =
    let rest : AreNumberedFrom (n + length xs) (ys ++ zs) = numbered_behind n xs (ys ++ zs) are in
    let front : AreNumberedFrom (n + length xs) ys = numbers_of (n + length xs) ys zs rest in
    let others : Precede (entry_rows xs) (entry_rows (ys ++ zs)) = precede n xs (ys ++ zs) (omega (arith, length-append ys zs)) are in
    let last : Precede (entry_rows xs) (entry_rows zs) = last_before (entry_rows xs) (entry_rows ys) (entry_rows zs) (subst (Precede (entry_rows xs)) (map-append change_row ys zs) others) in
    ap₂ changes_between (map-append change_row xs ys) (map-append change_row ys zs)
    ∙ stay (entry_rows xs) (entry_rows ys) (entry_rows zs) (subst (Precede (entry_rows xs)) (map-append change_row ys zs) others) last (precede (n + length xs) ys zs (omega arith) rest) (changes_rise (n + length xs) ys (omega arith) front)
  where
    numbers_of : (m : ℕ) (cs ds : List Change) → AreNumberedFrom m (cs ++ ds) → AreNumberedFrom m cs
    numbers_of m [] ds numbers = tt
    numbers_of m (c ∷ cs) ds numbers = (numbers.0, numbers_of (m + 1) cs ds numbers.1)

    above_last : (key : List ℕ) (rs ss : List StoreRow) → AreAbove key (map key_of (rs ++ ss)) → AreAbove key (map key_of ss)
    above_last key [] ss above = above
    above_last key (r ∷ rs) ss above = above_last key rs ss above.1

    last_before : (qs rs ss : List StoreRow) → Precede qs (rs ++ ss) → Precede qs ss
    last_before [] rs ss before = tt
    last_before (q ∷ qs) rs ss before = (above_last q.key rs ss before.0, last_before qs rs ss before.1)

-- ---- the entries that both have

module _ (o p : Contents) (o_is : IsNumbered o) (made : IsMadeOf o p) where
  abbrev gone : ℕ
  gone = made.number + 1 - (o.next - length o.entries)

  abbrev kept : List Change
  kept = drop gone o.entries

  abbrev added : List Change
  added = numbered o.next made.changes

  next_is : p.next ≡ o.next + length made.changes
  next_is = ap (λ (q : Contents). q.next) made.is

  entries_are : p.entries ≡ kept ++ added
  entries_are = ap (λ (q : Contents). q.entries) made.is ∙ ap (λ (es : List Change). es ++ added) (above-drop made.number (o.next - length o.entries) o.entries o_is.numbers)

  count_is : length p.entries ≡ length kept + length made.changes
  count_is = ap length entries_are ∙ length-append kept added ∙ ap (λ n. length kept + n) (length-numbered o.next made.changes)

  kept_is : length p.entries - (p.next - o.next) ≡ length kept
  kept_is = omega (arith, count_is, next_is)

  pub goes_on : o.next ≤ p.next
  goes_on = omega (arith, next_is)

  pub are_added : p.next - o.next ≤ length p.entries
  are_added = omega (arith, count_is, next_is)

  pub few_kept : length p.entries - (p.next - o.next) ≤ length o.entries
  few_kept = omega (arith, kept_is, length-drop gone o.entries)

  first_gone : take (length o.entries - length kept) o.entries ≡ take gone o.entries
  first_gone =
      let count : length kept ≡ length o.entries - gone = length-drop gone o.entries in
      elim (cases_lt gone (length o.entries)) [
        | inl less ↦ let same : length o.entries - length kept ≡ gone = omega (arith, count) in ap (λ n. take n o.entries) same
        | inr least ↦ take_all (length o.entries - length kept) o.entries (omega (arith, count)) ∙ sym (take_all gone o.entries least)
      ]

  last_added : drop (length kept) p.entries ≡ added
  last_added = ap (drop (length kept)) entries_are ∙ drop-append_seam kept added

  numbers : AreNumberedFrom (o.next - length o.entries) (take gone o.entries ++ (kept ++ added))
  numbers =
      let first : length o.entries < o.next = o_is.first in
      subst (AreNumberedFrom (o.next - length o.entries)) (ap (λ (l : List Change). l ++ added) (sym (take-append-drop gone o.entries)) ∙ append_assoc (take gone o.entries) kept added)
      (numbered_append (o.next - length o.entries) o.entries added o_is.numbers (from o.next (o.next - length o.entries + length o.entries) added (omega (arith, first)) (numbered_from o.next made.changes)))

  -- what changes is what the one has alone and what the other has alone
  pub rows_kept : p.next ≤ last_number → (n : ℕ) → n ≡ length p.entries - (p.next - o.next) → between (take (length o.entries - n) o.entries) (drop n p.entries) ≡ between o.entries p.entries
  rows_kept last n is =
      let count : length o.entries ≡ length (take gone o.entries) + length kept = ap length (sym (take-append-drop gone o.entries)) ∙ length-append (take gone o.entries) kept in
      let first : length o.entries < o.next = o_is.first in
      ap (λ m. between (take (length o.entries - m) o.entries) (drop m p.entries)) (is ∙ kept_is)
      ∙ ap₂ between first_gone last_added
      ∙ sym (shared (o.next - length o.entries) (take gone o.entries) kept added (omega (arith, count, first, next_is, last, length-numbered o.next made.changes)) numbers)
      ∙ ap₂ between (take-append-drop gone o.entries) (sym entries_are)
