-- The steps of a walk over changes and the rows that they change.
use Rattle.std.proofs.Common.{Less, Equal, Greater, ◌≡◌, ℕ, List, [], ◌∷◌, map, refl, sym, ap, ◌∙◌, subst, arith}
use Rattle.std.specs.List.Sorted.{IsStrictlySortedBy}
use Rattle.std.specs.Ordering.{match_ordering}
use Rattle.row_batches.specs.Merging.{AreInOrder, ComesBefore, IsMerged, IsMerge}
use Rattle.row_batches.specs.Places.{AreAbove}
use Rattle.row_batches.specs.Rows.{key_cmp, key_in, key_of, with_row, without_key, after_change, after_changes}
use Rattle.row_batches.specs.declared.change.RowChange.{RowChange}
use Rattle.row_batches.specs.declared.change.RowChange.TheVariants.{Put, Delete}
use Rattle.row_batches.specs.declared.merging.Merge.{Merge}
use Rattle.row_batches.specs.declared.merging.Merge.TheVariants as merge
use Rattle.row_batches.specs.declared.store_row.StoreRow.{StoreRow}
use Rattle.sequences.proofs.Texts.{same_texts, turned_down, above_trans}
use Rattle.row_batches.proofs.Walks.{stays_first}

put_there : (r : StoreRow) (rows : List StoreRow) → AreAbove r.key (map key_of rows) → with_row r rows ≡ r ∷ rows
put_there r [] above = refl
put_there r (q ∷ qs) above = ap (λ o. match_ordering o (r ∷ q ∷ qs) (r ∷ qs) (q ∷ with_row r qs)) above.0

gone_there : (key : List ℕ) (rows : List StoreRow) → AreAbove key (map key_of rows) → without_key key rows ≡ rows
gone_there key [] above = refl
gone_there key (q ∷ qs) above = ap (λ o. match_ordering o (q ∷ qs) qs (q ∷ without_key key qs)) above.0

pub put_before : (r : StoreRow) (changes : List RowChange) (rows : List StoreRow) → ComesBefore (Put r) changes rows → IsMerged (r ∷ []) changes rows (Put r ∷ changes) rows
put_before r changes rows before = record {
  split = ap (λ l. after_changes changes l) (put_there r rows before.rows_above) ∙ stays_first changes r rows before.changes_above;
  fewer = omega arith;
  order = before.order;
}

pub delete_before : (key : List ℕ) (changes : List RowChange) (rows : List StoreRow) → ComesBefore (Delete key) changes rows → IsMerged [] changes rows (Delete key ∷ changes) rows
delete_before key changes rows before = record {
  split = ap (λ l. after_changes changes l) (gone_there key rows before.rows_above);
  fewer = omega arith;
  order = before.order;
}

-- a row of the same key is replaced or deleted
same_change : (c : RowChange) (r : StoreRow) (rows : List StoreRow) → key_cmp (key_in c) r.key ≡ Equal → AreAbove (key_in c) (map key_of rows) → after_change c (r ∷ rows) ≡ after_change c rows
same_change (Put s) r rows e above = ap (λ o. match_ordering o (s ∷ r ∷ rows) (s ∷ rows) (r ∷ with_row s rows)) e ∙ sym (put_there s rows above)
same_change (Delete key) r rows e above = ap (λ o. match_ordering o (r ∷ rows) rows (r ∷ without_key key rows)) e ∙ sym (gone_there key rows above)

wider : (first : List StoreRow) (changes_left : List RowChange) (rows_left : List StoreRow) (c : RowChange) (changes : List RowChange) (r : StoreRow) (rows : List StoreRow)
    → after_change c (r ∷ rows) ≡ after_change c rows → IsMerged first changes_left rows_left (c ∷ changes) rows → IsMerged first changes_left rows_left (c ∷ changes) (r ∷ rows)
wider first changes_left rows_left c changes r rows same merged = record {
  split = ap (λ l. after_changes changes l) same ∙ merged.split;
  fewer = omega (arith, merged.fewer);
  order = merged.order;
}

pub over_same : (c : RowChange) (changes : List RowChange) (r : StoreRow) (rows : List StoreRow) (m : Merge) → key_cmp (key_in c) r.key ≡ Equal → AreInOrder (c ∷ changes) (r ∷ rows)
    → IsMerge (c ∷ changes) rows m → IsMerge (c ∷ changes) (r ∷ rows) m
unfolding IsStrictlySortedBy
over_same c changes r rows m e order merged = by_step m merged
  where
    same : after_change c (r ∷ rows) ≡ after_change c rows
    same = same_change c r rows e (subst (λ k. AreAbove k (map key_of rows)) (sym (same_texts (key_in c) r.key e)) order.rows_rise.0)

    by_step : (m : Merge) → IsMerge (c ∷ changes) rows m → IsMerge (c ∷ changes) (r ∷ rows) m
    by_step merge.End is = ap (λ l. after_changes changes l) same ∙ is
    by_step (merge.Row row changes_left rows_left) is = wider (row.now ∷ []) changes_left.now rows_left.now c changes r rows same is
    by_step (merge.Skip changes_left rows_left) is = wider [] changes_left.now rows_left.now c changes r rows same is

-- ---- a change before all rows, and a row before all changes

pub before_none : (c : RowChange) (changes : List RowChange) → AreInOrder (c ∷ changes) [] → ComesBefore c changes []
unfolding IsStrictlySortedBy
before_none c changes order = record { order = record { changes_rise = order.changes_rise.1; rows_rise = order.rows_rise }; changes_above = order.changes_rise.0; rows_above = tt }

pub before_less : (c : RowChange) (changes : List RowChange) (r : StoreRow) (rows : List StoreRow) → key_cmp (key_in c) r.key ≡ Less → AreInOrder (c ∷ changes) (r ∷ rows) → ComesBefore c changes (r ∷ rows)
unfolding IsStrictlySortedBy
before_less c changes r rows less order = record {
  order = record { changes_rise = order.changes_rise.1; rows_rise = order.rows_rise };
  changes_above = order.changes_rise.0;
  rows_above = (less, above_trans (key_in c) r.key (map key_of rows) less order.rows_rise.0);
}

pub before_same : (c : RowChange) (changes : List RowChange) (r : StoreRow) (rows : List StoreRow) → key_cmp (key_in c) r.key ≡ Equal → AreInOrder (c ∷ changes) (r ∷ rows) → ComesBefore c changes rows
unfolding IsStrictlySortedBy
before_same c changes r rows e order = record {
  order = record { changes_rise = order.changes_rise.1; rows_rise = order.rows_rise.1 };
  changes_above = order.changes_rise.0;
  rows_above = subst (λ k. AreAbove k (map key_of rows)) (sym (same_texts (key_in c) r.key e)) order.rows_rise.0;
}

pub row_last : (r : StoreRow) (rows : List StoreRow) → AreInOrder [] (r ∷ rows) → IsMerged (r ∷ []) [] rows [] (r ∷ rows)
unfolding IsStrictlySortedBy
row_last r rows order = record { split = refl; fewer = omega arith; order = record { changes_rise = order.changes_rise; rows_rise = order.rows_rise.1 } }

pub row_before : (c : RowChange) (changes : List RowChange) (r : StoreRow) (rows : List StoreRow) → key_cmp (key_in c) r.key ≡ Greater → AreInOrder (c ∷ changes) (r ∷ rows)
    → IsMerged (r ∷ []) (c ∷ changes) rows (c ∷ changes) (r ∷ rows)
unfolding IsStrictlySortedBy
row_before c changes r rows greater order =
    let less = turned_down (key_in c) r.key greater in
    record {
      split = stays_first (c ∷ changes) r rows (less, above_trans r.key (key_in c) (map key_in changes) less order.changes_rise.0);
      fewer = omega arith;
      order = record { changes_rise = order.changes_rise; rows_rise = order.rows_rise.1 };
    }

-- ---- the same of lists that are told by their first item and the rest

module _ (changes : List RowChange) (rows : List StoreRow) (c : RowChange) (cs : List RowChange) (r : StoreRow) (rs : List StoreRow) (changes_are : changes ≡ c ∷ cs) (rows_are : rows ≡ r ∷ rs) (order : AreInOrder changes rows) where
  in_both : AreInOrder (c ∷ cs) (r ∷ rs)
  in_both = subst (λ (k : List RowChange). AreInOrder k (r ∷ rs)) changes_are (subst (λ (k : List StoreRow). AreInOrder changes k) rows_are order)

  pub at_less : key_cmp (key_in c) r.key ≡ Less → ComesBefore c cs rows
  at_less less = subst (λ (k : List StoreRow). ComesBefore c cs k) (sym rows_are) (before_less c cs r rs less in_both)

  pub at_same : key_cmp (key_in c) r.key ≡ Equal → ComesBefore c cs rs
  at_same e = before_same c cs r rs e in_both

  pub at_same_merge : (m : Merge) → key_cmp (key_in c) r.key ≡ Equal → IsMerge (c ∷ cs) rs m → IsMerge changes rows m
  at_same_merge m e merged =
      subst (λ (k : List RowChange). IsMerge k rows m) (sym changes_are) (subst (λ (k : List StoreRow). IsMerge (c ∷ cs) k m) (sym rows_are) (over_same c cs r rs m e in_both merged))

  pub at_greater : key_cmp (key_in c) r.key ≡ Greater → IsMerged (r ∷ []) changes rs changes rows
  at_greater greater =
      subst (λ (k : List RowChange). IsMerged (r ∷ []) k rs k rows) (sym changes_are) (subst (λ (k : List StoreRow). IsMerged (r ∷ []) (c ∷ cs) rs (c ∷ cs) k) (sym rows_are) (row_before c cs r rs greater in_both))

pub at_no_rows : (changes : List RowChange) (rows : List StoreRow) (c : RowChange) (cs : List RowChange) → changes ≡ c ∷ cs → rows ≡ [] → AreInOrder changes rows → ComesBefore c cs rows
at_no_rows changes rows c cs changes_are none order =
    subst (λ (k : List StoreRow). ComesBefore c cs k) (sym none) (before_none c cs (subst (λ (k : List RowChange). AreInOrder k []) changes_are (subst (λ (k : List StoreRow). AreInOrder changes k) none order)))

pub at_no_changes : (changes : List RowChange) (rows : List StoreRow) (r : StoreRow) (rs : List StoreRow) → changes ≡ [] → rows ≡ r ∷ rs → AreInOrder changes rows → IsMerged (r ∷ []) changes rs changes rows
at_no_changes changes rows r rs none rows_are order =
    subst (λ (k : List RowChange). IsMerged (r ∷ []) k rs k rows) (sym none)
    (subst (λ (k : List StoreRow). IsMerged (r ∷ []) [] rs [] k) (sym rows_are) (row_last r rs (subst (λ (k : List RowChange). AreInOrder k (r ∷ rs)) none (subst (λ (k : List StoreRow). AreInOrder changes k) rows_are order))))
