-- What an ordered map holds, as rows.
use Rattle.std.proofs.Common.{Ordering, Less, Equal, Greater, ◌≡◌, ℕ, Bool, true, false, List, [], ◌∷◌, map, refl, sym, ap, ◌∙◌, subst}
use Rattle.std.specs.Prelude.{Vec, cond, if◌then◌else◌}
use Rattle.std.specs.BTreeMap.{insert_entry, is_at}
use Rattle.std.specs.Cmp.Lexicographic.{slice_cmp}
use Rattle.std.specs.List.Sorted.{IsStrictlySortedBy}
use Rattle.std.specs.Map.{remove_entry}
use Rattle.std.specs.Ordering.{nat_cmp, is_eq, match_ordering}
use Rattle.row_batches.specs.declared.change.RowChange.TheVariants.{Put, Delete}
use Rattle.row_batches.specs.declared.store_row.StoreRow.{StoreRow}
use Rattle.row_batches.specs.Places.{AreAbove}
use Rattle.row_batches.specs.Rows.{AreRows, key_cmp, key_of, with_row, without_key}
use Rattle.row_batches.proofs.Found.{rise_given}
use Rattle.sequences.proofs.Texts.{same_texts, above_trans}
use Rattle.row_store.specs.Listing.{row_of, rows_in}

abbrev Entry : Type 0 → Type 0
Entry Z = Vec ℕ Z × List ℕ

module _ {Z : Type 0} where
  -- how a key compares with that of an entry
  abbrev vec_cmp : Vec ℕ Z → Vec ℕ Z → Ordering
  vec_cmp x y = slice_cmp nat_cmp x.items y.items

  abbrev query : List ℕ → Vec ℕ Z → Ordering
  query key k = slice_cmp nat_cmp key k.items

  put_at : (k : Vec ℕ Z) (v : List ℕ) (e : Entry Z) (es : List (Entry Z)) (o : Ordering) → key_cmp k.items e.0.items ≡ o → rows_in (insert_entry vec_cmp es k v) ≡ with_row (record { key = k.items; value = v }) (rows_in es)
      → rows_in (match_ordering o ((k, v) ∷ e ∷ es) ((e.0, v) ∷ es) (e ∷ insert_entry vec_cmp es k v))
      ≡ match_ordering o (record { key = k.items; value = v } ∷ row_of e ∷ rows_in es) (record { key = k.items; value = v } ∷ rows_in es) (row_of e ∷ with_row (record { key = k.items; value = v }) (rows_in es))
  put_at k v e es Less is rest = refl
  put_at k v e es Equal is rest = ap (λ (key : List ℕ). record { key = key; value = v } ∷ rows_in es) (sym (same_texts k.items e.0.items is))
  put_at k v e es Greater is rest = ap (λ l. row_of e ∷ l) rest

  inserted : (es : List (Entry Z)) (k : Vec ℕ Z) (v : List ℕ) → rows_in (insert_entry vec_cmp es k v) ≡ with_row (record { key = k.items; value = v }) (rows_in es)
  inserted [] k v = refl
  inserted (e ∷ es) k v = put_at k v e es (key_cmp k.items e.0.items) refl (inserted es k v)

  pub put_in : (old new : List (Entry Z)) (k : Vec ℕ Z) (row : StoreRow) → k.items ≡ row.key → new ≡ insert_entry vec_cmp old k row.value → rows_in new ≡ with_row row (rows_in old)
  put_in old new k row key_is is = ap (λ l. rows_in l) is ∙ inserted old k row.value ∙ ap (λ (key : List ℕ). with_row (record { key = key; value = row.value }) (rows_in old)) key_is

  -- none has a key that is below all
  none_there : (key : List ℕ) (es : List (Entry Z)) → AreAbove key (map key_of (rows_in es)) → remove_entry (is_at (query key)) es ≡ es
  none_there key [] above = refl
  none_there key (e ∷ es) above = ap (λ (o : Ordering). cond (is_eq o) es (e ∷ remove_entry (is_at (query key)) es)) above.0 ∙ ap (λ l. e ∷ l) (none_there key es above.1)

  deleted_at : (key : List ℕ) (e : Entry Z) (es : List (Entry Z)) (o : Ordering) → key_cmp key e.0.items ≡ o → AreRows (rows_in (e ∷ es)) → rows_in (remove_entry (is_at (query key)) es) ≡ without_key key (rows_in es)
      → rows_in (cond (is_eq o) es (e ∷ remove_entry (is_at (query key)) es)) ≡ match_ordering o (row_of e ∷ rows_in es) (rows_in es) (row_of e ∷ without_key key (rows_in es))
  unfolding IsStrictlySortedBy
  deleted_at key e es Less is rise rest = ap (λ l. row_of e ∷ rows_in l) (none_there key es (above_trans key e.0.items (map key_of (rows_in es)) is rise.0))
  deleted_at key e es Equal is rise rest = refl
  deleted_at key e es Greater is rise rest = ap (λ l. row_of e ∷ l) rest

  deleted : (key : List ℕ) (es : List (Entry Z)) → AreRows (rows_in es) → rows_in (remove_entry (is_at (query key)) es) ≡ without_key key (rows_in es)
  unfolding IsStrictlySortedBy
  deleted key [] rise = refl
  deleted key (e ∷ es) rise = deleted_at key e es (key_cmp key e.0.items) refl rise (deleted key es rise.1)

  pub deleted_in : (old new : List (Entry Z)) (key : List ℕ) → AreRows (rows_in old) → new ≡ remove_entry (is_at (query key)) old → rows_in new ≡ without_key key (rows_in old)
  deleted_in old new key rise is = ap (λ l. rows_in l) is ∙ deleted key old rise

  pub rise_put : (old new : List (Entry Z)) (k : Vec ℕ Z) (row : StoreRow) → AreRows (rows_in old) → k.items ≡ row.key → new ≡ insert_entry vec_cmp old k row.value → AreRows (rows_in new)
  rise_put old new k row rise key_is is = rise_given (Put row) (rows_in old) (rows_in new) rise (put_in old new k row key_is is)

  pub rise_deleted : (old new : List (Entry Z)) (key : List ℕ) → AreRows (rows_in old) → new ≡ remove_entry (is_at (query key)) old → AreRows (rows_in new)
  rise_deleted old new key rise is = rise_given (Delete key) (rows_in old) (rows_in new) rise (deleted_in old new key rise is)

  pub rise_same : (old new : List (Entry Z)) → AreRows (rows_in old) → new ≡ old → AreRows (rows_in new)
  rise_same old new rise is = subst (λ (es : List (Entry Z)). AreRows (rows_in es)) (sym is) rise

  -- ---- a clear

  pub cleared : (is_clear : Bool) (old new : List (Entry Z)) → is_clear ≡ true → new ≡ [] → rows_in new ≡ (if is_clear then [] else rows_in old)
  cleared true old new is none = ap (λ l. rows_in l) none
  cleared false old new is none = absurd cc

  pub kept : (is_clear : Bool) (old new : List (Entry Z)) → is_clear ≡ false → new ≡ old → rows_in new ≡ (if is_clear then [] else rows_in old)
  kept true old new is same = absurd cc
  kept false old new is same = ap (λ l. rows_in l) same

  pub rise_cleared : (is_clear : Bool) (old new : List (Entry Z)) → AreRows (rows_in old) → rows_in new ≡ (if is_clear then [] else rows_in old) → AreRows (rows_in new)
  unfolding IsStrictlySortedBy
  rise_cleared true old new rise is = subst AreRows (sym is) tt
  rise_cleared false old new rise is = subst AreRows (sym is) rise
