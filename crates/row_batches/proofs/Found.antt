-- The value of a key, found by a search, and rows with one more or without one.
use Rattle.std.proofs.Common.{Ordering, ◌≡◌, ℕ, zero, suc, ◌<◌, ◌≤◌, List, [], ◌∷◌, map, length, get_or, take, drop, Some, None, Less, Equal, Greater, refl, sym, ap, ◌∙◌, subst, arith}
use Rattle.std.specs.Prelude.{Bool, true, false, if◌then◌else◌}
use Rattle.std.specs.List.{AllByRecursion}
use Rattle.std.specs.List.Sorted.{IsStrictlySortedBy}
use Rattle.std.specs.Ordering.{match_ordering}
use Rattle.row_batches.specs.Batch.{ChangeList, IsBatch, FitsFields, applied}
use Rattle.row_batches.specs.Batches.{HasRoom, HaveRoom}
use Rattle.row_batches.specs.Places.{AreAbove, AreBelow, HasKeyAt, BelongsAt}
use Rattle.row_batches.specs.Rows.{AreRows, key_cmp, key_of, value_of, with_row, without_key, after_change, after_changes}
use Rattle.row_batches.specs.declared.change.RowChange.{RowChange}
use Rattle.row_batches.specs.declared.change.RowChange.TheVariants.{Put, Delete}
use Rattle.row_batches.specs.declared.store_row.StoreRow.{StoreRow}
use Rattle.sequences.proofs.Texts.{same_texts, turned_up, turned_down, turned_even, above_trans}
use Rattle.sequences.proofs.Searching.{text_at}

-- ---- one step of each search

pub valued : (key : List ℕ) (r : StoreRow) (rs : List StoreRow) (o : Ordering) → key_cmp key r.key ≡ o → value_of key (r ∷ rs) ≡ match_ordering o None (Some r.value) (value_of key rs)
valued key r rs o e = ap (λ p. match_ordering p None (Some r.value) (value_of key rs)) e

pub picked : (r q : StoreRow) (qs : List StoreRow) (o : Ordering) → key_cmp r.key q.key ≡ o → with_row r (q ∷ qs) ≡ match_ordering o (r ∷ q ∷ qs) (r ∷ qs) (q ∷ with_row r qs)
picked r q qs o e = ap (λ p. match_ordering p (r ∷ q ∷ qs) (r ∷ qs) (q ∷ with_row r qs)) e

pub dropped : (key : List ℕ) (q : StoreRow) (qs : List StoreRow) (o : Ordering) → key_cmp key q.key ≡ o → without_key key (q ∷ qs) ≡ match_ordering o (q ∷ qs) qs (q ∷ without_key key qs)
dropped key q qs o e = ap (λ p. match_ordering p (q ∷ qs) qs (q ∷ without_key key qs)) e

-- ---- the row at a place has the key

below_it : (key : List ℕ) (q : StoreRow) (qs : List StoreRow) (i : ℕ) (d : StoreRow) → i < length qs → AreAbove q.key (map key_of qs) → key_cmp (get_or qs i d).key key ≡ Equal → key_cmp key q.key ≡ Greater
below_it key q qs i d less above e =
    let same = same_texts (get_or qs i d).key key e in
    turned_up q.key key (subst (λ t. key_cmp q.key t ≡ Less) same (text_at (λ t. key_cmp q.key t ≡ Less) key_of qs i d less above))

value-at : (key : List ℕ) (rows : List StoreRow) (i : ℕ) (d : StoreRow) → i < length rows → AreRows rows → key_cmp (get_or rows i d).key key ≡ Equal → value_of key rows ≡ Some (get_or rows i d).value
unfolding IsStrictlySortedBy
value-at key [] i d less rise e = absurd (omega arith)
value-at key (r ∷ rs) zero d less rise e = valued key r rs Equal (turned_even r.key key e)
value-at key (r ∷ rs) (suc i) d less rise e = valued key r rs Greater (below_it key r rs i d (omega arith) rise.0 e) ∙ value-at key rs i d (omega arith) rise.1 e

pub value_there : (key : List ℕ) (rows : List StoreRow) (i : ℕ) (r : StoreRow) → AreRows rows → HasKeyAt key rows i → value_of key rows ≡ Some (get_or rows i r).value
value_there key rows i r rise at = value-at key rows i r at.within rise (at.same r)

-- ---- no row has the key

value-not : (key : List ℕ) (rows : List StoreRow) (i : ℕ) → AreBelow key (take i (map key_of rows)) → AreAbove key (drop i (map key_of rows)) → value_of key rows ≡ None
value-not key [] i below above = refl
value-not key (r ∷ rs) zero below above = valued key r rs Less above.0
value-not key (r ∷ rs) (suc i) below above = valued key r rs Greater (turned_up r.key key below.0) ∙ value-not key rs i below.1 above

pub value_nowhere : (key : List ℕ) (rows : List StoreRow) (i : ℕ) → BelongsAt key rows i → value_of key rows ≡ None
value_nowhere key rows i at = value-not key rows i at.below at.above

-- ---- rows stay rows

above-with : (a : List ℕ) (r : StoreRow) (rows : List StoreRow) → key_cmp a r.key ≡ Less → AreAbove a (map key_of rows) → AreAbove a (map key_of (with_row r rows))
above-with a r [] less above = (less, tt)
above-with a r (q ∷ qs) less above =
    elim (key_cmp r.key q.key) as (λ o. AreAbove a (map key_of (match_ordering o (r ∷ q ∷ qs) (r ∷ qs) (q ∷ with_row r qs)))) [
      | Less ↦ (less, above)
      | Equal ↦ (less, above.1)
      | Greater ↦ (above.0, above-with a r qs less above.1)
    ]

above-without : (a key : List ℕ) (rows : List StoreRow) → AreAbove a (map key_of rows) → AreAbove a (map key_of (without_key key rows))
above-without a key [] above = tt
above-without a key (q ∷ qs) above =
    elim (key_cmp key q.key) as (λ o. AreAbove a (map key_of (match_ordering o (q ∷ qs) qs (q ∷ without_key key qs)))) [
      | Less ↦ above
      | Equal ↦ above.1
      | Greater ↦ (above.0, above-without a key qs above.1)
    ]

with_at : (r q : StoreRow) (qs : List StoreRow) (o : Ordering) → key_cmp r.key q.key ≡ o → AreRows (q ∷ qs) → AreRows (with_row r qs) → AreRows (match_ordering o (r ∷ q ∷ qs) (r ∷ qs) (q ∷ with_row r qs))
unfolding IsStrictlySortedBy
with_at r q qs Less e rise rest = ((e, above_trans r.key q.key (map key_of qs) e rise.0), rise)
with_at r q qs Equal e rise rest = (subst (λ k. AreAbove k (map key_of qs)) (sym (same_texts r.key q.key e)) rise.0, rise.1)
with_at r q qs Greater e rise rest = (above-with q.key r qs (turned_down r.key q.key e) rise.0, rest)

rise-with : (r : StoreRow) (rows : List StoreRow) → AreRows rows → AreRows (with_row r rows)
unfolding IsStrictlySortedBy
rise-with r [] rise = (tt, tt)
rise-with r (q ∷ qs) rise = with_at r q qs (key_cmp r.key q.key) refl rise (rise-with r qs rise.1)

without_at : (key : List ℕ) (q : StoreRow) (qs : List StoreRow) (o : Ordering) → AreRows (q ∷ qs) → AreRows (without_key key qs) → AreRows (match_ordering o (q ∷ qs) qs (q ∷ without_key key qs))
unfolding IsStrictlySortedBy
without_at key q qs Less rise rest = rise
without_at key q qs Equal rise rest = rise.1
without_at key q qs Greater rise rest = (above-without q.key key qs rise.0, rest)

rise-without : (key : List ℕ) (rows : List StoreRow) → AreRows rows → AreRows (without_key key rows)
unfolding IsStrictlySortedBy
rise-without key [] rise = tt
rise-without key (q ∷ qs) rise = without_at key q qs (key_cmp key q.key) rise (rise-without key qs rise.1)

pub rise_after : (c : RowChange) (rows : List StoreRow) → AreRows rows → AreRows (after_change c rows)
rise_after (Put r) rows rise = rise-with r rows rise
rise_after (Delete key) rows rise = rise-without key rows rise

-- the same of what a call gives
pub rise_given : (c : RowChange) (rows given : List StoreRow) → AreRows rows → given ≡ after_change c rows → AreRows given
rise_given c rows given rise is = subst AreRows (sym is) (rise_after c rows rise)

-- ---- their fields have room

room-with : (r : StoreRow) (rows : List StoreRow) → HasRoom r → HaveRoom rows → HaveRoom (with_row r rows)
room-with r [] here room = (here, tt)
room-with r (q ∷ qs) here room =
    elim (key_cmp r.key q.key) as (λ o. HaveRoom (match_ordering o (r ∷ q ∷ qs) (r ∷ qs) (q ∷ with_row r qs))) [
      | Less ↦ (here, room)
      | Equal ↦ (here, room.1)
      | Greater ↦ (room.0, room-with r qs here room.1)
    ]

room-without : (key : List ℕ) (rows : List StoreRow) → HaveRoom rows → HaveRoom (without_key key rows)
room-without key [] room = tt
room-without key (q ∷ qs) room =
    elim (key_cmp key q.key) as (λ o. HaveRoom (match_ordering o (q ∷ qs) qs (q ∷ without_key key qs))) [
      | Less ↦ room
      | Equal ↦ room.1
      | Greater ↦ (room.0, room-without key qs room.1)
    ]

room_after : (c : RowChange) (rows : List StoreRow) → FitsFields c → HaveRoom rows → HaveRoom (after_change c rows)
room_after (Put r) rows fits room = room-with r rows fits room
room_after (Delete key) rows fits room = room-without key rows room

-- what a batch makes of rows
pub rise_all : (cs : List RowChange) (rows : List StoreRow) → AreRows rows → AreRows (after_changes cs rows)
rise_all [] rows rise = rise
rise_all (c ∷ cs) rows rise = rise_all cs (after_change c rows) (rise_after c rows rise)

room_all : (cs : List RowChange) (rows : List StoreRow) → AllByRecursion FitsFields cs → HaveRoom rows → HaveRoom (after_changes cs rows)
room_all [] rows fits room = room
room_all (c ∷ cs) rows fits room = room_all cs (after_change c rows) fits.1 (room_after c rows fits.0 room)

none_or : (b : Bool) (rows : List StoreRow) → AreRows rows → AreRows (if b then [] else rows)
unfolding IsStrictlySortedBy
none_or true rows rise = tt
none_or false rows rise = rise

none_or_room : (b : Bool) (rows : List StoreRow) → HaveRoom rows → HaveRoom (if b then [] else rows)
none_or_room true rows room = tt
none_or_room false rows room = room

-- the rows with which a batch begins
pub rise_cleared : (clear : Bool) (rows given : List StoreRow) → AreRows rows → given ≡ (if clear then [] else rows) → AreRows given
rise_cleared clear rows given rise is = subst AreRows (sym is) (none_or clear rows rise)

pub most_cleared : (clear : Bool) (rows given : List StoreRow) → given ≡ (if clear then [] else rows) → length given ≤ length rows
most_cleared true rows given is = let none : length given ≡ 0 = ap length is in omega (arith, none)
most_cleared false rows given is = let same : length given ≡ length rows = ap length is in omega (arith, same)

pub rise_applied : (batch : ChangeList) (rows : List StoreRow) → AreRows rows → AreRows (applied batch rows)
rise_applied batch rows rise = rise_all batch.changes (if batch.clear then [] else rows) (none_or batch.clear rows rise)

pub room_applied : (batch : ChangeList) (rows : List StoreRow) → IsBatch batch → HaveRoom rows → HaveRoom (applied batch rows)
room_applied batch rows rules room = room_all batch.changes (if batch.clear then [] else rows) rules.room (none_or_room batch.clear rows room)

-- the same of what a call gives
pub room_given : (batch : ChangeList) (rows given : List StoreRow) → IsBatch batch → HaveRoom rows → given ≡ applied batch rows → HaveRoom given
room_given batch rows given rules room is = subst HaveRoom (sym is) (room_applied batch rows rules room)

pub no_rows : (rows : List StoreRow) → rows ≡ [] → AreRows rows
unfolding IsStrictlySortedBy
no_rows rows none = subst AreRows (sym none) tt

pub rise_given_batch : (batch : ChangeList) (rows given : List StoreRow) → AreRows rows → given ≡ applied batch rows → AreRows given
rise_given_batch batch rows given rise is = subst AreRows (sym is) (rise_applied batch rows rise)
