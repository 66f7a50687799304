-- A row of sorted rows, and those on both sides of it.
use Rattle.std.proofs.Common.{Less, Equal, Greater, ◌≡◌, ◌≢◌, ◌+◌, ℕ, true, false, List, [], ◌∷◌, ◌++◌, Some, None, map, length, eqb, refl, sym, ap, ◌∙◌, subst, arith}
use Rattle.std.proofs.lemmas.Bool.{eqb-true, eqb-false}
use Rattle.std.proofs.lemmas.List.{length-append, append-nil}
use Rattle.std.specs.List.Sorted.{IsStrictlySortedBy}
use Rattle.std.specs.Ordering.{match_ordering}
use Rattle.row_batches.specs.Places.{AreAbove, AreBelow}
use Rattle.row_batches.specs.Rows.{AreRows, key_cmp, key_of, value_of, with_row, without_key, after_change, key_in}
use Rattle.row_batches.specs.declared.change.RowChange.{RowChange}
use Rattle.row_batches.specs.declared.change.RowChange.TheVariants.{Put, Delete}
use Rattle.row_batches.specs.declared.store_row.StoreRow.{StoreRow}
use Rattle.row_batches.proofs.Found.{valued, picked, dropped}
use Rattle.sequences.proofs.Texts.{same_texts, turned_up, turned_down, less_trans}
use Rattle.sequences.proofs.Rising.{behind_rises, front_rises}

pub length_around : (below : List StoreRow) (q : StoreRow) (above : List StoreRow) → length (below ++ q ∷ above) ≡ length below + (length above + 1)
length_around below q above = let more = length-append below (q ∷ above) in omega (arith, more)

-- ---- the keys on both sides

above_inner : (key : List ℕ) (below : List StoreRow) (q : StoreRow) (above : List StoreRow) → AreAbove key (map key_of (below ++ q ∷ above)) → key_cmp key q.key ≡ Less
above_inner key [] q above all = all.0
above_inner key (r ∷ below) q above all = above_inner key below q above all.1

sides_below : (below : List StoreRow) (q : StoreRow) (above : List StoreRow) → AreRows (below ++ q ∷ above) → AreBelow q.key (map key_of below)
unfolding IsStrictlySortedBy
sides_below [] q above rise = tt
sides_below (r ∷ below) q above rise = (above_inner r.key below q above rise.0, sides_below below q above rise.1)

below_trans : (a b : List ℕ) (ts : List (List ℕ)) → key_cmp a b ≡ Less → AreBelow a ts → AreBelow b ts
below_trans a b [] less below = tt
below_trans a b (t ∷ ts) less below = (less_trans t a b below.0 less, below_trans a b ts less below.1)

pub rise_front : (rows behind : List StoreRow) → AreRows (rows ++ behind) → AreRows rows
rise_front rows behind rise = front_rises key_of rows behind rise

pub rise_behind : (below : List StoreRow) (q : StoreRow) (above : List StoreRow) → AreRows (below ++ q ∷ above) → AreRows above
unfolding IsStrictlySortedBy
rise_behind [] q above rise = rise.1
rise_behind (r ∷ below) q above rise = rise_behind below q above rise.1

-- ---- rows below a key are passed over

with_past : (r : StoreRow) (below rest : List StoreRow) → AreBelow r.key (map key_of below) → with_row r (below ++ rest) ≡ below ++ with_row r rest
with_past r [] rest all = refl
with_past r (q ∷ below) rest all = picked r q (below ++ rest) Greater (turned_up q.key r.key all.0) ∙ ap (λ l. q ∷ l) (with_past r below rest all.1)

without_past : (key : List ℕ) (below rest : List StoreRow) → AreBelow key (map key_of below) → without_key key (below ++ rest) ≡ below ++ without_key key rest
without_past key [] rest all = refl
without_past key (q ∷ below) rest all = dropped key q (below ++ rest) Greater (turned_up q.key key all.0) ∙ ap (λ l. q ∷ l) (without_past key below rest all.1)

value_past : (key : List ℕ) (below rest : List StoreRow) → AreBelow key (map key_of below) → value_of key (below ++ rest) ≡ value_of key rest
value_past key [] rest all = refl
value_past key (q ∷ below) rest all = valued key q (below ++ rest) Greater (turned_up q.key key all.0) ∙ value_past key below rest all.1

below_less : (key : List ℕ) (below : List StoreRow) (q : StoreRow) (above : List StoreRow) → AreRows (below ++ q ∷ above) → key_cmp key q.key ≡ Greater → AreBelow key (map key_of below)
below_less key below q above rise more = below_trans q.key key (map key_of below) (turned_down key q.key more) (sides_below below q above rise)

below_even : (key : List ℕ) (below : List StoreRow) (q : StoreRow) (above : List StoreRow) → AreRows (below ++ q ∷ above) → key_cmp key q.key ≡ Equal → AreBelow key (map key_of below)
below_even key below q above rise even = subst (λ k. AreBelow k (map key_of below)) (sym (same_texts key q.key even)) (sides_below below q above rise)

-- ---- a row is put on a side, or in the place of this one

with_below : (r : StoreRow) (below : List StoreRow) (q : StoreRow) (above : List StoreRow) → key_cmp r.key q.key ≡ Less → with_row r below ++ q ∷ above ≡ with_row r (below ++ q ∷ above)
with_below r [] q above less = sym (picked r q above Less less)
with_below r (b ∷ below) q above less =
    elim (key_cmp r.key b.key) as (λ o. match_ordering o (r ∷ b ∷ below) (r ∷ below) (b ∷ with_row r below) ++ q ∷ above ≡ match_ordering o (r ∷ b ∷ (below ++ q ∷ above)) (r ∷ (below ++ q ∷ above)) (b ∷ with_row r (below ++ q ∷ above))) [
      | Less ↦ refl
      | Equal ↦ refl
      | Greater ↦ ap (λ l. b ∷ l) (with_below r below q above less)
    ]

pub with_here : (r : StoreRow) (below : List StoreRow) (q : StoreRow) (above : List StoreRow) → AreRows (below ++ q ∷ above) → key_cmp r.key q.key ≡ Equal → below ++ r ∷ above ≡ with_row r (below ++ q ∷ above)
with_here r below q above rise even =
    sym (with_past r below (q ∷ above) (below_even r.key below q above rise even) ∙ ap (λ l. below ++ l) (picked r q above Equal even))

with_above : (r : StoreRow) (below : List StoreRow) (q : StoreRow) (above : List StoreRow) → AreRows (below ++ q ∷ above) → key_cmp r.key q.key ≡ Greater → below ++ q ∷ with_row r above ≡ with_row r (below ++ q ∷ above)
with_above r below q above rise more =
    sym (with_past r below (q ∷ above) (below_less r.key below q above rise more) ∙ ap (λ l. below ++ l) (picked r q above Greater more))

-- ---- a row is deleted on a side, or this one

without_below : (key : List ℕ) (below : List StoreRow) (q : StoreRow) (above : List StoreRow) → key_cmp key q.key ≡ Less → without_key key below ++ q ∷ above ≡ without_key key (below ++ q ∷ above)
without_below key [] q above less = sym (dropped key q above Less less)
without_below key (b ∷ below) q above less =
    elim (key_cmp key b.key) as (λ o. match_ordering o (b ∷ below) below (b ∷ without_key key below) ++ q ∷ above ≡ match_ordering o (b ∷ (below ++ q ∷ above)) (below ++ q ∷ above) (b ∷ without_key key (below ++ q ∷ above))) [
      | Less ↦ refl
      | Equal ↦ refl
      | Greater ↦ ap (λ l. b ∷ l) (without_below key below q above less)
    ]

pub without_here : (key : List ℕ) (below : List StoreRow) (q : StoreRow) (above : List StoreRow) → AreRows (below ++ q ∷ above) → key_cmp key q.key ≡ Equal → below ++ above ≡ without_key key (below ++ q ∷ above)
without_here key below q above rise even =
    sym (without_past key below (q ∷ above) (below_even key below q above rise even) ∙ ap (λ l. below ++ l) (dropped key q above Equal even))

without_above : (key : List ℕ) (below : List StoreRow) (q : StoreRow) (above : List StoreRow) → AreRows (below ++ q ∷ above) → key_cmp key q.key ≡ Greater → below ++ q ∷ without_key key above ≡ without_key key (below ++ q ∷ above)
without_above key below q above rise more =
    sym (without_past key below (q ∷ above) (below_less key below q above rise more) ∙ ap (λ l. below ++ l) (dropped key q above Greater more))

-- ---- a change is taken on a side

pub change_below : (c : RowChange) (below : List StoreRow) (q : StoreRow) (above : List StoreRow) → key_cmp (key_in c) q.key ≡ Less → after_change c below ++ q ∷ above ≡ after_change c (below ++ q ∷ above)
change_below (Put r) below q above less = with_below r below q above less
change_below (Delete key) below q above less = without_below key below q above less

pub change_above : (c : RowChange) (below : List StoreRow) (q : StoreRow) (above : List StoreRow) → AreRows (below ++ q ∷ above) → key_cmp (key_in c) q.key ≡ Greater → below ++ q ∷ after_change c above ≡ after_change c (below ++ q ∷ above)
change_above (Put r) below q above rise more = with_above r below q above rise more
change_above (Delete key) below q above rise more = without_above key below q above rise more

-- ---- a value is looked for on a side, or here

pub value_below : (key : List ℕ) (below : List StoreRow) (q : StoreRow) (above : List StoreRow) → key_cmp key q.key ≡ Less → value_of key below ≡ value_of key (below ++ q ∷ above)
value_below key [] q above less = sym (valued key q above Less less)
value_below key (b ∷ below) q above less =
    elim (key_cmp key b.key) as (λ o. match_ordering o None (Some b.value) (value_of key below) ≡ match_ordering o None (Some b.value) (value_of key (below ++ q ∷ above))) [
      | Less ↦ refl
      | Equal ↦ refl
      | Greater ↦ value_below key below q above less
    ]

pub value_here : (key : List ℕ) (below : List StoreRow) (q : StoreRow) (above : List StoreRow) → AreRows (below ++ q ∷ above) → key_cmp key q.key ≡ Equal → Some q.value ≡ value_of key (below ++ q ∷ above)
value_here key below q above rise even =
    sym (value_past key below (q ∷ above) (below_even key below q above rise even) ∙ valued key q above Equal even)

pub value_above : (key : List ℕ) (below : List StoreRow) (q : StoreRow) (above : List StoreRow) → AreRows (below ++ q ∷ above) → key_cmp key q.key ≡ Greater → value_of key above ≡ value_of key (below ++ q ∷ above)
value_above key below q above rise more =
    sym (value_past key below (q ∷ above) (below_less key below q above rise more) ∙ valued key q above Greater more)

-- ---- rows that all stand in one of two lists

pub rise_back : (listed standing : List StoreRow) → AreRows (listed ++ standing) → AreRows standing
rise_back listed standing rise = behind_rises key_of listed standing rise

pub none_listed : (listed : List StoreRow) (count : ℕ) → count ≡ length listed → eqb count 0 ≡ true → listed ≡ []
none_listed [] count counted is = refl
none_listed (r ∷ listed) count counted is = let zero = eqb-true count 0 is in absurd (omega (arith, zero, counted))

pub some_listed : (listed : List StoreRow) (count : ℕ) → count ≡ length listed → eqb count 0 ≡ false → listed ≢ []
some_listed listed count counted is none = eqb-false count 0 is (counted ∙ ap length none)

pub value_standing : (key : List ℕ) (listed standing : List StoreRow) → listed ≡ [] → value_of key standing ≡ value_of key (listed ++ standing)
value_standing key listed standing none = ap (λ l. value_of key (l ++ standing)) (sym none)

pub value_listed : (key : List ℕ) (listed standing : List StoreRow) → (listed ≢ [] → standing ≡ []) → listed ≢ [] → value_of key listed ≡ value_of key (listed ++ standing)
value_listed key listed standing alone some = ap (value_of key) (sym (ap (λ l. listed ++ l) (alone some) ∙ append-nil listed))
