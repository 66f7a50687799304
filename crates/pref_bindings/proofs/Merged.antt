-- What is read of some rows is all that sound preferences with these rows begin with.
use Rattle.std.proofs.Common.{◌≡◌, ℕ, ◌+◌, ◌<◌, ◌≤◌, true, false, List, [], ◌∷◌, ◌++◌, length, take, drop, get_or, refl, sym, ap, ap₂, ◌∙◌, subst, arith, append_assoc}
use Rattle.std.proofs.lemmas.List.{append-nil, drop_more, drop_all, take_all, take_more, take-append-drop, map-append}
use Rattle.std.proofs.lemmas.Grind.{flat_map-append}
use Rattle.std.specs.List.{AllByRecursion}
use Rattle.std.specs.List.Sorted.{IsStrictlySortedBy}
use Rattle.sequences.proofs.Alls.{all_push, all_behind}
use Rattle.sequences.proofs.Rising.{behind_rises}
use Rattle.row_batches.specs.declared.store_row.StoreRow.{StoreRow}
use Rattle.enrol_states.specs.Order.{Rise, AreAbove}
use Rattle.pref_bindings.specs.declared.preference.Preference.{Preference}
use Rattle.pref_bindings.specs.Preferences.{IsPreference, IsSound, names_of}
use Rattle.pref_bindings.specs.Reading.{AreHolds, AreNone, AreOnly, IsAlone, IsHoldsEnd, IsNoHoldFirst, is_hold}
use Rattle.pref_bindings.specs.Rows.{hold_row, hold_rows, rows_of, value_row, value_rows}
use Rattle.pref_bindings.proofs.OneList.{cons_head, cons_tail, alone, are_holds, no_hold, same_preference, same_split}

-- ---- where the rows of holds end

pub holds_more : (rows : List StoreRow) (i : ℕ) (r : StoreRow) → i < length rows → r ≡ get_or rows i r → is_hold r ≡ true → AreHolds (take i rows) → AreHolds (take (i + 1) rows)
holds_more rows i r within is hold are = subst AreHolds (sym (take_more rows i r within)) (all_push (λ r. is_hold r ≡ true) (take i rows) (get_or rows i r) are (ap is_hold (sym is) ∙ hold))

pub end_here : (rows : List StoreRow) (i : ℕ) (r : StoreRow) → i < length rows → r ≡ get_or rows i r → is_hold r ≡ false → AreHolds (take i rows) → IsHoldsEnd rows i
end_here rows i r within is other are =
    record { within = omega arith; holds = are; others = subst IsNoHoldFirst (sym (drop_more rows i r within)) (ap is_hold (sym is) ∙ other) }

pub end_all : (rows : List StoreRow) (i : ℕ) → i ≡ length rows → AreHolds (take i rows) → IsHoldsEnd rows i
end_all rows i whole are = record { within = omega arith; holds = are; others = subst IsNoHoldFirst (sym (drop_all i rows (omega arith))) tt }

-- ---- one more preference

-- sound preferences whose rows these are begin with those that were read, and have the rows that are left
pub record BeginWith (holds values : List StoreRow) (ps : List Preference) (holds_left values_left : List StoreRow) : Type 0 where
  pub rest : (qs : List Preference) → IsSound qs → holds ≡ hold_rows qs → values ≡ value_rows qs
      → (rs : List Preference) × (qs ≡ ps ++ rs) × (holds_left ≡ hold_rows rs) × (values_left ≡ value_rows rs)

pub begin : (holds values : List StoreRow) → BeginWith holds values [] holds values
begin holds values = record { rest = λ qs sound h v. (qs, refl, h, v) }

sound_behind : (ps qs : List Preference) → IsSound (ps ++ qs) → IsSound qs
sound_behind ps qs sound = record { names = behind_rises (λ (p : Preference). p.name) ps qs sound.names; each = all_behind IsPreference ps qs sound.each }

first_above : (p : Preference) (ps : List Preference) → IsSound (p ∷ ps) → AreAbove p.name (names_of ps)
unfolding IsStrictlySortedBy
first_above p ps sound = sound.names.0

pub begin_more : (holds values : List StoreRow) (ps : List Preference) (holds_left values_left : List StoreRow) (row : StoreRow) (p : Preference) (rest : List StoreRow)
    → BeginWith holds values ps holds_left (row ∷ values_left) → row ≡ value_row p → holds_left ≡ hold_row p.name p.hold ++ rest → IsPreference p → IsAlone p.name p.hold rest
    → BeginWith holds values (ps ++ p ∷ []) rest values_left
begin_more holds values ps holds_left values_left row p rest before is_row is_hold_rows is_sound is_alone = record { rest = after }
  where
    more : (qs rs : List Preference) → IsSound qs → qs ≡ ps ++ rs → holds_left ≡ hold_rows rs → row ∷ values_left ≡ value_rows rs
        → (ss : List Preference) × (qs ≡ (ps ++ p ∷ []) ++ ss) × (rest ≡ hold_rows ss) × (values_left ≡ value_rows ss)
    more qs [] sound is h v = absurd (cc)
    more qs (r ∷ ss) sound is h v =
        let head : row ≡ value_row r = cons_head v in
        let tail : values_left ≡ value_rows ss = cons_tail v in
        let sound_rest : IsSound (r ∷ ss) = sound_behind ps (r ∷ ss) (subst IsSound is sound) in
        let same = same_preference p r rest (hold_rows ss) is_sound sound_rest.each.0 is_alone (alone r ss (first_above r ss sound_rest)) (sym is_row ∙ head) (sym is_hold_rows ∙ h) in
        (ss, is ∙ ap (λ (x : Preference). ps ++ x ∷ ss) (sym same.0) ∙ sym (append_assoc ps (p ∷ []) ss), same.1, tail)

    after : (qs : List Preference) → IsSound qs → holds ≡ hold_rows qs → values ≡ value_rows qs
        → (ss : List Preference) × (qs ≡ (ps ++ p ∷ []) ++ ss) × (rest ≡ hold_rows ss) × (values_left ≡ value_rows ss)
    after qs sound h v = let found = before.rest qs sound h v in more qs found.0 sound found.1 found.2 found.3

-- where no preference has the next rows, none have them all
pub none_next : (holds values : List StoreRow) (ps : List Preference) (holds_left values_left : List StoreRow) (row : StoreRow)
    → BeginWith holds values ps holds_left (row ∷ values_left)
    → ((p : Preference) (rest : List StoreRow) → IsPreference p → IsAlone p.name p.hold rest → row ≡ value_row p → holds_left ≡ hold_row p.name p.hold ++ rest → ⊥)
    → AreNone holds values
none_next holds values ps holds_left values_left row before none qs sound h v = let found = before.rest qs sound h v in at found.0 found.1 found.2 found.3
  where
    at : (rs : List Preference) → qs ≡ ps ++ rs → holds_left ≡ hold_rows rs → row ∷ values_left ≡ value_rows rs → ⊥
    at [] is h_left v_left = absurd (cc)
    at (r ∷ rs) is h_left v_left =
        let head : row ≡ value_row r = cons_head v_left in
        let sound_rest : IsSound (r ∷ rs) = sound_behind ps (r ∷ rs) (subst IsSound is sound) in
        none r (hold_rows rs) sound_rest.each.0 (alone r rs (first_above r rs sound_rest)) head h_left

-- where no value is left, they are those that were read
pub only_whole : (holds values : List StoreRow) (ps : List Preference) (holds_left : List StoreRow) → BeginWith holds values ps holds_left [] → AreOnly holds values ps
only_whole holds values ps holds_left before qs sound h v = let found = before.rest qs sound h v in at found.0 found.1 found.3
  where
    at : (rs : List Preference) → qs ≡ ps ++ rs → [] ≡ value_rows rs → qs ≡ ps
    at [] is none = is ∙ append-nil ps
    at (r ∷ rs) is none = absurd (cc)

-- and no hold is left
pub none_left : (holds values : List StoreRow) (ps : List Preference) (holds_left : List StoreRow) → BeginWith holds values ps holds_left [] → (holds_left ≡ [] → ⊥) → AreNone holds values
none_left holds values ps holds_left before some qs sound h v = let found = before.rest qs sound h v in at found.0 found.2 found.3
  where
    at : (rs : List Preference) → holds_left ≡ hold_rows rs → [] ≡ value_rows rs → ⊥
    at [] h_left none = some h_left
    at (r ∷ rs) h_left none = absurd (cc)

-- ---- all rows

pub parts_of_rows : (rows : List StoreRow) (i : ℕ) (ps : List Preference) → IsHoldsEnd rows i → rows ≡ rows_of ps → (take i rows ≡ hold_rows ps) × (drop i rows ≡ value_rows ps)
parts_of_rows rows i ps at same = same_split (take i rows) (drop i rows) (hold_rows ps) (value_rows ps) at.holds at.others (are_holds ps) (no_hold ps) (take-append-drop i rows ∙ same)

pub whole_given : (rows : List StoreRow) (i : ℕ) (ps : List Preference) → take i rows ≡ hold_rows ps → drop i rows ≡ value_rows ps → rows ≡ rows_of ps
whole_given rows i ps holds values = sym (take-append-drop i rows) ∙ ap₂ (λ (x y : List StoreRow). x ++ y) holds values

pub none_given : (rows : List StoreRow) (i : ℕ) → IsHoldsEnd rows i → AreNone (take i rows) (drop i rows) → (ps : List Preference) → IsSound ps → rows ≡ rows_of ps → ⊥
none_given rows i at none ps sound same = let parts = parts_of_rows rows i ps at same in none ps sound parts.0 parts.1

-- ---- order

pub sound_given : (ps : List Preference) → AllByRecursion IsPreference ps → Rise (names_of ps) → IsSound ps
sound_given ps each rise = record { names = rise; each = each }

pub none_in_order : (holds values : List StoreRow) (ps : List Preference) → AreOnly holds values ps → (Rise (names_of ps) → ⊥) → AreNone holds values
none_in_order holds values ps only falls qs sound h v = falls (subst (λ (l : List Preference). Rise (names_of l)) (only qs sound h v) sound.names)

-- ---- a walk

-- what was read of the first i values, and the rows of holds that are left
pub record IsMerged (holds values : List StoreRow) (ps : List Preference) (holds_left : List StoreRow) (i : ℕ) : Type 0 where
  pub read_values : take i values ≡ value_rows ps
  pub read_holds : holds ≡ hold_rows ps ++ holds_left
  pub each : AllByRecursion IsPreference ps
  pub begins : BeginWith holds values ps holds_left (drop i values)

pub merged_start : (holds values : List StoreRow) → IsMerged holds values [] holds 0
merged_start holds values = record { read_values = refl; read_holds = refl; each = tt; begins = begin holds values }

begins_at : (holds values : List StoreRow) (ps : List Preference) (holds_left : List StoreRow) (i : ℕ) (row : StoreRow) → i < length values → row ≡ get_or values i row
    → BeginWith holds values ps holds_left (drop i values) → BeginWith holds values ps holds_left (row ∷ drop (i + 1) values)
begins_at holds values ps holds_left i row within is begins =
    subst (BeginWith holds values ps holds_left) (drop_more values i row within ∙ ap (λ (r : StoreRow). r ∷ drop (i + 1) values) (sym is)) begins

pub merged_more : (holds values : List StoreRow) (ps : List Preference) (holds_left : List StoreRow) (i : ℕ) (row : StoreRow) (p : Preference) (rest : List StoreRow) (given : List Preference)
    → IsMerged holds values ps holds_left i → i < length values → row ≡ get_or values i row → row ≡ value_row p → holds_left ≡ hold_row p.name p.hold ++ rest → IsPreference p
    → IsAlone p.name p.hold rest → given ≡ ps ++ p ∷ [] → IsMerged holds values given rest (i + 1)
merged_more holds values ps holds_left i row p rest given before within is is_row is_hold_rows sound is_alone is_given =
    subst (λ (l : List Preference). IsMerged holds values l rest (i + 1)) (sym is_given) (record {
      read_values = take_more values i row within ∙ ap₂ (λ (x : List StoreRow) (r : StoreRow). x ++ r ∷ []) before.read_values (sym is ∙ is_row) ∙ sym (map-append value_row ps (p ∷ []));
      read_holds =
          before.read_holds ∙ ap (λ (l : List StoreRow). hold_rows ps ++ l) is_hold_rows ∙ sym (append_assoc (hold_rows ps) (hold_row p.name p.hold) rest)
          ∙ ap (λ (l : List StoreRow). l ++ rest) (sym (flat_map-append (λ (q : Preference). hold_row q.name q.hold) ps (p ∷ []) ∙ ap (λ (l : List StoreRow). hold_rows ps ++ l) (append-nil (hold_row p.name p.hold))));
      each = all_push IsPreference ps p before.each sound;
      begins = begin_more holds values ps holds_left (drop (i + 1) values) row p rest (begins_at holds values ps holds_left i row within is before.begins) is_row is_hold_rows sound is_alone;
    })

pub merged_none : (holds values : List StoreRow) (ps : List Preference) (holds_left : List StoreRow) (i : ℕ) (row : StoreRow) → IsMerged holds values ps holds_left i → i < length values
    → row ≡ get_or values i row
    → ((p : Preference) (rest : List StoreRow) → IsPreference p → IsAlone p.name p.hold rest → row ≡ value_row p → holds_left ≡ hold_row p.name p.hold ++ rest → ⊥)
    → AreNone holds values
merged_none holds values ps holds_left i row before within is none =
    none_next holds values ps holds_left (drop (i + 1) values) row (begins_at holds values ps holds_left i row within is before.begins) none

begins_whole : (holds values : List StoreRow) (ps : List Preference) (holds_left : List StoreRow) (i : ℕ) → length values ≤ i → BeginWith holds values ps holds_left (drop i values) → BeginWith holds values ps holds_left []
begins_whole holds values ps holds_left i whole begins = subst (BeginWith holds values ps holds_left) (drop_all i values whole) begins

pub merged_left : (holds values : List StoreRow) (ps : List Preference) (holds_left : List StoreRow) (i : ℕ) → IsMerged holds values ps holds_left i → length values ≤ i → (holds_left ≡ [] → ⊥) → AreNone holds values
merged_left holds values ps holds_left i before whole some = none_left holds values ps holds_left (begins_whole holds values ps holds_left i whole before.begins) some

pub merged_only : (holds values : List StoreRow) (ps : List Preference) (holds_left : List StoreRow) (i : ℕ) → IsMerged holds values ps holds_left i → length values ≤ i → AreOnly holds values ps
merged_only holds values ps holds_left i before whole = only_whole holds values ps holds_left (begins_whole holds values ps holds_left i whole before.begins)

pub merged_values : (holds values : List StoreRow) (ps : List Preference) (holds_left : List StoreRow) (i : ℕ) → IsMerged holds values ps holds_left i → length values ≤ i → values ≡ value_rows ps
merged_values holds values ps holds_left i before whole = sym (take_all i values whole) ∙ before.read_values

pub merged_holds : (holds values : List StoreRow) (ps : List Preference) (holds_left : List StoreRow) (i : ℕ) → IsMerged holds values ps holds_left i → holds_left ≡ [] → holds ≡ hold_rows ps
merged_holds holds values ps holds_left i before none = before.read_holds ∙ ap (λ (l : List StoreRow). hold_rows ps ++ l) none ∙ append-nil (hold_rows ps)
