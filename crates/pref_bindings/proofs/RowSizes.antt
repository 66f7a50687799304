-- How many bytes the puts of preferences' rows have.
use Rattle.std.proofs.Common.{Ordering, Less, Equal, Greater, true, false, ◌≡◌, ◌+◌, ◌<◌, ◌≤◌, ◌++◌, ◌∷◌, [], List, ℕ, zero, suc, length, length-append, get_or, take, Option, Some, None, refl, ap, ◌∙◌, sym, arith}
use Rattle.std.specs.List.Sorted.{IsStrictlySortedBy}
use Rattle.std.proofs.lemmas.List.{take_more}
use Rattle.recipe_reader.specs.Payloads.{slug_cmp}
use Rattle.enrol_states.specs.Order.{Rise, AreAbove}
use Rattle.enrol_states.proofs.Ordered.{above_trans, equal_texts, lesser_texts, turned_down}
use Rattle.row_batches.proofs.Sizes.{put_size, puts_size-append}
use Rattle.row_batches.specs.Batch.{puts_text}
use Rattle.pref_bindings.specs.declared.preference.Hold.{Hold}
use Rattle.pref_bindings.specs.declared.preference.Preference.{Preference}
use Rattle.pref_bindings.specs.Changes.{with_preference, without_name}
use Rattle.pref_bindings.specs.Preferences.{found, names_of}
use Rattle.pref_bindings.specs.Rows.{before_text, hold_row, hold_rows, rows_of, value_row, value_rows}
use Rattle.pref_bindings.specs.Sizes.{hold_row_size, preference_size}
use Rattle.pref_bindings.proofs.Order.{turned_even}
use Rattle.pref_bindings.proofs.Places.{found_above, found_step, with_step, without_step}

-- the rows of all preferences
abbrev pub preferences_size : List Preference → ℕ
preferences_size [] = 0
preferences_size (p ∷ ps) = preference_size p + preferences_size ps

hold_put_size : (name : List ℕ) (h : Option Hold) → length (puts_text (hold_row name h)) ≡ hold_row_size (length name) h
hold_put_size name None = refl
hold_put_size name (Some h) =
    omega (arith, put_size (record { key = 104 ∷ name; value = length h.holder ∷ (h.holder ++ before_text h.before) }) [], length-append h.holder (before_text h.before))

holds_then_values : (ps : List Preference) → length (puts_text (hold_rows ps)) + length (puts_text (value_rows ps)) ≡ preferences_size ps
holds_then_values [] = refl
holds_then_values (p ∷ ps) =
    omega (arith, puts_size-append (hold_row p.name p.hold) (hold_rows ps), hold_put_size p.name p.hold, put_size (value_row p) (value_rows ps), holds_then_values ps)

pub rows_size : (ps : List Preference) → length (puts_text (rows_of ps)) ≡ preferences_size ps
rows_size ps = puts_size-append (hold_rows ps) (value_rows ps) ∙ holds_then_values ps

size-append : (ps qs : List Preference) → preferences_size (ps ++ qs) ≡ preferences_size ps + preferences_size qs
size-append [] qs = omega arith
size-append (p ∷ ps) qs = omega (arith, size-append ps qs)

pub size_more : (ps : List Preference) (i : ℕ) (p : Preference) → i < length ps → p ≡ get_or ps i p → preferences_size (take (i + 1) ps) ≡ preferences_size (take i ps) + preference_size p
size_more ps i p within is =
    ap preferences_size (take_more ps i p within) ∙ size-append (take i ps) (get_or ps i p ∷ []) ∙ ap (λ q. preferences_size (take i ps) + (preference_size q + 0)) (sym is)
    ∙ omega arith

size_whole : (ps : List Preference) (i : ℕ) → preferences_size (take i ps) ≤ preferences_size ps
size_whole ps zero = omega arith
size_whole [] (suc i) = omega arith
size_whole (p ∷ ps) (suc i) = omega (arith, size_whole ps i)

-- one that has no room left behind those before it
pub size_front : (ps : List Preference) (i : ℕ) (p : Preference) → i < length ps → p ≡ get_or ps i p → preferences_size (take i ps) + preference_size p ≤ preferences_size ps
size_front ps i p within is = omega (arith, size_more ps i p within is, size_whole ps (i + 1))

-- ---- with one more, or one less

abbrev found_size : Option Preference → ℕ
found_size None = 0
found_size (Some p) = preference_size p

without_at : (o : Ordering) (name : List ℕ) (p : Preference) (ps : List Preference) → slug_cmp name p.name ≡ o → AreAbove p.name (names_of ps) → preferences_size (without_name name ps) + found_size (found name ps) ≡ preferences_size ps
    → preferences_size (without_name name (p ∷ ps)) + found_size (found name (p ∷ ps)) ≡ preferences_size (p ∷ ps)
without_at Less name p ps e above rest =
    let others : preferences_size (without_name name (p ∷ ps)) ≡ preference_size p + preferences_size ps = ap preferences_size (without_step name p ps Less e) in
    let none : found_size (found name (p ∷ ps)) ≡ 0 = ap found_size (found_above name (p ∷ ps) (e, above_trans name p.name (names_of ps) e above)) in
    omega (arith, others, none)
without_at Equal name p ps e above rest =
    let others : preferences_size (without_name name (p ∷ ps)) ≡ preferences_size ps = ap preferences_size (without_step name p ps Equal e) in
    let one : found_size (found name (p ∷ ps)) ≡ preference_size p = ap found_size (found_step name p ps true (equal_texts p.name name (turned_even name p.name e))) in
    omega (arith, others, one)
without_at Greater name p ps e above rest =
    let others : preferences_size (without_name name (p ∷ ps)) ≡ preference_size p + preferences_size (without_name name ps) = ap preferences_size (without_step name p ps Greater e) in
    let behind : found_size (found name (p ∷ ps)) ≡ found_size (found name ps) = ap found_size (found_step name p ps false (lesser_texts p.name name (turned_down name p.name e))) in
    omega (arith, others, behind, rest)

without_size : (name : List ℕ) (ps : List Preference) → Rise (names_of ps) → preferences_size (without_name name ps) + found_size (found name ps) ≡ preferences_size ps
unfolding IsStrictlySortedBy
without_size name [] rise = refl
without_size name (p ∷ ps) rise = without_at (slug_cmp name p.name) name p ps refl rise.0 (without_size name ps rise.1)

with_at : (o : Ordering) (q p : Preference) (ps : List Preference) → slug_cmp q.name p.name ≡ o → preferences_size (with_preference q ps) ≡ preferences_size (without_name q.name ps) + preference_size q
    → preferences_size (with_preference q (p ∷ ps)) ≡ preferences_size (without_name q.name (p ∷ ps)) + preference_size q
with_at Less q p ps e rest =
    let more : preferences_size (with_preference q (p ∷ ps)) ≡ preference_size q + (preference_size p + preferences_size ps) = ap preferences_size (with_step q p ps Less e) in
    let others : preferences_size (without_name q.name (p ∷ ps)) ≡ preference_size p + preferences_size ps = ap preferences_size (without_step q.name p ps Less e) in
    omega (arith, more, others)
with_at Equal q p ps e rest =
    let more : preferences_size (with_preference q (p ∷ ps)) ≡ preference_size q + preferences_size ps = ap preferences_size (with_step q p ps Equal e) in
    let others : preferences_size (without_name q.name (p ∷ ps)) ≡ preferences_size ps = ap preferences_size (without_step q.name p ps Equal e) in
    omega (arith, more, others)
with_at Greater q p ps e rest =
    let more : preferences_size (with_preference q (p ∷ ps)) ≡ preference_size p + preferences_size (with_preference q ps) = ap preferences_size (with_step q p ps Greater e) in
    let others : preferences_size (without_name q.name (p ∷ ps)) ≡ preference_size p + preferences_size (without_name q.name ps) = ap preferences_size (without_step q.name p ps Greater e) in
    omega (arith, more, others, rest)

with_size : (q : Preference) (ps : List Preference) → preferences_size (with_preference q ps) ≡ preferences_size (without_name q.name ps) + preference_size q
with_size q [] = omega arith
with_size q (p ∷ ps) = with_at (slug_cmp q.name p.name) q p ps refl (with_size q ps)

-- the rows of the others, and of the one of the name
pub others_size : (name : List ℕ) (ps : List Preference) (p : Preference) → Rise (names_of ps) → Some p ≡ found name ps → length (puts_text (rows_of (without_name name ps))) + preference_size p ≡ length (puts_text (rows_of ps))
others_size name ps p rise there =
    let all : preferences_size (without_name name ps) + preference_size p ≡ preferences_size ps = ap (λ o. preferences_size (without_name name ps) + found_size o) there ∙ without_size name ps rise in
    omega (arith, all, rows_size ps, rows_size (without_name name ps))

pub none_size : (name : List ℕ) (ps : List Preference) → Rise (names_of ps) → None ≡ found name ps → length (puts_text (rows_of (without_name name ps))) ≡ length (puts_text (rows_of ps))
none_size name ps rise there =
    let all : preferences_size (without_name name ps) + 0 ≡ preferences_size ps = ap (λ o. preferences_size (without_name name ps) + found_size o) there ∙ without_size name ps rise in
    omega (arith, all, rows_size ps, rows_size (without_name name ps))

pub with_rows : (q : Preference) (ps : List Preference) → length (puts_text (rows_of (with_preference q ps))) ≡ length (puts_text (rows_of (without_name q.name ps))) + preference_size q
with_rows q ps = omega (arith, with_size q ps, rows_size (with_preference q ps), rows_size (without_name q.name ps))
