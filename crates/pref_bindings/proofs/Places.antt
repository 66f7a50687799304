-- The preference of a name, found by a search, and the preferences with one more or one less.
use Rattle.std.proofs.Common.{Ordering, ◌≡◌, ℕ, zero, suc, ◌<◌, Bool, true, false, List, [], ◌∷◌, length, get_or, take, drop, Option, Some, None, Less, Equal, Greater, Err, refl, sym, ap, ◌∙◌, subst, arith}
use Rattle.std.specs.Prelude.{bytes_eq, option_and_then, option_map, slice_set, if◌then◌else◌}
use Rattle.std.specs.List.{HoldsAt, insert, remove}
use Rattle.std.specs.List.Sorted.{IsStrictlySortedBy, IsBinarySearchResult}
use Rattle.std.specs.Ordering.{match_ordering}
use Rattle.recipe_reader.specs.Payloads.{slug_cmp}
use Rattle.enrol_states.specs.Order.{Rise, AreAbove, AreBelow}
use Rattle.enrol_states.proofs.Ordered.{order_by, equal_texts, same_texts, lesser_texts, greater_texts, turned_up, text_at, place_searched}
use Rattle.pref_bindings.specs.declared.preference.Preference.{Preference}
use Rattle.pref_bindings.specs.Preferences.{found, names_of}
use Rattle.pref_bindings.specs.Changes.{with_preference, without_name}
use Rattle.pref_bindings.proofs.Order.{name_of, turned_even}

-- ---- one step of each search

pub found_step : (name : List ℕ) (p : Preference) (ps : List Preference) (b : Bool) → bytes_eq p.name name ≡ b → found name (p ∷ ps) ≡ (if b then Some p else found name ps)
found_step name p ps b e = ap (λ c. if c then Some p else found name ps) e

pub with_step : (q p : Preference) (ps : List Preference) (o : Ordering) → slug_cmp q.name p.name ≡ o → with_preference q (p ∷ ps) ≡ match_ordering o (q ∷ p ∷ ps) (q ∷ ps) (p ∷ with_preference q ps)
with_step q p ps o e = ap (λ c. match_ordering c (q ∷ p ∷ ps) (q ∷ ps) (p ∷ with_preference q ps)) e

pub without_step : (name : List ℕ) (p : Preference) (ps : List Preference) (o : Ordering) → slug_cmp name p.name ≡ o → without_name name (p ∷ ps) ≡ match_ordering o (p ∷ ps) ps (p ∷ without_name name ps)
without_step name p ps o e = ap (λ c. match_ordering c (p ∷ ps) ps (p ∷ without_name name ps)) e

-- the slug that holds what a search finds
abbrev pub holder_in : Option Preference → Option (List ℕ)
holder_in o = option_and_then (λ p. option_map (λ h. h.holder) p.hold) o

-- ---- the preference at a place has the name

below_it : (name : List ℕ) (p : Preference) (ps : List Preference) (i : ℕ) (d : Preference) → i < length ps → AreAbove p.name (names_of ps) → slug_cmp (get_or ps i d).name name ≡ Equal → slug_cmp p.name name ≡ Less
below_it name p ps i d less above e =
    subst (λ t. slug_cmp p.name t ≡ Less) (same_texts (get_or ps i d).name name e) (text_at (λ t. slug_cmp p.name t ≡ Less) name_of ps i d less above)

pub found-at : (name : List ℕ) (ps : List Preference) (i : ℕ) (d : Preference) → i < length ps → Rise (names_of ps) → slug_cmp (get_or ps i d).name name ≡ Equal → found name ps ≡ Some (get_or ps i d)
unfolding IsStrictlySortedBy
found-at name [] i d less rise e = absurd (omega arith)
found-at name (p ∷ ps) zero d less rise e = found_step name p ps true (equal_texts p.name name e)
found-at name (p ∷ ps) (suc i) d less rise e =
    found_step name p ps false (lesser_texts p.name name (below_it name p ps i d (omega arith) rise.0 e)) ∙ found-at name ps i d (omega arith) rise.1 e

pub with-at : (q : Preference) (ps : List Preference) (i : ℕ) (d : Preference) → i < length ps → Rise (names_of ps) → slug_cmp (get_or ps i d).name q.name ≡ Equal → slice_set ps i q ≡ with_preference q ps
unfolding IsStrictlySortedBy
with-at q [] i d less rise e = absurd (omega arith)
with-at q (p ∷ ps) zero d less rise e = sym (with_step q p ps Equal (turned_even p.name q.name e))
with-at q (p ∷ ps) (suc i) d less rise e =
    ap (λ (l : List Preference). p ∷ l) (with-at q ps i d (omega arith) rise.1 e) ∙ sym (with_step q p ps Greater (turned_up p.name q.name (below_it q.name p ps i d (omega arith) rise.0 e)))

pub without-at : (name : List ℕ) (ps : List Preference) (i : ℕ) (d : Preference) → i < length ps → Rise (names_of ps) → slug_cmp (get_or ps i d).name name ≡ Equal → remove ps i ≡ without_name name ps
unfolding IsStrictlySortedBy
without-at name [] i d less rise e = absurd (omega arith)
without-at name (p ∷ ps) zero d less rise e = sym (without_step name p ps Equal (turned_even p.name name e))
without-at name (p ∷ ps) (suc i) d less rise e =
    ap (λ (l : List Preference). p ∷ l) (without-at name ps i d (omega arith) rise.1 e) ∙ sym (without_step name p ps Greater (turned_up p.name name (below_it name p ps i d (omega arith) rise.0 e)))

-- ---- no preference has the name

pub found_above : (name : List ℕ) (ps : List Preference) → AreAbove name (names_of ps) → found name ps ≡ None
found_above name [] above = refl
found_above name (p ∷ ps) above = found_step name p ps false (greater_texts p.name name (turned_up name p.name above.0)) ∙ found_above name ps above.1

found_place : (name : List ℕ) (ps : List Preference) (i : ℕ) → AreBelow name (take i (names_of ps)) → AreAbove name (drop i (names_of ps)) → found name ps ≡ None
found_place name [] i below above = refl
found_place name (p ∷ ps) zero below above = found_above name (p ∷ ps) above
found_place name (p ∷ ps) (suc i) below above = found_step name p ps false (lesser_texts p.name name below.0) ∙ found_place name ps i below.1 above

with_place : (q : Preference) (ps : List Preference) (i : ℕ) → AreBelow q.name (take i (names_of ps)) → AreAbove q.name (drop i (names_of ps)) → insert ps i q ≡ with_preference q ps
with_place q [] zero below above = refl
with_place q [] (suc i) below above = refl
with_place q (p ∷ ps) zero below above = sym (with_step q p ps Less above.0)
with_place q (p ∷ ps) (suc i) below above = ap (λ (l : List Preference). p ∷ l) (with_place q ps i below.1 above) ∙ sym (with_step q p ps Greater (turned_up p.name q.name below.0))

without_place : (name : List ℕ) (ps : List Preference) (i : ℕ) → AreBelow name (take i (names_of ps)) → AreAbove name (drop i (names_of ps)) → ps ≡ without_name name ps
without_place name [] i below above = refl
without_place name (p ∷ ps) zero below above = sym (without_step name p ps Less above.0)
without_place name (p ∷ ps) (suc i) below above = ap (λ (l : List Preference). p ∷ l) (without_place name ps i below.1 above) ∙ sym (without_step name p ps Greater (turned_up p.name name below.0))

-- what a search that finds none says
pub found_missed : (name : List ℕ) (ps : List Preference) (i : ℕ) → Rise (names_of ps) → IsBinarySearchResult (order_by name_of name) ps (Err i) → found name ps ≡ None
found_missed name ps i rise h = let at = place_searched name_of name ps i rise h in found_place name ps i at.below at.above

pub with_missed : (q : Preference) (ps : List Preference) (i : ℕ) → Rise (names_of ps) → IsBinarySearchResult (order_by name_of q.name) ps (Err i) → insert ps i q ≡ with_preference q ps
with_missed q ps i rise h = let at = place_searched name_of q.name ps i rise h in with_place q ps i at.below at.above

pub without_missed : (name : List ℕ) (ps : List Preference) (i : ℕ) → Rise (names_of ps) → IsBinarySearchResult (order_by name_of name) ps (Err i) → ps ≡ without_name name ps
without_missed name ps i rise h = let at = place_searched name_of name ps i rise h in without_place name ps i at.below at.above

-- what a search that finds one says, where there is no other to take as the default
pub without_there : (name : List ℕ) (ps : List Preference) (i : ℕ) → i < length ps → Rise (names_of ps) → HoldsAt (λ p. order_by name_of name p ≡ Equal) ps i → remove ps i ≡ without_name name ps
without_there name [] i less rise here = absurd (omega arith)
without_there name (p ∷ ps) i less rise here = without-at name (p ∷ ps) i p less rise (here p)
