-- What is made of sound preferences is sound.
use Rattle.std.proofs.Common.{Ordering, Less, Equal, Greater, ◌≡◌, ℕ, Bool, true, false, List, [], ◌∷◌, ◌++◌, Option, None, Some, IsTrue, refl, sym, subst}
use Rattle.std.specs.Prelude.{if◌then◌else◌}
use Rattle.std.specs.List.{AllByRecursion}
use Rattle.std.specs.List.Sorted.{IsStrictlySortedBy}
use Rattle.std.specs.Ordering.{match_ordering}
use Rattle.json_tree.specs.declared.tree.Tree.{Tree}
use Rattle.plain_text.specs.Names.{is_name}
use Rattle.recipe_reader.specs.Payloads.{slug_cmp}
use Rattle.enrol_states.specs.Order.{Rise, AreAbove}
use Rattle.enrol_states.specs.Statuses.{IsSlug}
use Rattle.enrol_states.proofs.Ordered.{same_texts, turned_down, above_trans}
use Rattle.pref_bindings.specs.declared.preference.Hold.{Hold}
use Rattle.pref_bindings.specs.declared.preference.Preference.{Preference}
use Rattle.pref_bindings.specs.Preferences.{IsHold, IsPreference, IsSound, IsValue, IsValueOrNone, names_of}
use Rattle.pref_bindings.specs.Changes.{AreSettings, IsSetting, Setting, is_held, held_by, joined_at, joined_one, joined, holds, left, restored, set_value, users_part, with_preference, without_name}
use Rattle.pref_bindings.proofs.Order.{above_same}
use Rattle.pref_bindings.proofs.Parts.{restored_most, rise_parts}

abbrev Each : List Preference → Type 0
Each ps = AllByRecursion IsPreference ps

pub none_sound : IsSound []
unfolding IsStrictlySortedBy
none_sound = record { names = tt; each = tt }

-- ---- with one more, or one less

above_with : (a : List ℕ) (q : Preference) (ps : List Preference) → slug_cmp a q.name ≡ Less → AreAbove a (names_of ps) → AreAbove a (names_of (with_preference q ps))
above_with a q [] less above = (less, tt)
above_with a q (p ∷ ps) less above =
    elim (slug_cmp q.name p.name) as (λ o. AreAbove a (names_of (match_ordering o (q ∷ p ∷ ps) (q ∷ ps) (p ∷ with_preference q ps)))) [
      | Less ↦ (less, above)
      | Equal ↦ (less, above.1)
      | Greater ↦ (above.0, above_with a q ps less above.1)
    ]

with_at : (q p : Preference) (ps : List Preference) (o : Ordering) → slug_cmp q.name p.name ≡ o → Rise (names_of (p ∷ ps)) → Rise (names_of (with_preference q ps))
    → Rise (names_of (match_ordering o (q ∷ p ∷ ps) (q ∷ ps) (p ∷ with_preference q ps)))
unfolding IsStrictlySortedBy
with_at q p ps Less e rise rest = ((e, above_trans q.name p.name (names_of ps) e rise.0), rise)
with_at q p ps Equal e rise rest = (above_same p.name q.name (names_of ps) (sym (same_texts q.name p.name e)) rise.0, rise.1)
with_at q p ps Greater e rise rest = (above_with p.name q ps (turned_down q.name p.name e) rise.0, rest)

pub rise_with : (q : Preference) (ps : List Preference) → Rise (names_of ps) → Rise (names_of (with_preference q ps))
unfolding IsStrictlySortedBy
rise_with q [] rise = (tt, tt)
rise_with q (p ∷ ps) rise = with_at q p ps (slug_cmp q.name p.name) refl rise (rise_with q ps rise.1)

each_with : (q : Preference) (ps : List Preference) → IsPreference q → Each ps → Each (with_preference q ps)
each_with q [] is each = (is, tt)
each_with q (p ∷ ps) is each =
    elim (slug_cmp q.name p.name) as (λ o. Each (match_ordering o (q ∷ p ∷ ps) (q ∷ ps) (p ∷ with_preference q ps))) [
      | Less ↦ (is, each)
      | Equal ↦ (is, each.1)
      | Greater ↦ (each.0, each_with q ps is each.1)
    ]

above_without : (a name : List ℕ) (ps : List Preference) → AreAbove a (names_of ps) → AreAbove a (names_of (without_name name ps))
above_without a name [] above = tt
above_without a name (p ∷ ps) above =
    elim (slug_cmp name p.name) as (λ o. AreAbove a (names_of (match_ordering o (p ∷ ps) ps (p ∷ without_name name ps)))) [
      | Less ↦ above
      | Equal ↦ above.1
      | Greater ↦ (above.0, above_without a name ps above.1)
    ]

without_at : (name : List ℕ) (p : Preference) (ps : List Preference) (o : Ordering) → Rise (names_of (p ∷ ps)) → Rise (names_of (without_name name ps)) → Rise (names_of (match_ordering o (p ∷ ps) ps (p ∷ without_name name ps)))
unfolding IsStrictlySortedBy
without_at name p ps Less rise rest = rise
without_at name p ps Equal rise rest = rise.1
without_at name p ps Greater rise rest = (above_without p.name name ps rise.0, rest)

pub rise_without : (name : List ℕ) (ps : List Preference) → Rise (names_of ps) → Rise (names_of (without_name name ps))
unfolding IsStrictlySortedBy
rise_without name [] rise = tt
rise_without name (p ∷ ps) rise = without_at name p ps (slug_cmp name p.name) rise (rise_without name ps rise.1)

each_without : (name : List ℕ) (ps : List Preference) → Each ps → Each (without_name name ps)
each_without name [] each = tt
each_without name (p ∷ ps) each =
    elim (slug_cmp name p.name) as (λ o. Each (match_ordering o (p ∷ ps) ps (p ∷ without_name name ps))) [
      | Less ↦ each
      | Equal ↦ each.1
      | Greater ↦ (each.0, each_without name ps each.1)
    ]

pub sound_without : (name : List ℕ) (ps : List Preference) → IsSound ps → IsSound (without_name name ps)
sound_without name ps sound = record { names = rise_without name ps sound.names; each = each_without name ps sound.each }

pub sound_with : (name : List ℕ) (v : Tree) (ps : List Preference) → IsTrue (is_name name) → IsValue v → IsSound ps → IsSound (with_preference (record { name = name; value = v; hold = None }) ps)
sound_with name v ps is value sound =
    let q : Preference = record { name = name; value = v; hold = None } in
    let one : IsPreference q = record { name = is; value = value; hold = tt } in
    record { names = rise_with q ps sound.names; each = each_with q ps one sound.each }

-- ---- joined

at_name : (b : Bool) (slug : List ℕ) (v : Setting) (p : Preference) → p.name ≡ v.0 → (if b then p else held_by slug v (Some p.value)).name ≡ p.name
at_name true slug v p same = refl
at_name false slug v p same = sym same

above_if : (b : Bool) (a slug : List ℕ) (v : Setting) (p : Preference) → slug_cmp a v.0 ≡ Less → slug_cmp a p.name ≡ Less → slug_cmp a (if b then p else held_by slug v (Some p.value)).name ≡ Less
above_if true a slug v p less above = above
above_if false a slug v p less above = less

above_at : (o : Ordering) (a slug : List ℕ) (v : Setting) (p : Preference) (ps : List Preference) → slug_cmp a v.0 ≡ Less → AreAbove a (names_of (p ∷ ps)) → AreAbove a (names_of (joined_one slug v ps))
    → AreAbove a (names_of (match_ordering o (held_by slug v None ∷ p ∷ ps) (joined_at slug v p ∷ ps) (p ∷ joined_one slug v ps)))
above_at Less a slug v p ps less above rest = (less, above)
above_at Equal a slug v p ps less above rest = (above_if (is_held p.hold) a slug v p less above.0, above.1)
above_at Greater a slug v p ps less above rest = (above.0, rest)

above_one : (a slug : List ℕ) (v : Setting) (ps : List Preference) → slug_cmp a v.0 ≡ Less → AreAbove a (names_of ps) → AreAbove a (names_of (joined_one slug v ps))
above_one a slug v [] less above = (less, tt)
above_one a slug v (p ∷ ps) less above = above_at (slug_cmp v.0 p.name) a slug v p ps less above (above_one a slug v ps less above.1)

one_at : (slug : List ℕ) (v : Setting) (p : Preference) (ps : List Preference) (o : Ordering) → slug_cmp v.0 p.name ≡ o → Rise (names_of (p ∷ ps)) → Rise (names_of (joined_one slug v ps))
    → Rise (names_of (match_ordering o (held_by slug v None ∷ p ∷ ps) (joined_at slug v p ∷ ps) (p ∷ joined_one slug v ps)))
unfolding IsStrictlySortedBy
one_at slug v p ps Less e rise rest = ((e, above_trans v.0 p.name (names_of ps) e rise.0), rise)
one_at slug v p ps Equal e rise rest =
    (above_same p.name (joined_at slug v p).name (names_of ps) (sym (at_name (is_held p.hold) slug v p (sym (same_texts v.0 p.name e)))) rise.0, rise.1)
one_at slug v p ps Greater e rise rest = (above_one p.name slug v ps (turned_down v.0 p.name e) rise.0, rest)

pub rise_one : (slug : List ℕ) (v : Setting) (ps : List Preference) → Rise (names_of ps) → Rise (names_of (joined_one slug v ps))
unfolding IsStrictlySortedBy
rise_one slug v [] rise = (tt, tt)
rise_one slug v (p ∷ ps) rise = one_at slug v p ps (slug_cmp v.0 p.name) refl rise (rise_one slug v ps rise.1)

held_is : (slug : List ℕ) (v : Setting) (before : Option Tree) → IsSlug slug → IsSetting v → IsValueOrNone before → IsPreference (held_by slug v before)
held_is slug v before holder is value = record { name = is.name; value = is.value; hold = (holder, value) }

each_if : (b : Bool) (slug : List ℕ) (v : Setting) (p : Preference) → IsSlug slug → IsSetting v → IsPreference p → IsPreference (if b then p else held_by slug v (Some p.value))
each_if true slug v p holder is one = one
each_if false slug v p holder is one = held_is slug v (Some p.value) holder is one.value

each_at : (o : Ordering) (slug : List ℕ) (v : Setting) (p : Preference) (ps : List Preference) → IsSlug slug → IsSetting v → Each (p ∷ ps) → Each (joined_one slug v ps)
    → Each (match_ordering o (held_by slug v None ∷ p ∷ ps) (joined_at slug v p ∷ ps) (p ∷ joined_one slug v ps))
each_at Less slug v p ps holder is each rest = (held_is slug v None holder is tt, each)
each_at Equal slug v p ps holder is each rest = (each_if (is_held p.hold) slug v p holder is each.0, each.1)
each_at Greater slug v p ps holder is each rest = (each.0, rest)

each_one : (slug : List ℕ) (v : Setting) (ps : List Preference) → IsSlug slug → IsSetting v → Each ps → Each (joined_one slug v ps)
each_one slug v [] holder is each = (held_is slug v None holder is tt, tt)
each_one slug v (p ∷ ps) holder is each = each_at (slug_cmp v.0 p.name) slug v p ps holder is each (each_one slug v ps holder is each.1)

sound_all : (slug : List ℕ) (vs : List Setting) (ps : List Preference) → IsSlug slug → AllByRecursion IsSetting vs → IsSound ps → IsSound (joined slug vs ps)
sound_all slug [] ps holder are sound = sound
sound_all slug (v ∷ vs) ps holder are sound =
    sound_all slug vs (joined_one slug v ps) holder are.1 (record { names = rise_one slug v ps sound.names; each = each_one slug v ps holder are.0 sound.each })

pub sound_joined : (slug : List ℕ) (vs : List Setting) (ps : List Preference) → IsSlug slug → AreSettings vs → IsSound ps → IsSound (joined slug vs ps)
sound_joined slug vs ps holder are sound = sound_all slug vs ps holder are.each sound

-- ---- left

each_append : (ps qs : List Preference) → Each ps → Each qs → Each (ps ++ qs)
each_append [] qs ps_are qs_are = qs_are
each_append (p ∷ ps) qs ps_are qs_are = (ps_are.0, each_append ps qs ps_are.1 qs_are)

set_each : (name : List ℕ) (v : Option Tree) → IsTrue (is_name name) → IsValueOrNone v → Each (set_value name v)
set_each name None is value = tt
set_each name (Some v) is value = (record { name = is; value = value; hold = tt }, tt)

users_each : (p : Preference) (h : Option Hold) → IsPreference p → IsHold h → Each (users_part p h)
users_each p None is hold = (is, tt)
users_each p (Some h) is hold = set_each p.name h.before is.name hold.1

restored_if : (b : Bool) (p : Preference) → IsPreference p → Each (if b then users_part p p.hold else p ∷ [])
restored_if true p is = users_each p p.hold is is.hold
restored_if false p is = (is, tt)

each_left : (slug : List ℕ) (ps : List Preference) → Each ps → Each (left slug ps)
each_left slug [] each = tt
each_left slug (p ∷ ps) each = each_append (restored slug p) (left slug ps) (restored_if (holds slug p.hold) p each.0) (each_left slug ps each.1)

pub sound_left : (slug : List ℕ) (ps : List Preference) → IsSound ps → IsSound (left slug ps)
sound_left slug ps sound = record { names = rise_parts (restored slug) ps (restored_most slug) sound.names; each = each_left slug ps sound.each }

-- ---- the same of what a call gives

pub joined_given : (slug : List ℕ) (vs : List Setting) (ps given : List Preference) → IsSlug slug → AreSettings vs → IsSound ps → given ≡ joined slug vs ps → IsSound given
joined_given slug vs ps given holder are sound is = subst IsSound (sym is) (sound_joined slug vs ps holder are sound)

pub left_given : (slug : List ℕ) (ps given : List Preference) → IsSound ps → given ≡ left slug ps → IsSound given
left_given slug ps given sound is = subst IsSound (sym is) (sound_left slug ps sound)

pub with_given : (name : List ℕ) (v : Tree) (q : Preference) (ps given : List Preference) → q ≡ record { name = name; value = v; hold = None } → IsTrue (is_name name) → IsValue v → IsSound ps
    → given ≡ with_preference q ps → IsSound given
with_given name v q ps given same named value sound is = subst IsSound (sym is) (subst (λ (x : Preference). IsSound (with_preference x ps)) (sym same) (sound_with name v ps named value sound))

pub without_given : (name : List ℕ) (ps given : List Preference) → IsSound ps → given ≡ without_name name ps → IsSound given
without_given name ps given sound is = subst IsSound (sym is) (sound_without name ps sound)
