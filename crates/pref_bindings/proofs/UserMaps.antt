-- What joins, leaves and the user make of the user's map.
use Rattle.std.proofs.Common.{Ordering, Less, Equal, Greater, ◌≡◌, ℕ, Bool, true, false, List, [], ◌∷◌, ◌++◌, Option, None, Some, inl, inr, refl, sym, ap, ap₂, ◌∙◌, subst}
use Rattle.std.specs.Prelude.{option_map, if◌then◌else◌}
use Rattle.std.specs.List.{flat_map}
use Rattle.std.specs.List.Sorted.{IsStrictlySortedBy}
use Rattle.std.proofs.lemmas.List.{append-nil}
use Rattle.std.proofs.lemmas.Grind.{flat_map-append}
use Rattle.sequences.proofs.Texts.{bytes_same}
use Rattle.json_tree.specs.declared.tree.Tree.{Tree}
use Rattle.recipe_reader.specs.Payloads.{slug_cmp}
use Rattle.enrol_states.specs.Order.{Rise, AreAbove}
use Rattle.enrol_states.proofs.Ordered.{same_texts, equal_texts, lesser_texts, turned_down, above_trans}
use Rattle.pref_bindings.specs.declared.preference.Hold.{Hold}
use Rattle.pref_bindings.specs.declared.preference.Preference.{Preference}
use Rattle.pref_bindings.specs.Preferences.{holder_of, names_of}
use Rattle.pref_bindings.specs.Changes.{Setting, is_held, held_by, joined_one, joined, holds, left, restored, set_value, users_part, user_map, with_preference, without_name}
use Rattle.pref_bindings.specs.Laws.{HoldsNone, LeaveUndoesJoin, JoinKeepsUserMap, LeaveKeepsUserMap, UserSetsOwn}
use Rattle.pref_bindings.proofs.Order.{turned_even}
use Rattle.pref_bindings.proofs.Parts.{AtMost, above_parts, users_most}
use Rattle.pref_bindings.proofs.Places.{found_step, holder_in, with_step, without_step}
use Rattle.pref_bindings.proofs.Joins.{one_step}

abbrev part : Preference → List Preference
part p = users_part p p.hold

-- ---- joins

-- what a walk makes of a preference that a slug set is what was before, and one that nobody holds stays
record Restores (slug : List ℕ) (f : Preference → List Preference) : Type 0 where
  pub held : (v : Setting) (before : Option Tree) → f (held_by slug v before) ≡ set_value v.0 before
  pub free : (p : Preference) → p.hold ≡ None → f p ≡ p ∷ []

free_again : (name : List ℕ) (p : Preference) → p.hold ≡ None → name ≡ p.name → set_value name (Some p.value) ≡ p ∷ []
free_again name p free same = λ i. record { name = same i; value = p.value; hold = sym free i } ∷ []

at_same : (slug : List ℕ) (f : Preference → List Preference) (v : Setting) (p : Preference) (h : Option Hold) → Restores slug f → v.0 ≡ p.name → p.hold ≡ h → f (if is_held h then p else held_by slug v (Some p.value)) ≡ f p
at_same slug f v p (Some h) restores same is = refl
at_same slug f v p None restores same is = restores.held v (Some p.value) ∙ free_again v.0 p is same ∙ sym (restores.free p is)

kept_at : (o : Ordering) (slug : List ℕ) (f : Preference → List Preference) (v : Setting) (p : Preference) (ps : List Preference) → Restores slug f → slug_cmp v.0 p.name ≡ o
    → flat_map f (joined_one slug v ps) ≡ flat_map f ps → flat_map f (joined_one slug v (p ∷ ps)) ≡ flat_map f (p ∷ ps)
kept_at Less slug f v p ps restores e rest = ap (flat_map f) (one_step slug v p ps Less e) ∙ ap (λ (l : List Preference). l ++ flat_map f (p ∷ ps)) (restores.held v None)
kept_at Equal slug f v p ps restores e rest =
    ap (flat_map f) (one_step slug v p ps Equal e) ∙ ap (λ (l : List Preference). l ++ flat_map f ps) (at_same slug f v p p.hold restores (same_texts v.0 p.name e) refl)
kept_at Greater slug f v p ps restores e rest = ap (flat_map f) (one_step slug v p ps Greater e) ∙ ap (λ (l : List Preference). f p ++ l) rest

one_kept : (slug : List ℕ) (f : Preference → List Preference) (v : Setting) (ps : List Preference) → Restores slug f → flat_map f (joined_one slug v ps) ≡ flat_map f ps
one_kept slug f v [] restores = ap (λ (l : List Preference). l ++ []) (restores.held v None)
one_kept slug f v (p ∷ ps) restores = kept_at (slug_cmp v.0 p.name) slug f v p ps restores refl (one_kept slug f v ps restores)

all_kept : (slug : List ℕ) (f : Preference → List Preference) (vs : List Setting) (ps : List Preference) → Restores slug f → flat_map f (joined slug vs ps) ≡ flat_map f ps
all_kept slug f [] ps restores = refl
all_kept slug f (v ∷ vs) ps restores = all_kept slug f vs (joined_one slug v ps) restores ∙ one_kept slug f v ps restores

free_part : (p : Preference) → p.hold ≡ None → part p ≡ p ∷ []
free_part p free = ap (users_part p) free

users_restores : (slug : List ℕ) → Restores slug part
users_restores slug = record { held = λ v before. refl; free = free_part }

held_restored : (slug : List ℕ) (v : Setting) (before : Option Tree) → restored slug (held_by slug v before) ≡ set_value v.0 before
held_restored slug v before = ap (λ b. if b then set_value v.0 before else held_by slug v before ∷ []) (bytes_same slug)

free_restored : (slug : List ℕ) (p : Preference) → p.hold ≡ None → restored slug p ≡ p ∷ []
free_restored slug p free = ap (λ (h : Option Hold). if holds slug h then users_part p p.hold else p ∷ []) free

slug_restores : (slug : List ℕ) → Restores slug (restored slug)
slug_restores slug = record { held = held_restored slug; free = free_restored slug }

pub left_none : (slug : List ℕ) (ps : List Preference) → HoldsNone slug ps → left slug ps ≡ ps
left_none slug [] none = refl
left_none slug (p ∷ ps) none =
    ap₂ (λ (x y : List Preference). x ++ y) (ap (λ b. if b then users_part p p.hold else p ∷ []) none.0) (left_none slug ps none.1)

pub undone : LeaveUndoesJoin
undone slug vs ps none = all_kept slug (restored slug) vs ps (slug_restores slug) ∙ left_none slug ps none

pub join_keeps : JoinKeepsUserMap
join_keeps slug vs ps = all_kept slug part vs ps (users_restores slug)

-- ---- leaves

part_again : (name : List ℕ) (v : Option Tree) → flat_map part (set_value name v) ≡ set_value name v
part_again name None = refl
part_again name (Some v) = refl

one_part : (p : Preference) → flat_map part (p ∷ []) ≡ part p
one_part p = append-nil (part p)

part_if : (b : Bool) (p : Preference) (h : Option Hold) → p.hold ≡ h → flat_map part (if b then users_part p h else p ∷ []) ≡ part p
part_if false p h is = one_part p
part_if true p None is = one_part p
part_if true p (Some h) is = part_again p.name h.before ∙ sym (ap (users_part p) is)

pub leave_keeps : LeaveKeepsUserMap
leave_keeps slug [] = refl
leave_keeps slug (p ∷ ps) =
    flat_map-append part (restored slug p) (left slug ps)
    ∙ ap₂ (λ (x y : List Preference). x ++ y) (part_if (holds slug p.hold) p p.hold refl) (leave_keeps slug ps)

-- ---- the user

above_users : (a : List ℕ) (ps : List Preference) → AreAbove a (names_of ps) → AreAbove a (names_of (user_map ps))
above_users a ps above = above_parts part a ps (λ p. users_most p p.hold) above

with_first : (q : Preference) (ps : List Preference) → AreAbove q.name (names_of ps) → with_preference q ps ≡ q ∷ ps
with_first q [] above = refl
with_first q (p ∷ ps) above = with_step q p ps Less above.0

without_first : (name : List ℕ) (ps : List Preference) → AreAbove name (names_of ps) → without_name name ps ≡ ps
without_first name [] above = refl
without_first name (p ∷ ps) above = without_step name p ps Less above.0

-- names behind a lesser one
with_behind : (q : Preference) (name : List ℕ) (l ps : List Preference) → AtMost name l → slug_cmp q.name name ≡ Greater → with_preference q (l ++ ps) ≡ l ++ with_preference q ps
with_behind q name l ps most greater =
    elim most [
      | inl none ↦ subst (λ (k : List Preference). with_preference q (k ++ ps) ≡ k ++ with_preference q ps) (sym none) refl
      | inr one ↦ subst (λ (k : List Preference). with_preference q (k ++ ps) ≡ k ++ with_preference q ps) (sym one.1) (with_step q one.0 ps Greater (ap (slug_cmp q.name) one.2 ∙ greater))
    ]

without_behind : (n name : List ℕ) (l ps : List Preference) → AtMost name l → slug_cmp n name ≡ Greater → without_name n (l ++ ps) ≡ l ++ without_name n ps
without_behind n name l ps most greater =
    elim most [
      | inl none ↦ subst (λ (k : List Preference). without_name n (k ++ ps) ≡ k ++ without_name n ps) (sym none) refl
      | inr one ↦ subst (λ (k : List Preference). without_name n (k ++ ps) ≡ k ++ without_name n ps) (sym one.1) (without_step n one.0 ps Greater (ap (slug_cmp n) one.2 ∙ greater))
    ]

-- a preference of the name is free, and behind others the name stays free
none_holds : (h : Option Hold) → option_map (λ k. k.holder) h ≡ None → h ≡ None
none_holds None e = refl
none_holds (Some k) e = absurd (cc)

pub free_here : (name : List ℕ) (p : Preference) (ps : List Preference) → slug_cmp name p.name ≡ Equal → holder_of name (p ∷ ps) ≡ None → p.hold ≡ None
free_here name p ps even free =
    none_holds p.hold (sym (ap holder_in (found_step name p ps true (equal_texts p.name name (turned_even name p.name even)))) ∙ free)

pub free_behind : (name : List ℕ) (p : Preference) (ps : List Preference) → slug_cmp name p.name ≡ Greater → holder_of name (p ∷ ps) ≡ None → holder_of name ps ≡ None
free_behind name p ps greater free = sym (ap holder_in (found_step name p ps false (lesser_texts p.name name (turned_down name p.name greater)))) ∙ free

abbrev pub own : List ℕ → Tree → Preference
own name v = record { name = name; value = v; hold = None }

sets_at : (o : Ordering) (name : List ℕ) (v : Tree) (p : Preference) (ps : List Preference) → slug_cmp name p.name ≡ o → AreAbove p.name (names_of ps) → holder_of name (p ∷ ps) ≡ None
    → (holder_of name ps ≡ None → user_map (with_preference (own name v) ps) ≡ with_preference (own name v) (user_map ps))
    → user_map (with_preference (own name v) (p ∷ ps)) ≡ with_preference (own name v) (user_map (p ∷ ps))
sets_at Less name v p ps e above free rest =
    ap user_map (with_step (own name v) p ps Less e)
    ∙ sym (with_first (own name v) (user_map (p ∷ ps)) (above_users name (p ∷ ps) (e, above_trans name p.name (names_of ps) e above)))
sets_at Equal name v p ps e above free rest =
    ap user_map (with_step (own name v) p ps Equal e)
    ∙ sym (ap (λ (l : List Preference). with_preference (own name v) (l ++ user_map ps)) (free_part p (free_here name p ps e free)) ∙ with_step (own name v) p (user_map ps) Equal e)
sets_at Greater name v p ps e above free rest =
    ap user_map (with_step (own name v) p ps Greater e)
    ∙ ap (λ (l : List Preference). part p ++ l) (rest (free_behind name p ps e free))
    ∙ sym (with_behind (own name v) p.name (part p) (user_map ps) (users_most p p.hold) e)

sets : (name : List ℕ) (v : Tree) (ps : List Preference) → Rise (names_of ps) → holder_of name ps ≡ None → user_map (with_preference (own name v) ps) ≡ with_preference (own name v) (user_map ps)
unfolding IsStrictlySortedBy
sets name v [] rise free = refl
sets name v (p ∷ ps) rise free = sets_at (slug_cmp name p.name) name v p ps refl rise.0 free (λ behind. sets name v ps rise.1 behind)

away_at : (o : Ordering) (name : List ℕ) (p : Preference) (ps : List Preference) → slug_cmp name p.name ≡ o → AreAbove p.name (names_of ps) → holder_of name (p ∷ ps) ≡ None
    → (holder_of name ps ≡ None → user_map (without_name name ps) ≡ without_name name (user_map ps)) → user_map (without_name name (p ∷ ps)) ≡ without_name name (user_map (p ∷ ps))
away_at Less name p ps e above free rest =
    ap user_map (without_step name p ps Less e)
    ∙ sym (without_first name (user_map (p ∷ ps)) (above_users name (p ∷ ps) (e, above_trans name p.name (names_of ps) e above)))
away_at Equal name p ps e above free rest =
    ap user_map (without_step name p ps Equal e)
    ∙ sym (ap (λ (l : List Preference). without_name name (l ++ user_map ps)) (free_part p (free_here name p ps e free)) ∙ without_step name p (user_map ps) Equal e)
away_at Greater name p ps e above free rest =
    ap user_map (without_step name p ps Greater e)
    ∙ ap (λ (l : List Preference). part p ++ l) (rest (free_behind name p ps e free))
    ∙ sym (without_behind name p.name (part p) (user_map ps) (users_most p p.hold) e)

takes_away : (name : List ℕ) (ps : List Preference) → Rise (names_of ps) → holder_of name ps ≡ None → user_map (without_name name ps) ≡ without_name name (user_map ps)
unfolding IsStrictlySortedBy
takes_away name [] rise free = refl
takes_away name (p ∷ ps) rise free = away_at (slug_cmp name p.name) name p ps refl rise.0 free (λ behind. takes_away name ps rise.1 behind)

pub sets_own : UserSetsOwn
sets_own name None ps rise free = takes_away name ps rise free
sets_own name (Some v) ps rise free = sets name v ps rise free
