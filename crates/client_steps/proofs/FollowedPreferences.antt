-- What changes of enrolments make of preferences: they stay sound, the user's map stays, and nobody holds a preference whose holder's enrolment ended.
use Rattle.std.proofs.Common.{◌≡◌, ◌⊎◌, inl, inr, ℕ, Bool, true, false, List, [], ◌∷◌, ◌++◌, map, Option, Some, None, IsTrue, refl, sym, ap, ◌∙◌, subst}
use Rattle.std.specs.Prelude.{bytes_eq, is_some, option_and_then, option_map, if◌then◌else◌, ⊤}
use Rattle.std.specs.Cmp.Lexicographic.{bytes_decides}
use Rattle.std.specs.List.{AllByRecursion, flat_map}
use Rattle.std.specs.List.Sorted.{IsStrictlySortedBy}
use Rattle.json_tree.specs.declared.tree.Tree.{Tree}
use Rattle.plain_text.specs.Names.{is_name}
use Rattle.enrol_states.specs.Commands.{opted_out, opted_out_of, enrolment_ended}
use Rattle.enrol_states.specs.Order.{Rise, AreAbove}
use Rattle.enrol_states.specs.State.{status_of}
use Rattle.enrol_states.specs.Statuses.{IsSlug, enrolled_branch}
use Rattle.enrol_states.specs.declared.state.Row.{Row}
use Rattle.enrol_states.specs.declared.state.State.{State}
use Rattle.enrol_states.proofs.OptingOut.{enrolled_branch-opted_out}
use Rattle.enrol_states.proofs.Ordered.{bytes_turned, lesser_texts}
use Rattle.change_outbox.specs.Changes.{all_slugs, branch_of, changes_between, slug_changes}
use Rattle.change_outbox.specs.Contents.{HaveSlugs}
use Rattle.change_outbox.specs.declared.change.Change.{Change}
use Rattle.change_outbox.specs.declared.change.ChangeKind.{ChangeKind}
use Rattle.change_outbox.specs.declared.change.ChangeKind.TheVariants.{Join, Leave}
use Rattle.pref_bindings.specs.Changes.{AreSettings, Setting, holds, joined, joined_one, left, restored, set_by_user, set_value, user_map, users_part}
use Rattle.pref_bindings.specs.Preferences.{IsSound, IsValueOrNone, found, holder_of, names_of}
use Rattle.pref_bindings.specs.declared.preference.Hold.{Hold}
use Rattle.pref_bindings.specs.declared.preference.Preference.{Preference}
use Rattle.pref_bindings.proofs.Parts.{restored_most, rise_parts}
use Rattle.pref_bindings.proofs.Sound.{rise_one, rise_with, rise_without, sound_joined, sound_left, sound_with, sound_without}
use Rattle.pref_bindings.proofs.UserMaps.{join_keeps, leave_keeps}
use Rattle.client_state.specs.Following.{changes_done, changes_from, join_done, join_values, joins_done, leave_done, leaves_done}
use Rattle.client_state.specs.Sound.{HasEnrolledHolder, HaveEnrolledHolders, IsEnrolled}
use Rattle.client_steps.specs.declared.session.Session.{Session}
use Rattle.client_steps.specs.Steps.{preferences_with}
use Rattle.client_steps.proofs.Outboxes.{no_changes_from, same_branch}

-- ---- the user's map

leave_map : (kind : ChangeKind) (slug : List ℕ) (ps : List Preference) → user_map (leave_done kind slug ps) ≡ user_map ps
leave_map Join slug ps = refl
leave_map Leave slug ps = leave_keeps slug ps

leaves_map : (cs : List Change) (ps : List Preference) → user_map (leaves_done cs ps) ≡ user_map ps
leaves_map [] ps = refl
leaves_map (c ∷ cs) ps = leaves_map cs (leave_done c.kind c.slug ps) ∙ leave_map c.kind c.slug ps

join_map : (kind : ChangeKind) (slug : List ℕ) (vs : List Setting) (ps : List Preference) → user_map (join_done kind slug vs ps) ≡ user_map ps
join_map Join slug vs ps = join_keeps slug vs ps
join_map Leave slug vs ps = refl

joins_map : (values : Change → List Setting) (cs : List Change) (ps : List Preference) → user_map (joins_done values cs ps) ≡ user_map ps
joins_map values [] ps = refl
joins_map values (c ∷ cs) ps = joins_map values cs (join_done c.kind c.slug (values c) ps) ∙ join_map c.kind c.slug (values c) ps

pub done_map : (values : Change → List Setting) (cs : List Change) (ps : List Preference) → user_map (changes_done values cs ps) ≡ user_map ps
done_map values cs ps = joins_map values cs (leaves_done cs ps) ∙ leaves_map cs ps

-- ---- what stays sound

leave_sound : (kind : ChangeKind) (slug : List ℕ) (ps : List Preference) → IsSound ps → IsSound (leave_done kind slug ps)
leave_sound Join slug ps sound = sound
leave_sound Leave slug ps sound = sound_left slug ps sound

leaves_sound : (cs : List Change) (ps : List Preference) → IsSound ps → IsSound (leaves_done cs ps)
leaves_sound [] ps sound = sound
leaves_sound (c ∷ cs) ps sound = leaves_sound cs (leave_done c.kind c.slug ps) (leave_sound c.kind c.slug ps sound)

join_sound : (kind : ChangeKind) (slug : List ℕ) (vs : List Setting) (ps : List Preference) → IsSlug slug → AreSettings vs → IsSound ps → IsSound (join_done kind slug vs ps)
join_sound Join slug vs ps is are sound = sound_joined slug vs ps is are sound
join_sound Leave slug vs ps is are sound = sound

joins_sound : (values : Change → List Setting) → ((c : Change) → AreSettings (values c)) → (cs : List Change) → HaveSlugs cs → (ps : List Preference) → IsSound ps → IsSound (joins_done values cs ps)
joins_sound values are [] have ps sound = sound
joins_sound values are (c ∷ cs) have ps sound = joins_sound values are cs have.1 (join_done c.kind c.slug (values c) ps) (join_sound c.kind c.slug (values c) ps have.0.slug (are c) sound)

pub done_sound : (values : Change → List Setting) → ((c : Change) → AreSettings (values c)) → (cs : List Change) → HaveSlugs cs → (ps : List Preference) → IsSound ps → IsSound (changes_done values cs ps)
done_sound values are cs have ps sound = joins_sound values are cs have (leaves_done cs ps) (leaves_sound cs ps sound)

-- ---- their names rise

rise_joined : (slug : List ℕ) (vs : List Setting) (ps : List Preference) → Rise (names_of ps) → Rise (names_of (joined slug vs ps))
rise_joined slug [] ps rise = rise
rise_joined slug (v ∷ vs) ps rise = rise_joined slug vs (joined_one slug v ps) (rise_one slug v ps rise)

rise_leave : (kind : ChangeKind) (slug : List ℕ) (ps : List Preference) → Rise (names_of ps) → Rise (names_of (leave_done kind slug ps))
rise_leave Join slug ps rise = rise
rise_leave Leave slug ps rise = rise_parts (restored slug) ps (restored_most slug) rise

rise_leaves : (cs : List Change) (ps : List Preference) → Rise (names_of ps) → Rise (names_of (leaves_done cs ps))
rise_leaves [] ps rise = rise
rise_leaves (c ∷ cs) ps rise = rise_leaves cs (leave_done c.kind c.slug ps) (rise_leave c.kind c.slug ps rise)

rise_join : (kind : ChangeKind) (slug : List ℕ) (vs : List Setting) (ps : List Preference) → Rise (names_of ps) → Rise (names_of (join_done kind slug vs ps))
rise_join Join slug vs ps rise = rise_joined slug vs ps rise
rise_join Leave slug vs ps rise = rise

rise_joins : (values : Change → List Setting) (cs : List Change) (ps : List Preference) → Rise (names_of ps) → Rise (names_of (joins_done values cs ps))
rise_joins values [] ps rise = rise
rise_joins values (c ∷ cs) ps rise = rise_joins values cs (join_done c.kind c.slug (values c) ps) (rise_join c.kind c.slug (values c) ps rise)

pub names_follow : (values : Change → List Setting) (cs : List Change) (ps : List Preference) → Rise (names_of ps) → Rise (names_of (changes_done values cs ps))
names_follow values cs ps rise = rise_joins values cs (leaves_done cs ps) (rise_leaves cs ps rise)

pub names_of_user : (name : List ℕ) (value : Option Tree) (ps : List Preference) → Rise (names_of ps) → Rise (names_of (set_by_user name value ps))
names_of_user name None ps rise = rise_without name ps rise
names_of_user name (Some v) ps rise = rise_with (record { name = name; value = v; hold = None }) ps rise

-- ---- the preferences of an enrolment that stays

-- where the enrolment stays, so do the preferences
pub preferences_same : (session : Session) (e : State) (ps : List Preference) → preferences_with session e e ps ≡ ps
preferences_same session e ps = ap (λ (cs : List Change). changes_done (join_values session.manifest session.bindings e) cs ps) (no_changes_from e)

-- ---- the end of an enrolment

-- a slug has its branch still, or none
abbrev IsKeptOrNone : Option (List ℕ) → Option (List ℕ) → Type 0
IsKeptOrNone before after = (after ≡ None) ⊎ (after ≡ before)

branch_at : (slug holder : List ℕ) (row : Row) (ended rows : List Row) → IsKeptOrNone (branch_of slug rows) (branch_of slug ended) → IsKeptOrNone (branch_of slug (row ∷ rows)) (branch_of slug (opted_out_of holder row ∷ ended))
branch_at slug holder row ended rows rest =
    elim (bytes_eq row.slug holder) as (λ b. IsKeptOrNone (branch_of slug (row ∷ rows)) (branch_of slug ((if b then record { slug = row.slug; status = opted_out row.status } else row) ∷ ended))) [
      | true ↦ elim (bytes_eq row.slug slug) as (λ b. IsKeptOrNone (option_and_then enrolled_branch (if b then Some row.status else status_of slug rows)) (option_and_then enrolled_branch (if b then Some (opted_out row.status) else status_of slug ended))) [
        | true ↦ inl (enrolled_branch-opted_out row.status)
        | false ↦ rest
      ]
      | false ↦ elim (bytes_eq row.slug slug) as (λ b. IsKeptOrNone (option_and_then enrolled_branch (if b then Some row.status else status_of slug rows)) (option_and_then enrolled_branch (if b then Some row.status else status_of slug ended))) [
        | true ↦ inr refl
        | false ↦ rest
      ]
    ]

ended_branch : (slug holder : List ℕ) (rows : List Row) → IsKeptOrNone (branch_of slug rows) (branch_of slug (map (opted_out_of holder) rows))
ended_branch slug holder [] = inl refl
ended_branch slug holder (row ∷ rows) = branch_at slug holder row (map (opted_out_of holder) rows) rows (ended_branch slug holder rows)

-- and the one whose enrolment ends has none
none_at : (holder : List ℕ) (row : Row) (ended : List Row) → branch_of holder ended ≡ None → branch_of holder (opted_out_of holder row ∷ ended) ≡ None
none_at holder row ended rest =
    elim (bytes_eq row.slug holder) as (λ b. bytes_eq row.slug holder ≡ b → branch_of holder ((if b then record { slug = row.slug; status = opted_out row.status } else row) ∷ ended) ≡ None) [
      | true ↦ λ e. ap (λ b. option_and_then enrolled_branch (if b then Some (opted_out row.status) else status_of holder ended)) e ∙ enrolled_branch-opted_out row.status
      | false ↦ λ e. ap (λ b. option_and_then enrolled_branch (if b then Some row.status else status_of holder ended)) e ∙ rest
    ] refl

ended_none : (holder : List ℕ) (rows : List Row) → branch_of holder (map (opted_out_of holder) rows) ≡ None
ended_none holder [] = refl
ended_none holder (row ∷ rows) = none_at holder row (map (opted_out_of holder) rows) (ended_none holder rows)

-- ---- it makes no join

abbrev IsLeave : Change → Type 0
IsLeave c = c.kind ≡ Leave

abbrev AreLeaves : List Change → Type 0
AreLeaves cs = AllByRecursion IsLeave cs

leaves_append : (xs ys : List Change) → AreLeaves xs → AreLeaves ys → AreLeaves (xs ++ ys)
leaves_append [] ys are more = more
leaves_append (x ∷ xs) ys are more = (are.0, leaves_append xs ys are.1 more)

none_after : (slug : List ℕ) (before : Option (List ℕ)) → AreLeaves (slug_changes slug before None)
none_after slug None = tt
none_after slug (Some branch) = (refl, tt)

slug_leaves : (slug : List ℕ) (before after : Option (List ℕ)) → IsKeptOrNone before after → AreLeaves (slug_changes slug before after)
slug_leaves slug before after kept =
    elim kept [
      | inl none ↦ subst (λ (o : Option (List ℕ)). AreLeaves (slug_changes slug before o)) (sym none) (none_after slug before)
      | inr same ↦ subst (λ (o : Option (List ℕ)). AreLeaves (slug_changes slug before o)) (sym same) (subst AreLeaves (sym (same_branch slug before)) tt)
    ]

told_leaves : (old new : List Row) → ((slug : List ℕ) → IsKeptOrNone (branch_of slug old) (branch_of slug new)) → (slugs : List (List ℕ)) → AreLeaves (flat_map (λ slug. slug_changes slug (branch_of slug old) (branch_of slug new)) slugs)
told_leaves old new kept [] = tt
told_leaves old new kept (slug ∷ slugs) =
    leaves_append (slug_changes slug (branch_of slug old) (branch_of slug new)) (flat_map (λ t. slug_changes t (branch_of t old) (branch_of t new)) slugs) (slug_leaves slug (branch_of slug old) (branch_of slug new) (kept slug)) (told_leaves old new kept slugs)

ended_leaves : (holder : List ℕ) (e : State) → AreLeaves (changes_from e (enrolment_ended holder e))
unfolding changes_between
ended_leaves holder e = told_leaves e.rows (enrolment_ended holder e).rows (λ slug. ended_branch slug holder e.rows) (all_slugs e.rows (enrolment_ended holder e).rows)

no_joins : (values : Change → List Setting) (cs : List Change) → AreLeaves cs → (ps : List Preference) → joins_done values cs ps ≡ ps
no_joins values [] are ps = refl
no_joins values (c ∷ cs) are ps = ap (joins_done values cs) (ap (λ (k : ChangeKind). join_done k c.slug (values c) ps) are.0) ∙ no_joins values cs are.1 ps

-- ---- what holds of each preference

abbrev own : List ℕ → Tree → Preference
own name v = record { name = name; value = v; hold = None }

-- and of each that nobody holds
module _ (P : Preference → Type 0) (free : (name : List ℕ) (v : Tree) → P (own name v)) where
  abbrev Are : List Preference → Type 0
  Are ps = AllByRecursion P ps

  are_append : (ps qs : List Preference) → Are ps → Are qs → Are (ps ++ qs)
  are_append [] qs first rest = rest
  are_append (p ∷ ps) qs first rest = (first.0, are_append ps qs first.1 rest)

  set_are : (name : List ℕ) (v : Option Tree) → Are (set_value name v)
  set_are name None = tt
  set_are name (Some v) = (free name v, tt)

  users_are : (p : Preference) (h : Option Hold) → P p → Are (users_part p h)
  users_are p None is = (is, tt)
  users_are p (Some h) is = set_are p.name h.before

  restored_are : (b : Bool) (p : Preference) → P p → Are (if b then users_part p p.hold else p ∷ [])
  restored_are true p is = users_are p p.hold is
  restored_are false p is = (is, tt)

  left_are : (slug : List ℕ) (ps : List Preference) → Are ps → Are (left slug ps)
  left_are slug [] are = tt
  left_are slug (p ∷ ps) are = are_append (restored slug p) (left slug ps) (restored_are (holds slug p.hold) p are.0) (left_are slug ps are.1)

  leave_are : (kind : ChangeKind) (slug : List ℕ) (ps : List Preference) → Are ps → Are (leave_done kind slug ps)
  leave_are Join slug ps are = are
  leave_are Leave slug ps are = left_are slug ps are

  -- holds after leaves
  leaves_are : (cs : List Change) (ps : List Preference) → Are ps → Are (leaves_done cs ps)
  leaves_are [] ps are = are
  leaves_are (c ∷ cs) ps are = leaves_are cs (leave_done c.kind c.slug ps) (leave_are c.kind c.slug ps are)

-- ---- who holds a name

abbrev IsHeldBy : List ℕ → Option Hold → Type 0
IsHeldBy holder None = ⊤
IsHeldBy holder (Some h) = h.holder ≡ holder

-- whoever holds the preference, where it has this name, is this one
abbrev MayHold : List ℕ → List ℕ → Preference → Type 0
MayHold name holder p = bytes_eq p.name name ≡ true → IsHeldBy holder p.hold

held_is : (holder : List ℕ) (h : Option Hold) → option_map (λ k. k.holder) h ≡ Some holder → IsHeldBy holder h
held_is holder None is = absurd cc
held_is holder (Some h) is = some_is h.holder holder is
  where
    some_is : (x y : List ℕ) → Some x ≡ Some y → x ≡ y
    some_is x y e = cc

above_other : (name other : List ℕ) (ts : List Preference) (holder : List ℕ) → bytes_eq other name ≡ true → AreAbove other (names_of ts) → AllByRecursion (MayHold name holder) ts
above_other name other [] holder same above = tt
above_other name other (p ∷ ps) holder same above =
    let apart : bytes_eq p.name name ≡ false = bytes_turned p.name name ∙ subst (λ (t : List ℕ). bytes_eq t p.name ≡ false) ((bytes_decides other name).0 same) (lesser_texts other p.name above.0) in
    ((λ is. absurd cc), above_other name other ps holder same above.1)

abbrev holder_in : Option Preference → Option (List ℕ)
holder_in o = option_and_then (λ p. option_map (λ h. h.holder) p.hold) o

may_at : (b : Bool) (name holder : List ℕ) (p : Preference) (ps : List Preference) → bytes_eq p.name name ≡ b → AreAbove p.name (names_of ps) → holder_in (if b then Some p else found name ps) ≡ Some holder
    → (holder_of name ps ≡ Some holder → AllByRecursion (MayHold name holder) ps) → AllByRecursion (MayHold name holder) (p ∷ ps)
may_at true name holder p ps e above held rest = ((λ is. held_is holder p.hold held), above_other name p.name ps holder e above)
may_at false name holder p ps e above held rest = ((λ is. absurd cc), rest held)

may_hold : (name holder : List ℕ) (ps : List Preference) → Rise (names_of ps) → holder_of name ps ≡ Some holder → AllByRecursion (MayHold name holder) ps
unfolding IsStrictlySortedBy
may_hold name holder [] rise held = tt
may_hold name holder (p ∷ ps) rise held = may_at (bytes_eq p.name name) name holder p ps refl rise.0 held (λ behind. may_hold name holder ps rise.1 behind)

-- so nobody holds it where this one isn't enrolled
free_hold : (e : State) (holder : List ℕ) (h : Option Hold) → IsHeldBy holder h → HasEnrolledHolder e h → (IsEnrolled e holder → ⊥) → option_map (λ k. k.holder) h ≡ None
free_hold e holder None is enrolled never = refl
free_hold e holder (Some h) is enrolled never = absurd (never (subst (λ (t : List ℕ). IsEnrolled e t) is enrolled))

free_at : (b : Bool) (e : State) (name holder : List ℕ) (p : Preference) (ps : List Preference) → bytes_eq p.name name ≡ b → MayHold name holder p → HasEnrolledHolder e p.hold → (IsEnrolled e holder → ⊥) → holder_of name ps ≡ None
    → holder_in (if b then Some p else found name ps) ≡ None
free_at true e name holder p ps is may enrolled never rest = free_hold e holder p.hold (may is) enrolled never
free_at false e name holder p ps is may enrolled never rest = rest

free_of : (e : State) (name holder : List ℕ) (ps : List Preference) → AllByRecursion (MayHold name holder) ps → HaveEnrolledHolders e ps → (IsEnrolled e holder → ⊥) → holder_of name ps ≡ None
free_of e name holder [] may enrolled never = refl
free_of e name holder (p ∷ ps) may enrolled never = free_at (bytes_eq p.name name) e name holder p ps refl may.0 enrolled.0 never (free_of e name holder ps may.1 enrolled.1 never)

ended_never : (holder : List ℕ) (e : State) → IsEnrolled (enrolment_ended holder e) holder → ⊥
ended_never holder e is = let clash : false ≡ true = sym (ap is_some (ended_none holder e.rows)) ∙ is in absurd cc

module _ (session : Session) (e : State) (ps : List Preference) (holder : List ℕ) where
  only_leaves : preferences_with session e (enrolment_ended holder e) ps ≡ leaves_done (changes_from e (enrolment_ended holder e)) ps
  only_leaves =
      let next = enrolment_ended holder e in
      no_joins (join_values session.manifest session.bindings next) (changes_from e next) (ended_leaves holder e) (leaves_done (changes_from e next) ps)

  pub released_sound : IsSound ps → IsSound (preferences_with session e (enrolment_ended holder e) ps)
  released_sound sound = subst IsSound (sym only_leaves) (leaves_sound (changes_from e (enrolment_ended holder e)) ps sound)

  pub ended_free : (name : List ℕ) → Rise (names_of ps) → holder_of name ps ≡ Some holder → HaveEnrolledHolders (enrolment_ended holder e) (preferences_with session e (enrolment_ended holder e) ps)
      → holder_of name (preferences_with session e (enrolment_ended holder e) ps) ≡ None
  ended_free name rise held enrolled =
      free_of (enrolment_ended holder e) name holder (preferences_with session e (enrolment_ended holder e) ps)
      (subst (λ (qs : List Preference). AllByRecursion (MayHold name holder) qs) (sym only_leaves) (leaves_are (MayHold name holder) (λ other v is. tt) (changes_from e (enrolment_ended holder e)) ps (may_hold name holder ps rise held)))
      enrolled (ended_never holder e)

  pub released_free : (name : List ℕ) → IsSound ps → holder_of name ps ≡ Some holder → HaveEnrolledHolders (enrolment_ended holder e) (preferences_with session e (enrolment_ended holder e) ps)
      → holder_of name (preferences_with session e (enrolment_ended holder e) ps) ≡ None
  released_free name sound held enrolled = ended_free name sound.names held enrolled

-- ---- the user's value

pub users_sound : (name : List ℕ) (value : Option Tree) (ps : List Preference) → IsTrue (is_name name) → IsValueOrNone value → IsSound ps → IsSound (set_by_user name value ps)
users_sound name None ps is value sound = sound_without name ps sound
users_sound name (Some v) ps is value sound = sound_with name v ps is value sound
