-- What holds of each preference that is held, over changes of enrolments.
use Rattle.std.proofs.Common.{Ordering, Less, Equal, Greater, ◌≡◌, ℕ, Bool, true, false, List, [], ◌∷◌, ◌++◌, Option, None, Some, refl, sym, subst}
use Rattle.std.specs.Prelude.{bytes_eq, if◌then◌else◌}
use Rattle.std.specs.Cmp.Lexicographic.{bytes_decides}
use Rattle.std.specs.List.{AllByRecursion}
use Rattle.std.specs.Ordering.{match_ordering}
use Rattle.json_tree.specs.declared.tree.Tree.{Tree}
use Rattle.recipe_reader.specs.Payloads.{slug_cmp}
use Rattle.change_outbox.specs.declared.change.Change.{Change}
use Rattle.change_outbox.specs.declared.change.ChangeKind.{ChangeKind}
use Rattle.change_outbox.specs.declared.change.ChangeKind.TheVariants.{Join, Leave}
use Rattle.pref_bindings.specs.Changes.{Setting, held_by, holds, is_held, joined, joined_at, joined_one, left, restored, set_by_user, set_value, users_part, with_preference, without_name}
use Rattle.pref_bindings.specs.declared.preference.Hold.{Hold}
use Rattle.pref_bindings.specs.declared.preference.Preference.{Preference}
use Rattle.client_state.specs.Following.{join_done, joins_done, leave_done, leaves_done}
use Rattle.session_run.specs.PreferenceChains.{OfHolder, NoneLeaves}

-- ---- preferences that are held

-- it holds of each preference that is held, and of its holder
abbrev pub HeldAre : (Preference → List ℕ → Type 0) → List Preference → Type 0
HeldAre P ps = AllByRecursion (λ p. OfHolder (P p) p.hold) ps

module _ (P Q : Preference → List ℕ → Type 0) (follows : (p : Preference) (slug : List ℕ) → P p slug → Q p slug) where
  holder_more : (p : Preference) (h : Option Hold) → OfHolder (P p) h → OfHolder (Q p) h
  holder_more p None is = tt
  holder_more p (Some h) is = follows p h.holder is

  pub held_more : (ps : List Preference) → HeldAre P ps → HeldAre Q ps
  held_more [] are = tt
  held_more (p ∷ ps) are = (holder_more p p.hold are.0, held_more ps are.1)

held_append : (P : Preference → List ℕ → Type 0) (ps qs : List Preference) → HeldAre P ps → HeldAre P qs → HeldAre P (ps ++ qs)
held_append P [] qs ps_are qs_are = qs_are
held_append P (p ∷ ps) qs ps_are qs_are = (ps_are.0, held_append P ps qs ps_are.1 qs_are)

set_held : (P : Preference → List ℕ → Type 0) (name : List ℕ) (v : Option Tree) → HeldAre P (set_value name v)
set_held P name None = tt
set_held P name (Some v) = (tt, tt)

-- ---- leaves

module _ (P Q : Preference → List ℕ → Type 0) (slug : List ℕ) (other : (p : Preference) (holder : List ℕ) → P p holder → bytes_eq holder slug ≡ false → Q p holder) where
  restored_at : (b : Bool) (p : Preference) (h : Hold) → p.hold ≡ Some h → P p h.holder → bytes_eq h.holder slug ≡ b → HeldAre Q (if b then set_value p.name h.before else p ∷ [])
  restored_at true p h is held e = set_held Q p.name h.before
  restored_at false p h is held e = (subst (OfHolder (Q p)) (sym is) (other p h.holder held e), tt)

  restored_held : (p : Preference) (h : Option Hold) → p.hold ≡ h → OfHolder (P p) h → HeldAre Q (if holds slug h then users_part p h else p ∷ [])
  restored_held p None is held = (subst (OfHolder (Q p)) (sym is) tt, tt)
  restored_held p (Some h) is held = restored_at (bytes_eq h.holder slug) p h is held refl

  left_held : (ps : List Preference) → HeldAre P ps → HeldAre Q (left slug ps)
  left_held [] are = tt
  left_held (p ∷ ps) are = held_append Q (restored slug p) (left slug ps) (restored_held p p.hold refl are.0) (left_held ps are.1)

-- the change is no leave of the slug
abbrev pub IsNoLeaveOf : List ℕ → Change → Type 0
IsNoLeaveOf slug c = c.kind ≡ Leave → c.slug ≡ slug → ⊥

leave_held : (P : Preference → List ℕ → Type 0) (c : Change) (kind : ChangeKind) (ps : List Preference) → c.kind ≡ kind → HeldAre P ps → HeldAre (λ p slug. P p slug × IsNoLeaveOf slug c) (leave_done kind c.slug ps)
leave_held P c Join ps is are = held_more P (λ p slug. P p slug × IsNoLeaveOf slug c) (λ p slug held. (held, λ leaves same. absurd (let joins = is in cc))) ps are
leave_held P c Leave ps is are =
    left_held P (λ p slug. P p slug × IsNoLeaveOf slug c) c.slug (λ p holder held other. (held, λ leaves same. let even = (bytes_decides holder c.slug).1 (sym same) in cc)) ps are

-- who still holds one after the leaves of these changes held it before, and none of them is a leave of it
pub leaves_held : (P : Preference → List ℕ → Type 0) (cs : List Change) (ps : List Preference) → HeldAre P ps → HeldAre (λ p slug. P p slug × NoneLeaves slug cs) (leaves_done cs ps)
leaves_held P [] ps are = held_more P (λ p slug. P p slug × NoneLeaves slug []) (λ p slug held. (held, tt)) ps are
leaves_held P (c ∷ cs) ps are =
    held_more (λ p slug. (P p slug × IsNoLeaveOf slug c) × NoneLeaves slug cs) (λ p slug. P p slug × NoneLeaves slug (c ∷ cs)) (λ p slug held. (held.0.0, (held.0.1, held.1)))
    (leaves_done cs (leave_done c.kind c.slug ps))
    (leaves_held (λ p slug. P p slug × IsNoLeaveOf slug c) cs (leave_done c.kind c.slug ps) (leave_held P c c.kind ps refl are))

-- ---- joins

module _ (P : Preference → List ℕ → Type 0) (slug : List ℕ) where
  -- it holds of what the slug sets
  abbrev pub Sets : Setting → Type 0
  Sets v = (before : Option Tree) → P (held_by slug v before) slug

  at_held : (b : Bool) (v : Setting) (p : Preference) → Sets v → OfHolder (P p) p.hold → OfHolder (P (if b then p else held_by slug v (Some p.value))) (if b then p else held_by slug v (Some p.value)).hold
  at_held true v p sets is = is
  at_held false v p sets is = sets (Some p.value)

  one_at : (o : Ordering) (v : Setting) (p : Preference) (ps : List Preference) → Sets v → HeldAre P (p ∷ ps) → HeldAre P (joined_one slug v ps)
      → HeldAre P (match_ordering o (held_by slug v None ∷ p ∷ ps) (joined_at slug v p ∷ ps) (p ∷ joined_one slug v ps))
  one_at Less v p ps sets are rest = (sets None, are)
  one_at Equal v p ps sets are rest = (at_held (is_held p.hold) v p sets are.0, are.1)
  one_at Greater v p ps sets are rest = (are.0, rest)

  one_held : (v : Setting) (ps : List Preference) → Sets v → HeldAre P ps → HeldAre P (joined_one slug v ps)
  one_held v [] sets are = (sets None, tt)
  one_held v (p ∷ ps) sets are = one_at (slug_cmp v.0 p.name) v p ps sets are (one_held v ps sets are.1)

  joined_held : (vs : List Setting) (ps : List Preference) → AllByRecursion Sets vs → HeldAre P ps → HeldAre P (joined slug vs ps)
  joined_held [] ps set are = are
  joined_held (v ∷ vs) ps set are = joined_held vs (joined_one slug v ps) set.1 (one_held v ps set.0 are)

-- it holds of what each join of these changes sets
abbrev pub JoinSets : (Preference → List ℕ → Type 0) → (Change → List Setting) → Change → Type 0
JoinSets P values c = c.kind ≡ Join → AllByRecursion (Sets P c.slug) (values c)

join_held : (P : Preference → List ℕ → Type 0) (values : Change → List Setting) (c : Change) (kind : ChangeKind) (ps : List Preference) → c.kind ≡ kind → JoinSets P values c → HeldAre P ps
    → HeldAre P (join_done kind c.slug (values c) ps)
join_held P values c Join ps is sets are = joined_held P c.slug (values c) ps (sets is) are
join_held P values c Leave ps is sets are = are

-- what holds of each that is held before the joins of these changes, and of what they set, holds of each that is held after them
pub joins_held : (P : Preference → List ℕ → Type 0) (values : Change → List Setting) (cs : List Change) (ps : List Preference) → AllByRecursion (JoinSets P values) cs → HeldAre P ps → HeldAre P (joins_done values cs ps)
joins_held P values [] ps set are = are
joins_held P values (c ∷ cs) ps set are = joins_held P values cs (join_done c.kind c.slug (values c) ps) set.1 (join_held P values c c.kind ps refl set.0 are)

-- ---- the user

with_held : (P : Preference → List ℕ → Type 0) (name : List ℕ) (v : Tree) (ps : List Preference) → HeldAre P ps → HeldAre P (with_preference (record { name = name; value = v; hold = None }) ps)
with_held P name v [] are = (tt, tt)
with_held P name v (p ∷ ps) are =
    let q : Preference = record { name = name; value = v; hold = None } in
    elim (slug_cmp name p.name) as (λ o. HeldAre P (match_ordering o (q ∷ p ∷ ps) (q ∷ ps) (p ∷ with_preference q ps))) [
      | Less ↦ (tt, are)
      | Equal ↦ (tt, are.1)
      | Greater ↦ (are.0, with_held P name v ps are.1)
    ]

without_held : (P : Preference → List ℕ → Type 0) (name : List ℕ) (ps : List Preference) → HeldAre P ps → HeldAre P (without_name name ps)
without_held P name [] are = tt
without_held P name (p ∷ ps) are =
    elim (slug_cmp name p.name) as (λ o. HeldAre P (match_ordering o (p ∷ ps) ps (p ∷ without_name name ps))) [
      | Less ↦ are
      | Equal ↦ are.1
      | Greater ↦ (are.0, without_held P name ps are.1)
    ]

-- what the user sets or takes away nobody holds
pub user_held : (P : Preference → List ℕ → Type 0) (name : List ℕ) (value : Option Tree) (ps : List Preference) → HeldAre P ps → HeldAre P (set_by_user name value ps)
user_held P name None ps are = without_held P name ps are
user_held P name (Some v) ps are = with_held P name v ps are
