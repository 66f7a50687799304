-- The client takes part in the recipe of each holder after changes of its enrolments, where it did before.
use Rattle.std.proofs.Common.{Ordering, Less, Equal, Greater, ◌≡◌, ℕ, Bool, true, false, List, [], ◌∷◌, ◌++◌, Option, None, Some, IsTrue, refl, sym, ap, subst}
use Rattle.std.specs.Prelude.{◌||◌, bytes_eq, fold, is_some, option_and_then, if◌then◌else◌, ⊤}
use Rattle.std.specs.BTreeSet.{insert_key}
use Rattle.std.specs.Cmp.Lexicographic.{bytes_decides}
use Rattle.std.specs.List.{AllByRecursion, flat_map}
use Rattle.std.specs.Ordering.{match_ordering}
use Rattle.std.proofs.lemmas.Bool.{or_right}
use Rattle.sequences.proofs.Alls.{all_front, all_behind, all_append}
use Rattle.json_tree.specs.declared.tree.Tree.{Tree}
use Rattle.recipe_reader.specs.Payloads.{slug_cmp}
use Rattle.enrol_states.specs.Order.{is_in}
use Rattle.enrol_states.specs.State.{slugs_of, status_of}
use Rattle.enrol_states.specs.Statuses.{enrolled_branch}
use Rattle.enrol_states.specs.declared.state.Row.{Row}
use Rattle.enrol_states.specs.declared.state.State.{State}
use Rattle.change_outbox.specs.Changes.{all_slugs, branch_of, changes_between, join, leave, slug_changes}
use Rattle.change_outbox.specs.declared.change.Change.{Change}
use Rattle.change_outbox.specs.declared.change.ChangeKind.{ChangeKind}
use Rattle.change_outbox.specs.declared.change.ChangeKind.TheVariants.{Join, Leave}
use Rattle.pref_bindings.specs.Changes.{Setting, held_by, holds, is_held, joined, joined_at, joined_one, left, restored, set_by_user, set_value, users_part, with_preference, without_name}
use Rattle.pref_bindings.specs.declared.preference.Hold.{Hold}
use Rattle.pref_bindings.specs.declared.preference.Preference.{Preference}
use Rattle.client_state.specs.Following.{changes_done, changes_from, join_done, joins_done, leave_done, leaves_done}
use Rattle.client_state.specs.Sound.{HasEnrolledHolder, HaveEnrolledHolders, IsEnrolled}

-- ---- what holds of each holder

-- it holds of the holder, where there is one
abbrev OfHolder : (List ℕ → Type 0) → Option Hold → Type 0
OfHolder P None = ⊤
OfHolder P (Some h) = P h.holder

abbrev OfHolders : (List ℕ → Type 0) → List Preference → Type 0
OfHolders P ps = AllByRecursion (λ p. OfHolder P p.hold) ps

module _ (P Q : List ℕ → Type 0) (follows : (slug : List ℕ) → P slug → Q slug) where
  holder_more : (h : Option Hold) → OfHolder P h → OfHolder Q h
  holder_more None is = tt
  holder_more (Some h) is = follows h.holder is

  holders_more : (ps : List Preference) → OfHolders P ps → OfHolders Q ps
  holders_more [] are = tt
  holders_more (p ∷ ps) are = (holder_more p.hold are.0, holders_more ps are.1)

holder_of_enrolled : (e : State) (h : Option Hold) → HasEnrolledHolder e h → OfHolder (IsEnrolled e) h
holder_of_enrolled e None is = tt
holder_of_enrolled e (Some h) is = is

holders_of_enrolled : (e : State) (ps : List Preference) → HaveEnrolledHolders e ps → OfHolders (IsEnrolled e) ps
holders_of_enrolled e [] are = tt
holders_of_enrolled e (p ∷ ps) are = (holder_of_enrolled e p.hold are.0, holders_of_enrolled e ps are.1)

enrolled_holder : (e : State) (h : Option Hold) → OfHolder (IsEnrolled e) h → HasEnrolledHolder e h
enrolled_holder e None is = tt
enrolled_holder e (Some h) is = is

enrolled_holders : (e : State) (ps : List Preference) → OfHolders (IsEnrolled e) ps → HaveEnrolledHolders e ps
enrolled_holders e [] are = tt
enrolled_holders e (p ∷ ps) are = (enrolled_holder e p.hold are.0, enrolled_holders e ps are.1)

holders_append : (P : List ℕ → Type 0) (ps qs : List Preference) → OfHolders P ps → OfHolders P qs → OfHolders P (ps ++ qs)
holders_append P [] qs ps_are qs_are = qs_are
holders_append P (p ∷ ps) qs ps_are qs_are = (ps_are.0, holders_append P ps qs ps_are.1 qs_are)

-- ---- leaves

set_free : (P : List ℕ → Type 0) (name : List ℕ) (v : Option Tree) → OfHolders P (set_value name v)
set_free P name None = tt
set_free P name (Some v) = (tt, tt)

-- what a leave of a slug leaves others hold
module _ (P Q : List ℕ → Type 0) (slug : List ℕ) (other : (holder : List ℕ) → P holder → bytes_eq holder slug ≡ false → Q holder) where
  restored_at : (b : Bool) (p : Preference) (h : Hold) → p.hold ≡ Some h → P h.holder → bytes_eq h.holder slug ≡ b → OfHolders Q (if b then set_value p.name h.before else p ∷ [])
  restored_at true p h is held e = set_free Q p.name h.before
  restored_at false p h is held e = (subst (OfHolder Q) (sym is) (other h.holder held e), tt)

  restored_held : (p : Preference) (h : Option Hold) → p.hold ≡ h → OfHolder P h → OfHolders Q (if holds slug h then users_part p h else p ∷ [])
  restored_held p None is held = (subst (OfHolder Q) (sym is) tt, tt)
  restored_held p (Some h) is held = restored_at (bytes_eq h.holder slug) p h is held refl

  left_held : (ps : List Preference) → OfHolders P ps → OfHolders Q (left slug ps)
  left_held [] are = tt
  left_held (p ∷ ps) are = holders_append Q (restored slug p) (left slug ps) (restored_held p p.hold refl are.0) (left_held ps are.1)

-- the change is no leave of the slug
abbrev IsNoLeaveOf : List ℕ → Change → Type 0
IsNoLeaveOf slug c = c.kind ≡ Leave → c.slug ≡ slug → ⊥

abbrev NoneLeaves : List ℕ → List Change → Type 0
NoneLeaves slug cs = AllByRecursion (IsNoLeaveOf slug) cs

leave_held : (P : List ℕ → Type 0) (c : Change) (kind : ChangeKind) (ps : List Preference) → c.kind ≡ kind → OfHolders P ps → OfHolders (λ slug. P slug × IsNoLeaveOf slug c) (leave_done kind c.slug ps)
leave_held P c Join ps is are = holders_more P (λ slug. P slug × IsNoLeaveOf slug c) (λ slug held. (held, λ leaves same. absurd (let joins = is in cc))) ps are
leave_held P c Leave ps is are =
    left_held P (λ slug. P slug × IsNoLeaveOf slug c) c.slug (λ holder held other. (held, λ leaves same. let even = (bytes_decides holder c.slug).1 (sym same) in cc)) ps are

-- whoever holds one after these leaves held it before, and none of them is a leave of it
leaves_held : (P : List ℕ → Type 0) (cs : List Change) (ps : List Preference) → OfHolders P ps → OfHolders (λ slug. P slug × NoneLeaves slug cs) (leaves_done cs ps)
leaves_held P [] ps are = holders_more P (λ slug. P slug × NoneLeaves slug []) (λ slug held. (held, tt)) ps are
leaves_held P (c ∷ cs) ps are =
    holders_more (λ slug. (P slug × IsNoLeaveOf slug c) × NoneLeaves slug cs) (λ slug. P slug × NoneLeaves slug (c ∷ cs)) (λ slug held. (held.0.0, (held.0.1, held.1)))
    (leaves_done cs (leave_done c.kind c.slug ps))
    (leaves_held (λ slug. P slug × IsNoLeaveOf slug c) cs (leave_done c.kind c.slug ps) (leave_held P c c.kind ps refl are))

-- ---- joins

module _ (P : List ℕ → Type 0) (slug : List ℕ) (is : P slug) where
  at_held : (b : Bool) (v : Setting) (p : Preference) → OfHolder P p.hold → OfHolder P (if b then p else held_by slug v (Some p.value)).hold
  at_held true v p held = held
  at_held false v p held = is

  one_at : (o : Ordering) (v : Setting) (p : Preference) (ps : List Preference) → OfHolders P (p ∷ ps) → OfHolders P (joined_one slug v ps)
      → OfHolders P (match_ordering o (held_by slug v None ∷ p ∷ ps) (joined_at slug v p ∷ ps) (p ∷ joined_one slug v ps))
  one_at Less v p ps are rest = (is, are)
  one_at Equal v p ps are rest = (at_held (is_held p.hold) v p are.0, are.1)
  one_at Greater v p ps are rest = (are.0, rest)

  one_held : (v : Setting) (ps : List Preference) → OfHolders P ps → OfHolders P (joined_one slug v ps)
  one_held v [] are = (is, tt)
  one_held v (p ∷ ps) are = one_at (slug_cmp v.0 p.name) v p ps are (one_held v ps are.1)

  joined_held : (vs : List Setting) (ps : List Preference) → OfHolders P ps → OfHolders P (joined slug vs ps)
  joined_held [] ps are = are
  joined_held (v ∷ vs) ps are = joined_held vs (joined_one slug v ps) (one_held v ps are)

-- it holds of the slug, where the change is a join of it
abbrev OfJoin : (List ℕ → Type 0) → Change → Type 0
OfJoin P c = c.kind ≡ Join → P c.slug

join_held : (P : List ℕ → Type 0) (c : Change) (kind : ChangeKind) (vs : List Setting) (ps : List Preference) → c.kind ≡ kind → OfJoin P c → OfHolders P ps → OfHolders P (join_done kind c.slug vs ps)
join_held P c Join vs ps is joins are = joined_held P c.slug (joins is) vs ps are
join_held P c Leave vs ps is joins are = are

-- what holds of each holder before these joins, and of each slug that joins, holds of each holder after them
joins_held : (P : List ℕ → Type 0) (values : Change → List Setting) (cs : List Change) (ps : List Preference) → AllByRecursion (OfJoin P) cs → OfHolders P ps → OfHolders P (joins_done values cs ps)
joins_held P values [] ps join are = are
joins_held P values (c ∷ cs) ps join are = joins_held P values cs (join_done c.kind c.slug (values c) ps) join.1 (join_held P c c.kind (values c) ps refl join.0 are)

-- ---- the slugs of changes

abbrev told : List Row → List Row → List (List ℕ) → List Change
told old new slugs = flat_map (λ slug. slug_changes slug (branch_of slug old) (branch_of slug new)) slugs

or_rest : (b x y : Bool) → (x ≡ true → y ≡ true) → (b || x) ≡ true → (b || y) ≡ true
or_rest true x y more is = refl
or_rest false x y more is = more is

in_one_more : (s u : List ℕ) (ts : List (List ℕ)) → is_in ts s ≡ true → is_in (insert_key slug_cmp ts u) s ≡ true
in_one_more s u [] there = absurd cc
in_one_more s u (t ∷ ts) there =
    elim (slug_cmp u t) as (λ o. is_in (match_ordering o (u ∷ t ∷ ts) (t ∷ ts) (t ∷ insert_key slug_cmp ts u)) s ≡ true) [
      | Less ↦ or_right (bytes_eq u s) (is_in (t ∷ ts) s) there
      | Equal ↦ there
      | Greater ↦ or_rest (bytes_eq t s) (is_in ts s) (is_in (insert_key slug_cmp ts u) s) (in_one_more s u ts) there
    ]

in_more : (s : List ℕ) (ts us : List (List ℕ)) → is_in ts s ≡ true → is_in (fold (insert_key slug_cmp) ts us) s ≡ true
in_more s ts [] there = there
in_more s ts (u ∷ us) there = in_more s (insert_key slug_cmp ts u) us (in_one_more s u ts there)

row_at : (b : Bool) (slug : List ℕ) (r : Row) (rows : List Row) → (IsTrue (is_some (branch_of slug rows)) → is_in (slugs_of rows) slug ≡ true)
    → IsTrue (is_some (option_and_then enrolled_branch (if b then Some r.status else status_of slug rows))) → (b || is_in (slugs_of rows) slug) ≡ true
row_at true slug r rows rest enrolled = refl
row_at false slug r rows rest enrolled = rest enrolled

-- a slug that has a branch has a row
has_row : (slug : List ℕ) (rows : List Row) → IsTrue (is_some (branch_of slug rows)) → is_in (slugs_of rows) slug ≡ true
has_row slug [] enrolled = absurd cc
has_row slug (r ∷ rows) enrolled = row_at (bytes_eq r.slug slug) slug r rows (has_row slug rows) enrolled

-- ---- a slug without a leave stays

some_stays : (slug : List ℕ) (before after : Option (List ℕ)) → IsTrue (is_some before) → NoneLeaves slug (slug_changes slug before after) → IsTrue (is_some after)
some_stays slug None after was none = absurd cc
some_stays slug (Some before) None was none = absurd (none.0 refl refl)
some_stays slug (Some before) (Some after) was none = refl

module _ (old new : List Row) where
  abbrev told_of : List ℕ → List Change
  told_of slug = slug_changes slug (branch_of slug old) (branch_of slug new)

  abbrev IsIn : List ℕ → Type 0
  IsIn slug = IsTrue (is_some (branch_of slug new))

  stays_at : (b : Bool) (slug s : List ℕ) (slugs : List (List ℕ)) → bytes_eq s slug ≡ b → (b || is_in slugs slug) ≡ true → IsTrue (is_some (branch_of slug old)) → NoneLeaves slug (told_of s ++ told old new slugs)
      → (is_in slugs slug ≡ true → NoneLeaves slug (told old new slugs) → IsIn slug) → IsIn slug
  stays_at true slug s slugs e there was none rest =
      let same : s ≡ slug = (bytes_decides s slug).0 e in
      some_stays slug (branch_of slug old) (branch_of slug new) was
      (subst (λ t. NoneLeaves slug (told_of t)) same (all_front (IsNoLeaveOf slug) (told_of s) (told old new slugs) none))
  stays_at false slug s slugs e there was none rest = rest there (all_behind (IsNoLeaveOf slug) (told_of s) (told old new slugs) none)

  stays_in : (slug : List ℕ) (slugs : List (List ℕ)) → is_in slugs slug ≡ true → IsTrue (is_some (branch_of slug old)) → NoneLeaves slug (told old new slugs) → IsIn slug
  stays_in slug [] there was none = absurd cc
  stays_in slug (s ∷ slugs) there was none = stays_at (bytes_eq s slug) slug s slugs refl there was none (λ behind others. stays_in slug slugs behind was others)

  slug_joins : (slug : List ℕ) (before after : Option (List ℕ)) → after ≡ branch_of slug new → AllByRecursion (OfJoin IsIn) (slug_changes slug before after)
  slug_joins slug None None is = tt
  slug_joins slug None (Some after) is = ((λ joins. sym (ap is_some is)), tt)
  slug_joins slug (Some before) None is = ((λ joins. absurd cc), tt)
  slug_joins slug (Some before) (Some after) is =
      elim (bytes_eq before after) as (λ b. AllByRecursion (OfJoin IsIn) (if b then [] else leave slug before ∷ join slug after ∷ [])) [
        | true ↦ tt
        | false ↦ ((λ joins. absurd cc), ((λ joins. sym (ap is_some is)), tt))
      ]

  told_joins : (slugs : List (List ℕ)) → AllByRecursion (OfJoin IsIn) (told old new slugs)
  told_joins [] = tt
  told_joins (slug ∷ slugs) = all_append (OfJoin IsIn) (told_of slug) (told old new slugs) (slug_joins slug (branch_of slug old) (branch_of slug new) refl) (told_joins slugs)

  stays_between : (slug : List ℕ) → IsTrue (is_some (branch_of slug old)) → NoneLeaves slug (changes_between old new) → IsIn slug
  unfolding changes_between
  stays_between slug was none = stays_in slug (all_slugs old new) (in_more slug (slugs_of old) (slugs_of new) (has_row slug old was)) was none

  joins_between : AllByRecursion (OfJoin IsIn) (changes_between old new)
  unfolding changes_between
  joins_between = told_joins (all_slugs old new)

-- ---- all changes

-- the client takes part in the recipe of each holder after the changes of its enrolments
pub holders_after : (e next : State) (values : Change → List Setting) (ps : List Preference) → HaveEnrolledHolders e ps → HaveEnrolledHolders next (changes_done values (changes_from e next) ps)
holders_after e next values ps have =
    let cs = changes_from e next in
    let kept : OfHolders (IsEnrolled next) (leaves_done cs ps) =
    holders_more (λ slug. IsEnrolled e slug × NoneLeaves slug cs) (IsEnrolled next) (λ slug held. stays_between e.rows next.rows slug held.0 held.1) (leaves_done cs ps)
    (leaves_held (IsEnrolled e) cs ps (holders_of_enrolled e ps have))
    in
    enrolled_holders next (changes_done values cs ps) (joins_held (IsEnrolled next) values cs (leaves_done cs ps) (joins_between e.rows next.rows) kept)

-- where no enrolment changes, it takes part in the recipe of each as before
pub holders_stay : (e next : State) (ps : List Preference) → changes_from e next ≡ [] → HaveEnrolledHolders e ps → HaveEnrolledHolders next ps
holders_stay e next ps none have = subst (λ (cs : List Change). HaveEnrolledHolders next (changes_done (λ c. []) cs ps)) none (holders_after e next (λ c. []) ps have)

-- ---- the user

with_enrolled : (e : State) (name : List ℕ) (v : Tree) (ps : List Preference) → HaveEnrolledHolders e ps → HaveEnrolledHolders e (with_preference (record { name = name; value = v; hold = None }) ps)
with_enrolled e name v [] are = (tt, tt)
with_enrolled e name v (p ∷ ps) are =
    let q : Preference = record { name = name; value = v; hold = None } in
    elim (slug_cmp name p.name) as (λ o. HaveEnrolledHolders e (match_ordering o (q ∷ p ∷ ps) (q ∷ ps) (p ∷ with_preference q ps))) [
      | Less ↦ (tt, are)
      | Equal ↦ (tt, are.1)
      | Greater ↦ (are.0, with_enrolled e name v ps are.1)
    ]

without_enrolled : (e : State) (name : List ℕ) (ps : List Preference) → HaveEnrolledHolders e ps → HaveEnrolledHolders e (without_name name ps)
without_enrolled e name [] are = tt
without_enrolled e name (p ∷ ps) are =
    elim (slug_cmp name p.name) as (λ o. HaveEnrolledHolders e (match_ordering o (p ∷ ps) ps (p ∷ without_name name ps))) [
      | Less ↦ are
      | Equal ↦ are.1
      | Greater ↦ (are.0, without_enrolled e name ps are.1)
    ]

-- what the user sets or takes away gives no other holder
pub holders_set : (e : State) (name : List ℕ) (value : Option Tree) (ps : List Preference) → HaveEnrolledHolders e ps → HaveEnrolledHolders e (set_by_user name value ps)
holders_set e name None ps have = without_enrolled e name ps have
holders_set e name (Some v) ps have = with_enrolled e name v ps have
