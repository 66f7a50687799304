-- The outbox with the changes of enrolments, and without those that are confirmed.
use Rattle.std.proofs.Common.{Less, Equal, Greater, ◌≡◌, ℕ, ◌+◌, ◌-◌, ◌<◌, true, false, List, [], ◌∷◌, ◌++◌, length, Option, Some, None, refl, sym, ap, ap₂, ◌∙◌, subst, arith}
use Rattle.std.specs.Prelude.{All, bytes_eq, fold, option_and_then, if◌then◌else◌, ⊤}
use Rattle.std.specs.BTreeSet.{insert_key}
use Rattle.std.specs.Cmp.Lexicographic.{bytes_decides}
use Rattle.std.specs.List.{AllByRecursion, flat_map}
use Rattle.std.specs.Ordering.{match_ordering}
use Rattle.std.proofs.lemmas.Bool.{ltb-false}
use Rattle.std.proofs.lemmas.List.{append-nil}
use Rattle.std.proofs.lemmas.List.Elements.{All-head, All-tail}
use Rattle.recipe_reader.specs.Payloads.{slug_cmp}
use Rattle.enrol_states.specs.Consistent as states
use Rattle.enrol_states.specs.State.{slugs_of, status_of}
use Rattle.enrol_states.specs.Statuses.{IsSlug, IsStatus, enrolled_branch}
use Rattle.enrol_states.specs.declared.state.Row.{Row}
use Rattle.enrol_states.specs.declared.state.State.{State}
use Rattle.enrol_states.specs.declared.status.Status.{Status}
use Rattle.enrol_states.specs.declared.status.Status.TheVariants as statuses
use Rattle.change_outbox.specs.Changes.{all_slugs, branch_of, changes_between, join, leave, slug_changes}
use Rattle.change_outbox.specs.Contents.{Contents, HaveSlugs, IsSound, appended, confirmed, last_number}
use Rattle.change_outbox.specs.declared.change.Change.{Change}
use Rattle.change_outbox.proofs.Numbers.{above-drop, appended_sound, last_sound}
use Rattle.client_state.specs.Following.{appended_changes, changes_from, is_spent}

-- ---- the changes have slugs

abbrev AreSlugs : List (List ℕ) → Type 0
AreSlugs ts = AllByRecursion IsSlug ts

slugs_insert : (t : List ℕ) (ts : List (List ℕ)) → IsSlug t → AreSlugs ts → AreSlugs (insert_key slug_cmp ts t)
slugs_insert t [] is are = (is, tt)
slugs_insert t (u ∷ us) is are =
    elim (slug_cmp t u) as (λ o. AreSlugs (match_ordering o (t ∷ u ∷ us) (u ∷ us) (u ∷ insert_key slug_cmp us t))) [
      | Less ↦ (is, are)
      | Equal ↦ are
      | Greater ↦ (are.0, slugs_insert t us is are.1)
    ]

slugs_fold : (ts us : List (List ℕ)) → AreSlugs ts → AreSlugs us → AreSlugs (fold (insert_key slug_cmp) ts us)
slugs_fold ts [] are more = are
slugs_fold ts (u ∷ us) are more = slugs_fold (insert_key slug_cmp ts u) us (slugs_insert u ts more.0 are) more.1

row_slugs : (rows : List Row) → All (λ (row : Row). IsSlug row.slug) rows → AreSlugs (slugs_of rows)
row_slugs [] are = tt
row_slugs (row ∷ rows) are = (All-head (λ (r : Row). IsSlug r.slug) row rows are, row_slugs rows (All-tail (λ (r : Row). IsSlug r.slug) row rows are))

abbrev IsBranch : Option (List ℕ) → Type 0
IsBranch None = ⊤
IsBranch (Some branch) = IsSlug branch

status_branch : (status : Status) → IsStatus status → IsBranch (enrolled_branch status)
status_branch (statuses.Enrolled reason branch) is = is
status_branch status is = tt

row_branch : (slug : List ℕ) (rows : List Row) → All (λ (row : Row). IsStatus row.status) rows → IsBranch (branch_of slug rows)
row_branch slug [] are = tt
row_branch slug (row ∷ rows) are =
    elim (bytes_eq row.slug slug) as (λ b. IsBranch (option_and_then enrolled_branch (if b then Some row.status else status_of slug rows))) [
      | true ↦ status_branch row.status (All-head (λ (r : Row). IsStatus r.status) row rows are)
      | false ↦ row_branch slug rows (All-tail (λ (r : Row). IsStatus r.status) row rows are)
    ]

have_slugs : (slug : List ℕ) (before after : Option (List ℕ)) → IsSlug slug → IsBranch before → IsBranch after → HaveSlugs (slug_changes slug before after)
have_slugs slug None None is was becomes = tt
have_slugs slug None (Some after) is was becomes = (record { slug = is; branch = becomes }, tt)
have_slugs slug (Some before) None is was becomes = (record { slug = is; branch = was }, tt)
have_slugs slug (Some before) (Some after) is was becomes =
    elim (bytes_eq before after) as (λ b. HaveSlugs (if b then [] else leave slug before ∷ join slug after ∷ [])) [
      | true ↦ tt
      | false ↦ (record { slug = is; branch = was }, (record { slug = is; branch = becomes }, tt))
    ]

have_appended : (xs ys : List Change) → HaveSlugs xs → HaveSlugs ys → HaveSlugs (xs ++ ys)
have_appended [] ys xs_have ys_have = ys_have
have_appended (x ∷ xs) ys xs_have ys_have = (xs_have.0, have_appended xs ys xs_have.1 ys_have)

-- the changes of these slugs
abbrev told : List Row → List Row → List (List ℕ) → List Change
told old new slugs = flat_map (λ slug. slug_changes slug (branch_of slug old) (branch_of slug new)) slugs

told_slugs : (old new : List Row) → All (λ (row : Row). IsStatus row.status) old → All (λ (row : Row). IsStatus row.status) new → (slugs : List (List ℕ)) → AreSlugs slugs → HaveSlugs (told old new slugs)
told_slugs old new was becomes [] are = tt
told_slugs old new was becomes (slug ∷ slugs) are =
    have_appended (slug_changes slug (branch_of slug old) (branch_of slug new)) (told old new slugs) (have_slugs slug (branch_of slug old) (branch_of slug new) are.0 (row_branch slug old was) (row_branch slug new becomes))
    (told_slugs old new was becomes slugs are.1)

pub changes_slugs : (e next : State) → states.IsConsistent e → states.IsConsistent next → HaveSlugs (changes_from e next)
unfolding changes_between
changes_slugs e next was becomes =
    told_slugs e.rows next.rows was.row_statuses becomes.row_statuses (all_slugs e.rows next.rows) (slugs_fold (slugs_of e.rows) (slugs_of next.rows) (row_slugs e.rows was.row_slugs) (row_slugs next.rows becomes.row_slugs))

-- ---- what stays sound

pub appended_is_sound : (e next : State) (o : Contents) → states.IsConsistent e → states.IsConsistent next → IsSound o → is_spent e next o ≡ false → IsSound (appended_changes e next o)
appended_is_sound e next o was becomes sound fits =
    appended_sound o (changes_from e next) sound (changes_slugs e next was becomes) (ltb-false last_number (o.next + length (changes_from e next)) fits)

pub confirmed_is_sound : (o : Contents) (number : ℕ) → IsSound o → number < o.next → IsSound (confirmed number o)
confirmed_is_sound o number sound below =
    let first : length o.entries < o.next = sound.numbered.first in
    subst (λ (es : List Change). IsSound (record { next = o.next; entries = es })) (sym (above-drop number (o.next - length o.entries) o.entries sound.numbered.numbers))
    (last_sound o (number + 1 - (o.next - length o.entries)) sound (omega (arith, first, below)))

-- ---- an enrolment that stays

pub same_branch : (slug : List ℕ) (branch : Option (List ℕ)) → slug_changes slug branch branch ≡ []
same_branch slug None = refl
same_branch slug (Some branch) = ap (λ b. if b then [] else leave slug branch ∷ join slug branch ∷ []) ((bytes_decides branch branch).1 refl)

none_told : (rows : List Row) (slugs : List (List ℕ)) → told rows rows slugs ≡ []
none_told rows [] = refl
none_told rows (slug ∷ slugs) = ap₂ (λ (x y : List Change). x ++ y) (same_branch slug (branch_of slug rows)) (none_told rows slugs)

pub no_changes_from : (e : State) → changes_from e e ≡ []
unfolding changes_between
no_changes_from e = none_told e.rows (all_slugs e.rows e.rows)

appended_none : (o : Contents) → appended [] o ≡ o
appended_none o = let next : o.next + 0 ≡ o.next = omega arith in (λ i. record { next = next i; entries = append-nil o.entries i })

-- nothing is told of it
pub appended_same : (e : State) (o : Contents) → appended_changes e e o ≡ o
appended_same e o = ap (λ (cs : List Change). appended cs o) (no_changes_from e) ∙ appended_none o
