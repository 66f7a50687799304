-- The commands leave features to one recipe of a kind.
use Rattle.std.proofs.Common.{Ordering, ◌≡◌, ℕ, Bool, true, false, List, [], ◌∷◌, map, Option, Some, Less, Equal, Greater, ◌&&◌, refl, sym, ap, ◌∙◌, subst}
use Rattle.std.specs.Prelude.{All, IsTrue, not, bytes_eq, if◌then◌else◌}
use Rattle.std.specs.Cmp.Lexicographic.{bytes_decides}
use Rattle.std.specs.Ordering.{match_ordering}
use Rattle.std.proofs.lemmas.List.Elements.{All-head, All-tail}
use Rattle.recipe_reader.specs.Payloads.{slug_cmp, recipe_with}
use Rattle.recipe_reader.specs.Kinds.{kind_of, kind_eq}
use Rattle.recipe_reader.specs.declared.recipe.Recipe.{Recipe}
use Rattle.recipe_reader.proofs.SameKind.{kinds_turned}
use Rattle.enrol_states.specs.Order.{is_in}
use Rattle.enrol_states.specs.Statuses.{is_enrolled, is_enrolled_now}
use Rattle.enrol_states.specs.State.{status_of}
use Rattle.enrol_states.specs.Recipes.{has_feature, share}
use Rattle.enrol_states.specs.Features.{takes, shares_with, IsFree}
use Rattle.enrol_states.specs.Exclusive.{AreExclusive}
use Rattle.enrol_states.specs.Choices.{MayChoose}
use Rattle.enrol_states.specs.Commands.{row_opted_out, row_left, opted_out_of, with_row, opted_in, after_participate, after_opt_out, after_opt_in}
use Rattle.enrol_states.specs.declared.state.State.{State}
use Rattle.enrol_states.specs.declared.state.Row.{Row}
use Rattle.enrol_states.specs.declared.participation.Kinds.{Kinds}
use Rattle.enrol_states.specs.declared.status.Status.{Status}
use Rattle.enrol_states.proofs.Ordered.{same_texts, bytes_turned, greater_texts}
use Rattle.enrol_states.proofs.OptingOut.{is_enrolled-opted_out, either, left_or_same}

-- ---- fewer enrolments

fewer_at : (slug : List ℕ) (g row : Row) (gs rows : List Row) (b : Bool) → (IsTrue (is_enrolled g.status) → IsTrue (is_enrolled row.status)) → (IsTrue (is_enrolled_now (status_of slug gs)) → IsTrue (is_enrolled_now (status_of slug rows)))
    → IsTrue (is_enrolled_now (if b then Some g.status else status_of slug gs)) → IsTrue (is_enrolled_now (if b then Some row.status else status_of slug rows))
fewer_at slug g row gs rows true here rest h = here h
fewer_at slug g row gs rows false here rest h = rest h

-- where rows enrol no more than before, neither does a slug
fewer : (g : Row → Row) (slug : List ℕ) (rows : List Row) → ((row : Row) → (g row).slug ≡ row.slug) → ((row : Row) → IsTrue (is_enrolled (g row).status) → IsTrue (is_enrolled row.status))
    → IsTrue (is_enrolled_now (status_of slug (map g rows))) → IsTrue (is_enrolled_now (status_of slug rows))
fewer g slug [] same kept h = h
fewer g slug (row ∷ rows) same kept h =
    fewer_at slug (g row) row (map g rows) rows (bytes_eq row.slug slug) (kept row) (fewer g slug rows same kept)
    (subst (λ t. IsTrue (is_enrolled_now (if bytes_eq t slug then Some (g row).status else status_of slug (map g rows)))) (same row) h)

none_enrolled : {A : Type 0} (row : Row) → IsTrue (is_enrolled (row_opted_out row).status) → A
none_enrolled row h = let none = is_enrolled-opted_out row.status in absurd cc

pub participate : (s : State) (kinds : Kinds) (on : Bool) → AreExclusive s → AreExclusive (after_participate s kinds on)
participate s kinds true ex = ex
participate s kinds false ex = λ slug other f r q one two.
    let same : (row : Row) → (row_left s kinds row).slug ≡ row.slug = λ row. left_or_same (λ p. p.slug ≡ row.slug) s kinds row refl (λ h. refl) in
    let kept : (row : Row) → IsTrue (is_enrolled (row_left s kinds row).status) → IsTrue (is_enrolled row.status) =
    λ row. left_or_same (λ p. IsTrue (is_enrolled p.status) → IsTrue (is_enrolled row.status)) s kinds row (λ h. none_enrolled row h) (λ h enrolled. enrolled)
    in
    ex slug other f r q (fewer (row_left s kinds) slug s.rows same kept one) (fewer (row_left s kinds) other s.rows same kept two)

pub opt_out : (s : State) (slug : List ℕ) → AreExclusive s → AreExclusive (after_opt_out s slug)
opt_out s out ex slug other f r q one two =
    let same : (row : Row) → (opted_out_of out row).slug ≡ row.slug = λ row. either (λ p. p.slug ≡ row.slug) out row refl (λ h. refl) in
    let kept : (row : Row) → IsTrue (is_enrolled (opted_out_of out row).status) → IsTrue (is_enrolled row.status) =
    λ row. either (λ p. IsTrue (is_enrolled p.status) → IsTrue (is_enrolled row.status)) out row (λ h. none_enrolled row h) (λ h enrolled. enrolled)
    in
    ex slug other f r q (fewer (opted_out_of out) slug s.rows same kept one) (fewer (opted_out_of out) other s.rows same kept two)

pub without_rows : (s : State) → s.rows ≡ [] → AreExclusive s
without_rows s none slug other f r q one two = let out = ap (λ rows. is_enrolled_now (status_of slug rows)) none in absurd cc

-- ---- one more enrolment

without_both : (a b : Bool) (x y z : Option Status) → a ≡ b → (if a then x else z) ≡ (if a then x else (if b then y else z))
without_both true true x y z e = refl
without_both false false x y z e = refl
without_both true false x y z e = absurd cc
without_both false true x y z e = absurd cc

not_both : (a b : Bool) (x y z : Option Status) → (a ≡ true → b ≡ true → true ≡ false) → (if b then y else (if a then x else z)) ≡ (if a then x else (if b then y else z))
not_both true true x y z apart = absurd (let never = apart refl refl in cc)
not_both true false x y z apart = refl
not_both false true x y z apart = refl
not_both false false x y z apart = refl

status_at : (slug : List ℕ) (r q : Row) (qs : List Row) (o : Ordering) → slug_cmp r.slug q.slug ≡ o → status_of slug (with_row r qs) ≡ (if bytes_eq r.slug slug then Some r.status else status_of slug qs)
    → status_of slug (match_ordering o (r ∷ q ∷ qs) (r ∷ qs) (q ∷ with_row r qs)) ≡ (if bytes_eq r.slug slug then Some r.status else status_of slug (q ∷ qs))
status_at slug r q qs Less e rest = refl
status_at slug r q qs Equal e rest = without_both (bytes_eq r.slug slug) (bytes_eq q.slug slug) (Some r.status) (Some q.status) (status_of slug qs) (ap (λ t. bytes_eq t slug) (same_texts r.slug q.slug e))
status_at slug r q qs Greater e rest =
    ap (λ o. if bytes_eq q.slug slug then Some q.status else o) rest
    ∙ not_both (bytes_eq r.slug slug) (bytes_eq q.slug slug) (Some r.status) (Some q.status) (status_of slug qs)
    (λ one two.
    let same : r.slug ≡ q.slug = (bytes_decides r.slug slug).0 one ∙ sym ((bytes_decides q.slug slug).0 two) in
    sym ((bytes_decides r.slug q.slug).1 same) ∙ greater_texts r.slug q.slug e)

-- the status of a slug after a row has been put among the rows
status_of-with_row : (slug : List ℕ) (r : Row) (rows : List Row) → status_of slug (with_row r rows) ≡ (if bytes_eq r.slug slug then Some r.status else status_of slug rows)
status_of-with_row slug r [] = refl
status_of-with_row slug r (q ∷ qs) = status_at slug r q qs (slug_cmp r.slug q.slug) refl (status_of-with_row slug r qs)

-- a recipe that is found by a slug has it
slug_at : (slug : List ℕ) (q : Recipe) (qs : List Recipe) (r : Recipe) (b : Bool) → bytes_eq q.slug slug ≡ b → (recipe_with slug qs ≡ Some r → r.slug ≡ slug) → (if b then Some q else recipe_with slug qs) ≡ Some r → r.slug ≡ slug
slug_at slug q qs r true same rest e = let one : q ≡ r = cc in sym (ap (λ (p : Recipe). p.slug) one) ∙ (bytes_decides q.slug slug).0 same
slug_at slug q qs r false same rest e = rest e

pub found_slug : (slug : List ℕ) (rs : List Recipe) (r : Recipe) → recipe_with slug rs ≡ Some r → r.slug ≡ slug
found_slug slug [] r e = absurd cc
found_slug slug (q ∷ qs) r e = slug_at slug q qs r (bytes_eq q.slug slug) refl (found_slug slug qs r) e

free_at : (s : State) (r q : Recipe) (row : Row) (slug f : List ℕ) → takes s r row f ≡ false → row.slug ≡ slug → bytes_eq slug r.slug ≡ false → IsTrue (is_enrolled row.status) → recipe_with slug s.live ≡ Some q → share s.coenrolling r q f ≡ false
free_at s r q row slug f none same other enrolled found =
    sym (ap (λ b. not b && (is_enrolled row.status && shares_with s.coenrolling r (recipe_with row.slug s.live) f)) (ap (λ t. bytes_eq t r.slug) same ∙ other)
    ∙ ap (λ b. b && shares_with s.coenrolling r (recipe_with row.slug s.live) f) enrolled ∙ ap (λ o. shares_with s.coenrolling r o f) (ap (λ t. recipe_with t s.live) same ∙ found)) ∙ none

free_on : (s : State) (r q : Recipe) (row : Row) (rows : List Row) (slug f : List ℕ) (b : Bool) → bytes_eq row.slug slug ≡ b → takes s r row f ≡ false → (IsTrue (is_enrolled_now (status_of slug rows)) → share s.coenrolling r q f ≡ false)
    → bytes_eq slug r.slug ≡ false → recipe_with slug s.live ≡ Some q → IsTrue (is_enrolled_now (if b then Some row.status else status_of slug rows)) → share s.coenrolling r q f ≡ false
free_on s r q row rows slug f true same none rest other found enrolled = free_at s r q row slug f none ((bytes_decides row.slug slug).0 same) other enrolled found
free_on s r q row rows slug f false same none rest other found enrolled = rest enrolled

-- no other recipe in which the client is enrolled shares a feature with a recipe that no row takes one from
free_with : (s : State) (r q : Recipe) (rows : List Row) (slug f : List ℕ) → All (λ row. (g : List ℕ) → takes s r row g ≡ false) rows → bytes_eq slug r.slug ≡ false → recipe_with slug s.live ≡ Some q
    → IsTrue (is_enrolled_now (status_of slug rows)) → share s.coenrolling r q f ≡ false
free_with s r q [] slug f free other found enrolled = absurd cc
free_with s r q (row ∷ rows) slug f free other found enrolled =
    free_on s r q row rows slug f (bytes_eq row.slug slug) refl (All-head (λ p. (g : List ℕ) → takes s r p g ≡ false) row rows free f)
    (λ h. free_with s r q rows slug f (All-tail (λ p. (g : List ℕ) → takes s r p g ≡ false) row rows free) other found h) other found enrolled

swapped : (a b c : Bool) → (a && (b && c)) ≡ (b && (a && c))
swapped true true c = refl
swapped true false c = refl
swapped false true c = refl
swapped false false c = refl

share_turned : (coenrolling : List (List ℕ)) (r q : Recipe) (f : List ℕ) → share coenrolling r q f ≡ share coenrolling q r f
share_turned coenrolling r q f =
    ap (λ b. b && (has_feature r f && (has_feature q f && not (is_in coenrolling f)))) (kinds_turned (kind_of r) (kind_of q)) ∙ ap (λ b. kind_eq (kind_of q) (kind_of r) && b) (swapped (has_feature r f) (has_feature q f) (not (is_in coenrolling f)))

picked_by : {A : Type 0} (row : Row) (slug : List ℕ) (rows : List Row) (b : Bool) → bytes_eq row.slug slug ≡ b → IsTrue (is_enrolled_now (if b then Some row.status else status_of slug rows)) → (row.slug ≡ slug → A)
    → (bytes_eq row.slug slug ≡ false → IsTrue (is_enrolled_now (status_of slug rows)) → A) → A
picked_by row slug rows true e enrolled f g = f ((bytes_decides row.slug slug).0 e)
picked_by row slug rows false e enrolled f g = g e enrolled

-- the status of a slug is the new row's, or the old one
by_slug : {A : Type 0} (row : Row) (slug : List ℕ) (rows : List Row) → IsTrue (is_enrolled_now (status_of slug (with_row row rows))) → (row.slug ≡ slug → A) → (bytes_eq row.slug slug ≡ false → IsTrue (is_enrolled_now (status_of slug rows)) → A) → A
by_slug row slug rows h f g = picked_by row slug rows (bytes_eq row.slug slug) refl (sym (ap is_enrolled_now (status_of-with_row slug row rows)) ∙ h) f g

pub opt_in : (s : State) (slug branch : List ℕ) (r : Recipe) → MayChoose s slug branch r → IsFree s r → AreExclusive s → AreExclusive (after_opt_in s slug branch)
opt_in s in_slug branch chosen may free ex slug other f r q one two found found_other apart =
    by_slug row slug s.rows one
    (λ here. by_slug row other s.rows two
    (λ there. absurd (let same : bytes_eq slug other ≡ true = (bytes_decides slug other).1 (sym here ∙ there) in cc))
    (λ beside enrolled.
    let same : chosen ≡ r = the_same (sym may.recipe ∙ ap (λ t. recipe_with t s.live) here ∙ found) in
    subst (λ p. share s.coenrolling p q f ≡ false) same (free_with s chosen q s.rows other f free (bytes_turned other chosen.slug ∙ ap (λ t. bytes_eq t other) chosen_slug ∙ beside) found_other enrolled)))
    (λ beside enrolled. by_slug row other s.rows two
    (λ there.
    let same : chosen ≡ q = the_same (sym may.recipe ∙ ap (λ t. recipe_with t s.live) there ∙ found_other) in
    share_turned s.coenrolling r q f
    ∙ subst (λ p. share s.coenrolling p r f ≡ false) same (free_with s chosen r s.rows slug f free (bytes_turned slug chosen.slug ∙ ap (λ t. bytes_eq t slug) chosen_slug ∙ beside) found enrolled))
    (λ beside_other enrolled_other. ex slug other f r q enrolled enrolled_other found found_other apart))
  where
    row : Row
    row = opted_in in_slug branch

    chosen_slug : chosen.slug ≡ in_slug
    chosen_slug = found_slug in_slug s.live chosen may.recipe

    the_same : {x y : Recipe} → Some x ≡ Some y → x ≡ y
    the_same e = cc
