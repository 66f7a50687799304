-- The rows of a state, as values.
use Rattle.std.proofs.Common.{◌≡◌, ℕ, zero, suc, ◌<◌, List, [], ◌∷◌, ◌++◌, map, length, get_or, take, Some, None, Less, ap, ◌∙◌, arith}
use Rattle.std.specs.Prelude.{filter, option_map}
use Rattle.std.specs.List.{cons_option}
use Rattle.std.specs.List.Sorted.{IsStrictlySortedBy}
use Rattle.std.proofs.lemmas.List.{map-append}
use Rattle.std.proofs.lemmas.List.Elements.{filter-append, filter_map-append}
use Rattle.json_tree.specs.Json.{text, IsAbove}
use Rattle.recipe_reader.specs.Payloads.{slug_cmp}
use Rattle.enrol_states.specs.Order.{Rise}
use Rattle.enrol_states.specs.State.{slugs_of}
use Rattle.enrol_states.specs.Statuses.{is_enrolled}
use Rattle.enrol_states.specs.declared.state.Row.{Row}
use Rattle.enrol_states.proofs.Ordered.{text_at}
use Rattle.app_context.specs.Enrolments.{active_slugs, branch_of, enrolment_of, enrolments_of, slug_json, branch_json}

pub active_join : (xs ys : List Row) → map text (active_slugs (xs ++ ys)) ≡ map text (active_slugs xs) ++ map text (active_slugs ys)
active_join xs ys =
    ap (λ rs. map text (slugs_of rs)) (filter-append (λ (row : Row). is_enrolled row.status) xs ys)
    ∙ ap (map text) (map-append (λ (row : Row). row.slug) (filter (λ (row : Row). is_enrolled row.status) xs) (filter (λ (row : Row). is_enrolled row.status) ys))
    ∙ map-append text (active_slugs xs) (active_slugs ys)

pub slugs_join : (xs ys : List Row) → map slug_json (enrolments_of (xs ++ ys)) ≡ map slug_json (enrolments_of xs) ++ map slug_json (enrolments_of ys)
slugs_join xs ys = ap (map slug_json) (filter_map-append enrolment_of xs ys) ∙ map-append slug_json (enrolments_of xs) (enrolments_of ys)

pub branches_join : (xs ys : List Row) → map branch_json (enrolments_of (xs ++ ys)) ≡ map branch_json (enrolments_of xs) ++ map branch_json (enrolments_of ys)
branches_join xs ys = ap (map branch_json) (filter_map-append enrolment_of xs ys) ∙ map-append branch_json (enrolments_of xs) (enrolments_of ys)

-- a row's slug is above those before it
pub above_rows : (rows : List Row) (i : ℕ) (d : Row) → i < length rows → Rise (slugs_of rows) → IsAbove (get_or rows i d).slug (map branch_json (enrolments_of (take i rows)))
unfolding IsStrictlySortedBy
above_rows [] i d less rise = absurd (omega arith)
above_rows (r ∷ rs) zero d less rise = tt
above_rows (r ∷ rs) (suc i) d less rise =
    let below : slug_cmp r.slug (get_or rs i d).slug ≡ Less = text_at (λ t. slug_cmp r.slug t ≡ Less) (λ (row : Row). row.slug) rs i d (omega arith) rise.0 in
    let rest = above_rows rs i d (omega arith) rise.1 in
    elim (branch_of r.status) as (λ o. IsAbove (get_or rs i d).slug (map branch_json (cons_option (option_map (λ branch. (r.slug, branch)) o) (enrolments_of (take i rs))))) [
      | None ↦ rest
      | Some b ↦ (below, rest)
    ]
