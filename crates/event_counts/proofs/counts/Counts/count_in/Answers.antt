-- What an event makes of the counts.
use Rattle.std.proofs.Common.{◌≡◌, ℕ, ◌<◌, ◌≤◌, List, length, get_or, Some, None, sym, ap, ◌∙◌, subst, refl, arith}
use Rattle.std.specs.Prelude.{slice_set}
use Rattle.std.specs.List.{insert}
use Rattle.event_counts.specs.declared.name_counts.NameCounts.{NameCounts}
use Rattle.event_counts.specs.Kept.{counted_in, found}
use Rattle.event_counts.specs.Places.{BelongsAt, HasNameAt}
use Rattle.event_counts.specs.Sound.{IsSound}
use Rattle.event_counts.proofs.Events.{counted-there, sound-there, counted-new, sound-new, no_limit, no_memory}
use Rattle.event_counts.proofs.Found.{found_there, found_nowhere}
use Rattle.sequences.proofs.ListParts.{one_comes}
use Rattle.event_counts.proofs.counts.Counts.count_in.Goals as goal

is_there : (name : List ℕ) (self names : List NameCounts) (place : ℕ) (there : NameCounts) → names ≡ self → IsSound self → HasNameAt name names place → found name self ≡ Some (get_or self place there)
is_there name self names place there same sound at = found_there name self place there sound.order (subst (λ ns. HasNameAt name ns place) same at)

pub returns-in_err-more-in-Ok-clause-limit : goal.returns-in_err-more-in-Ok-clause-limit
returns-in_err-more-in-Ok-clause-limit c =
    no_memory c.from_residual.result _ _ _ (is_there c.args.name.now c.args.self.now c.names-names.result.now c.in-Ok.place c.index-names-place.result c.names-names.ensures.names c.names-names.ensures.sound c.in-Ok.ensures.found) c.from_residual.ensures.1

pub returns-in_err-with_replaced-in-Ok-clause-limit : goal.returns-in_err-with_replaced-in-Ok-clause-limit
returns-in_err-with_replaced-in-Ok-clause-limit c =
    no_memory c.from_residual-in_err-with_replaced-in-Ok.result _ _ _ (is_there c.args.name.now c.args.self.now c.names-names.result.now c.in-Ok.place c.index-names-place.result c.names-names.ensures.names c.names-names.ensures.sound c.in-Ok.ensures.found) c.from_residual-in_err-with_replaced-in-Ok.ensures.1

pub returns-in_ok-with_replaced-in-Ok-clause-limit : goal.returns-in_ok-with_replaced-in-Ok-clause-limit
returns-in_ok-with_replaced-in-Ok-clause-limit c =
    no_limit _ _ _ _ (is_there c.args.name.now c.args.self.now c.names-names.result.now c.in-Ok.place c.index-names-place.result c.names-names.ensures.names c.names-names.ensures.sound c.in-Ok.ensures.found)

pub returns-in-Err-clause-limit : goal.returns-in-Err-clause-limit
returns-in-Err-clause-limit c =
    let same : c.names-names.result.now ≡ c.args.self.now = c.names-names.ensures.names in
    let none : found c.args.name.now c.args.self.now ≡ None = subst (λ ns. found c.args.name.now ns ≡ None) same (found_nowhere c.args.name.now c.names-names.result.now c.in-Err.field-0 c.in-Err.ensures.missed) in
    let many : 64 ≤ length c.args.self.now = subst (λ (ns : List NameCounts). 64 ≤ length ns) same (omega arith) in
    (λ is. (none, many), λ both. refl)

pub invariant_of-result : goal.invariant_of-result
invariant_of-result c =
    let sound : IsSound c.names-names.result.now = subst IsSound (sym c.names-names.ensures.names) c.names-names.ensures.sound in
    sound-there c.args.name.now c.args.count c.args.now c.moment_at-moment.result c.names-names.result.now c.in_ok-with_replaced-in-Ok.field-0 c.in-Ok.place c.index-names-place.result c.in_ok-more-in-Ok.more
    sound c.moment_at-moment.ensures c.in-Ok.ensures.found c.index-names-place.is c.in_ok-more-in-Ok.ensures (c.in_ok-with_replaced-in-Ok.ensures ∙ ap (λ ns. slice_set ns c.in-Ok.place c.in_ok-more-in-Ok.more) (sym c.names-names.ensures.names)) c.requires.moment

pub returns-in_ok-with_replaced-in-Ok-clause-sound : goal.returns-in_ok-with_replaced-in-Ok-clause-sound
returns-in_ok-with_replaced-in-Ok-clause-sound c = invariant_of-result c

pub returns-in_ok-with_replaced-in-Ok-clause-counts : goal.returns-in_ok-with_replaced-in-Ok-clause-counts
returns-in_ok-with_replaced-in-Ok-clause-counts c =
    let sound : IsSound c.names-names.result.now = subst IsSound (sym c.names-names.ensures.names) c.names-names.ensures.sound in
    subst (λ ns. c.in_ok-with_replaced-in-Ok.field-0 ≡ counted_in c.args.name.now c.args.count c.args.now ns) c.names-names.ensures.names
    (counted-there c.args.name.now c.args.count c.args.now c.moment_at-moment.result c.names-names.result.now c.in_ok-with_replaced-in-Ok.field-0 c.in-Ok.place c.index-names-place.result c.in_ok-more-in-Ok.more
    sound c.moment_at-moment.ensures c.in-Ok.ensures.found c.index-names-place.is c.in_ok-more-in-Ok.ensures (c.in_ok-with_replaced-in-Ok.ensures ∙ ap (λ ns. slice_set ns c.in-Ok.place c.in_ok-more-in-Ok.more) (sym c.names-names.ensures.names)))

pub invariant_of-result-in-Err-2 : goal.invariant_of-result-in-Err-2
invariant_of-result-in-Err-2 c =
    let sound : IsSound c.names-names.result.now = subst IsSound (sym c.names-names.ensures.names) c.names-names.ensures.sound in
    sound-new c.args.name.now c.args.count c.args.now c.moment_at-moment.result c.names-names.result.now c.in_ok-with_inserted-in-Err-2.field-0 c.in-Err.field-0 c.in_ok-first-in-Err-2.first
    c.moment_at-moment.ensures c.in-Err.ensures.missed c.in_ok-first-in-Err-2.ensures (c.in_ok-with_inserted-in-Err-2.ensures ∙ ap (λ ns. insert ns c.in-Err.field-0 c.in_ok-first-in-Err-2.first) (sym c.names-names.ensures.names)) sound c.requires.name c.requires.moment (omega arith)

pub returns-in_ok-with_inserted-in-Err-2-clause-sound : goal.returns-in_ok-with_inserted-in-Err-2-clause-sound
returns-in_ok-with_inserted-in-Err-2-clause-sound c = invariant_of-result-in-Err-2 c

pub returns-in_ok-with_inserted-in-Err-2-clause-counts : goal.returns-in_ok-with_inserted-in-Err-2-clause-counts
returns-in_ok-with_inserted-in-Err-2-clause-counts c =
    subst (λ ns. c.in_ok-with_inserted-in-Err-2.field-0 ≡ counted_in c.args.name.now c.args.count c.args.now ns) c.names-names.ensures.names
    (counted-new c.args.name.now c.args.count c.args.now c.moment_at-moment.result c.names-names.result.now c.in_ok-with_inserted-in-Err-2.field-0 c.in-Err.field-0 c.in_ok-first-in-Err-2.first
    c.moment_at-moment.ensures c.in-Err.ensures.missed c.in_ok-first-in-Err-2.ensures (c.in_ok-with_inserted-in-Err-2.ensures ∙ ap (λ ns. insert ns c.in-Err.field-0 c.in_ok-first-in-Err-2.first) (sym c.names-names.ensures.names)))

-- ---- the part

within_new : (name : List ℕ) (self names : List NameCounts) (place : ℕ) → names ≡ self → BelongsAt name names place → place ≤ length self
within_new name self names place same at = let within = at.within in subst (λ (ns : List NameCounts). place ≤ length ns) same within

pub returns-in_ok-with_inserted-in-Err-2-clause-part : goal.returns-in_ok-with_inserted-in-Err-2-clause-part
returns-in_ok-with_inserted-in-Err-2-clause-part c =
    one_comes c.in_ok-first-in-Err-2.first c.insertion.result c.args.self.now c.in_ok-with_inserted-in-Err-2.field-0 c.in-Err.field-0
    c.insertion.ensures c.in_ok-with_inserted-in-Err-2.ensures (within_new c.args.name.now c.args.self.now c.names-names.result.now c.in-Err.field-0 c.names-names.ensures.names c.in-Err.ensures.missed)
