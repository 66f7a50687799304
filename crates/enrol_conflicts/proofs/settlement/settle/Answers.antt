use Rattle.std.proofs.Common.{subst, sym, rules, ◌≡◌, ◌∙◌, ap, refl, arith, length, get_or, slice_get, Some, IsPermutation, IsSorted, not, false, replicate, vec_len}
use Rattle.std.specs.List.{range_with_len}
use Rattle.std.proofs.lemmas.Option.{slice_get_read}
use Rattle.std.proofs.Math.ListN.{length-replicate}
use Rattle.enrol_conflicts.specs.Settlement.{Settled}
use Rattle.enrol_conflicts.specs.Ranking.{place_cmp}
use Rattle.enrol_conflicts.proofs.Places.{places_inside}
use Rattle.enrol_conflicts.proofs.Pass.{passed_none, passed_more, passed_all, not_yet}
use Rattle.enrol_conflicts.proofs.Holding.{holds_none, holds_more, taken}
use Rattle.enrol_conflicts.proofs.Exclusion.{exclusive}
use Rattle.enrol_conflicts.proofs.settlement.settle.Goals as goal

pub returns-clause-settled : goal.returns-clause-settled
returns-clause-settled c =
    let order = c.as_slice-order.result.now in
    let perm : IsPermutation (range_with_len 0 (length c.args.candidates.now)) order = search rules in
    let sorted : IsSorted (place_cmp c.args.candidates.now) order = search rules in
    subst (Settled c.args.candidates.now c.args.coenrolling.now) (sym c.from_vec.ensures) (passed_all c.args.candidates.now c.args.coenrolling.now order c.requires perm sorted c.loop-place.granted.items c.loop-place.place-index c.loop-place.invariant.0 (omega (arith, c.loop-place-test.false, c.loop-place.auto.place-index-end)))

pub returns-clause-exclusive : goal.returns-clause-exclusive
returns-clause-exclusive c = exclusive c.args.candidates.now c.args.coenrolling.now c.from_vec.result (returns-clause-settled c)

pub loop-place-init : goal.loop-place-init
loop-place-init c =
    let e : c.in_ok-granted.granted.items ≡ replicate (length c.args.candidates.now) false = search rules in
    let l : length c.in_ok-granted.granted.items ≡ length c.args.candidates.now = rw (e, length-replicate) refl in
    (passed_none c.args.candidates.now c.args.coenrolling.now c.as_slice-order.result.now c.in_ok-granted.granted.items e l, holds_none c.args.coenrolling.now c.args.candidates.now c.in_ok-granted.granted.items c.new-held.result (length c.args.candidates.now) e c.new-held.ensures)

pub offset_bounds-candidates-place : goal.offset_bounds-candidates-place
offset_bounds-candidates-place c =
    let perm : IsPermutation (range_with_len 0 (length c.args.candidates.now)) c.as_slice-order.result.now = search rules in
    let b = places_inside (length c.args.candidates.now) c.as_slice-order.result.now perm c.loop-place.place-index c.loop-place-test.true in
    search rules

pub bounds-candidates-place : goal.bounds-candidates-place
bounds-candidates-place c =
    let perm : IsPermutation (range_with_len 0 (length c.args.candidates.now)) c.as_slice-order.result.now = search rules in
    places_inside (length c.args.candidates.now) c.as_slice-order.result.now perm c.loop-place.place-index c.loop-place-test.true

pub index_mut-requires : goal.index_mut-requires
index_mut-requires c =
    let perm : IsPermutation (range_with_len 0 (length c.args.candidates.now)) c.as_slice-order.result.now = search rules in
    let b = places_inside (length c.args.candidates.now) c.as_slice-order.result.now perm c.loop-place.place-index c.loop-place-test.true in
    let l : vec_len c.loop-place.granted ≡ length c.loop-place.granted.items = search rules in
    omega (arith, b, l, c.loop-place.invariant.0.whole)

pub loop-place-preserved : goal.loop-place-preserved
loop-place-preserved c =
    let ws = c.args.candidates.now in
    let order = c.as_slice-order.result.now in
    let k = c.loop-place.place-index in
    let w = c.index-candidates-place.result in
    let gs = c.loop-place.granted.items in
    let p = c.loop-place.invariant.0 in
    let h = c.loop-place.invariant.1 in
    let perm : IsPermutation (range_with_len 0 (length ws)) order = search rules in
    let sorted : IsSorted (place_cmp ws) order = search rules in
    let here : slice_get ws (get_or order k 0) ≡ Some w = slice_get_read ws (length ws) (get_or order k 0) w refl (places_inside (length ws) order perm k c.loop-place-test.true) c.index-candidates-place.is in
    (passed_more ws c.args.coenrolling.now order c.requires perm sorted gs k w c.in_ok-is_free.is_free p c.loop-place-test.true here (c.in_ok-is_free.ensures.answer ∙ ap not (taken c.args.coenrolling.now ws gs c.loop-place.held h w)), holds_more c.args.coenrolling.now c.in_ok-shared.shared c.in_ok-shared.ensures ws gs c.loop-place.held c.grant_if_free.new.held (get_or order k 0) c.in_ok-is_free.is_free w h p.whole here (not_yet ws c.args.coenrolling.now order c.requires perm sorted gs k p c.loop-place-test.true) c.in_ok-is_free.ensures.held)
