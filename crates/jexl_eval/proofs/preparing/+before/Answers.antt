use Rattle.std.proofs.Common.{◌-◌, IfOk, sym, ap, ap₂, ◌∙◌, subst, arith}
use Rattle.jexl_parser.specs.Tree as trees
use Rattle.jexl_parser.specs.View.{view, views, view_pairs}
use Rattle.jexl_parser.proofs.Views.{view_list, view_members, view_transform}
use Rattle.jexl_eval.specs.Places.{trees_of, HasPlaces, HasPlacesBelow}
use Rattle.jexl_eval.proofs.Placing.{extends_on, on_ok, grows_on, all_more, pairs_more, two_more, two_placed, choose_placed, transform_placed}
use Rattle.jexl_eval.proofs.preparing.+before.Goals as goal

pub before-returns-clause-grows : goal.before-returns-clause-grows
before-returns-clause-grows t c =
    on_ok c.joined.result (extends_on (trees_of c.args.parts.now.items) (trees_of c.place_for.new.parts.items) (trees_of c.below.new.parts.items) c.in_ok-place.ensures.grows c.in_ok-below.ensures.grows)

-- ---- lists

pub each-loop-index-preserved : goal.each-loop-index-preserved
each-loop-index-preserved t c =
    let before = trees_of c.loop-index.parts.items in
    let now = trees_of c.before-in-loop-index.new.parts.items in
    record {
      grows = extends_on (trees_of c.args.parts.now.items) before now c.loop-index.invariant.grows c.in_ok-places.ensures.grows;
      places = all_more before now c.args.nodes.now (c.loop-index.index - 1) c.loop-index.index c.index-nodes-index.result c.loop-index.places c.in_ok-places.places (omega arith) (omega arith) c.index-nodes-index.is
          c.in_ok-places.ensures.grows c.loop-index.invariant.places c.in_ok-places.ensures.places c.in_ok-places.ensures.rest;
    }

pub each_member-loop-index-preserved : goal.each_member-loop-index-preserved
each_member-loop-index-preserved t c =
    let before = trees_of c.loop-index.parts.items in
    let now = trees_of c.before-in-loop-index.new.parts.items in
    record {
      grows = extends_on (trees_of c.args.parts.now.items) before now c.loop-index.invariant.grows c.in_ok-places.ensures.grows;
      places = pairs_more before now c.args.pairs.now (c.loop-index.index - 1) c.loop-index.index c.index-pairs-index.result c.loop-index.places c.in_ok-places.places (omega arith) (omega arith) c.index-pairs-index.is
          c.in_ok-places.ensures.grows c.loop-index.invariant.places (subst (λ m. HasPlaces now (view m.1) c.in_ok-places.places) (sym c.index-pairs-index.is) c.in_ok-places.ensures.places) c.in_ok-places.ensures.rest;
    }

-- ---- the nodes

pub below-returns-in-List-clause-places : goal.below-returns-in-List-clause-places
below-returns-in-List-clause-places t c =
    subst (λ t. IfOk c.each.result (λ p. HasPlacesBelow (trees_of c.each.new.parts.items) t p)) (sym (ap view c.in-List.is ∙ view_list c.in-List.nodes ∙ ap (λ ns. trees.Items (views ns)) (sym c.as_slice.ensures.value))) c.each.ensures.places

pub below-returns-in-Members-clause-places : goal.below-returns-in-Members-clause-places
below-returns-in-Members-clause-places t c =
    subst (λ t. IfOk c.each_member.result (λ p. HasPlacesBelow (trees_of c.each_member.new.parts.items) t p)) (sym (ap view c.in-Members.is ∙ view_members c.in-Members.pairs ∙ ap (λ ps. trees.Members (view_pairs ps)) (sym c.as_slice-in-Members.ensures.value)))
    c.each_member.ensures.places

pub below-returns-in_ok-rest-in-Index-clause-grows : goal.below-returns-in_ok-rest-in-Index-clause-grows
below-returns-in_ok-rest-in-Index-clause-grows t c =
    grows_on (trees_of c.args.parts.now.items) (trees_of c.before-in-Index.new.parts.items) (trees_of c.before-in-Index-2.new.parts.items) c.before-in-Index-2.result c.in_ok-rest-in-Index.ensures.grows c.before-in-Index-2.ensures.grows

pub below-returns-in_ok-rest-in-Index-clause-places : goal.below-returns-in_ok-rest-in-Index-clause-places
below-returns-in_ok-rest-in-Index-clause-places t c =
    subst (λ t. IfOk c.before-in-Index-2.result (λ p. HasPlacesBelow (trees_of c.before-in-Index-2.new.parts.items) t p)) (sym (ap view c.in-Index.is ∙ ap₂ (λ n k. trees.Index (view n) (view k)) (sym c.deref-in-Index-2.ensures) (sym c.deref-in-Index.ensures)))
    (two_placed (trees_of c.before-in-Index.new.parts.items) (trees_of c.before-in-Index-2.new.parts.items) (view c.deref-in-Index-2.result.now) c.in_ok-rest-in-Index.rest (view c.deref-in-Index.result.now) c.before-in-Index-2.result
    c.in_ok-rest-in-Index.ensures.places c.before-in-Index-2.ensures.grows c.before-in-Index-2.ensures.places c.before-in-Index-2.ensures.rest)

pub below-returns-in_ok-rest-in-Filter-clause-grows : goal.below-returns-in_ok-rest-in-Filter-clause-grows
below-returns-in_ok-rest-in-Filter-clause-grows t c =
    grows_on (trees_of c.args.parts.now.items) (trees_of c.before-in-Filter.new.parts.items) (trees_of c.before-in-Filter-2.new.parts.items) c.before-in-Filter-2.result c.in_ok-rest-in-Filter.ensures.grows c.before-in-Filter-2.ensures.grows

pub below-returns-in_ok-rest-in-Filter-clause-places : goal.below-returns-in_ok-rest-in-Filter-clause-places
below-returns-in_ok-rest-in-Filter-clause-places t c =
    subst (λ t. IfOk c.before-in-Filter-2.result (λ p. HasPlacesBelow (trees_of c.before-in-Filter-2.new.parts.items) t p)) (sym (ap view c.in-Filter.is ∙ ap₂ (λ n k. trees.Filter (view n) (view k)) (sym c.deref-in-Filter-2.ensures) (sym c.deref-in-Filter.ensures)))
    (two_placed (trees_of c.before-in-Filter.new.parts.items) (trees_of c.before-in-Filter-2.new.parts.items) (view c.deref-in-Filter-2.result.now) c.in_ok-rest-in-Filter.rest (view c.deref-in-Filter.result.now) c.before-in-Filter-2.result
    c.in_ok-rest-in-Filter.ensures.places c.before-in-Filter-2.ensures.grows c.before-in-Filter-2.ensures.places c.before-in-Filter-2.ensures.rest)

pub below-returns-in_ok-rest-in-Binary-clause-grows : goal.below-returns-in_ok-rest-in-Binary-clause-grows
below-returns-in_ok-rest-in-Binary-clause-grows t c =
    grows_on (trees_of c.args.parts.now.items) (trees_of c.before-in-Binary.new.parts.items) (trees_of c.before-in-Binary-2.new.parts.items) c.before-in-Binary-2.result c.in_ok-rest-in-Binary.ensures.grows c.before-in-Binary-2.ensures.grows

pub below-returns-in_ok-rest-in-Binary-clause-places : goal.below-returns-in_ok-rest-in-Binary-clause-places
below-returns-in_ok-rest-in-Binary-clause-places t c =
    subst (λ t. IfOk c.before-in-Binary-2.result (λ p. HasPlacesBelow (trees_of c.before-in-Binary-2.new.parts.items) t p)) (sym (ap view c.in-Binary.is ∙ ap₂ (λ n k. trees.Binary c.in-Binary.field-0 (view n) (view k)) (sym c.deref-in-Binary-2.ensures) (sym c.deref-in-Binary.ensures)))
    (two_placed (trees_of c.before-in-Binary.new.parts.items) (trees_of c.before-in-Binary-2.new.parts.items) (view c.deref-in-Binary-2.result.now) c.in_ok-rest-in-Binary.rest (view c.deref-in-Binary.result.now) c.before-in-Binary-2.result
    c.in_ok-rest-in-Binary.ensures.places c.before-in-Binary-2.ensures.grows c.before-in-Binary-2.ensures.places c.before-in-Binary-2.ensures.rest)

pub below-returns-in_ok-rest-in-OrElse-clause-grows : goal.below-returns-in_ok-rest-in-OrElse-clause-grows
below-returns-in_ok-rest-in-OrElse-clause-grows t c =
    grows_on (trees_of c.args.parts.now.items) (trees_of c.before-in-OrElse.new.parts.items) (trees_of c.before-in-OrElse-2.new.parts.items) c.before-in-OrElse-2.result c.in_ok-rest-in-OrElse.ensures.grows c.before-in-OrElse-2.ensures.grows

pub below-returns-in_ok-rest-in-OrElse-clause-places : goal.below-returns-in_ok-rest-in-OrElse-clause-places
below-returns-in_ok-rest-in-OrElse-clause-places t c =
    subst (λ t. IfOk c.before-in-OrElse-2.result (λ p. HasPlacesBelow (trees_of c.before-in-OrElse-2.new.parts.items) t p)) (sym (ap view c.in-OrElse.is ∙ ap₂ (λ n k. trees.OrElse (view n) (view k)) (sym c.deref-in-OrElse-2.ensures) (sym c.deref-in-OrElse.ensures)))
    (two_placed (trees_of c.before-in-OrElse.new.parts.items) (trees_of c.before-in-OrElse-2.new.parts.items) (view c.deref-in-OrElse-2.result.now) c.in_ok-rest-in-OrElse.rest (view c.deref-in-OrElse.result.now) c.before-in-OrElse-2.result
    c.in_ok-rest-in-OrElse.ensures.places c.before-in-OrElse-2.ensures.grows c.before-in-OrElse-2.ensures.places c.before-in-OrElse-2.ensures.rest)

pub below-returns-in_ok-rest-in-Transform-clause-grows : goal.below-returns-in_ok-rest-in-Transform-clause-grows
below-returns-in_ok-rest-in-Transform-clause-grows t c =
    grows_on (trees_of c.args.parts.now.items) (trees_of c.each-in-Transform.new.parts.items) (trees_of c.before-in-Transform.new.parts.items) c.before-in-Transform.result c.in_ok-rest-in-Transform.ensures.grows c.before-in-Transform.ensures.grows

pub below-returns-in_ok-rest-in-Transform-clause-places : goal.below-returns-in_ok-rest-in-Transform-clause-places
below-returns-in_ok-rest-in-Transform-clause-places t c =
    subst (λ t. IfOk c.before-in-Transform.result (λ p. HasPlacesBelow (trees_of c.before-in-Transform.new.parts.items) t p))
    (sym (ap view c.in-Transform.is ∙ view_transform c.in-Transform.subject c.in-Transform.field-1 c.in-Transform.arguments ∙ ap₂ (λ n ns. trees.Transform (view n) c.in-Transform.field-1 (views ns)) (sym c.deref-in-Transform.ensures) (sym c.as_slice-in-Transform.ensures.value)))
    (transform_placed (trees_of c.each-in-Transform.new.parts.items) (trees_of c.before-in-Transform.new.parts.items) (view c.deref-in-Transform.result.now) c.in_ok-rest-in-Transform.rest c.in-Transform.field-1 c.as_slice-in-Transform.result.now c.before-in-Transform.result
    c.in_ok-rest-in-Transform.ensures.places c.before-in-Transform.ensures.grows c.before-in-Transform.ensures.places c.before-in-Transform.ensures.rest)

pub below-returns-in_ok-rest-in-Choose-clause-grows : goal.below-returns-in_ok-rest-in-Choose-clause-grows
below-returns-in_ok-rest-in-Choose-clause-grows t c =
    let p0 = trees_of c.args.parts.now.items in
    let p1 = trees_of c.before-in-Choose.new.parts.items in
    let p2 = trees_of c.before-in-Choose-2.new.parts.items in
    grows_on p0 p2 (trees_of c.before-in-Choose-3.new.parts.items) c.before-in-Choose-3.result (extends_on p0 p1 p2 c.in_ok-last-in-Choose.ensures.grows c.in_ok-rest-in-Choose.ensures.grows) c.before-in-Choose-3.ensures.grows

pub below-returns-in_ok-rest-in-Choose-clause-places : goal.below-returns-in_ok-rest-in-Choose-clause-places
below-returns-in_ok-rest-in-Choose-clause-places t c =
    let p1 = trees_of c.before-in-Choose.new.parts.items in
    let p2 = trees_of c.before-in-Choose-2.new.parts.items in
    let a = view c.deref-in-Choose-3.result.now in
    let b = view c.deref-in-Choose-2.result.now in
    let u = view c.deref-in-Choose.result.now in
    subst (λ t. IfOk c.before-in-Choose-3.result (λ p. HasPlacesBelow (trees_of c.before-in-Choose-3.new.parts.items) t p))
    (sym (ap view c.in-Choose.is ∙ ap₂ (λ n k. trees.Choose (view n) (view k) (view c.in-Choose.second.value)) (sym c.deref-in-Choose-3.ensures) (sym c.deref-in-Choose-2.ensures) ∙ ap (λ n. trees.Choose a b (view n)) (sym c.deref-in-Choose.ensures)))
    (choose_placed p2 (trees_of c.before-in-Choose-3.new.parts.items) a c.in_ok-rest-in-Choose.rest b u c.before-in-Choose-3.result
    (two_more p1 p2 b c.in_ok-last-in-Choose.last u c.in_ok-rest-in-Choose.rest c.in_ok-last-in-Choose.ensures.places c.in_ok-rest-in-Choose.ensures.grows c.in_ok-rest-in-Choose.ensures.places c.in_ok-rest-in-Choose.ensures.rest)
    c.before-in-Choose-3.ensures.grows c.before-in-Choose-3.ensures.places c.before-in-Choose-3.ensures.rest)
