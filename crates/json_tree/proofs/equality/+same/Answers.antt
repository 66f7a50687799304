use Rattle.std.proofs.Common.{◌≡◌, ◌&&◌, sym, ap, ap₂, ◌∙◌, arith, None, refl}
use Rattle.std.proofs.lemmas.Iterator.{empty_from_Zip}
use Rattle.json_tree.specs.Tree.{json_of}
use Rattle.json_tree.proofs.Pairwise.{values_eq, pairs_eq, unequal_values, unequal_pairs, values_begun, pairs_begun, values_turn, pairs_turn}
use Rattle.json_tree.proofs.equality.+same.Goals as goal

pub same_items-returns-then-left-right : goal.same_items-returns-then-left-right
same_items-returns-then-left-right t c =
    unequal_values json_of _ _ _ _ c.as_slice-left.ensures.items c.as_slice-right.ensures.items c.if-left-right.true

pub same_items-loop-one-init : goal.same_items-loop-one-init
same_items-loop-one-init t c =
    let made = c.into_iter-one-iterator.ensures.into_iter_gives in
    let left = ap (λ z. z.a.rest.now) made ∙ ap (λ i. i.rest.now) c.zip-one-items.ensures.first ∙ c.iter.ensures.rest in
    let second : c.zip-one-items.result.b.rest.now ≡ c.as_slice-right.result.now = c.zip-one-items.ensures.second.0 in
    let right = ap (λ z. z.b.rest.now) made ∙ second in
    let begun = values_begun json_of _ _ _ _ _ _ c.as_slice-left.ensures.items c.as_slice-right.ensures.items c.if-left-right.false left right in
    record { long = begun.0; within = begun.1; same = begun.2 }

pub same_items-same-requires : goal.same_items-same-requires
same_items-same-requires t c =
    let s = c.loop-one.one-iterator in
    let next = c.next.new.self in
    let turn = values_turn json_of s.a.rest.now s.b.rest.now next.a.rest.now next.b.rest.now c.in-Some.one.now c.in-Some.other.now _ _ c.in-Some.ensures.steps c.loop-one.invariant.long c.loop-one.invariant.within c.loop-one.invariant.same in
    (omega (arith, turn.0), tt)

pub same_items-returns-then-not-same : goal.same_items-returns-then-not-same
same_items-returns-then-not-same t c =
    let s = c.loop-one.one-iterator in
    let next = c.next.new.self in
    let turn = values_turn json_of s.a.rest.now s.b.rest.now next.a.rest.now next.b.rest.now c.in-Some.one.now c.in-Some.other.now _ _ c.in-Some.ensures.steps c.loop-one.invariant.long c.loop-one.invariant.within c.loop-one.invariant.same in
    ap (λ b. b && values_eq json_of next.a.rest.now next.b.rest.now) c.if-not-same.ensures ∙ turn.3

pub same_items-loop-one-preserved : goal.same_items-loop-one-preserved
same_items-loop-one-preserved t c =
    let s = c.loop-one.one-iterator in
    let next = c.next.new.self in
    let turn = values_turn json_of s.a.rest.now s.b.rest.now next.a.rest.now next.b.rest.now c.in-Some.one.now c.in-Some.other.now _ _ c.in-Some.ensures.steps c.loop-one.invariant.long c.loop-one.invariant.within c.loop-one.invariant.same in
    record { long = turn.1; within = turn.2; same = ap (λ b. b && values_eq json_of next.a.rest.now next.b.rest.now) c.if-not-same.ensures ∙ turn.3 }

pub same_items-returns : goal.same_items-returns
same_items-returns t c =
    let over = empty_from_Zip c.loop-one.one-iterator c.next.new.self None refl c.in-None.ensures.steps c.loop-one.invariant.long in
    ap₂ (values_eq json_of) (sym over.0) (sym over.1) ∙ c.loop-one.invariant.same

pub same_members-returns-then-left-right : goal.same_members-returns-then-left-right
same_members-returns-then-left-right t c =
    unequal_pairs json_of _ _ _ _ c.as_slice-left.ensures.members c.as_slice-right.ensures.members c.if-left-right.true

pub same_members-loop-one-init : goal.same_members-loop-one-init
same_members-loop-one-init t c =
    let made = c.into_iter-one-iterator.ensures.into_iter_gives in
    let left = ap (λ z. z.a.rest.now) made ∙ ap (λ i. i.rest.now) c.zip-one-items.ensures.first ∙ c.iter.ensures.rest in
    let second : c.zip-one-items.result.b.rest.now ≡ c.as_slice-right.result.now = c.zip-one-items.ensures.second.0 in
    let right = ap (λ z. z.b.rest.now) made ∙ second in
    let begun = pairs_begun json_of _ _ _ _ _ _ c.as_slice-left.ensures.members c.as_slice-right.ensures.members c.if-left-right.false left right in
    record { long = begun.0; within = begun.1; same = begun.2 }

pub same_members-same_member-requires : goal.same_members-same_member-requires
same_members-same_member-requires t c =
    let s = c.loop-one.one-iterator in
    let next = c.next.new.self in
    let turn = pairs_turn json_of s.a.rest.now s.b.rest.now next.a.rest.now next.b.rest.now c.in-Some.one.now c.in-Some.other.now _ _ c.in-Some.ensures.steps c.loop-one.invariant.long c.loop-one.invariant.within c.loop-one.invariant.same in
    (omega (arith, turn.0), tt)

pub same_members-returns-then-not-same_member : goal.same_members-returns-then-not-same_member
same_members-returns-then-not-same_member t c =
    let s = c.loop-one.one-iterator in
    let next = c.next.new.self in
    let turn = pairs_turn json_of s.a.rest.now s.b.rest.now next.a.rest.now next.b.rest.now c.in-Some.one.now c.in-Some.other.now _ _ c.in-Some.ensures.steps c.loop-one.invariant.long c.loop-one.invariant.within c.loop-one.invariant.same in
    ap (λ b. b && pairs_eq json_of next.a.rest.now next.b.rest.now) c.if-not-same_member.ensures ∙ turn.3

pub same_members-loop-one-preserved : goal.same_members-loop-one-preserved
same_members-loop-one-preserved t c =
    let s = c.loop-one.one-iterator in
    let next = c.next.new.self in
    let turn = pairs_turn json_of s.a.rest.now s.b.rest.now next.a.rest.now next.b.rest.now c.in-Some.one.now c.in-Some.other.now _ _ c.in-Some.ensures.steps c.loop-one.invariant.long c.loop-one.invariant.within c.loop-one.invariant.same in
    record { long = turn.1; within = turn.2; same = ap (λ b. b && pairs_eq json_of next.a.rest.now next.b.rest.now) c.if-not-same_member.ensures ∙ turn.3 }

pub same_members-returns : goal.same_members-returns
same_members-returns t c =
    let over = empty_from_Zip c.loop-one.one-iterator c.next.new.self None refl c.in-None.ensures.steps c.loop-one.invariant.long in
    ap₂ (pairs_eq json_of) (sym over.0) (sym over.1) ∙ c.loop-one.invariant.same
