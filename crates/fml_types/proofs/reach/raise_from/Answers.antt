use Rattle.std.proofs.Common.{◌≡◌, ℕ, ◌<◌, List, [], ◌∷◌, length, refl, ap, ◌∙◌, arith}
use Rattle.std.specs.List.{Contains}
use Rattle.std.proofs.lemmas.List.{nil_from_length}
use Rattle.fml_types.specs.Reach.{row, raised_all}
use Rattle.fml_types.specs.Values.{value_in}
use Rattle.fml_types.proofs.Raising.{begun, next_within, row_within, turn, less_left, ended}
use Rattle.fml_types.proofs.reach.raise_from.Goals as goal

pub raise-requires : goal.raise-requires
raise-requires c =
    let inside : (k x : ℕ) → Contains (row c.args.mentioned_by.now k) x → x < length c.args.values.now = λ k x d. let h = c.requires.within k x d in omega (arith, h, c.requires.count) in
    row_within c.args.mentioned_by.now (length c.args.values.now) c.mentioning.result.now c.args.place inside c.mentioning.ensures

pub loop-next-init : goal.loop-next-init
loop-next-init c =
    let rows = c.args.mentioned_by.now in
    let old = c.args.values.now in
    let value = value_in old c.args.place in
    let xs = c.mentioning.result.now in
    let inside : (k x : ℕ) → Contains (row rows k) x → x < length old = λ k x d. let h = c.requires.within k x d in omega (arith, h, c.requires.count) in
    let begin = begun rows c.args.place old value (omega (arith, c.requires.here, c.requires.count)) refl in
    let none = c.new-pending.ensures.items in
    turn rows c.args.place old value old (c.args.place ∷ []) [] c.args.place xs c.raise.new.values c.raise.new.pending.items inside begin refl c.mentioning.ensures
    (c.in_ok-raise.ensures.values ∙ ap (λ (l : List ℕ). (raised_all value xs (old, l)).0) none) (c.in_ok-raise.ensures.pending ∙ ap (λ (l : List ℕ). (raised_all value xs (old, l)).1) none)

pub mentioning-requires-in-Some : goal.mentioning-requires-in-Some
mentioning-requires-in-Some c =
    let low = next_within _ _ _ _ _ _ _ c.in-Some.next c.loop-next.invariant c.in-Some.ensures.items in
    omega (arith, low, c.requires.count)

pub raise-requires-in-Some : goal.raise-requires-in-Some
raise-requires-in-Some c =
    let inside : (k x : ℕ) → Contains (row c.args.mentioned_by.now k) x → x < length c.loop-next.values = λ k x d.
    let h = c.requires.within k x d in let e = c.loop-next.invariant.count in omega (arith, h, e, c.requires.count) in
    row_within c.args.mentioned_by.now (length c.loop-next.values) c.mentioning-in-Some.result.now c.in-Some.next inside c.mentioning-in-Some.ensures

pub loop-next-smaller : goal.loop-next-smaller
loop-next-smaller c =
    let inside : (k x : ℕ) → Contains (row c.args.mentioned_by.now k) x → x < length c.args.values.now = λ k x d. let h = c.requires.within k x d in omega (arith, h, c.requires.count) in
    less_left c.args.mentioned_by.now c.args.place c.args.values.now (value_in c.args.values.now c.args.place) c.loop-next.values c.loop-next.pending.items c.pop.new.self.items c.in-Some.next c.mentioning-in-Some.result.now c.raise-in-Some.new.values c.raise-in-Some.new.pending.items
    inside c.loop-next.invariant c.in-Some.ensures.items c.mentioning-in-Some.ensures c.in_ok-raise-2.ensures.values c.in_ok-raise-2.ensures.pending

pub loop-next-preserved : goal.loop-next-preserved
loop-next-preserved c =
    let inside : (k x : ℕ) → Contains (row c.args.mentioned_by.now k) x → x < length c.args.values.now = λ k x d. let h = c.requires.within k x d in omega (arith, h, c.requires.count) in
    turn c.args.mentioned_by.now c.args.place c.args.values.now (value_in c.args.values.now c.args.place) c.loop-next.values c.loop-next.pending.items c.pop.new.self.items c.in-Some.next c.mentioning-in-Some.result.now c.raise-in-Some.new.values c.raise-in-Some.new.pending.items
    inside c.loop-next.invariant c.in-Some.ensures.items c.mentioning-in-Some.ensures c.in_ok-raise-2.ensures.values c.in_ok-raise-2.ensures.pending

pub returns : goal.returns
returns c =
    let empty : length c.loop-next.pending.items ≡ 0 = omega (arith, c.in_default.ensures.cases.0, c.loop-next.pending.ok.0) in
    ended c.args.mentioned_by.now c.args.place c.args.values.now (value_in c.args.values.now c.args.place) c.loop-next.values c.loop-next.pending.items c.loop-next.invariant (nil_from_length c.loop-next.pending.items empty)
