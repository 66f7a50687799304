use Rattle.std.proofs.Common.{◌≡◌, ◌-◌, ◌<◌, List, Less, get_or, length, map, sym, subst, arith}
use Rattle.std.proofs.lemmas.Option.{get_or_from_slice_get, slice_get_within}
use Rattle.row_batches.specs.Batch.{ComesNext}
use Rattle.row_batches.specs.Rows.{Rise, key_cmp, key_in}
use Rattle.row_batches.specs.declared.change.RowChange.{RowChange}
use Rattle.row_batches.proofs.Keeping.{next_where, next_only}
use Rattle.row_batches.proofs.batch.Batch.comes_next.Goals as goal

pub returns-in-Some : goal.returns-in-Some
returns-in-Some c =
    let changes = c.as_slice.result.now in
    let m = c.in-Some.change.now in
    let i = length changes - 1 in
    let key = c.args.key.now in
    let inside : List RowChange = c.self.inside.changes in
    let same : changes ≡ inside = c.as_slice.ensures in
    let whole : inside ≡ c.args.self.now.changes = λ j. (c.self.view_is j).changes in
    let rise : Rise (map key_in changes) = subst (λ cs. Rise (map key_in cs)) (sym same) c.self.invariant.rise in
    let last : get_or changes i m ≡ m = get_or_from_slice_get changes i m m (sym c.in-Some.ensures.value) in
    let within : i < length changes = slice_get_within changes i m (sym c.in-Some.ensures.value) in
    let told = subst (λ k. ComesNext key k → ComesNext key c.args.self.now.changes) (sym same) (subst (λ k. ComesNext key k → ComesNext key c.args.self.now.changes) (sym whole) (λ x. x)) in
    let back = subst (λ k. ComesNext key c.args.self.now.changes → ComesNext key k) (sym same) (subst (λ k. ComesNext key c.args.self.now.changes → ComesNext key k) (sym whole) (λ x. x)) in
    let below : (key_cmp (key_in m) key ≡ Less) → key_cmp (key_in (get_or changes i m)) key ≡ Less = λ e. subst (λ r. key_cmp (key_in r) key ≡ Less) (sym last) e in
    let at_key : (key_cmp c.key.result.now key ≡ Less) → key_cmp (key_in m) key ≡ Less = λ e. subst (λ k. key_cmp k key ≡ Less) c.key.ensures e in (
      λ is. told (next_where changes i m key (omega arith) rise (below (at_key (c.is_below.ensures.0 is)))),
      λ next. c.is_below.ensures.1 (subst (λ k. key_cmp k key ≡ Less) (sym c.key.ensures) (subst (λ r. key_cmp (key_in r) key ≡ Less) last (next_only changes i m key within (back next)))),
    )
