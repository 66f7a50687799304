use Rattle.std.proofs.Common.{map, ◌<◌, ◌≤◌, length, Contains, sym, ap, ◌∙◌, subst, arith}
use Rattle.jexl_transforms.specs.Meaning.{has_name}
use Rattle.jexl_transforms.proofs.Named.{goes_on, ends_here, none_after}
use Rattle.jexl_transforms.proofs.table.TransformTable.find.Goals as goal

pub loop-entry-init : goal.loop-entry-init
loop-entry-init g c = ap (λ entries. has_name c.args.name.now (map (λ entry. entry.name) entries)) (sym c.deref-entry-items.ensures.value)

pub returns-then-eq : goal.returns-then-eq
returns-then-eq g c =
    let within : c.loop-entry.entry-index < length c.deref-entry-items.result.now = omega arith in
    let found = ends_here (λ entry. entry.name) c.args.name.now _ _ _ _ _ _ within c.loop-entry.invariant c.entry-item.is c.eq.ensures c.if-eq.true c.as_str.ensures.text in
    (found.0, found.1, subst (λ entries. Contains entries c.entry-item.result) c.deref-entry-items.ensures.value found.2)

pub loop-entry-preserved : goal.loop-entry-preserved
loop-entry-preserved g c =
    let within : c.loop-entry.entry-index < length c.deref-entry-items.result.now = omega arith in
    goes_on (λ entry. entry.name) c.args.name.now _ _ _ _ _ _ within c.loop-entry.invariant c.entry-item.is c.eq.ensures c.if-eq.false c.as_str.ensures.text

pub returns : goal.returns
returns g c =
    let past : length c.deref-entry-items.result.now ≤ c.loop-entry.entry-index = omega arith in
    c.loop-entry.invariant ∙ none_after (λ entry. entry.name) c.args.name.now _ _ past
