use Rattle.std.proofs.Common.{map, take, sym, subst, arith}
use Rattle.fml_types.specs.Named.{AreRising, IsAbove}
use Rattle.fml_value.specs.TypedOf.{entry_of}
use Rattle.fml_value.proofs.Heights.{height_within, entry_height_within}
use Rattle.fml_value.proofs.Ordered.{above_before}
use Rattle.fml_value.proofs.copying.+copy.Goals as goal

pub copy_items-copy-requires : goal.copy_items-copy-requires
copy_items-copy-requires t c =
    (omega (arith, height_within _ _ _ _ c.as_slice-values.ensures c.loop-value-test.true c.value-item.is), tt)

pub copy_entries-copy-requires : goal.copy_entries-copy-requires
copy_entries-copy-requires t c =
    (omega (arith, entry_height_within _ _ _ _ c.as_slice-pairs.ensures.pairs c.loop-name-test.true c.loop-name-item.is), tt)

pub copy_entries-push-requires : goal.copy_entries-push-requires
copy_entries-push-requires t c =
    let pairs = c.as_slice-pairs.result.now in
    let e = c.loop-name-item.result in
    let rising = subst AreRising (sym c.as_slice-pairs.ensures.pairs) c.as_slice-pairs.ensures.rising in
    let above = above_before pairs c.loop-name.name-index e c.loop-name-test.true c.loop-name-item.is rising in
    subst (λ es. IsAbove c.in_ok-clone.field-0 es) (sym c.loop-name.invariant) (subst (λ k. IsAbove k (map entry_of (take c.loop-name.name-index pairs))) (sym c.in_ok-clone.ensures.cases) above)
