use Rattle.std.proofs.Common.{take, sym, subst}
use Rattle.json_tree.specs.Json.{IsAbove}
use Rattle.fml_types.specs.Named.{AreRising}
use Rattle.fml_imports.specs.Single.{members_json}
use Rattle.fml_imports.proofs.Written.{above_before}
use Rattle.fml_imports.proofs.single_file.by_name.Goals as goal

pub put-requires : goal.put-requires
put-requires g c =
    let pairs = c.as_slice-pairs.result.now in
    let p = c.loop-name-item.result in
    let rising = subst AreRising (sym c.as_slice-pairs.ensures.pairs) c.as_slice-pairs.ensures.rising in
    let above = above_before g.T.Written.written pairs c.loop-name.name-index p c.loop-name-test.true c.loop-name-item.is rising in
    subst (λ ms. IsAbove c.as_str.result.now ms) (sym c.loop-name.invariant) (subst (λ k. IsAbove k (members_json g.T.Written.written (take c.loop-name.name-index pairs))) (sym c.as_str.ensures.text) above)
