use Rattle.std.proofs.Common.{sym, subst}
use Rattle.std.proofs.lemmas.Result.{IfOk-weaker}
use Rattle.fml_types.specs.Shapes.{shape_of}
use Rattle.fml_value.specs.HasType.{HasType}
use Rattle.fml_merge.proofs.Levels.{zeros_typed, low_objects}
use Rattle.fml_merge.proofs.overlays.zero.Goals as goal

pub returns-clause-typed : goal.returns-clause-typed
returns-clause-typed c =
    let types = c.args.types.now in
    let s = shape_of c.args.of.now in
    IfOk-weaker c.zero.result _ _ (λ v e table grounded sound. subst (HasType types s) (sym e) (zeros_typed types table (low_objects types grounded) s sound)) c.zero.ensures
