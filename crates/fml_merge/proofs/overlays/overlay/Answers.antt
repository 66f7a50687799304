use Rattle.std.proofs.Common.{sym, subst, ◌∙◌}
use Rattle.std.proofs.lemmas.Result.{IfOk-weaker}
use Rattle.json_tree.specs.Tree.{json_of}
use Rattle.fml_types.specs.Shapes.{shape_of}
use Rattle.fml_types.specs.Sound.{IsSoundType}
use Rattle.fml_value.specs.HasType.{HasType}
use Rattle.fml_value.specs.TypedOf.{typed_of}
use Rattle.fml_merge.specs.Zero.{zero_of}
use Rattle.fml_merge.proofs.Levels.{zeros_typed, low_objects}
use Rattle.fml_merge.proofs.Typing.{laid_typed, sound_scope}
use Rattle.fml_merge.proofs.overlays.overlay.Goals as goal

pub returns-then-takes-clause-typed : goal.returns-then-takes-clause-typed
returns-then-takes-clause-typed c =
    let types = c.args.types.now in
    let s = shape_of c.args.of.now in
    let x = json_of c.args.patch.now in
    IfOk-weaker c.lay.result _ _ (λ v e table grounded sound base. let zeros = zeros_typed types table (low_objects types grounded) in subst (HasType types s) (sym e) (laid_typed types (zero_of types) (IsSoundType types) (sound_scope types table) zeros x s (typed_of c.args.base) sound base c.keeps.ensures.sound (sym c.takes.ensures ∙ c.if-takes.true))) c.lay.ensures
