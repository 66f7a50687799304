use Rattle.std.proofs.Common.{sym, ap, ◌∙◌, subst}
use Rattle.json_tree.specs.Json.{IsSound, members_of}
use Rattle.json_tree.specs.Json as json
use Rattle.json_tree.specs.Tree.{json_of}
use Rattle.fml_value.specs.Fits.{type_of_field}
use Rattle.fml_value.specs.HasType.{AreFields}
use Rattle.fml_value.specs.Typed.{entries_of}
use Rattle.fml_value.specs.TypedOf.{typed_of}
use Rattle.fml_merge.specs.Overlay.{members_laid}
use Rattle.fml_merge.specs.Zero.{zero_of}
use Rattle.fml_merge.proofs.Variables.{overlay_typed}
use Rattle.fml_merge.proofs.features.overlay_feature.Goals as goal

pub returns-in_ok-lay_members-in-Object-clause-typed : goal.returns-in_ok-lay_members-in-Object-clause-typed
returns-in_ok-lay_members-in-Object-clause-typed c = λ table grounded sound base.
    let m = c.args.manifest.now in
    let f = c.args.feature.now in
    let ms = members_of c.in-Object.members in
    let members = subst (λ u. IsSound (json_of u)) c.in-Object.is c.keeps.ensures.sound in
    let whole = c.in_ok-lay_members-in-Object.ensures ∙ ap (λ es. members_laid (zero_of m.types) m.types (type_of_field f.variables) es ms) c.entries_in-base.ensures in
    subst (λ es. AreFields m.types f.variables (entries_of es)) (sym whole) (overlay_typed m f table grounded sound (typed_of c.args.base) (json.object ms) base members)
