-- The feature is the one that is found, and its layers are laid over its default.
use Rattle.std.proofs.Common.{map, sym, ap, ap₂, ◌∙◌, Some}
use Rattle.std.specs.Prelude.{option_map}
use Rattle.fml_types.specs.Sound.{AreSoundFields}
use Rattle.fml_types.specs.declared.manifest.FeatureDefinition.{FeatureDefinition}
use Rattle.feature_serving.specs.Lent.{view}
use Rattle.feature_serving.specs.Serving.{served, served_of, layers_laid}
use Rattle.feature_serving.proofs.Finding.{found_all}
use Rattle.feature_serving.proofs.serving.served.Goals as goal

pub returns-in_default-clause-answer : goal.returns-in_default-clause-answer
unfolding served
returns-in_default-clause-answer c = ap (option_map (served_of c.args.manifest.now c.args.state.now c.args.feature.now)) (sym c.in_default.ensures)

pub returns-clause-answer : goal.returns-clause-answer
unfolding served
returns-clause-answer c =
    let m = c.args.manifest.now in let s = c.args.state.now in let name = c.args.feature.now in let f = c.in-Some.definition.now in
    ap (option_map (served_of m s name)) (sym c.in-Some.ensures)
    ∙ ap (λ v. Some v) (sym (c.in_ok-value-2.ensures.value ∙ ap₂ (λ v ls. layers_laid m f v ls) c.in_ok-value.ensures.value (ap (map view) c.as_slice.ensures.value ∙ c.in_ok-layers.ensures)))

pub returns-clause-has_type : goal.returns-clause-has_type
returns-clause-has_type c =
    let m = c.args.manifest.now in let name = c.args.feature.now in let f = c.in-Some.definition.now in
    let types = c.requires.sound in
    let sound = found_all (λ (f : FeatureDefinition). AreSoundFields m.types f.variables) name m.features f types.variables (sym c.in-Some.ensures) in
    record {
      feature = f;
      defined = sym c.in-Some.ensures;
      typed = c.in_ok-value-2.ensures.typed types.types types.grounded sound (c.in_ok-value.ensures.typed types.types types.grounded sound);
    }
