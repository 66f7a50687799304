-- The features of a joined manifest are in order.
use Rattle.std.proofs.Common.{◌≡◌, ◌||◌, ℕ, Bool, true, false, List, [], ◌∷◌, map, Result, Ok, Err, refl, subst}
use Rattle.std.specs.Prelude.{if◌then◌else◌}
use Rattle.fml_types.specs.Named.{AreRising, has_name, with_name}
use Rattle.fml_types.specs.declared.manifest.EnumDefinition.{EnumDefinition}
use Rattle.fml_types.specs.declared.manifest.ObjectDefinition.{ObjectDefinition}
use Rattle.fml_types.specs.declared.manifest.FeatureDefinition.{FeatureDefinition}
use Rattle.fml_types.specs.declared.manifest.Manifest.{Manifest}
use Rattle.fml_reader.specs.declared.module.Module.{Module}
use Rattle.fml_imports.specs.Channels.{is_among}
use Rattle.fml_imports.specs.Imports.{first_unknown_import}
use Rattle.fml_imports.specs.Joining.{manifest_with, unknown_override, root_channels, made_of, joined}
use Rattle.fml_imports.specs.Outcome.{each}
use Rattle.fml_imports.specs.Overrides.{overrides_of, overridden}
use Rattle.fml_imports.specs.Tables.{Tables, no_tables, with_enum, with_object, with_feature, with_module, tables_of, module_for}
use Rattle.fml_imports.specs.declared.fault.JoinRefusal.{JoinRefusal}
use Rattle.fml_imports.specs.declared.fault.JoinRefusal.TheVariants.{DuplicateName}
use Rattle.fml_imports.specs.declared.joining.Linked.{Linked}
use Rattle.fml_imports.proofs.Rising.{rises_with, rising_same}
use Rattle.fml_imports.proofs.SoundManifests.{bind_ok, checked_ok}

each_rises : {A : Type 0} (add : Tables → A → Result Tables JoinRefusal) → ((t u : Tables) (x : A) → AreRising t.features → add t x ≡ Ok u → AreRising u.features) → (xs : List A) (t u : Tables) → AreRising t.features → each add t xs ≡ Ok u → AreRising u.features
each_rises add keeps [] t u rising h = let same : t ≡ u = cc in subst (λ (v : Tables). AreRising v.features) same rising
each_rises add keeps (x ∷ xs) t u rising h = let first = bind_ok (add t x) (λ v. each add v xs) u h in each_rises add keeps xs first.0 u (keeps t first.0 x rising first.1) first.2

chosen : (taken : Bool) (fault : JoinRefusal) (made u : Tables) → AreRising made.features → (if taken then Err fault else Ok made) ≡ Ok u → AreRising u.features
chosen true fault made u rising h = absurd cc
chosen false fault made u rising h = let same : made ≡ u = cc in subst (λ (v : Tables). AreRising v.features) same rising

enum_rises : (t u : Tables) (e : List ℕ × EnumDefinition) → AreRising t.features → with_enum t e ≡ Ok u → AreRising u.features
enum_rises t u e rising h = chosen (has_name e.0 t.enums || has_name e.0 t.objects) (DuplicateName e.0) (record t { enums = with_name e t.enums }) u rising h

object_rises : (t u : Tables) (o : List ℕ × ObjectDefinition) → AreRising t.features → with_object t o ≡ Ok u → AreRising u.features
object_rises t u o rising h = chosen (has_name o.0 t.enums || has_name o.0 t.objects) (DuplicateName o.0) (record t { objects = with_name o t.objects }) u rising h

feature_at : (taken : Bool) (t u : Tables) (f : List ℕ × FeatureDefinition) → has_name f.0 t.features ≡ taken → AreRising t.features → (if taken then Err (DuplicateName f.0) else Ok (record t { features = with_name f t.features })) ≡ Ok u → AreRising u.features
feature_at true t u f e rising h = absurd cc
feature_at false t u f e rising h = chosen false (DuplicateName f.0) (record t { features = with_name f t.features }) u (rises_with f t.features e rising) h

feature_rises : (t u : Tables) (f : List ℕ × FeatureDefinition) → AreRising t.features → with_feature t f ≡ Ok u → AreRising u.features
feature_rises t u f rising h = feature_at (has_name f.0 t.features) t u f refl rising h

module_rises : (t u : Tables) (m : Module) → AreRising t.features → with_module t m ≡ Ok u → AreRising u.features
unfolding with_module
module_rises t u m rising h =
    let a = bind_ok (each with_enum t m.enums) _ u h in
    let b = bind_ok (each with_enum a.0 m.types_enums) _ u a.2 in
    let c = bind_ok (each with_object b.0 m.objects) _ u b.2 in
    let d = bind_ok (each with_object c.0 m.types_objects) _ u c.2 in
    let first = each_rises with_enum enum_rises m.enums t a.0 rising a.1 in
    let second = each_rises with_enum enum_rises m.types_enums a.0 b.0 first b.1 in
    let third = each_rises with_object object_rises m.objects b.0 c.0 second c.1 in
    let fourth = each_rises with_object object_rises m.types_objects c.0 d.0 third d.1 in
    each_rises with_feature feature_rises m.features d.0 u fourth d.2

pub joined_rises : (files : List Linked) (channel : List ℕ) (m : Manifest) → joined files channel ≡ Ok m → AreRising m.features
unfolding joined
joined_rises files channel m h =
    let t = bind_ok (tables_of (map (module_for channel) files)) (λ t. made_of t (overrides_of channel files) files channel) m h in
    let made = checked_ok (manifest_with t.0 (overrides_of channel files) channel) m (is_among channel (root_channels files)) (first_unknown_import files) (unknown_override (overrides_of channel files) t.0) t.2 in
    subst (λ (n : Manifest). AreRising n.features) made.2 (rising_same (overridden (overrides_of channel files)) (λ f. refl) t.0.features (each_rises with_module module_rises (map (module_for channel) files) no_tables t.0 tt t.1))
