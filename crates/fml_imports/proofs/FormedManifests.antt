-- What is joined of files that are read is a well formed manifest.
use Rattle.std.proofs.Common.{◌≡◌, ℕ, List, None, Result, Ok, Err}
use Rattle.std.specs.Prelude.{IfOk}
use Rattle.fml_types.specs.declared.manifest.DefaultEntry.{DefaultEntry}
use Rattle.fml_types.specs.declared.manifest.FeatureDefinition.{FeatureDefinition}
use Rattle.fml_types.specs.declared.manifest.Field.{Field}
use Rattle.fml_types.specs.declared.manifest.Manifest.{Manifest}
use Rattle.fml_reader.specs.declared.module.Module.{Module}
use Rattle.fml_imports.specs.Joining.{joined}
use Rattle.fml_imports.specs.Outcome.{Gives}
use Rattle.fml_imports.specs.Sound.{IsRead, AreRead}
use Rattle.fml_imports.specs.WellFormed.{AreWellFormedFields, IsWellFormedEntry, IsWellFormedEnum, IsWellFormedObject, IsWellFormedFeature, IsWellFormed}
use Rattle.fml_imports.specs.declared.fault.JoinFault.{JoinFault}
use Rattle.fml_imports.specs.declared.joining.Linked.{Linked}
use Rattle.fml_imports.proofs.Alls.{all_map}
use Rattle.fml_imports.proofs.FormedModules.{formed_module}
use Rattle.fml_imports.proofs.JoinedParts.{Asked, Feature, ModuleHas, joined_has}
use Rattle.fml_imports.proofs.RisingFeatures.{joined_rises}
use Rattle.fml_imports.proofs.SoundManifests.{joined_sound}

abbrev Formed : Asked
Formed = record { Enum = IsWellFormedEnum; Object = IsWellFormedObject; Variables = λ (name : List ℕ) (fields : List (List ℕ × Field)). AreWellFormedFields fields; Entry = IsWellFormedEntry }

without_channels : (e : DefaultEntry) → IsWellFormedEntry e → IsWellFormedEntry (record e { channels = None })
without_channels e formed = record { channels = tt; value = formed.value }

module_formed : (m : Module) → IsRead m → ModuleHas Formed m
module_formed m read =
    let formed = formed_module m read in
    record {
      imports = formed.imports;
      enums = formed.enums;
      types_enums = formed.types_enums;
      objects = formed.objects;
      types_objects = formed.types_objects;
      features = all_map IsWellFormedFeature (Feature Formed) m.features (λ (f : List ℕ × FeatureDefinition) (one : IsWellFormedFeature f). record { variables = one.variables; entries = one.entries }) formed.features;
    }

pub joined_formed : (files : List Linked) (channel : List ℕ) (m : Manifest) → AreRead files → joined files channel ≡ Ok m → IsWellFormed m
joined_formed files channel m read h =
    let modules = all_map (λ (f : Linked). IsRead f.module) (λ (f : Linked). ModuleHas Formed f.module) files (λ (f : Linked) (one : IsRead f.module). module_formed f.module one) read in
    let have = joined_has Formed without_channels files channel m modules h in
    record {
      sound = joined_sound files channel m read h;
      enums_rise = have.enums_rise;
      objects_rise = have.objects_rise;
      features_rise = joined_rises files channel m h;
      enums = have.enums;
      objects = have.objects;
      features = all_map (Feature Formed) IsWellFormedFeature m.features (λ (f : List ℕ × FeatureDefinition) (one : Feature Formed f). record { variables = one.variables; entries = one.entries }) have.features;
    }

-- what a call returned of what is joined
pub gives_formed : (files : List Linked) (channel : List ℕ) (got : Result Manifest JoinFault) → AreRead files → Gives got (joined files channel) → IfOk got IsWellFormed
gives_formed files channel (Ok m) read h = joined_formed files channel m read h
gives_formed files channel (Err e) read h = tt
