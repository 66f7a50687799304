-- What the files of a manifest say keeps what a session's manifest keeps.
use Rattle.std.proofs.Common.{◌≡◌, ℕ, List, Option, Some, None, Result, Ok, Err, refl, subst}
use Rattle.json_tree.specs.Bytes.{tree_of}
use Rattle.json_tree.specs.Json.{Json, IsSound}
use Rattle.fml_types.specs.Named.{AreRising}
use Rattle.fml_types.specs.Sound.{IsSoundManifest}
use Rattle.fml_types.specs.declared.manifest.Manifest.{Manifest}
use Rattle.fml_link.specs.Laws.{LinksBack}
use Rattle.fml_link.specs.Linking.{linked}
use Rattle.fml_link.specs.declared.fault.LinkRefusal.{LinkRefusal}
use Rattle.fml_link.proofs.LinkedManifests.{linked_kept, linked_links_back}
use Rattle.fml_merge.specs.Faults.{bad_default}
use Rattle.client_steps.specs.Manifests.{IsLinked, where_fits, checked, manifest_of}
use Rattle.client_steps.proofs.ReadFiles.{value_sound}

sound_values : (bytes : List ℕ) (x : Json) → tree_of bytes ≡ Some x → IsSound x
sound_values bytes x is = value_sound bytes (Some x) is

fitting : (m manifest : Manifest) (bad : Option (List ℕ × List ℕ)) → bad_default m ≡ bad → IsSoundManifest m → AreRising m.features → LinksBack m → where_fits m bad ≡ Ok manifest → IsLinked manifest
fitting m manifest None fits sound order back h = let same : m ≡ manifest = cc in subst IsLinked same (record { sound = sound; order = order; fits = fits; back = back })
fitting m manifest (Some bad) fits sound order back h = absurd cc

checked_linked : (files : List ℕ → Option (List ℕ)) (name channel : List ℕ) (manifest : Manifest) (found : Result Manifest LinkRefusal) → linked files name channel ≡ found → checked found ≡ Ok manifest → IsLinked manifest
checked_linked files name channel manifest (Ok m) e h = let kept = linked_kept sound_values files name channel m e in fitting m manifest (bad_default m) refl kept.0 kept.1 (linked_links_back files name channel m e) h
checked_linked files name channel manifest (Err fault) e h = absurd cc

pub manifest_linked : (files : List ℕ → Option (List ℕ)) (name channel : List ℕ) (manifest : Manifest) → manifest_of files name channel ≡ Ok manifest → IsLinked manifest
unfolding manifest_of
manifest_linked files name channel manifest h = checked_linked files name channel manifest (linked files name channel) refl h
