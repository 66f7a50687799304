-- The manifest of a run: linked from the files that it names, with defaults that fit.
use Rattle.std.specs.Prelude.{◌≡◌, ℕ, List, Option, None, Some, Result, Ok, Err}
use Rattle.fml_types.specs.Named.{AreRising}
use Rattle.fml_types.specs.Sound.{IsSoundManifest}
use Rattle.fml_types.specs.declared.manifest.Manifest.{Manifest}
use Rattle.fml_link.specs.Laws.{LinksBack}
use Rattle.fml_link.specs.Linking.{linked}
use Rattle.fml_link.specs.declared.fault.LinkRefusal.{LinkRefusal}
use Rattle.fml_merge.specs.Faults.{bad_default}
use Rattle.client_words.specs.declared.refusal.Refusal.{Refusal}
use Rattle.client_words.specs.declared.refusal.Refusal.TheVariants.{NotLinked, BadDefault}

-- a manifest, or the refusal of its first default that doesn't fit
abbrev pub where_fits : Manifest → Option (List ℕ × List ℕ) → Result Manifest Refusal
where_fits m None = Ok m
where_fits m (Some bad) = Err (BadDefault bad.0 bad.1)

abbrev pub checked : Result Manifest LinkRefusal → Result Manifest Refusal
checked (Ok m) = where_fits m (bad_default m)
checked (Err refusal) = Err (NotLinked refusal)

-- the manifest of the files that start with the one of this name, for a channel, or why the command is refused
unfoldable pub manifest_of : (List ℕ → Option (List ℕ)) → List ℕ → List ℕ → Result Manifest Refusal
manifest_of files name channel = checked (linked files name channel)

-- what each manifest of a session keeps: it is sound, its features are in order, each default fits, and its single file links back
pub record IsLinked (m : Manifest) : Type 0 where
  pub sound : IsSoundManifest m
  pub order : AreRising m.features
  pub fits : bad_default m ≡ None
  pub back : LinksBack m
