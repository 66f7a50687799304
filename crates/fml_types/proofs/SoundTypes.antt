-- A sound manifest has sound types.
use Rattle.std.proofs.Common.{rules}
use Rattle.fml_types.specs.Sound.{IsSoundManifest, HasSoundTypes}
use Rattle.fml_types.specs.declared.manifest.Manifest.{Manifest}

pub sound_types : (m : Manifest) → IsSoundManifest m → HasSoundTypes m
sound_types m sound = search rules
