use Rattle.std.proofs.Common.{ℕ, List, ap, ◌∙◌}
use Rattle.fml_imports.specs.Channels.{is_among}
use Rattle.fml_imports.specs.Held.{held}
use Rattle.fml_imports.specs.Imports.{first_unknown_import}
use Rattle.fml_imports.specs.Joining.{root_channels}
use Rattle.fml_imports.specs.declared.joining.Linked.{Linked}
use Rattle.fml_imports.proofs.FormedManifests.{gives_formed}
use Rattle.fml_imports.proofs.Joined.{joins}
use Rattle.fml_imports.proofs.SoundManifests.{gives_sound}
use Rattle.fml_imports.proofs.SoundSingles.{gives_sound_single}
use Rattle.fml_imports.proofs.joining.join.Goals as goal

pub returns-clause-joins : goal.returns-clause-joins
returns-clause-joins c =
    let files : List Linked = c.args.files in
    let asked : List ℕ = c.in_ok-channel.channel in
    let definitions = c.in_ok-definitions.definitions in
    joins files asked c.args.channel.now (held definitions.tables) definitions.overrides c.in_ok-manifest.manifest c.is_channel-is_known.result c.in_ok-unknown_import.unknown_import c.in_ok-unknown_override.unknown_override c.checked.result
    c.in_ok-channel.ensures c.in_ok-definitions.ensures.tables c.in_ok-definitions.ensures.overrides c.in_ok-manifest.ensures
    (c.is_channel-is_known.ensures ∙ ap (λ (fs : List Linked). is_among asked (root_channels fs)) c.as_slice.ensures)
    (c.in_ok-unknown_import.ensures ∙ ap first_unknown_import c.as_slice-2.ensures) (c.in_ok-unknown_override.ensures ∙ c.unknown_override.ensures) c.checked.ensures

pub returns-clause-sound : goal.returns-clause-sound
returns-clause-sound c =
    let files : List Linked = c.args.files in
    let asked : List ℕ = c.in_ok-channel.channel in
    let definitions = c.in_ok-definitions.definitions in
    gives_sound files c.args.channel.now c.checked.result c.requires (joins files asked c.args.channel.now (held definitions.tables) definitions.overrides c.in_ok-manifest.manifest c.is_channel-is_known.result c.in_ok-unknown_import.unknown_import c.in_ok-unknown_override.unknown_override c.checked.result
    c.in_ok-channel.ensures c.in_ok-definitions.ensures.tables c.in_ok-definitions.ensures.overrides c.in_ok-manifest.ensures
    (c.is_channel-is_known.ensures ∙ ap (λ (fs : List Linked). is_among asked (root_channels fs)) c.as_slice.ensures)
    (c.in_ok-unknown_import.ensures ∙ ap first_unknown_import c.as_slice-2.ensures) (c.in_ok-unknown_override.ensures ∙ c.unknown_override.ensures) c.checked.ensures)

pub returns-clause-well_formed : goal.returns-clause-well_formed
returns-clause-well_formed c = gives_formed c.args.files c.args.channel.now c.checked.result c.requires (returns-clause-joins c)

pub returns-clause-sound_single : goal.returns-clause-sound_single
returns-clause-sound_single c = gives_sound_single c.args.files c.args.channel.now c.checked.result c.requires (returns-clause-joins c)
