-- The files by name.
use Rattle.std.specs.Prelude.{◌≡◌, ℕ, List as Seq, [], Option, Some, None, slice_get}
use Rattle.std.specs.BTreeMap.{BTreeMap, get}
use Rattle.std.specs.Cmp.Lexicographic.{slice_cmp}
use Rattle.std.specs.Ordering.{nat_cmp}
use Rattle.fml_imports.specs.Channels.{is_among}
use Rattle.fml_imports.specs.Imports.{channels_of}
use Rattle.fml_imports.specs.declared.imports.Standing.{Standing}
use Rattle.fml_imports.specs.declared.joining.Linked.{Linked}

-- the file stands there, has these channels, and this is whether its own is one of them
pub record StandsAt (files : Seq Linked) (standing : Standing) (file : Linked) (channels : Seq (Seq ℕ)) : Type 0 where
  pub place : slice_get files standing.place ≡ Some file
  pub same : channels ≡ file.module.channels
  pub own : standing.has_channel ≡ is_among file.channel file.module.channels

-- what is known of the file with these channels, among all files
abbrev pub IsStanding : Seq Linked → Seq (Seq ℕ) → Option Standing → Type 0
IsStanding all channels None = channels ≡ []
IsStanding all channels (Some standing) = (file : Linked) × StandsAt all standing file channels

-- the map has the first of these files of each name, and knows where it stands among all
abbrev pub AreStandings : Seq Linked → Seq Linked → BTreeMap (Seq ℕ) Standing → Type 0
AreStandings all files map = (name : Seq ℕ) → IsStanding all (channels_of name files) (get (slice_cmp nat_cmp) map name)
