-- The map that is kept beside the list of a manifest's files.
use Rattle.std.specs.Prelude.{◌≡◌, ℕ, List as Seq}
use Rattle.std.specs.BTreeMap.{get}
use Rattle.std.specs.Cmp.Lexicographic.{slice_cmp}
use Rattle.std.specs.Ordering.{nat_cmp}
use Rattle.fml_types.specs.Named.{found}
use Rattle.fml_link.specs.declared.names.FileList.{FileList}

-- the map has the channel of each listed file, and no others
abbrev pub AreMet : FileList → Type 0
AreMet files = (name : Seq ℕ) → get (slice_cmp nat_cmp) files.channels name ≡ found name files.list
