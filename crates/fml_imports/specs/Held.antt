-- What the tables hold in which definitions are gathered.
use Rattle.std.specs.Prelude.{◌≡◌, Result, Ok, Err}
use Rattle.fml_imports.specs.Outcome.{Fails}
use Rattle.fml_imports.specs.Tables.{Tables}
use Rattle.fml_imports.specs.declared.fault.JoinFault.{JoinFault}
use Rattle.fml_imports.specs.declared.fault.JoinRefusal.{JoinRefusal}
use Rattle.fml_imports.specs.declared.tables.TablesByName.{TablesByName}
use Rattle.fml_imports.specs.declared.tables.Definitions.{Definitions}

abbrev pub held : TablesByName → Tables
held tables = record { enums = tables.enums; objects = tables.objects; features = tables.features }

-- what a call returned holds what joining gives, unless memory ran out
abbrev pub GivesHeld : Result Definitions JoinFault → Result Tables JoinRefusal → Type 0
GivesHeld (Ok definitions) joined = joined ≡ Ok (held definitions.tables)
GivesHeld (Err e) joined = Fails e joined
