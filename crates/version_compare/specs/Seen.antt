-- A part in the code as a part of the definition.
use Rattle.std.specs.Option.{option_copied}
use Rattle.version_compare.specs.Versions.{Part}
use Rattle.version_compare.specs.declared.part.Part.{Part as CodePart}

abbrev pub part_seen : CodePart → Part
part_seen p = record {
  number_a = p.number_a;
  string_b = option_copied p.string_b;
  number_c = p.number_c;
  string_d = option_copied p.string_d;
}
