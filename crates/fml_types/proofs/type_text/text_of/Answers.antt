use Rattle.fml_types.proofs.Ascii.{IsUtf8-name}
use Rattle.fml_types.proofs.type_text.text_of.Goals as goal

pub unreachable-requires : goal.unreachable-requires
unreachable-requires c = c.in_default.ensures.cases.0 (IsUtf8-name c.args.name.now c.requires)
