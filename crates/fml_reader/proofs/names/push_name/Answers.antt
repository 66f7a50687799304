use Rattle.std.proofs.Common.{IsUtf8, sym, subst}
use Rattle.fml_reader.proofs.Pieces.{trimmed_utf8}
use Rattle.fml_reader.proofs.names.push_name.Goals as goal

pub push_kept-requires : goal.push_kept-requires
push_kept-requires c = subst IsUtf8 (sym c.without_spaces.ensures) (trimmed_utf8 c.args.piece.now c.requires)
