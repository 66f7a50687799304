use Rattle.std.proofs.Common.{◌≡◌, [], drop}
use Rattle.state_codec.specs.Kinds.{letter}
use Rattle.state_codec.specs.Folds.{folded, keeping}
use Rattle.state_codec.specs.Reading.{slug_row}
use Rattle.state_codec.proofs.sections.slugs_under.Given as goal

abbrev pub invariant-loop-row : goal.invariant-loop-row
invariant-loop-row l = folded (keeping (slug_row (letter l.kind))) l.slugs (drop l.row-index l.rows) ≡ folded (keeping (slug_row (letter l.kind))) [] l.rows
