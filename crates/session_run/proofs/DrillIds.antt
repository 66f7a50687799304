-- The id of a drill reads as its sixteen bytes.
use Rattle.std.proofs.Common.{◌≡◌, Some, refl}
use Rattle.uuid.specs.Text.{parsed}
use Rattle.uuid.proofs.OnLiterals.{uuid_on_literals}
use Rattle.recipe_drill.specs.Parts.{drill_id}
use Rattle.session_run.specs.Drills.{drill_bytes}

pub drill_id_reads : parsed drill_id ≡ Some drill_bytes
unfolding uuid_on_literals
drill_id_reads = refl
