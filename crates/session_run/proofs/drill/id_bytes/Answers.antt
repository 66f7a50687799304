-- The id of a drill reads as its sixteen bytes.
use Rattle.std.proofs.Common.{◌≡◌, Some, ap, ◌∙◌, arith}
use Rattle.uuid.specs.Text.{parsed}
use Rattle.session_run.specs.Drills.{drill_bytes}
use Rattle.session_run.proofs.DrillIds.{drill_id_reads}
use Rattle.session_run.proofs.drill.id_bytes.Goals as goal

pub unreachable-requires : goal.unreachable-requires
unreachable-requires c =
    let reads : parsed c.as_str.result.now ≡ Some drill_bytes = ap parsed (c.as_str.ensures.text ∙ c.requires) ∙ drill_id_reads in
    absurd (grind (arith, c.in-Err.ensures.ok.1 (drill_bytes, reads)))

pub returns : goal.returns
returns c =
    let reads : parsed c.as_str.result.now ≡ Some drill_bytes = ap parsed (c.as_str.ensures.text ∙ c.requires) ∙ drill_id_reads in
    let both : Some c.in-Ok.id ≡ Some drill_bytes = c.in-Ok.ensures.bytes ∙ reads in
    grind (arith, both, c.into_bytes.ensures)
