use Rattle.std.proofs.Common.{◌≡◌, ◌<◌, length, ap, refl, ◌∙◌, arith}
use Rattle.std.proofs.lemmas.Option.{slice_get_read}
use Rattle.std.proofs.lemmas.List.{length-map}
use Rattle.recipe_reader.specs.declared.recipe.Branch.{Branch}
use Rattle.enrol_evolver.specs.Verdicts.{ratios_of}
use Rattle.enrol_evolver.proofs.Choosing.{branch-chosen}
use Rattle.enrol_evolver.proofs.samples.branch_at.Goals as goal

pub returns : goal.returns
returns c =
    let bs = c.args.branches.now in
    let place = c.choose_branch-place.result in
    let same : c.as_slice.result.now ≡ ratios_of bs = c.as_slice.ensures.value ∙ c.in_ok-ratios.ensures in
    let whole : length c.as_slice.result.now ≡ length bs = ap length same ∙ length-map bs (λ (b : Branch). b.ratio) in
    let index : place < length c.as_slice.result.now = c.choose_branch-place.ensures.index in
    branch-chosen c.args.point bs c.as_slice.result.now place c.index-branches-place.result same c.choose_branch-place.ensures
    (slice_get_read bs (length bs) place c.index-branches-place.result refl (omega (arith, whole, index)) c.index-branches-place.is)
