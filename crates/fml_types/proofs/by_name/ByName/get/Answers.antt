use Rattle.std.proofs.Common.{sym, ap, ◌∙◌, arith}
use Rattle.fml_types.specs.Named.{found}
use Rattle.fml_types.proofs.Places.{found_none, found_at, place_within, none_at}
use Rattle.fml_types.proofs.by_name.ByName.get.Goals as goal

pub offset_bounds-pairs-place : goal.offset_bounds-pairs-place
offset_bounds-pairs-place g c =
    let below = place_within c.args.name.now c.as_slice-pairs.result.now c.in-Ok.place c.in-Ok.ensures.there in
    omega (arith, below)

pub bounds-pairs-place : goal.bounds-pairs-place
bounds-pairs-place g c = place_within c.args.name.now c.as_slice-pairs.result.now c.in-Ok.place c.in-Ok.ensures.there

pub returns-in-Ok : goal.returns-in-Ok
returns-in-Ok g c =
    sym (found_at c.args.name.now c.as_slice-pairs.result.now c.in-Ok.place c.index-pairs-place.result c.in-Ok.ensures.there) ∙ ap (found c.args.name.now) c.as_slice-pairs.ensures.pairs

pub returns-in-Err : goal.returns-in-Err
returns-in-Err g c =
    sym (found_none c.args.name.now c.as_slice-pairs.result.now (none_at c.args.name.now c.as_slice-pairs.result.now c.in-Err.field-0 c.in-Err.ensures.absent)) ∙ ap (found c.args.name.now) c.as_slice-pairs.ensures.pairs
