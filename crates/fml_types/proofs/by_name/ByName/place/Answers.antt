use Rattle.std.proofs.Common.{sym, ap, ◌∙◌}
use Rattle.fml_types.specs.Named.{place}
use Rattle.fml_types.proofs.Places.{none_at}
use Rattle.fml_types.proofs.by_name.ByName.place.Goals as goal

pub returns-in-Err : goal.returns-in-Err
returns-in-Err g c = sym (none_at c.args.name.now c.as_slice.result.now c.in-Err.field-0 c.in-Err.ensures.absent) ∙ ap (place c.args.name.now) c.as_slice.ensures.pairs
