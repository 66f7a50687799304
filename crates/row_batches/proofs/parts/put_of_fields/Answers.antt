-- The key is the first field, and the value the second.
use Rattle.std.proofs.Common.{◌++◌, ◌∙◌, sym, append_assoc, refl}
use Rattle.row_batches.specs.Batches.{short_field, long_field}
use Rattle.row_batches.proofs.RowFields.{same_short}
use Rattle.row_batches.proofs.parts.put_of_fields.Goals as goal

pub returns-in_default-long_field : goal.returns-in_default-long_field
returns-in_default-long_field c r rest room same =
    let key = c.in-Some.ensures.some in
    let whole = sym key.0 ∙ same ∙ append_assoc (short_field r.key) (long_field r.value) rest in
    let behind = (same_short c.in-Some.key.now r.key c.in-Some.behind.now (long_field r.value ++ rest) key.1 room.key whole).1 in
    c.in_default-long_field.ensures.none refl r.value rest room.value behind
