-- Bytes that fail to be a slug at a place are none.
use Rattle.std.proofs.Common.{◌≡◌, List, ℕ, Some, None, refl}
use Rattle.plain_text.specs.Names.{bad_place}
use Rattle.state_values.specs.Reading.{slug_in}
use Rattle.state_values.proofs.values.slug_in.Goals as goal

refused : (bytes : List ℕ) (n : ℕ) → bad_place bytes ≡ Some n → slug_in bytes ≡ None
unfolding slug_in
refused bytes n bad = rw bad refl

pub returns-in-Err-BadSlug : goal.returns-in-Err-BadSlug
returns-in-Err-BadSlug c =
    let bad = rw c.in-Err-BadSlug.field-0-is at (c.in-Err-BadSlug.ensures.bad c.in-Err-BadSlug.field-0-0) in
    refused c.args.bytes.now c.in-Err-BadSlug.field-0-0 (bad.0 refl)
