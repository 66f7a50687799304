use Rattle.std.proofs.Common.{◌≡◌, Some, refl}
use Rattle.plain_text.specs.Names.{bad_place}
use Rattle.pref_bindings.proofs.reading.slug_in.Goals as goal

pub returns-in-Err-BadSlug-clause-none : goal.returns-in-Err-BadSlug-clause-none
returns-in-Err-BadSlug-clause-none c =
    let bad = rw c.in-Err-BadSlug.field-0-is at (c.in-Err-BadSlug.ensures.bad c.in-Err-BadSlug.field-0-0) in
    let some : bad_place c.args.bytes.now ≡ Some c.in-Err-BadSlug.field-0-0 = bad.0 refl in
    λ e is. cc
