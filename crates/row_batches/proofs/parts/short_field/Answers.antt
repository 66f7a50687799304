-- The number of bytes, and so many of the bytes behind it.
use Rattle.std.proofs.Common.{◌^◌, arith, w16}
use Rattle.std.specs.Int.{to_be_bytes, from_be_bytes}
use Rattle.std.proofs.lemmas.Nat.{be_bytes_2}
use Rattle.row_batches.specs.Batches.{short_field}
use Rattle.row_batches.proofs.Fields.{no_number, two_sized, two_tell}
use Rattle.row_batches.proofs.FieldsRead.{some_read, none_read}
use Rattle.row_batches.proofs.parts.short_field.Goals as goal

pub returns-in_err-size-clause-none : goal.returns-in_err-size-clause-none
unfolding short_field
returns-in_err-size-clause-none c _ field rest fits same = no_number (to_be_bytes w16) 2 (2 ^ 16) two_sized two_tell c.args.bytes.now c.in_err-size.ensures.cases field rest same

pub returns-clause-some : goal.returns-clause-some
unfolding short_field
returns-clause-some c =
    let cases = c.in_ok-size.ensures.cases in
    some_read (to_be_bytes w16) (from_be_bytes w16) 2 (2 ^ 16) two_sized two_tell be_bytes_2
    c.args.bytes.now c.in_ok-size.size.now c.in_ok-size.rest.now c.from_be_bytes-len.result cases.0 cases.1 cases.2 (λ i. omega (arith, c.type_inv.bytes i)) c.from_be_bytes-len.ensures c.from_be_bytes-len.type_inv
    (λ p. p.0.now) (λ p. p.1.now) c.split_at_checked.result c.split_at_checked.ensures.cases

pub returns-clause-none : goal.returns-clause-none
unfolding short_field
returns-clause-none c none field rest fits same =
    let cases = c.in_ok-size.ensures.cases in
    none_read (to_be_bytes w16) (from_be_bytes w16) 2 (2 ^ 16) two_sized two_tell be_bytes_2
    c.args.bytes.now c.in_ok-size.size.now c.in_ok-size.rest.now c.from_be_bytes-len.result cases.0 cases.1 cases.2 (λ i. omega (arith, c.type_inv.bytes i)) c.from_be_bytes-len.ensures c.from_be_bytes-len.type_inv
    _ c.split_at_checked.result c.split_at_checked.ensures.cases none field rest fits same
