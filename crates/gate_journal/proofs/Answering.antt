-- Two facts of one answer.
use Rattle.std.specs.Prelude.{Result, Ok, Err, OnOk}

pub both_ok : {T E P Q R : Type 0} (result : Result T E) → (P → Q → R) → OnOk result P → OnOk result Q → OnOk result R
both_ok (Ok value) from p q = from p q
both_ok (Err error) from p q = tt
