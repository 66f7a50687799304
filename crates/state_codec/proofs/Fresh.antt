-- The state of a new store is sound, and is encoded in 103 bytes.
use Rattle.std.proofs.Common.{◌≡◌, List, ℕ, length, arith}
use Rattle.enrol_states.specs.Consistent.{IsConsistent}
use Rattle.enrol_states.specs.State.{fresh}
use Rattle.state_codec.specs.Encoding.{encoding}
use Rattle.state_codec.specs.Sound.{IsSound}
use Rattle.state_codec.proofs.Sizes.{length-encoding}

pub length-fresh : (id : List ℕ) (now : ℕ) → length (encoding (fresh id now)) ≡ 103
length-fresh id now = length-encoding (fresh id now)

pub fresh_is_sound : (id : List ℕ) (now : ℕ) → IsConsistent (fresh id now) → IsSound (fresh id now)
fresh_is_sound id now is = record { consistent = is; records = record { live = tt; pending = tt }; size = omega (arith, length-fresh id now) }
