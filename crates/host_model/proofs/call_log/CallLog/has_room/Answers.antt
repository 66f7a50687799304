use Rattle.std.proofs.Common.{◌≤◌, ◌+◌, ◌-◌, ◌↔◌, IsTrue, nat_le, arith, subst}
use Rattle.std.proofs.lemmas.Bool.Decides.{nat_tests}
use Rattle.host_model.specs.CallLog.{CallLog, bytes_logged}
use Rattle.host_model.proofs.NextCall.{bytes_logged-decoded}
use Rattle.host_model.proofs.call_log.CallLog.has_room.Goals as goal

pub returns : goal.returns
returns c =
    let t = c.self.inside in
    let same = bytes_logged-decoded t.calls.items t.bytes.items c.self.invariant.taken in
    let within = c.self.invariant.room.bytes_within in
    subst (λ (v : CallLog). IsTrue (nat_le c.args.len (t.room - c.len.result)) ↔ (bytes_logged v.past + c.args.len ≤ v.room)) c.self.view_is (grind (arith, nat_tests))
