use Rattle.std.proofs.Common.{◌<◌, ◌+◌, ◌/◌, ◌↔◌, length, IsTrue, nat_lt, arith, subst}
use Rattle.std.proofs.lemmas.Bool.Decides.{nat_tests}
use Rattle.host_model.specs.CallLog.{CallLog}
use Rattle.host_model.proofs.NextCall.{length-decoded}
use Rattle.host_model.proofs.call_log.CallLog.has_room_for_call.Goals as goal

pub returns : goal.returns
returns c =
    let t = c.self.inside in
    let many = length-decoded t.calls.items t.bytes.items in
    subst (λ (v : CallLog). IsTrue (nat_lt c.len.result (t.room / 32 + 64)) ↔ (length v.past < v.room / 32 + 64)) c.self.view_is (grind (arith, nat_tests))
