use Rattle.std.proofs.Common.{◌++◌, List, ℕ, length, refl, ◌∙◌, ap, arith, length-append}
use Rattle.host_model.specs.CallLog.{Said}
use Rattle.host_model.specs.declared.call_log.Call.TheVariants.{Say}
use Rattle.host_model.proofs.NextCall.{log_push, sound_next, room_next, room_for_call, room_for_bytes, one_said}
use Rattle.host_model.proofs.call_log.CallLog.say.Goals as goal

pub push_call-requires : goal.push_call-requires
push_call-requires c = omega (arith, room_for_call c.self.inside c.args.self.now c.self.view_is c.requires.calls, c.self.invariant.room.calls_room)

pub extend-requires : goal.extend-requires
extend-requires c =
    omega (arith, room_for_bytes c.self.inside c.args.self.now (length c.args.bytes.now) c.self.view_is c.self.invariant c.requires.bytes, c.self.invariant.room.bytes_room)

pub extend-requires-2 : goal.extend-requires-2
extend-requires-2 c =
    omega (
      arith,
      room_for_bytes c.self.inside c.args.self.now (length c.args.bytes.now) c.self.view_is c.self.invariant c.requires.bytes,
      c.self.invariant.room.said_room,
      c.self.invariant.room.said_within,
    )

pub returns : goal.returns
returns c =
    let t = c.self.inside in
    let bytes = c.args.bytes.now in
    log_push t.left.first t.right.first t.room t.calls.items c.push_call.new.calls.items t.bytes.items c.extend.new.bytes.items bytes (Say (length bytes)) (Said bytes) c.args.self.now
    c.self.view_is c.self.invariant.taken c.push_call.ensures.items c.extend.ensures.items (one_said bytes)

pub invariant_of-self : goal.invariant_of-self
invariant_of-self c =
    let t = c.self.inside in
    let s = c.self.invariant in
    let bytes = c.args.bytes.now in
    sound_next t _ bytes (Say (length bytes)) (Said bytes) s refl refl c.push_call.ensures.items c.extend.ensures.items (one_said bytes) (omega arith)
    (record { left = s.holds.left; right = s.holds.right; said = c.extend-2.ensures.items ∙ ap (λ (l : List ℕ). l ++ bytes) s.holds.said })
    (room_next t _ (Say (length bytes)) bytes s.room refl (room_for_call t c.args.self.now c.self.view_is c.requires.calls) (room_for_bytes t c.args.self.now (length bytes) c.self.view_is s c.requires.bytes)
    c.push_call.ensures.items c.extend.ensures.items (omega (arith, ap length c.extend-2.ensures.items, length-append t.said.items bytes)) c.extend-2.ensures.capacity c.extend.ensures.capacity c.push_call.ensures.capacity)
