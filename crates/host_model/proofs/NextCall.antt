-- One call more in a log.
use Rattle.std.proofs.Common.{◌≡◌, ℕ, ◌+◌, ◌/◌, ◌≤◌, ◌<◌, List, [], ◌∷◌, ◌++◌, length, take, drop, replicate, refl, sym, ◌∙◌, ap, subst, arith, length-append, length-drop}
use Rattle.std.proofs.lemmas.List.{take_all, take-append-le, drop-append-le, length-take-le, nil_from_length}
use Rattle.std.specs.Prelude.{vec_capacity}
use Rattle.host_model.specs.Images.{overwritten}
use Rattle.host_model.specs.declared.side.Side.{Side}
use Rattle.host_model.specs.declared.call_log.Call.{Call}
use Rattle.host_model.specs.declared.call_log.Call.TheVariants.{Write, Sync, Say}
use Rattle.host_model.specs.declared.call_log.CallLog.TheInside.{Inside}
use Rattle.host_model.specs.CallLog.{PastCall, Wrote, Synced, Said, CallLog, SideState, HostState, wrote, after, state_after, all_synced, start, state_of, bytes_logged, bytes_written}
use Rattle.host_model.specs.CallLogFields.{decoded, bytes_taken, as_log, HoldsSide, Holds, HasRoom, IsSound}
use Rattle.host_model.specs.SideBytes.{SideBytes, with_write, with_sync}
use Rattle.host_model.proofs.Marking.{marked_next}

-- calls that come with their bytes
pub decoded-append : (calls later : List Call) (bytes more : List ℕ) → bytes_taken calls ≡ length bytes → decoded (calls ++ later) (bytes ++ more) ≡ decoded calls bytes ++ decoded later more
decoded-append [] later bytes more all = ap (λ (l : List ℕ). decoded later (l ++ more)) (nil_from_length bytes (sym all))
decoded-append (Write side at len ∷ calls) later bytes more all =
    let within : len ≤ length bytes = omega arith in
    let rest : bytes_taken calls ≡ length (drop len bytes) = omega (arith, length-drop len bytes) in
    ap (λ (l : List ℕ). Wrote side at l ∷ decoded (calls ++ later) (drop len (bytes ++ more))) (take-append-le len bytes more within)
    ∙ ap (λ (l : List ℕ). Wrote side at (take len bytes) ∷ decoded (calls ++ later) l) (drop-append-le len bytes more within)
    ∙ ap (λ (past : List PastCall). Wrote side at (take len bytes) ∷ past) (decoded-append calls later (drop len bytes) more rest)
decoded-append (Sync side ∷ calls) later bytes more all = ap (λ (past : List PastCall). Synced side ∷ past) (decoded-append calls later bytes more all)
decoded-append (Say len ∷ calls) later bytes more all =
    let within : len ≤ length bytes = omega arith in
    let rest : bytes_taken calls ≡ length (drop len bytes) = omega (arith, length-drop len bytes) in
    ap (λ (l : List ℕ). Said l ∷ decoded (calls ++ later) (drop len (bytes ++ more))) (take-append-le len bytes more within)
    ∙ ap (λ (l : List ℕ). Said (take len bytes) ∷ decoded (calls ++ later) l) (drop-append-le len bytes more within)
    ∙ ap (λ (past : List PastCall). Said (take len bytes) ∷ past) (decoded-append calls later (drop len bytes) more rest)

pub length-decoded : (calls : List Call) (bytes : List ℕ) → length (decoded calls bytes) ≡ length calls
length-decoded [] bytes = refl
length-decoded (Write side at len ∷ calls) bytes = omega (arith, length-decoded calls (drop len bytes))
length-decoded (Sync side ∷ calls) bytes = omega (arith, length-decoded calls bytes)
length-decoded (Say len ∷ calls) bytes = omega (arith, length-decoded calls (drop len bytes))

pub bytes_logged-decoded : (calls : List Call) (bytes : List ℕ) → bytes_taken calls ≡ length bytes → bytes_logged (decoded calls bytes) ≡ length bytes
bytes_logged-decoded [] bytes all = all
bytes_logged-decoded (Write side at len ∷ calls) bytes all =
    let within : len ≤ length bytes = omega arith in
    omega (arith, bytes_logged-decoded calls (drop len bytes) (omega (arith, length-drop len bytes)), length-drop len bytes, length-take-le len bytes within)
bytes_logged-decoded (Sync side ∷ calls) bytes all = bytes_logged-decoded calls bytes all
bytes_logged-decoded (Say len ∷ calls) bytes all =
    let within : len ≤ length bytes = omega arith in
    omega (arith, bytes_logged-decoded calls (drop len bytes) (omega (arith, length-drop len bytes)), length-drop len bytes, length-take-le len bytes within)

pub bytes_taken-append : (calls later : List Call) → bytes_taken (calls ++ later) ≡ bytes_taken calls + bytes_taken later
bytes_taken-append [] later = omega arith
bytes_taken-append (Write side at len ∷ calls) later = omega (arith, bytes_taken-append calls later)
bytes_taken-append (Sync side ∷ calls) later = bytes_taken-append calls later
bytes_taken-append (Say len ∷ calls) later = omega (arith, bytes_taken-append calls later)

pub state_after-push : (host : HostState) (past : List PastCall) (made : PastCall) → state_after host (past ++ made ∷ []) ≡ after (state_after host past) made
state_after-push host [] made = refl
state_after-push host (e ∷ past) made = state_after-push (after host e) past made

pub bytes_written-append : (past later : List PastCall) → bytes_written (past ++ later) ≡ bytes_written past + bytes_written later
bytes_written-append [] later = omega arith
bytes_written-append (Wrote side at bytes ∷ past) later = omega (arith, bytes_written-append past later)
bytes_written-append (Synced side ∷ past) later = bytes_written-append past later
bytes_written-append (Said bytes ∷ past) later = bytes_written-append past later

abbrev pub log_with : List ℕ → List ℕ → List PastCall → ℕ → CallLog
log_with left right past room = record { left = left; right = right; past = past; room = room }

-- the log after one call more
pub log_push : (left right : List ℕ) (room : ℕ) (calls calls' : List Call) (bytes bytes' more : List ℕ) (call : Call) (made : PastCall) (now : CallLog)
    → log_with left right (decoded calls bytes) room ≡ now → bytes_taken calls ≡ length bytes
    → calls' ≡ calls ++ call ∷ [] → bytes' ≡ bytes ++ more → decoded (call ∷ []) more ≡ made ∷ []
    → log_with left right (decoded calls' bytes') room ≡ log_with now.left now.right (now.past ++ made ∷ []) now.room
log_push left right room calls calls' bytes bytes' more call made now view_is all calls_are bytes_are one =
    let past : decoded calls' bytes' ≡ decoded calls bytes ++ made ∷ [] =
    ap (λ (l : List Call). decoded l bytes') calls_are ∙ ap (λ (l : List ℕ). decoded (calls ++ call ∷ []) l) bytes_are ∙ decoded-append calls (call ∷ []) bytes more all ∙ ap (λ (l : List PastCall). decoded calls bytes ++ l) one in
    ap (λ (l : List PastCall). log_with left right l room) past ∙ ap (λ (v : CallLog). log_with v.left v.right (v.past ++ made ∷ []) v.room) view_is

-- the fields after it
pub sound_next : (t t' : Inside) (more : List ℕ) (call : Call) (made : PastCall) → IsSound t
    → t'.left.first ≡ t.left.first → t'.right.first ≡ t.right.first
    → t'.calls.items ≡ t.calls.items ++ call ∷ [] → t'.bytes.items ≡ t.bytes.items ++ more → decoded (call ∷ []) more ≡ made ∷ [] → bytes_taken (call ∷ []) ≡ length more
    → Holds (after (state_of (as_log t)) made) t' → HasRoom t' → IsSound t'
sound_next t t' more call made sound left right calls_are bytes_are one size holds room =
    let past : (as_log t').past ≡ (as_log t).past ++ made ∷ [] =
    ap (λ (l : List Call). decoded l t'.bytes.items) calls_are ∙ ap (λ (l : List ℕ). decoded (t.calls.items ++ call ∷ []) l) bytes_are
    ∙ decoded-append t.calls.items (call ∷ []) t.bytes.items more sound.taken ∙ ap (λ (l : List PastCall). decoded t.calls.items t.bytes.items ++ l) one in
    let same_start : start (as_log t') ≡ start (as_log t) =
    ap (λ (l : List ℕ). record { left = all_synced l; right = all_synced t'.right.first; text = [] }) left ∙ ap (λ (l : List ℕ). record { left = all_synced t.left.first; right = all_synced l; text = [] }) right in
    let world : state_of (as_log t') ≡ after (state_of (as_log t)) made =
    ap (λ (host : HostState). state_after host (as_log t').past) same_start ∙ ap (λ (l : List PastCall). state_after (start (as_log t)) l) past ∙ state_after-push (start (as_log t)) (as_log t).past made in
    record {
      holds = subst (λ (host : HostState). Holds host t') (sym world) holds;
      taken = ap bytes_taken calls_are ∙ bytes_taken-append t.calls.items (call ∷ []) ∙ omega (arith, sound.taken, size, ap length bytes_are, length-append t.bytes.items more);
      room = room;
    }

-- the buffers of a side after a write, and after a sync
pub side_wrote : (b b' : SideBytes) (state : SideState) (room at : ℕ) (bytes : List ℕ) → HoldsSide b state room → b' ≡ with_write b at bytes → HoldsSide b' (wrote state at bytes) room
side_wrote b b' state room at bytes holds is = subst (λ (v : SideBytes). HoldsSide v (wrote state at bytes) room) (sym is) (record {
  synced = holds.synced;
  read = ap (λ (l : List ℕ). overwritten l at bytes) holds.read;
  torn = ap (λ (l : List ℕ). overwritten l at (replicate (length bytes) 255)) holds.torn ∙ marked_next state at bytes;
  same_room = holds.same_room;
})

pub side_synced : (b b' : SideBytes) (state : SideState) (room : ℕ) → HoldsSide b state room → b' ≡ with_sync b → HoldsSide b' (all_synced state.read) room
side_synced b b' state room holds is = subst (λ (v : SideBytes). HoldsSide v (all_synced state.read) room) (sym is) (record {
  synced = holds.read;
  read = holds.read;
  torn = holds.read;
  same_room = holds.same_room;
})

-- the room after one call more
pub room_next : (t t' : Inside) (call : Call) (more : List ℕ) → HasRoom t → t'.room ≡ t.room → length t.calls.items < t.room / 32 + 64 → length t.bytes.items + length more ≤ t.room
    → t'.calls.items ≡ t.calls.items ++ call ∷ [] → t'.bytes.items ≡ t.bytes.items ++ more → length t'.said.items ≤ length t.said.items + length more
    → vec_capacity t.said ≤ vec_capacity t'.said → vec_capacity t.bytes ≤ vec_capacity t'.bytes → vec_capacity t.calls ≤ vec_capacity t'.calls → HasRoom t'
room_next t t' call more room same call_room byte_room calls_are bytes_are said_within said bytes calls =
    let count = length-append t.calls.items (call ∷ []) in
    let size = length-append t.bytes.items more in
    record {
      bytes_within = omega (arith, same, byte_room, ap length bytes_are, size);
      said_within = omega (arith, room.said_within, said_within, ap length bytes_are, size);
      calls_within = omega (arith, same, call_room, ap length calls_are, count);
      said_room = omega (arith, same, room.said_room, said);
      bytes_room = omega (arith, same, room.bytes_room, bytes);
      calls_room = omega (arith, same, room.calls_room, calls);
    }

-- room in the log is room in the fields
pub room_for_call : (t : Inside) (now : CallLog) → as_log t ≡ now → length now.past < now.room / 32 + 64 → length t.calls.items < t.room / 32 + 64
room_for_call t now view_is room =
    let here = subst (λ (v : CallLog). length v.past < v.room / 32 + 64) (sym view_is) room in
    omega (arith, here, length-decoded t.calls.items t.bytes.items)

pub room_for_bytes : (t : Inside) (now : CallLog) (n : ℕ) → as_log t ≡ now → IsSound t → bytes_logged now.past + n ≤ now.room → length t.bytes.items + n ≤ t.room
room_for_bytes t now n view_is sound room =
    let here = subst (λ (v : CallLog). bytes_logged v.past + n ≤ v.room) (sym view_is) room in
    omega (arith, here, bytes_logged-decoded t.calls.items t.bytes.items sound.taken)

pub one_written : (side : Side) (at : ℕ) (bytes : List ℕ) → decoded (Write side at (length bytes) ∷ []) bytes ≡ Wrote side at bytes ∷ []
one_written side at bytes = ap (λ (l : List ℕ). Wrote side at l ∷ []) (take_all (length bytes) bytes (omega arith))

pub one_said : (bytes : List ℕ) → decoded (Say (length bytes) ∷ []) bytes ≡ Said bytes ∷ []
one_said bytes = ap (λ (l : List ℕ). Said l ∷ []) (take_all (length bytes) bytes (omega arith))
