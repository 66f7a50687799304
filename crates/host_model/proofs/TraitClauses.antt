-- What the calls of a host in memory are to the trait's clauses.
use Rattle.std.proofs.Common.{◌≡◌, ◌⊎◌, ◌↔◌, inl, inr, ⊎_elim, ℕ, zero, suc, ◌+◌, ◌≤◌, List, [], ◌∷◌, ◌++◌, length, refl, sym, ◌∙◌, ap, subst, arith, length-append}
use Rattle.std.specs.Prelude.{Result, Ok, Err, OnOk, OnErr}
use Rattle.std.proofs.lemmas.List.{take_all, append-nil}
use Rattle.std.proofs.lemmas.Result.{on_ok_weaker, on_err_weaker}
use Rattle.host_model.specs.declared.side.Side.{Side}
use Rattle.host_model.specs.declared.side.Side.TheVariants.{Left, Right}
use Rattle.host_model.specs.Images.{overwritten, IsAfter, Follows, Only}
use Rattle.host_model.specs.Images as image
use Rattle.host_model.specs.Moments.{IsNow, IsSaying, Elapses}
use Rattle.host_model.specs.Sides.{other}
use Rattle.host_model.specs.Memory.{with_call}
use Rattle.host_model.specs.CallLog.{PastCall, Wrote, Synced, Said, CallLog, HostState, side_of, after, state_after, start, state_of, images_of, IsDuring, MightSince, bytes_written}
use Rattle.host_model.specs.CallLogLaws.{read_is_image_of, since_now}
use Rattle.host_model.proofs.NextCall.{state_after-push, bytes_written-append}

pub state_next : (log : CallLog) (call : PastCall) → state_of (with_call log call) ≡ after (state_of log) call
state_next log call = state_after-push (start log) log.past call

same_images : (P : Type 0) → P ↔ P
same_images P = (λ p. p, λ p. p)

-- one call more
wrote_read : (host : HostState) (side : Side) (at : ℕ) (bytes : List ℕ) → (side_of (after host (Wrote side at bytes)) side).read ≡ overwritten (side_of host side).read at bytes
wrote_read host Left at bytes = refl
wrote_read host Right at bytes = refl

wrote_images : (host : HostState) (side : Side) (at : ℕ) (bytes c : List ℕ) → images_of (after host (Wrote side at bytes)) side c ↔ IsAfter (image.Torn at (length bytes)) (images_of host side) c
wrote_images host Left at bytes c = same_images _
wrote_images host Right at bytes c = same_images _

wrote_other_read : (host : HostState) (side : Side) (at : ℕ) (bytes : List ℕ) → (side_of (after host (Wrote side at bytes)) (other side)).read ≡ (side_of host (other side)).read
wrote_other_read host Left at bytes = refl
wrote_other_read host Right at bytes = refl

wrote_other_images : (host : HostState) (side : Side) (at : ℕ) (bytes c : List ℕ) → images_of (after host (Wrote side at bytes)) (other side) c ↔ images_of host (other side) c
wrote_other_images host Left at bytes c = same_images _
wrote_other_images host Right at bytes c = same_images _

wrote_text : (host : HostState) (side : Side) (at : ℕ) (bytes : List ℕ) → (after host (Wrote side at bytes)).text ≡ host.text
wrote_text host Left at bytes = refl
wrote_text host Right at bytes = refl

synced_read : (host : HostState) (side : Side) → (side_of (after host (Synced side)) side).read ≡ (side_of host side).read
synced_read host Left = refl
synced_read host Right = refl

synced_images : (host : HostState) (side : Side) (c : List ℕ) → images_of (after host (Synced side)) side c → c ≡ (side_of host side).read
synced_images host Left c left = left
synced_images host Right c left = left

synced_other_read : (host : HostState) (side : Side) → (side_of (after host (Synced side)) (other side)).read ≡ (side_of host (other side)).read
synced_other_read host Left = refl
synced_other_read host Right = refl

synced_other_images : (host : HostState) (side : Side) (c : List ℕ) → images_of (after host (Synced side)) (other side) c ↔ images_of host (other side) c
synced_other_images host Left c = same_images _
synced_other_images host Right c = same_images _

synced_text : (host : HostState) (side : Side) → (after host (Synced side)).text ≡ host.text
synced_text host Left = refl
synced_text host Right = refl

said_read : (host : HostState) (bytes : List ℕ) (side : Side) → (side_of (after host (Said bytes)) side).read ≡ (side_of host side).read
said_read host bytes Left = refl
said_read host bytes Right = refl

said_images : (host : HostState) (bytes : List ℕ) (side : Side) (c : List ℕ) → images_of (after host (Said bytes)) side c ↔ images_of host side c
said_images host bytes Left c = same_images _
said_images host bytes Right c = same_images _

-- the same of logs
module _ (log : CallLog) where
  pub write_read : (side : Side) (at : ℕ) (bytes : List ℕ) → (side_of (state_of (with_call log (Wrote side at bytes))) side).read ≡ overwritten (side_of (state_of log) side).read at bytes
  write_read side at bytes = ap (λ (host : HostState). (side_of host side).read) (state_next log (Wrote side at bytes)) ∙ wrote_read (state_of log) side at bytes

  pub write_images : (side : Side) (at : ℕ) (bytes c : List ℕ) → images_of (state_of (with_call log (Wrote side at bytes))) side c ↔ IsAfter (image.Torn at (length bytes)) (images_of (state_of log) side) c
  write_images side at bytes c = subst (λ (host : HostState). images_of host side c ↔ IsAfter (image.Torn at (length bytes)) (images_of (state_of log) side) c) (sym (state_next log (Wrote side at bytes))) (wrote_images (state_of log) side at bytes c)

  pub write_other_read : (side : Side) (at : ℕ) (bytes : List ℕ) → (side_of (state_of (with_call log (Wrote side at bytes))) (other side)).read ≡ (side_of (state_of log) (other side)).read
  write_other_read side at bytes = ap (λ (host : HostState). (side_of host (other side)).read) (state_next log (Wrote side at bytes)) ∙ wrote_other_read (state_of log) side at bytes

  pub write_other_images : (side : Side) (at : ℕ) (bytes c : List ℕ) → images_of (state_of (with_call log (Wrote side at bytes))) (other side) c ↔ images_of (state_of log) (other side) c
  write_other_images side at bytes c = subst (λ (host : HostState). images_of host (other side) c ↔ images_of (state_of log) (other side) c) (sym (state_next log (Wrote side at bytes))) (wrote_other_images (state_of log) side at bytes c)

  pub write_text : (side : Side) (at : ℕ) (bytes : List ℕ) → (state_of (with_call log (Wrote side at bytes))).text ≡ (state_of log).text
  write_text side at bytes = ap (λ (host : HostState). host.text) (state_next log (Wrote side at bytes)) ∙ wrote_text (state_of log) side at bytes

  pub write_cost : (side : Side) (at : ℕ) (bytes : List ℕ) → bytes_written (log.past ++ Wrote side at bytes ∷ []) ≡ bytes_written log.past + length bytes
  write_cost side at bytes = omega (arith, bytes_written-append log.past (Wrote side at bytes ∷ []))

  pub sync_read : (side : Side) → (side_of (state_of (with_call log (Synced side))) side).read ≡ (side_of (state_of log) side).read
  sync_read side = ap (λ (host : HostState). (side_of host side).read) (state_next log (Synced side)) ∙ synced_read (state_of log) side

  pub sync_only : (side : Side) → Only (side_of (state_of log) side).read (images_of (state_of (with_call log (Synced side))) side)
  sync_only side c left = synced_images (state_of log) side c (subst (λ (host : HostState). images_of host side c) (state_next log (Synced side)) left)

  pub sync_images : (side : Side) (c : List ℕ) → images_of (state_of (with_call log (Synced side))) side c → images_of (state_of log) side c
  sync_images side c left = subst (λ (image : List ℕ). images_of (state_of log) side image) (sym (sync_only side c left)) (read_is_image_of log side)

  pub sync_other_read : (side : Side) → (side_of (state_of (with_call log (Synced side))) (other side)).read ≡ (side_of (state_of log) (other side)).read
  sync_other_read side = ap (λ (host : HostState). (side_of host (other side)).read) (state_next log (Synced side)) ∙ synced_other_read (state_of log) side

  pub sync_other_images : (side : Side) (c : List ℕ) → images_of (state_of (with_call log (Synced side))) (other side) c ↔ images_of (state_of log) (other side) c
  sync_other_images side c = subst (λ (host : HostState). images_of host (other side) c ↔ images_of (state_of log) (other side) c) (sym (state_next log (Synced side))) (synced_other_images (state_of log) side c)

  pub sync_text : (side : Side) → (state_of (with_call log (Synced side))).text ≡ (state_of log).text
  sync_text side = ap (λ (host : HostState). host.text) (state_next log (Synced side)) ∙ synced_text (state_of log) side

  pub sync_cost : (side : Side) → bytes_written (log.past ++ Synced side ∷ []) ≡ bytes_written log.past
  sync_cost side = omega (arith, bytes_written-append log.past (Synced side ∷ []))

  pub say_read : (bytes : List ℕ) (side : Side) → (side_of (state_of (with_call log (Said bytes))) side).read ≡ (side_of (state_of log) side).read
  say_read bytes side = ap (λ (host : HostState). (side_of host side).read) (state_next log (Said bytes)) ∙ said_read (state_of log) bytes side

  pub say_images : (bytes : List ℕ) (side : Side) (c : List ℕ) → images_of (state_of (with_call log (Said bytes))) side c ↔ images_of (state_of log) side c
  say_images bytes side c = subst (λ (host : HostState). images_of host side c ↔ images_of (state_of log) side c) (sym (state_next log (Said bytes))) (said_images (state_of log) bytes side c)

  pub say_text : (bytes : List ℕ) → (state_of (with_call log (Said bytes))).text ≡ (state_of log).text ++ bytes
  say_text bytes = ap (λ (host : HostState). host.text) (state_next log (Said bytes))

  pub say_cost : (bytes : List ℕ) → bytes_written (log.past ++ Said bytes ∷ []) ≡ bytes_written log.past
  say_cost bytes = omega (arith, bytes_written-append log.past (Said bytes ∷ []))

-- what might have been after one call more
begins : (host : HostState) (call : PastCall) (l r u : List ℕ) → IsNow (images_of host) host.text l r u → IsDuring host call l r u
begins host (Wrote side at bytes) l r u now = now
begins host (Synced side) l r u now = now
begins host (Said bytes) l r u now = (now.0, now.1, (0, now.2 ∙ sym (append-nil host.text)))

since_keeps : (host : HostState) (past : List PastCall) (call : PastCall) (t : ℕ) (l r u : List ℕ) → t ≤ length past → MightSince host past t l r u → MightSince host (past ++ call ∷ []) t l r u
since_keeps host [] call zero l r u le was = inl (begins host call l r u was)
since_keeps host [] call (suc t) l r u le was = absurd (omega arith)
since_keeps host (e ∷ past) call zero l r u le (inl during) = inl during
since_keeps host (e ∷ past) call zero l r u le (inr was) = inr (since_keeps (after host e) past call zero l r u (omega arith) was)
since_keeps host (e ∷ past) call (suc t) l r u le was = since_keeps (after host e) past call t l r u (omega arith) was

abbrev IsNew : HostState → PastCall → List ℕ → List ℕ → List ℕ → Type 0
IsNew host call l r u = IsDuring host call l r u ⊎ IsNow (images_of (after host call)) (after host call).text l r u

since_adds : (host : HostState) (past : List PastCall) (call : PastCall) (t : ℕ) (l r u : List ℕ) → t ≤ length past → MightSince host (past ++ call ∷ []) t l r u → MightSince host past t l r u ⊎ IsNew (state_after host past) call l r u
since_adds host [] call zero l r u le was = inr was
since_adds host [] call (suc t) l r u le was = absurd (omega arith)
since_adds host (e ∷ past) call zero l r u le (inl during) = inl (inl during)
since_adds host (e ∷ past) call zero l r u le (inr was) = ⊎_elim (λ past. inl (inr past)) (λ new. inr new) (since_adds (after host e) past call zero l r u (omega arith) was)
since_adds host (e ∷ past) call (suc t) l r u le was = since_adds (after host e) past call t l r u (omega arith) was

-- time goes on, where what might be during the call is named
elapses_by : (log : CallLog) (call : PastCall) (during : List ℕ → List ℕ → List ℕ → Type 0)
    → ((l r u : List ℕ) → IsNew (state_of log) call l r u → IsNow (images_of (state_of log)) (state_of log).text l r u ⊎ during l r u)
    → Elapses (length log.past) (length (log.past ++ call ∷ [])) (MightSince (start log) log.past) (MightSince (start log) (log.past ++ call ∷ [])) during
elapses_by log call during new = record {
  later = omega (arith, length-append log.past (call ∷ []));
  nothing_else = λ t l r u le was. ⊎_elim (λ past. inl past) (λ fresh. ⊎_elim (λ now. inl (since_now (start log) log.past t l r u le now)) (λ here. inr here) (new l r u fresh)) (since_adds (start log) log.past call t l r u le was);
  keeps = λ t l r u le was. since_keeps (start log) log.past call t l r u le was;
}

now_next : (log : CallLog) (call : PastCall) (l r u : List ℕ) → IsNow (images_of (after (state_of log) call)) (after (state_of log) call).text l r u → IsNow (images_of (state_of (with_call log call))) (state_of (with_call log call)).text l r u
now_next log call l r u now = subst (λ (host : HostState). IsNow (images_of host) host.text l r u) (sym (state_next log call)) now

pub write_time : (log : CallLog) (side : Side) (at : ℕ) (bytes : List ℕ) → Elapses (length log.past) (length (log.past ++ Wrote side at bytes ∷ [])) (MightSince (start log) log.past) (MightSince (start log) (log.past ++ Wrote side at bytes ∷ [])) (IsNow (images_of (state_of (with_call log (Wrote side at bytes)))) (state_of (with_call log (Wrote side at bytes))).text)
write_time log side at bytes = elapses_by log (Wrote side at bytes) _ (λ l r u fresh. ⊎_elim (λ now. inl now) (λ now. inr (now_next log (Wrote side at bytes) l r u now)) fresh)

pub sync_time : (log : CallLog) (side : Side) → Elapses (length log.past) (length (log.past ++ Synced side ∷ [])) (MightSince (start log) log.past) (MightSince (start log) (log.past ++ Synced side ∷ [])) (IsNow (images_of (state_of (with_call log (Synced side)))) (state_of (with_call log (Synced side))).text)
sync_time log side = elapses_by log (Synced side) _ (λ l r u fresh. ⊎_elim (λ now. inl now) (λ now. inr (now_next log (Synced side) l r u now)) fresh)

saying : (host : HostState) (bytes l r u : List ℕ) → IsNew host (Said bytes) l r u → IsSaying (images_of (after host (Said bytes))) host.text bytes l r u
saying host bytes l r u (inl during) = during
saying host bytes l r u (inr now) = (now.0, now.1, (length bytes, now.2 ∙ ap (λ (b : List ℕ). host.text ++ b) (sym (take_all (length bytes) bytes (omega arith)))))

pub say_time : (log : CallLog) (bytes : List ℕ) → Elapses (length log.past) (length (log.past ++ Said bytes ∷ [])) (MightSince (start log) log.past) (MightSince (start log) (log.past ++ Said bytes ∷ [])) (IsSaying (images_of (state_of (with_call log (Said bytes)))) (state_of log).text bytes)
say_time log bytes = elapses_by log (Said bytes) _ (λ l r u fresh. inr (subst (λ (host : HostState). IsSaying (images_of host) (state_of log).text bytes l r u) (sym (state_next log (Said bytes))) (saying (state_of log) bytes l r u fresh)))

since_during : (host : HostState) (past : List PastCall) (call : PastCall) (t : ℕ) (l r u : List ℕ) → t ≤ length past → IsDuring (state_after host past) call l r u → MightSince host (past ++ call ∷ []) t l r u
since_during host [] call zero l r u le during = inl during
since_during host [] call (suc t) l r u le during = absurd (omega arith)
since_during host (e ∷ past) call zero l r u le during = inr (since_during (after host e) past call zero l r u (omega arith) during)
since_during host (e ∷ past) call (suc t) l r u le during = since_during (after host e) past call t l r u (omega arith) during

-- each part of the bytes that are said is said at some moment
pub say_parts : (log : CallLog) (bytes : List ℕ) (t : ℕ) (l r u : List ℕ) → t ≤ length log.past → IsSaying (images_of (state_of (with_call log (Said bytes)))) (state_of log).text bytes l r u → MightSince (start log) (log.past ++ Said bytes ∷ []) t l r u
say_parts log bytes t l r u le during = since_during (start log) log.past (Said bytes) t l r u le ((say_images log bytes Left l).0 during.0, (say_images log bytes Right r).0 during.1, during.2)

-- a call that changed nothing
pub still_time : (log : CallLog) (during : List ℕ → List ℕ → List ℕ → Type 0) → Elapses (length log.past) (length log.past) (MightSince (start log) log.past) (MightSince (start log) log.past) during
still_time log during = record { later = omega arith; nothing_else = λ t l r u le was. inl was; keeps = λ t l r u le was. was }

-- a fact of what stands after either answer
pub after_either : {T E H : Type 0} (result : Result T E) (new a b : H) (P : H → Type 0) → OnOk result (new ≡ a) → OnErr result (new ≡ b) → P a → P b → P new
after_either (Ok v) new a b P ok err at_ok at_err = subst P (sym ok) at_ok
after_either (Err e) new a b P ok err at_ok at_err = subst P (sym err) at_err

pub after_ok : {T E H : Type 0} (result : Result T E) (new a : H) (P : H → Type 0) → OnOk result (new ≡ a) → P a → OnOk result (P new)
after_ok result new a P ok at_ok = on_ok_weaker result (λ is. subst P (sym is) at_ok) ok

pub after_err : {T E H : Type 0} (result : Result T E) (new b : H) (P : H → Type 0) → OnErr result (new ≡ b) → P b → OnErr result (P new)
after_err result new b P err at_err = on_err_weaker result (λ is. subst P (sym is) at_err) err
