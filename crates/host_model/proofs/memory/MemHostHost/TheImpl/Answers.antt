-- The methods' own clauses give what the trait ensures.
use Rattle.std.proofs.Common.{◌≡◌, ◌↔◌, ℕ, ◌+◌, ◌≤◌, List, ◌++◌, length, take, refl, sym, arith, append-nil}
use Rattle.host_model.specs.Causes.{Rose}
use Rattle.host_model.specs.Images.{overwritten, Torn, Follows, Permits, Stay, Only}
use Rattle.host_model.specs.Memory.{MemHost, logged, with_disk_fault, with_say_fault}
use Rattle.host_model.specs.Moments.{IsNow, IsSaying, Elapses}
use Rattle.host_model.specs.Sides.{other}
use Rattle.host_model.specs.CallLog.{Wrote, Synced, Said, side_of, start, state_of, images_of, MightSince, bytes_written}
use Rattle.host_model.proofs.TraitClauses as call
use Rattle.host_model.proofs.Tearing.{torn_none}
use Rattle.host_model.proofs.memory.MemHostHost.TheImpl.Goals as goal

pub write_at-tells : goal.write_at-tells
write_at-tells c =
    let old = c.args.self.now in
    let new = c.new.self.now in
    let side = c.args.side in
    let at = c.args.at in
    let bytes = c.args.bytes.now in
    let past = logged old (Wrote side at bytes) in
    let fault = with_disk_fault old in
    let ok = c.ensures.ok in
    let err = c.ensures.err in
    record {
      after = λ tells. call.after_ok c.result new past (λ (h : MemHost). (side_of (state_of h.log) side).read ≡ overwritten (side_of (state_of old.log) side).read at bytes) ok (call.write_read old.log side at bytes);
      crash = λ tells. call.after_either c.result new past fault (λ (h : MemHost). Follows (Torn at (length bytes)) (images_of (state_of old.log) side) (images_of (state_of h.log) side)) ok err
          (λ image. (call.write_images old.log side at bytes image).0) (λ image left. (image, left, torn_none at (length bytes) image));
      torn_is_image = λ tells. call.after_ok c.result new past (λ (h : MemHost). Permits (Torn at (length bytes)) (images_of (state_of old.log) side) (images_of (state_of h.log) side)) ok
          (λ image torn is step. (call.write_images old.log side at bytes torn).1 (image, is, step));
      images_stay = λ tells. record {
        each = call.after_either c.result new past fault (λ (h : MemHost). (image : List ℕ) → images_of (state_of old.log) side image → images_of (state_of h.log) side image) ok err
            (λ image left. (call.write_images old.log side at bytes image).1 (image, left, torn_none at (length bytes) image)) (λ image left. left);
      };
      rest = λ tells. record {
        reads_same = call.after_either c.result new past fault (λ (h : MemHost). (side_of (state_of h.log) (other side)).read ≡ (side_of (state_of old.log) (other side)).read) ok err (call.write_other_read old.log side at bytes) refl;
        images_same = call.after_either c.result new past fault (λ (h : MemHost). (image : List ℕ) → images_of (state_of h.log) (other side) image ↔ images_of (state_of old.log) (other side) image) ok err (call.write_other_images old.log side at bytes) (λ image. (λ left. left, λ left. left));
        text = call.after_either c.result new past fault (λ (h : MemHost). (state_of h.log).text ≡ (state_of old.log).text) ok err (call.write_text old.log side at bytes) refl;
      };
      time = λ tells. call.after_either c.result new past fault (λ (h : MemHost). Elapses (length old.log.past) (length h.log.past) (MightSince (start old.log) old.log.past) (MightSince (start h.log) h.log.past) (IsNow (images_of (state_of h.log)) (state_of h.log).text)) ok err
          (call.write_time old.log side at bytes) (call.still_time old.log _);
      cost = λ tells. call.after_ok c.result new past (λ (h : MemHost). bytes_written h.log.past ≡ bytes_written old.log.past + length bytes) ok (call.write_cost old.log side at bytes);
      cost_least = λ tells. call.after_either c.result new past fault (λ (h : MemHost). bytes_written old.log.past ≤ bytes_written h.log.past) ok err (omega (arith, call.write_cost old.log side at bytes)) (omega arith);
      cost_most = λ tells. call.after_either c.result new past fault (λ (h : MemHost). bytes_written h.log.past ≤ bytes_written old.log.past + length bytes) ok err (omega (arith, call.write_cost old.log side at bytes)) (omega arith);
      cause = record { later = c.ensures.later; failed = call.after_err c.result new fault (λ (h : MemHost). Rose old.disk_faults h.disk_faults) err (omega arith) };
      quiet = call.after_ok c.result new past (λ (h : MemHost). h.disk_faults ≡ old.disk_faults) ok refl;
      fits = c.ensures.fits;
      say_faults = call.after_either c.result new past fault (λ (h : MemHost). h.say_faults ≡ old.say_faults) ok err refl refl;
    }

pub sync-tells : goal.sync-tells
sync-tells c =
    let old = c.args.self.now in
    let new = c.new.self.now in
    let side = c.args.side in
    let past = logged old (Synced side) in
    let fault = with_disk_fault old in
    let ok = c.ensures.ok in
    let err = c.ensures.err in
    record {
      durable = λ tells. call.after_ok c.result new past (λ (h : MemHost). Only (side_of (state_of old.log) side).read (images_of (state_of h.log) side)) ok (call.sync_only old.log side);
      after = λ tells. call.after_ok c.result new past (λ (h : MemHost). (side_of (state_of h.log) side).read ≡ (side_of (state_of old.log) side).read) ok (call.sync_read old.log side);
      crash = λ tells. call.after_either c.result new past fault (λ (h : MemHost). (image : List ℕ) → images_of (state_of h.log) side image → images_of (state_of old.log) side image) ok err (call.sync_images old.log side) (λ image left. left);
      images_stay = λ tells. call.after_err c.result new fault (λ (h : MemHost). Stay (images_of (state_of old.log) side) (images_of (state_of h.log) side)) err (record { each = λ image left. left });
      rest = λ tells. record {
        reads_same = call.after_either c.result new past fault (λ (h : MemHost). (side_of (state_of h.log) (other side)).read ≡ (side_of (state_of old.log) (other side)).read) ok err (call.sync_other_read old.log side) refl;
        images_same = call.after_either c.result new past fault (λ (h : MemHost). (image : List ℕ) → images_of (state_of h.log) (other side) image ↔ images_of (state_of old.log) (other side) image) ok err (call.sync_other_images old.log side) (λ image. (λ left. left, λ left. left));
        text = call.after_either c.result new past fault (λ (h : MemHost). (state_of h.log).text ≡ (state_of old.log).text) ok err (call.sync_text old.log side) refl;
      };
      time = λ tells. call.after_either c.result new past fault (λ (h : MemHost). Elapses (length old.log.past) (length h.log.past) (MightSince (start old.log) old.log.past) (MightSince (start h.log) h.log.past) (IsNow (images_of (state_of h.log)) (state_of h.log).text)) ok err
          (call.sync_time old.log side) (call.still_time old.log _);
      cost = λ tells. call.after_either c.result new past fault (λ (h : MemHost). bytes_written h.log.past ≡ bytes_written old.log.past) ok err (call.sync_cost old.log side) refl;
      cause = record { later = c.ensures.later; failed = call.after_err c.result new fault (λ (h : MemHost). Rose old.disk_faults h.disk_faults) err (omega arith) };
      quiet = call.after_ok c.result new past (λ (h : MemHost). h.disk_faults ≡ old.disk_faults) ok refl;
      fits = c.ensures.fits;
      say_faults = call.after_either c.result new past fault (λ (h : MemHost). h.say_faults ≡ old.say_faults) ok err refl refl;
    }

pub say-tells : goal.say-tells
say-tells c =
    let old = c.args.self.now in
    let new = c.new.self.now in
    let bytes = c.args.bytes.now in
    let past = logged old (Said bytes) in
    let fault = with_say_fault old in
    let ok = c.ensures.ok in
    let err = c.ensures.err in
    record {
      said = λ tells. call.after_ok c.result new past (λ (h : MemHost). (state_of h.log).text ≡ (state_of old.log).text ++ bytes) ok (call.say_text old.log bytes);
      said_part = λ tells. call.after_err c.result new fault (λ (h : MemHost). (n : ℕ) × ((state_of h.log).text ≡ (state_of old.log).text ++ take n bytes)) err (0, sym (append-nil (state_of old.log).text));
      still = λ tells side. record {
        reads_same = call.after_either c.result new past fault (λ (h : MemHost). (side_of (state_of h.log) side).read ≡ (side_of (state_of old.log) side).read) ok err (call.say_read old.log bytes side) refl;
        images_same = call.after_either c.result new past fault (λ (h : MemHost). (image : List ℕ) → images_of (state_of h.log) side image ↔ images_of (state_of old.log) side image) ok err (call.say_images old.log bytes side) (λ image. (λ left. left, λ left. left));
      };
      time = λ tells. call.after_either c.result new past fault (λ (h : MemHost). Elapses (length old.log.past) (length h.log.past) (MightSince (start old.log) old.log.past) (MightSince (start h.log) h.log.past) (IsSaying (images_of (state_of h.log)) (state_of old.log).text bytes)) ok err
          (call.say_time old.log bytes) (call.still_time old.log _);
      each_part = λ tells. call.after_ok c.result new past (λ (h : MemHost). (t : ℕ) (l r u : List ℕ) → t ≤ length old.log.past → IsSaying (images_of (state_of h.log)) (state_of old.log).text bytes l r u → MightSince (start h.log) h.log.past t l r u) ok
          (call.say_parts old.log bytes);
      cost = λ tells. call.after_either c.result new past fault (λ (h : MemHost). bytes_written h.log.past ≡ bytes_written old.log.past) ok err (call.say_cost old.log bytes) refl;
      cause = record { later = c.ensures.later; failed = call.after_err c.result new fault (λ (h : MemHost). Rose old.say_faults h.say_faults) err (omega arith) };
      quiet = call.after_ok c.result new past (λ (h : MemHost). h.say_faults ≡ old.say_faults) ok refl;
      fits = c.ensures.fits;
      disk_faults = call.after_either c.result new past fault (λ (h : MemHost). h.disk_faults ≡ old.disk_faults) ok err refl refl;
    }
