-- The clauses of `read` give what the trait ensures.
use Rattle.std.proofs.Common.{◌≡◌, ◌≤◌, ℕ, length, drop, ap, arith}
use Rattle.std.proofs.lemmas.Result.{IfOk-weaker, on_err_weaker}
use Rattle.host_model.specs.MemSource.{MemSource}
use Rattle.host_model.proofs.source.MemSourceSource.TheImpl.Goals as goal

pub read-tells : goal.read-tells
read-tells c =
    let old = c.args.self.now in
    let new = c.new.self.now in
    record {
      within = IfOk-weaker c.result _ (λ (n : ℕ). n ≤ length c.args.into.now) (λ n is. omega (arith, is)) c.ensures.count;
      count = λ tells. IfOk-weaker c.result _ (λ (n : ℕ). n ≤ length old.left) (λ n is. omega (arith, is)) c.ensures.count;
      bytes = λ tells. c.ensures.bytes;
      rest = λ tells. IfOk-weaker c.result _ (λ (n : ℕ). new.left ≡ drop n old.left) (λ n is. ap (λ (s : MemSource). s.left) is) c.ensures.ok;
      end = λ tells. c.ensures.end;
      kept = λ tells. on_err_weaker c.result (λ is. ap (λ (s : MemSource). s.left) is.0) c.ensures.err;
      cause = record { later = c.ensures.later; failed = on_err_weaker c.result (λ is. omega (arith, ap (λ (s : MemSource). s.faults) is.0)) c.ensures.err };
      quiet = IfOk-weaker c.result _ (λ (n : ℕ). new.faults ≡ old.faults) (λ n is. ap (λ (s : MemSource). s.faults) is) c.ensures.ok;
      fits = c.ensures.fits;
    }
