use Rattle.std.proofs.Common.{◌≡◌, ◌++◌, ◌∷◌, [], List, ℕ, ◌<◌, ◌^◌, length, length-append, sym, subst, ap, arith}
use Rattle.std.specs.List.{AllByRecursion}
use Rattle.sequences.proofs.Alls.{all_push}
use Rattle.event_counts.proofs.Values.{one_more}
use Rattle.event_counts.proofs.reading.numbers_in.Goals as goal

pub loop-place-preserved : goal.loop-place-preserved
loop-place-preserved c =
    let before = c.loop-place.numbers.items in
    let place = c.loop-place.place in
    let number = c.number_at.result in
    let pushed : c.push.new.self.items ≡ before ++ number ∷ [] = c.in_ok-push.ensures.items in
    record {
      bytes = one_more c.args.bytes.now before c.push.new.self.items place number pushed c.loop-place.invariant.bytes c.number_at.ensures.bytes;
      full = omega (arith, ap (λ (l : List ℕ). length l) pushed, length-append before (number ∷ []), c.loop-place.invariant.full);
      room = subst (AllByRecursion (λ n. n < 2 ^ 32)) (sym pushed) (all_push (λ n. n < 2 ^ 32) before number c.loop-place.invariant.room c.number_at.ensures.room);
    }
