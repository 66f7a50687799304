-- Five steps.
use Rattle.std.proofs.Common.{◌≡◌, ◌+◌, ◌*◌, ◌/◌, ◌%◌, ◌^◌, ℕ, ap, ◌∙◌, arith}
use Rattle.recipe_drill.proofs.Drawing.{state_step}
use Rattle.recipe_drill.proofs.draws.five_draws.Goals as goal

pub returns-clause-state : goal.returns-clause-state
returns-clause-state c =
    let s = c.args.start in
    let i = c.args.index in
    let one = c.draw-feature.ensures.state ∙ state_step s (5 * i) (5 * i + 1) c.requires (omega arith) in
    let two = c.draw-kind.ensures.state ∙ state_step s (5 * i + 1) (5 * i + 2) one (omega arith) in
    let three = c.draw-count.ensures.state ∙ state_step s (5 * i + 2) (5 * i + 3) two (omega arith) in
    let four = c.draw-pause.ensures.state ∙ state_step s (5 * i + 3) (5 * i + 4) three (omega arith) in
    c.draw-version.ensures.state ∙ state_step s (5 * i + 4) (5 * (i + 1)) four (omega arith)

-- a draw is what stands above the state's lower bits
number : {result state x : ℕ} → result ≡ state / 2 ^ 33 → state ≡ x → result ≡ x / 2 ^ 33
number drawn same = drawn ∙ ap (λ x. x / 2 ^ 33) same

pub returns-clause-draws : goal.returns-clause-draws
returns-clause-draws c =
    let s = c.args.start in
    let i = c.args.index in
    let one = c.draw-feature.ensures.state ∙ state_step s (5 * i) (5 * i + 1) c.requires (omega arith) in
    let two = c.draw-kind.ensures.state ∙ state_step s (5 * i + 1) (5 * i + 1 + 1) one (omega arith) in
    let three = c.draw-count.ensures.state ∙ state_step s (5 * i + 1 + 1) (5 * i + 2 + 1) two (omega arith) in
    let four = c.draw-pause.ensures.state ∙ state_step s (5 * i + 2 + 1) (5 * i + 3 + 1) three (omega arith) in
    let five = c.draw-version.ensures.state ∙ state_step s (5 * i + 3 + 1) (5 * i + 4 + 1) four (omega arith) in
    λ k. record {
      feature = number c.draw-feature.ensures.draw one k % 40;
      kind = number c.draw-kind.ensures.draw two k % 4;
      count = number c.draw-count.ensures.draw three k % 10001;
      pause = number c.draw-pause.ensures.draw four k % 10;
      version = number c.draw-version.ensures.draw five k % 40;
    }
