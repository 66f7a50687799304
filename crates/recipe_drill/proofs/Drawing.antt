-- The state draw by draw, and the draws of the first record and of the others.
use Rattle.std.proofs.Common.{◌≡◌, ◌≢◌, ◌+◌, ◌*◌, ◌%◌, ◌^◌, ℕ, zero, suc, refl, sym, ap, ◌∙◌, arith}
use Rattle.recipe_drill.specs.Draws.{draws, drawn, next_state, state_after}
use Rattle.recipe_drill.specs.declared.draws.Draws.{Draws}

-- a product and a sum that wrap are the next state
pub wrapped : (x : ℕ) → (x * 6364136223846793005 % 2 ^ 64 + 1442695040888963407) % 2 ^ 64 ≡ next_state x
wrapped x = omega arith

pub state_step : (start k j : ℕ) {x : ℕ} → x ≡ state_after start k → j ≡ k + 1 → next_state x ≡ state_after start j
unfolding state_after
state_step start k j before next =
    let after : j ≡ suc k = omega (arith, next) in
    ap next_state before ∙ sym (ap (state_after start) after)

pub first_draws : (start i : ℕ) {d : Draws} → i ≡ 0 → d ≡ drawn start i → record d { count = 10000; pause = 1; version = 0 } ≡ draws start i
unfolding draws
first_draws start zero first same = ap {A = Draws} {B = Draws} (λ e. record e { count = 10000; pause = 1; version = 0 }) same
first_draws start (suc i) first same = absurd (omega (arith, first))

pub other_draws : (start i : ℕ) → i ≢ 0 → drawn start i ≡ draws start i
unfolding draws
other_draws start zero other = absurd (other refl)
other_draws start (suc i) other = refl
