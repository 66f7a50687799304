-- What lines begin with, part by part.
use Rattle.std.proofs.Common.{◌≡◌, ℕ, List, ap, ◌∙◌}
use Rattle.client_state.specs.declared.client_state.ClientState.{ClientState}
use Rattle.client_steps.specs.Settings.{Setting}
use Rattle.session_run.specs.Starts.{Start}

abbrev pub begin : Setting → ClientState → ℕ → List (List ℕ) → List ℕ → ℕ → Start
begin at s place lines said written = record { at = at; state = s; place = place; lines = lines; said = said; written = written }

-- parts that are equal make the same start
pub same_start : (at : Setting) (s t : ClientState) (place : ℕ) (lines those : List (List ℕ)) (said text : List ℕ) (written count : ℕ) → t ≡ s → lines ≡ those → text ≡ said → count ≡ written
    → begin at t place lines text count ≡ begin at s place those said written
same_start at s t place lines those said text written count states all_lines texts counts =
    ap (λ (x : ClientState). begin at x place lines text count) states ∙ ap (λ (l : List (List ℕ)). begin at s place l text count) all_lines ∙ ap (λ (u : List ℕ). begin at s place those u count) texts
    ∙ ap (λ (n : ℕ). begin at s place those said n) counts
