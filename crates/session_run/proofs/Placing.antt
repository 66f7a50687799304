-- Where the records end, line by line.
use Rattle.std.proofs.Common.{◌≡◌, ℕ, zero, suc, ◌+◌, ◌<◌, List, [], ◌∷◌, ◌++◌, length, map, take, get_or, refl, sym, ◌∙◌, ap, arith, Some}
use Rattle.std.specs.Prelude.{slice_get}
use Rattle.std.proofs.lemmas.List.{take_more, length-map}
use Rattle.std.proofs.lemmas.Option.{slice_get-get_or}
use Rattle.std.proofs.Math.ListN.{get_or-map}
use Rattle.client_store.specs.Places.{place_after, bytes_for}
use Rattle.client_steps.specs.Settings.{Setting}
use Rattle.client_words.specs.Commands.{bytes_at}
use Rattle.session_run.specs.Steps.{RunState, run_after, all_after}
use Rattle.session_run.specs.Places.{all_places, all_bytes}

pub all_places-push : (at : Setting) (place : ℕ) (run : RunState) (lines : List (List ℕ)) (line : List ℕ)
    → all_places at place run (lines ++ line ∷ []) ≡ place_after (all_places at place run lines) (all_after at run lines).state (run_after at (all_after at run lines) line).state
all_places-push at place run [] line = refl
all_places-push at place run (first ∷ lines) line = all_places-push at (place_after place run.state (run_after at run first).state) (run_after at run first) lines line

pub all_bytes-push : (at : Setting) (place : ℕ) (run : RunState) (lines : List (List ℕ)) (line : List ℕ)
    → all_bytes at place run (lines ++ line ∷ []) ≡ all_bytes at place run lines + bytes_for (all_places at place run lines) (all_after at run lines).state (run_after at (all_after at run lines) line).state
all_bytes-push at place run [] line = omega arith
all_bytes-push at place run (first ∷ lines) line =
    let next = run_after at run first in
    let there = place_after place run.state next.state in
    omega (arith, all_bytes-push at there next lines line)

-- the line at a span of a script
module _ (script : List ℕ) (spans : List (ℕ × ℕ)) (i : ℕ) (span : ℕ × ℕ) (line : List ℕ) (within : i < length spans) (is : line ≡ bytes_at script (get_or spans i span)) where
  pub line_within : i < length (map (bytes_at script) spans)
  line_within = omega (arith, within, length-map spans (bytes_at script))

  line_is : get_or (map (bytes_at script) spans) i (bytes_at script span) ≡ line
  line_is = get_or-map (bytes_at script) spans i span ∙ sym is

  pub line_more : take (i + 1) (map (bytes_at script) spans) ≡ take i (map (bytes_at script) spans) ++ line ∷ []
  line_more = take_more (map (bytes_at script) spans) i (bytes_at script span) line_within ∙ ap (λ (l : List ℕ). take i (map (bytes_at script) spans) ++ l ∷ []) line_is

  pub line_at : slice_get (map (bytes_at script) spans) i ≡ Some line
  line_at = slice_get-get_or (map (bytes_at script) spans) i (bytes_at script span) line_within ∙ ap Some line_is

-- a line that is there
pub at_within : (lines : List (List ℕ)) (k : ℕ) (line : List ℕ) → slice_get lines k ≡ Some line → k < length lines
at_within [] k line at = absurd (grind (arith, at))
at_within (first ∷ lines) zero line at = omega arith
at_within (first ∷ lines) (suc k) line at = omega (arith, at_within lines k line at)
