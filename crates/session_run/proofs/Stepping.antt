-- A line more.
use Rattle.std.proofs.Common.{◌≡◌, List, ℕ, [], ◌∷◌, ◌++◌, refl, sym, ◌∙◌, ap, append_assoc}
use Rattle.std.specs.Prelude.{Option}
use Rattle.std.proofs.lemmas.List.{append-nil}
use mathlib.Core.Path.{fun_ext}
use Rattle.host_model.specs.declared.shelf.Shelf.{Ghosts}
use Rattle.client_steps.specs.Settings.{Setting, setting}
use Rattle.session_run.specs.Steps.{RunState, run_after, answer, all_after, all_answers}

module _ (at : Setting) where
  pub all_after-push : (run : RunState) (lines : List (List ℕ)) (line : List ℕ) → all_after at run (lines ++ line ∷ []) ≡ run_after at (all_after at run lines) line
  all_after-push run [] line = refl
  all_after-push run (first ∷ lines) line = all_after-push (run_after at run first) lines line

  pub all_answers-push : (run : RunState) (lines : List (List ℕ)) (line : List ℕ) → all_answers at run (lines ++ line ∷ []) ≡ all_answers at run lines ++ answer at (all_after at run lines) line
  all_answers-push run [] line = append-nil (answer at run line)
  all_answers-push run (first ∷ lines) line =
      ap (λ (u : List ℕ). answer at run first ++ u) (all_answers-push (run_after at run first) lines line)
      ∙ sym (append_assoc (answer at run first) (all_answers at (run_after at run first) lines) (answer at (all_after at (run_after at run first) lines) line))

setting_of : (List ℕ → Option (List ℕ)) → ℕ → Setting
setting_of files now = record { files = files; now = now }

-- a shelf whose files stay the same gives the same setting
pub same_setting : {F : Type 0} (f : Ghosts F) (old new : F) (now : ℕ) → ((name : List ℕ) → f.file new name ≡ f.file old name) → setting f new now ≡ setting f old now
unfolding setting_of
same_setting f old new now files = ap (λ (held : List ℕ → Option (List ℕ)). setting_of held now) (fun_ext files)
