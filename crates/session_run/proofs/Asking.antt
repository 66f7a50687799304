-- Which files lines ask for, line by line.
use Rattle.std.proofs.Common.{◌≡◌, inl, inr, ℕ, zero, suc, ◌+◌, List, [], ◌∷◌, ◌++◌, take, refl, sym, ◌∙◌, ap, subst, append_assoc, Option, Ok}
use Rattle.std.proofs.lemmas.List.{append-nil}
use Rattle.host_model.specs.ShelfLaws.{reached_then}
use Rattle.host_model.specs.declared.shelf.Shelf.{Ghosts}
use Rattle.client_words.specs.declared.command.Command.{Command}
use Rattle.client_steps.specs.Commands.{HasAsked}
use Rattle.client_steps.proofs.AskedFiles.{asks_same}
use Rattle.client_words.specs.Commands.{command_of}
use Rattle.session_run.specs.Files.{LineAsksFor, LinesAskFor, LineAsked, LinesAsked}

module _ (tells : Type 0) (files : List ℕ → Option (List ℕ)) where
  module _ (line : List ℕ) (last : List (List ℕ)) (asks : LineAsksFor tells files line last) where
    asks_more : (lines names : List (List ℕ)) → LinesAskFor tells files lines names → LinesAskFor tells files (lines ++ line ∷ []) (names ++ last)
    asks_more [] names none = (last, [], asks, refl, ap (λ (n : List (List ℕ)). n ++ last) none ∙ sym (append-nil last))
    asks_more (first ∷ lines) names (here, rest, first_asks, rest_asks, both) =
        (here, rest ++ last, first_asks, asks_more lines rest rest_asks, ap (λ (n : List (List ℕ)). n ++ last) both ∙ append_assoc here rest last)

  asks_none : (lines : List (List ℕ)) → LinesAskFor tells files lines []
  asks_none [] = refl
  asks_none (line ∷ lines) = ([], [], inl refl, asks_none lines, refl)

  -- what the first lines ask for, all of them do
  asks_all : (n : ℕ) (lines names : List (List ℕ)) → LinesAskFor tells files (take n lines) names → LinesAskFor tells files lines names
  asks_all zero lines names none = subst (LinesAskFor tells files lines) (sym none) (asks_none lines)
  asks_all (suc n) [] names none = none
  asks_all (suc n) (line ∷ lines) names (first, rest, here, later, both) = (first, rest, here, asks_all n lines rest later, both)

-- files that hold the same are asked for alike, where they are told
line_same : (tells : Type 0) (files others : List ℕ → Option (List ℕ)) → (tells → (name : List ℕ) → others name ≡ files name) → (line : List ℕ) (names : List (List ℕ)) → LineAsksFor tells others line names → LineAsksFor tells files line names
line_same tells files others same line names (inl none) = inl none
line_same tells files others same line names (inr (command, is, asked)) = inr (command, is, asks_same tells files others same command names asked)

module _ {F : Type 0} (f : Ghosts F) where
  -- a line of which no command is done
  pub line_unasked : (line : List ℕ) (shelf : F) → LineAsked f line shelf shelf
  line_unasked line shelf = record { names = []; for_line = inl refl; reached = refl }

  -- a line of which one is
  pub line_asked : (line : List ℕ) (command : Command) (old new : F) → command_of line ≡ Ok command → HasAsked f command old new → LineAsked f line old new
  line_asked line command old new is asked = record { names = asked.names; for_line = inr (command, is, asked.files); reached = asked.reached }

  pub none_asked : (shelf : F) → LinesAsked f shelf shelf []
  none_asked shelf = record { names = []; for_lines = refl; reached = refl }

  pub lines_unasked : (lines : List (List ℕ)) (shelf : F) → LinesAsked f shelf shelf lines
  lines_unasked lines shelf = record { names = []; for_lines = asks_none f.tells (f.file shelf) lines; reached = refl }

  pub asked_all : (old new : F) (n : ℕ) (lines : List (List ℕ)) → LinesAsked f old new (take n lines) → LinesAsked f old new lines
  asked_all old new n lines asked = record { names = asked.names; for_lines = asks_all f.tells (f.file old) n lines asked.names asked.for_lines; reached = asked.reached }

  -- a line more
  pub asked_more : (old mid new : F) (lines : List (List ℕ)) (i : ℕ) (line : List ℕ) → take (i + 1) lines ≡ take i lines ++ line ∷ [] → (f.tells → (name : List ℕ) → f.file mid name ≡ f.file old name)
      → LinesAsked f old mid (take i lines) → LineAsked f line mid new → LinesAsked f old new (take (i + 1) lines)
  asked_more old mid new lines i line more same before now = subst (LinesAsked f old new) (sym more) (record {
    names = before.names ++ now.names;
    for_lines = asks_more f.tells (f.file old) line now.names (line_same f.tells (f.file old) (f.file mid) same line now.names now.for_line) (take i lines) before.names before.for_lines;
    reached = reached_then f.asks old before.names mid now.names new before.reached now.reached;
  })
