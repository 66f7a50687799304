-- The spans of the words lie within the line, and the command is as it is kept.
use Rattle.std.proofs.Common.{◌≡◌, ◌≤◌, ◌==◌, All, IfOk, Result, Err, true, length, map, ◌∙◌, ap, sym, subst, inl, inr, ⊎_elim, List, [], ◌∷◌, ℕ, refl, arith}
use Rattle.std.proofs.lemmas.Bool.{eqb-true, le-ltb}
use Rattle.plain_text.specs.Spans.{words}
use Rattle.client_words.specs.declared.command.Command.{Command}
use Rattle.client_words.specs.declared.line.LineFault.{LineFault}
use Rattle.client_words.specs.declared.line.LineFault.TheVariants.{Blank}
use Rattle.client_words.specs.Commands.{IsCommand, IsWithin, command_of, command_of_words, words_of, bytes_at}
use Rattle.client_words.proofs.Kept.{line-kept}
use Rattle.client_words.proofs.Within.{words-within}
use Rattle.client_words.proofs.line.read_command.Goals as goal

-- the command of a line that isn't too long
command_of-short : (line : List ℕ) → length line ≤ 4096 → command_of_words (map (bytes_at line) (words line)) ≡ command_of line
unfolding command_of words_of
command_of-short line short = rw (le-ltb 4096 (length line) short) refl

-- a line with no bytes has no words
command_of-empty : (line : List ℕ) → (length line == 0) ≡ true → Err Blank ≡ command_of line
unfolding command_of words_of
command_of-empty [] is = refl
command_of-empty (x ∷ line) is = absurd (omega (arith, eqb-true (length (x ∷ line)) 0 is))

pub returns-then-is_empty-clause-value : goal.returns-then-is_empty-clause-value
returns-then-is_empty-clause-value c = inl (command_of-empty c.args.line.now (sym c.is_empty.ensures ∙ c.if-is_empty.true))

pub command_at-requires : goal.command_at-requires
command_at-requires c = subst (λ (spans : List (ℕ × ℕ)). All (IsWithin (length c.args.line.now)) spans) (sym (c.as_slice.ensures ∙ c.in_ok-spans.ensures)) (words-within c.args.line.now)

pub returns-clause-value : goal.returns-clause-value
returns-clause-value c =
    let short : length c.args.line.now ≤ 4096 = omega arith in
    ⊎_elim (λ is. inl (is ∙ ap (λ (spans : List (ℕ × ℕ)). command_of_words (map (bytes_at c.args.line.now) spans)) (c.as_slice.ensures ∙ c.in_ok-spans.ensures) ∙ command_of-short c.args.line.now short)) inr c.command_at.ensures

pub returns-clause-kept : goal.returns-clause-kept
returns-clause-kept c =
    let short : length c.args.line.now ≤ 4096 = omega arith in
    ⊎_elim
    (λ is. subst (λ (read : Result Command LineFault). IfOk read IsCommand)
    (sym (is ∙ ap (λ (spans : List (ℕ × ℕ)). command_of_words (map (bytes_at c.args.line.now) spans)) (c.as_slice.ensures ∙ c.in_ok-spans.ensures) ∙ command_of-short c.args.line.now short)) (line-kept c.args.line.now))
    (λ is. subst (λ (read : Result Command LineFault). IfOk read IsCommand) (sym is) tt) c.command_at.ensures
