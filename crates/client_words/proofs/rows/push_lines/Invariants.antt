-- The lines of the items so far stand behind the text.
use Rattle.std.proofs.Common.{◌≡◌, ◌++◌, take, string_bytes}
use Rattle.client_words.specs.Answers.{lines_for}
use Rattle.client_words.proofs.rows.push_lines.Given as goal

abbrev pub invariant-loop-item : goal.invariant-loop-item
invariant-loop-item g l = string_bytes l.text ≡ string_bytes l.fn.text ++ lines_for g.T.Listed.line (take l.item-index l.items)
