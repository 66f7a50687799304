-- What was lexed so far, with what lexes from the rest on, is what lexes from the start.
use denote.Shadow.{shadow}
use denote.Text.{Utf8}
use Rattle.std.proofs.Common.{◌≤◌, length}
use Rattle.jexl_lexer.specs.declared.lexer.TheConstants.{MAX_TOKENS}
use Rattle.jexl_lexer.specs.Lexing.{is_blank, Stops}
use Rattle.jexl_lexer.proofs.LexLoop.{Reaches}
use Rattle.jexl_lexer.proofs.lexer.lex.Given as goal

abbrev pub invariant-loop-rest : goal.invariant-loop-rest
invariant-loop-rest l = record {
  text : shadow (Utf8 l.rest);
  reach : Reaches l.text l.rest l.tokens;
  stop : Stops is_blank l.rest;
  few : length l.tokens ≤ MAX_TOKENS;
  short : length l.rest ≤ length l.text;
}

abbrev pub decreases-loop-rest : goal.decreases-loop-rest
decreases-loop-rest l = length l.rest
