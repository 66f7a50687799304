-- Which faults of an expression are want of memory.
use Rattle.std.specs.Prelude.{Bool, true, false}
use Rattle.jexl_lexer.specs.declared.fault.LexFault.{LexFault}
use Rattle.jexl_lexer.specs.declared.fault.LexFault.TheVariants as lexing
use Rattle.jexl_parser.specs.declared.fault.ParseFault.{ParseFault}
use Rattle.jexl_parser.specs.declared.fault.ParseFault.TheVariants as parsing
use Rattle.jexl_eval.specs.declared.fault.EvalFault.{EvalFault}
use Rattle.jexl_eval.specs.declared.fault.EvalFault.TheVariants as evaluating

abbrev pub lexing_wants_memory : LexFault → Bool
lexing_wants_memory lexing.OutOfMemory = true
lexing_wants_memory fault = false

abbrev pub parsing_wants_memory : ParseFault → Bool
parsing_wants_memory parsing.OutOfMemory = true
parsing_wants_memory fault = false

abbrev pub evaluating_wants_memory : EvalFault → Bool
evaluating_wants_memory evaluating.OutOfMemory = true
evaluating_wants_memory fault = false
