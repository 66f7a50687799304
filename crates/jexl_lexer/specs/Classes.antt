-- The classes of bytes that runs are made of.
use Rattle.std.specs.Prelude.{ℕ, Bool}
use Rattle.jexl_lexer.specs.declared.front.ByteClass.{ByteClass}
use Rattle.jexl_lexer.specs.declared.front.ByteClass.TheVariants as classes
use Rattle.jexl_lexer.specs.Lexing.{is_blank, is_digit, is_word}

abbrev pub in_class : ByteClass → ℕ → Bool
in_class classes.Blank = is_blank
in_class classes.Digit = is_digit
in_class classes.Word = is_word
