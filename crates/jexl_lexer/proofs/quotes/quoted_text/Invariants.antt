use denote.Shadow.{shadow}
use denote.Text.{Utf8}
use Rattle.std.proofs.Common.{◌≡◌, false, length}
use Rattle.std.specs.Prelude.{string_bytes, option_map}
use Rattle.jexl_lexer.specs.Scanning.{with_bytes}
use Rattle.jexl_lexer.specs.Scanning.{inside}
use Rattle.jexl_lexer.proofs.quotes.quoted_text.Given as goal

abbrev pub invariant-loop-found : goal.invariant-loop-found
invariant-loop-found l = record { text : shadow (Utf8 l.rest); same : inside l.quote false l.text ≡ option_map (with_bytes (string_bytes l.inner)) (inside l.quote false l.rest) }

abbrev pub decreases-loop-found : goal.decreases-loop-found
decreases-loop-found l = length l.rest
