-- A name is taken where it is in UTF-8.
use Rattle.std.proofs.Common.{◌≡◌, inl, ◌∙◌, ap, sym, refl, List, ℕ, Ok, Err, Bool, true, false}
use Rattle.std.specs.Prelude.{IsUtf8}
use Rattle.std.specs.Str.{is_utf8}
use Rattle.std.proofs.lemmas.Str.{IsUtf8-from_is_utf8, is_utf8-from_IsUtf8}
use Rattle.client_words.specs.declared.line.LineFault.TheVariants.{BadWords}
use Rattle.client_words.specs.Commands.{text_in}
use Rattle.client_words.proofs.arguments.text_in.Goals as goal

named-valid : (word : List ℕ) → IsUtf8 word → text_in word ≡ Ok word
unfolding text_in
named-valid word valid = rw (is_utf8-from_IsUtf8 word valid) refl

test_false : (word : List ℕ) (b : Bool) → is_utf8 word ≡ b → (IsUtf8 word → ⊥) → b ≡ false
test_false word true is never = absurd (never (IsUtf8-from_is_utf8 word is))
test_false word false is never = refl

named-invalid : (word : List ℕ) → (IsUtf8 word → ⊥) → text_in word ≡ Err BadWords
unfolding text_in
named-invalid word never = rw (test_false word (is_utf8 word) refl never) refl

pub returns-in_ok-new-in-Ok : goal.returns-in_ok-new-in-Ok
returns-in_ok-new-in-Ok c =
    let word = c.args.word.now in
    inl (ap Ok (c.in_ok-new-in-Ok.ensures ∙ c.in-Ok.ensures.cases.0) ∙ sym (named-valid word c.in-Ok.ensures.cases.1))

pub returns-in-Err : goal.returns-in-Err
returns-in-Err c = inl (sym (named-invalid c.args.word.now c.in-Err.ensures.cases.0))
