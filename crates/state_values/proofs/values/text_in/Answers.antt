-- The bytes are a text exactly where they are in UTF-8.
use Rattle.std.proofs.Common.{◌≡◌, Bool, true, false, List, ℕ, Some, None, IsUtf8, refl, ◌∙◌, ap, sym}
use Rattle.std.proofs.lemmas.Str.{IsUtf8-from_is_utf8, is_utf8-from_IsUtf8}
use Rattle.std.specs.Str.{is_utf8}
use Rattle.recipe_reader.specs.Outcome.{only_if}
use Rattle.state_values.specs.Reading.{text_in}
use Rattle.state_values.proofs.values.text_in.Goals as goal

taken : (bytes text copy : List ℕ) → IsUtf8 bytes → text ≡ bytes → copy ≡ text → text_in bytes ≡ Some copy
unfolding text_in
taken bytes text copy utf8 same copied = rw (is_utf8-from_IsUtf8 bytes utf8) (ap (λ (l : List ℕ). Some l) (sym (copied ∙ same)))

none_where : (bytes : List ℕ) (test : Bool) → is_utf8 bytes ≡ test → (IsUtf8 bytes → ⊥) → only_if test bytes ≡ None
none_where bytes true is none = absurd (none (IsUtf8-from_is_utf8 bytes is))
none_where bytes false is none = refl

refused : (bytes : List ℕ) → (IsUtf8 bytes → ⊥) → text_in bytes ≡ None
unfolding text_in
refused bytes none = none_where bytes (is_utf8 bytes) refl none

pub returns-in_ok-new-in-Ok : goal.returns-in_ok-new-in-Ok
returns-in_ok-new-in-Ok c =
    let text = c.in-Ok.ensures.cases in
    taken c.args.bytes.now c.in-Ok.text.now c.in_ok-new-in-Ok.field-0 text.1 text.0 c.in_ok-new-in-Ok.ensures

pub returns-in-Err : goal.returns-in-Err
returns-in-Err c = refused c.args.bytes.now c.in-Err.ensures.cases.0
