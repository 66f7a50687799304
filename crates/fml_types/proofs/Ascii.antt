-- The bytes of a name are ASCII.
use Rattle.std.proofs.Common.{◌≡◌, ℕ, true, List, IsUtf8}
use Rattle.std.proofs.lemmas.Str.{IsUtf8-from_ascii}
use Rattle.std.specs.Cmp.{first_so, second_so}
use Rattle.std.specs.List.{list_all}
use Rattle.std.specs.Prelude.{◌&&◌, ◌||◌, nat_lt, nat_le, length, not}
use Rattle.plain_text.specs.Names.{is_name_byte, is_name}
use Rattle.plain_text.proofs.ShortNames.{all_ascii}
use Rattle.fml_types.specs.TypeTexts.{is_type_name, is_simple_word, is_bracket_word}

pub IsUtf8-name : (b : List ℕ) → is_type_name b ≡ true → IsUtf8 b
IsUtf8-name b e = IsUtf8-from_ascii b (all_ascii b (second_so (nat_lt 0 (length b) && nat_le (length b) 80) (list_all is_name_byte b) (first_so (is_name b) (not (is_simple_word b || is_bracket_word b)) e)))
