-- What single values of a module say.
use Rattle.std.specs.Prelude.{ℕ, ◌&&◌, nat_le, Bool, List as Seq, length, Result, Ok, if◌then◌else◌}
use Rattle.json_tree.specs.Json.{Json, truth, text, object}
use Rattle.json_tree.specs.Bytes.{text_of}
use Rattle.json_tree.specs.declared.tree.Tree.{Tree}
use Rattle.json_tree.specs.Inverse.{tree_from}
use Rattle.fml_reader.specs.Outcome.{bad}
use Rattle.fml_reader.specs.declared.fault.ModuleRefusal.{ModuleRefusal}

abbrev pub text_in : Json → Result (Seq ℕ) ModuleRefusal
text_in (text s) = Ok s
text_in x = bad

abbrev pub truth_in : Json → Result Bool ModuleRefusal
truth_in (truth b) = Ok b
truth_in x = bad

abbrev pub object_in : Json → Result (Unit {0}) ModuleRefusal
object_in (object ms) = Ok tt
object_in x = bad

-- a default, whose text has at most 65,536 bytes
abbrev pub value_in : Json → Result Tree ModuleRefusal
value_in x = if nat_le (length (text_of x)) 65536 then Ok (tree_from x) else bad

-- 1 to 80 bytes
abbrev pub is_key : Seq ℕ → Bool
is_key k = nat_le 1 (length k) && nat_le (length k) 80
