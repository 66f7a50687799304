-- The tree of a file that a command names, or why the command is refused.
use Rattle.std.specs.Prelude.{ℕ, nat_lt, nat_le, List, length, Option, None, Some, Result, Ok, Err, if◌then◌else◌}
use Rattle.json_tree.specs.Json.{Json, depth}
use Rattle.json_tree.specs.Bytes.{tree_of, max_depth}
use Rattle.client_words.specs.declared.refusal.Refusal.{Refusal}
use Rattle.client_words.specs.declared.refusal.Refusal.TheVariants.{AbsentFile, FileTooLarge, NotJson}

-- the most bytes of a file
abbrev pub max_file : ℕ
max_file = 4194304

-- a value that nests at most 64 deep
abbrev pub shallow_tree : List ℕ → Option Json → Result Json Refusal
shallow_tree name None = Err (NotJson name)
shallow_tree name (Some tree) = if nat_le (depth tree) max_depth then Ok tree else Err (NotJson name)

-- of the file of this name
unfoldable pub file_tree : List ℕ → Option (List ℕ) → Result Json Refusal
file_tree name None = Err (AbsentFile name)
file_tree name (Some bytes) = if nat_lt max_file (length bytes) then Err (FileTooLarge name (length bytes)) else shallow_tree name (tree_of bytes)
