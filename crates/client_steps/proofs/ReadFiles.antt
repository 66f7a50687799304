-- The tree of a file is sound.
use Rattle.std.proofs.Common.{◌≡◌, ℕ, Bool, true, false, List, length, Option, Some, None, Result, Ok, Err, refl}
use Rattle.std.specs.Prelude.{IfSome, IfOk, nat_lt, nat_le, if◌then◌else◌}
use Rattle.json_tree.proofs.SoundReading.{values_read_are_sound}
use Rattle.json_tree.specs.Json.{Json, depth, IsSound}
use Rattle.json_tree.specs.Bytes.{tree_of, max_depth}
use Rattle.client_steps.specs.Fetching.{max_file, shallow_tree, file_tree}

pub value_sound : (bytes : List ℕ) (x : Option Json) → tree_of bytes ≡ x → IfSome x IsSound
value_sound bytes None is = tt
value_sound bytes (Some x) is = values_read_are_sound bytes x is

pub unless_deep : {E : Type 0} (shallow : Bool) (tree : Json) (refusal : E) → IsSound tree → IfOk (if shallow then Ok tree else Err refusal) IsSound
unless_deep true tree refusal h = h
unless_deep false tree refusal h = tt

shallow_sound : (name : List ℕ) (x : Option Json) → IfSome x IsSound → IfOk (shallow_tree name x) IsSound
shallow_sound name None h = tt
shallow_sound name (Some tree) h = unless_deep (nat_le (depth tree) max_depth) tree _ h

pub unless_large : {E : Type 0} (large : Bool) (refusal : E) (read : Result Json E) → IfOk read IsSound → IfOk (if large then Err refusal else read) IsSound
unless_large true refusal read h = tt
unless_large false refusal read h = h

pub file_sound : (name : List ℕ) (file : Option (List ℕ)) → IfOk (file_tree name file) IsSound
unfolding file_tree
file_sound name None = tt
file_sound name (Some bytes) = unless_large (nat_lt max_file (length bytes)) _ (shallow_tree name (tree_of bytes)) (shallow_sound name (tree_of bytes) (value_sound bytes (tree_of bytes) refl))
