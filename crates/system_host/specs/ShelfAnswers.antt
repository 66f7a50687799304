-- What a shelf answers for a file.
use Rattle.std.specs.Prelude.{◌≡◌, ◌≤◌, ◌<◌, ℕ, List, length}
use Rattle.host_model.specs.declared.shelf.ShelfAnswer.{ShelfAnswer}
use Rattle.host_model.specs.declared.shelf.ShelfAnswer.TheVariants.{Bytes, Absent, TooLarge, Failed, OutOfMemory}

-- bytes that are given are at most 4,194,304, and a length that is told is above that
abbrev pub IsWithinLimit : ShelfAnswer → Type 0
IsWithinLimit (Bytes bytes) = length bytes.items ≤ 4194304
IsWithinLimit Absent = Unit {0}
IsWithinLimit (TooLarge size) = 4194304 < size
IsWithinLimit Failed = Unit {0}
IsWithinLimit OutOfMemory = Unit {0}

-- these bytes are given, or are too many
abbrev pub FitsBytes : List ℕ → ShelfAnswer → Type 0
FitsBytes bytes (Bytes given) = given.items ≡ bytes
FitsBytes bytes Absent = ⊥
FitsBytes bytes (TooLarge size) = 4194304 < length bytes
FitsBytes bytes Failed = ⊥
FitsBytes bytes OutOfMemory = ⊥
