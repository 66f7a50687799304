-- The kinds of a state's rows, each by the byte that begins its keys.
use Rattle.std.specs.Prelude.{ℕ}
use Rattle.state_codec.specs.declared.row_kind.RowKind.{RowKind}
use Rattle.state_codec.specs.declared.row_kind.RowKind.TheVariants.{Coenrolling, Id, Live, Pending, OptedOut, Participation, IsPending, Status, Installed, Updated, Version}

abbrev pub letter : RowKind → ℕ
letter Coenrolling = 99
letter Id = 105
letter Live = 108
letter Pending = 110
letter OptedOut = 111
letter Participation = 112
letter IsPending = 113
letter Status = 114
letter Installed = 116
letter Updated = 117
letter Version = 118
