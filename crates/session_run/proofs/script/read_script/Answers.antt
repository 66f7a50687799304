-- What was taken where it is too much.
use Rattle.std.proofs.Common.{List, ℕ, ◌++◌, length-append, length-take, length-drop, append_assoc, sym, ◌∙◌, ap, arith}
use Rattle.session_run.proofs.script.read_script.Goals as goal

pub returns-then-bytes-room-clause-taken : goal.returns-then-bytes-room-clause-taken
returns-then-bytes-room-clause-taken g c tells =
    let script = c.loop-bytes.script.items in
    let bytes = c.in-Ok.bytes.now in
    let left = g.S.Source.left c.read_piece.new.source in (
      script ++ bytes,
      c.loop-bytes.invariant.1 tells ∙ ap (λ (rest : List ℕ). script ++ rest) (c.in-Ok.ensures.bytes tells) ∙ sym (append_assoc script bytes left),
      omega (arith, length-append script bytes, length-take {A = ℕ}, length-drop {A = ℕ}, c.in-Ok.ensures.within, c.min.ensures, c.len-room.ensures, c.loop-bytes.invariant.0),
    )
