-- A line more.
use Rattle.std.proofs.Common.{string_bytes, sym, arith}
use Rattle.std.proofs.lemmas.List.{append-nil}
use Rattle.client_words.proofs.Joining.{line_more, lines_all}
use Rattle.client_words.proofs.rows.push_lines.Goals as goal

pub loop-item-init : goal.loop-item-init
loop-item-init g c = sym (append-nil (string_bytes c.args.text.now))

pub loop-item-preserved : goal.loop-item-preserved
loop-item-preserved g c =
    line_more g.T.Listed.line c.args.items.now c.loop-item.item-index c.item-item.result (string_bytes c.args.text.now) (string_bytes c.loop-item.text) (string_bytes c.push_line.new.text)
    c.loop-item-test.true c.item-item.is c.loop-item.invariant c.in_ok-push_line.ensures

pub returns : goal.returns
returns g c = lines_all g.T.Listed.line c.args.items.now c.loop-item.item-index (string_bytes c.args.text.now) (string_bytes c.loop-item.text) (omega arith) c.loop-item.invariant
