use Rattle.fml_reader.proofs.Pieces.{names_turn, names_end, comma_piece, comma_rest, last_piece}
use Rattle.fml_reader.proofs.names.pieces.Goals as goal

pub loop-len-preserved : goal.loop-len-preserved
loop-len-preserved c =
    let turn = names_turn c.args.bytes.now c.loop-len.start c.in-Some.len c.loop-len.names _ _ c.loop-len.invariant.within c.in-Some.ensures c.in_ok-push_name.ensures c.loop-len.invariant.same in
    record {
      within = turn.0;
      text = comma_rest c.args.bytes.now c.loop-len.start c.in-Some.len c.loop-len.invariant.within c.loop-len.invariant.text c.in-Some.ensures;
      same = turn.1;
    }

pub returns : goal.returns
returns c = names_end c.args.bytes.now c.loop-len.start c.loop-len.names _ _ c.loop-len.invariant.within c.in_default.ensures c.in_ok-push_name-2.ensures c.loop-len.invariant.same

pub push_name-requires : goal.push_name-requires
push_name-requires c = comma_piece c.args.bytes.now c.loop-len.start c.in-Some.len c.loop-len.invariant.within c.loop-len.invariant.text c.in-Some.ensures

pub push_name-requires-2 : goal.push_name-requires-2
push_name-requires-2 c = last_piece c.args.bytes.now c.loop-len.start c.loop-len.invariant.within c.loop-len.invariant.text
