use Rattle.std.proofs.Common.{◌≡◌}
use Rattle.fml_reader.proofs.Steps.{with_front, members_from}
use Rattle.fml_reader.proofs.walks.each_member.Given as goal

abbrev pub invariant-loop-key : goal.invariant-loop-key
invariant-loop-key g l = with_front l.members (members_from g.T.Member.takes g.T.Part.said l.key-index l.pairs) ≡ members_from g.T.Member.takes g.T.Part.said 0 l.pairs
