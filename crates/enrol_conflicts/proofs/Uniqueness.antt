-- Exactly one list is settled.
use Rattle.enrol_conflicts.specs.Settlement.{is_before, clashes}
use Rattle.enrol_conflicts.specs.Laws.{IsSettleable, IsSettledOnce}
use Rattle.enrol_conflicts.proofs.Fixed.{settled_exists, settled_once}
use Rattle.enrol_conflicts.proofs.Ranks.{is_before-irrefl, is_before-chain}

pub settleable : IsSettleable
settleable ws coenrolling = settled_exists is_before (clashes coenrolling) is_before-irrefl is_before-chain ws

pub settled_at_most_once : IsSettledOnce
settled_at_most_once ws coenrolling = settled_once is_before (clashes coenrolling) is_before-irrefl is_before-chain ws
