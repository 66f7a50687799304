use Rattle.jexl_value.proofs.Becoming.{IsValue-without_odd, without_odd-value}
use Rattle.jexl_value.proofs.laws.values_are_kept.Goals as goal

pub returns-clause-becomes : goal.returns-clause-becomes
returns-clause-becomes c = IsValue-without_odd

pub returns-clause-stays : goal.returns-clause-stays
returns-clause-stays c = without_odd-value
