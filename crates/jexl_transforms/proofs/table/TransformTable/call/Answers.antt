use Rattle.std.proofs.Common.{map, refl, sym, subst, inr}
use Rattle.json_tree.specs.Json.{members_of}
use Rattle.jexl_value.specs.Value.{as_json}
use Rattle.jexl_transforms.specs.Answering.{Calls}
use Rattle.jexl_transforms.specs.Table.{has_transform}
use Rattle.jexl_transforms.proofs.Kept.{called_so}
use Rattle.jexl_transforms.proofs.table.TransformTable.call.Goals as goal

pub returns-in-Some-clause-answer : goal.returns-in-Some-clause-answer
returns-in-Some-clause-answer g c =
    let entry = c.in-Some.entry.now in
    subst (Calls (has_transform c.args.self.now) c.args.name.now (members_of c.args.attributes.now.pairs) (as_json c.args.subject.now) (map as_json c.args.arguments.now)) (sym c.result_of.ensures)
    (called_so entry.name c.args.name.now c.args.attributes c.args.subject c.args.arguments c.answer.result (has_transform c.args.self.now) c.in-Some.ensures.0 entry.answers c.in-Some.ensures.1 c.answer.ensures c.answer.result refl)

pub returns-in-Some-clause-stored : goal.returns-in-Some-clause-stored
returns-in-Some-clause-stored g c = inr (c.in-Some.entry.now, c.in-Some.ensures.2, c.in-Some.ensures.1, c.answer.result, c.answer.ensures, c.result_of.ensures)
