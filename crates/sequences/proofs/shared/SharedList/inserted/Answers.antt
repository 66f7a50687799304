use Rattle.std.proofs.Common.{rules, ◌≡◌}
use Rattle.std.specs.List.{insert}
use Rattle.sequences.proofs.ListParts.{one_comes}
use Rattle.sequences.proofs.shared.SharedList.inserted.Goals as goal

pub returns-clause-part : goal.returns-clause-part
returns-clause-part g c =
    let listed : c.in_ok-successor.field-0 ≡ insert c.args.self.now c.args.place c.args.item = search rules in
    one_comes c.args.item c.insertion.result c.args.self.now c.in_ok-successor.field-0 c.args.place c.insertion.ensures listed c.requires
