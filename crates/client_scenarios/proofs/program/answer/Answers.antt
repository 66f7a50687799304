-- The table has the standard names where it has as many.
use Rattle.std.proofs.Common.{List, ℕ, length, ◌++◌, ◌∙◌, refl, ap, arith}
use Rattle.jexl_transforms.specs.Meaning.{has_name, standard_names}
use Rattle.jexl_transforms.specs.Table.{names_of}
use Rattle.client_scenarios.proofs.Putting.{all_put}
use Rattle.client_scenarios.proofs.program.answer.Goals as goal

pub answer_with-requires : goal.answer_with-requires
answer_with-requires c =
    let start = names_of c.new-table.result in
    let end = names_of c.put-6.new.table in
    let all = all_put start standard_names end
    (_, c.put.ensures.names, (_, c.put-2.ensures.names, (_, c.put-3.ensures.names, (_, c.put-4.ensures.names, (_, c.put-5.ensures.names, (_, c.put-6.ensures.names, refl))))))
    (omega (arith, c.names.ensures, c.if-names-ne-STANDARD_NAMES.false, ap length c.new-table.ensures)) in
    record { table = λ name. ap (has_name name) (all ∙ ap (λ (names : List (List ℕ)). names ++ standard_names) c.new-table.ensures) }
