use Rattle.std.proofs.Common.{arith, rules, ◌≡◌, [], ◌∷◌, ◌++◌, length, append-nil, sym, ap, ap₂, ◌∙◌}
use Rattle.std.proofs.lemmas.Grind.{common_steps}
use Rattle.enrol_evolver.proofs.SettledRows.{rows_by, wish_count, as_many, has_answer, answers_left, rows_more, rows-settled}
use Rattle.enrol_evolver.proofs.settling.settled_rows.Goals as goal

pub loop-entry-init : goal.loop-entry-init
loop-entry-init c =
    let plan = c.args.plan in
    let items : c.into_iter-entry-iterator.result.rest.items ≡ plan.entries = search rules in
    record {
      rows = ap₂ (λ rs es. rs ++ rows_by es c.args.granted.now) c.new-rows.ensures items;
      left = ap wish_count items ∙ as_many plan.entries plan.wishes c.requires.wishes ∙ sym c.requires.granted;
    }

pub settled-status-requires : goal.settled-status-requires
settled-status-requires c = λ wish.
    let rest = c.next.new.self.rest.items in
    let first : c.loop-entry.entry-iterator.rest.items ≡ c.in-Some.entry ∷ rest = search rules in
    has_answer c.in-Some.entry.outcome (wish_count rest) c.loop-entry.left.now (ap wish_count (sym first) ∙ c.loop-entry.invariant.left) wish

pub loop-entry-preserved : goal.loop-entry-preserved
loop-entry-preserved c =
    let rest = c.next.new.self.rest.items in
    let first : c.loop-entry.entry-iterator.rest.items ≡ c.in-Some.entry ∷ rest = search rules in
    record {
      rows = rows_more c.loop-entry.rows c.push.new.self c.in-Some.entry rest _ c.loop-entry.left.now _ _ _ first c.in_ok-push.ensures.ok c.settled-status.ensures.status c.settled-status.ensures.rest c.loop-entry.invariant.rows;
      left = answers_left c.in-Some.entry.outcome c.loop-entry.left.now (wish_count rest) (ap wish_count (sym first) ∙ c.loop-entry.invariant.left) ∙ sym (ap length c.settled-status.ensures.rest);
    }

pub returns : goal.returns
returns c =
    let plan = c.args.plan in
    let none : c.loop-entry.entry-iterator.rest.items ≡ [] = grind (arith, common_steps) in
    sym (append-nil c.loop-entry.rows) ∙ ap (λ es. c.loop-entry.rows ++ rows_by es c.loop-entry.left.now) (sym none) ∙ c.loop-entry.invariant.rows ∙ rows-settled plan.entries plan.wishes c.args.granted.now c.requires.order c.requires.wishes c.requires.granted
