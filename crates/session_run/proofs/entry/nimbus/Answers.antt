-- What the words ask for is done.
use Rattle.std.proofs.Common.{ℕ, List, [], inl, inr, ap, arith, refl, subst, Some}
use Rattle.std.specs.Prelude.{map, string_bytes}
use Rattle.session_run.specs.DrillEnds.{Drilled}
use Rattle.session_run.specs.Making.{Made}
use Rattle.session_run.specs.Statuses.{IsOfRun, IsOfMaking}
use Rattle.session_run.specs.Words.{IsDrill}
use Rattle.session_run.proofs.Belonging.{run_belongs}
use Rattle.session_run.proofs.Judging.{run_complete}
use Rattle.session_run.proofs.MakingCauses.{making_causes}
use Rattle.session_run.proofs.WordLists.{one_id, one_start, one_count, run_not_drill, init_not_drill, not_both, run_makes_none}
use Rattle.session_run.proofs.Writing.{below_unwritten}
use Rattle.session_run.proofs.entry.nimbus.Goals as goal

-- ---- no form

pub returns-in-None-clause-run : goal.returns-in-None-clause-run
returns-in-None-clause-run g c is_run = absurd (c.in-None.ensures.none refl (inl is_run))

pub returns-in-None-clause-making : goal.returns-in-None-clause-making
returns-in-None-clause-making g c id is_init = absurd (c.in-None.ensures.none refl (inr (inl (id, is_init))))

pub returns-in-None-clause-drill : goal.returns-in-None-clause-drill
returns-in-None-clause-drill g c start count is_drill = absurd (c.in-None.ensures.none refl (inr (inr (start, count, is_drill))))

pub returns-in-None-clause-causes : goal.returns-in-None-clause-causes
returns-in-None-clause-causes g c =
    let none = c.in-None.ensures.none refl in
    record {
      belongs = none;
      source_rose = λ is. absurd cc;
      shelf_rose = λ is. absurd cc;
      disk_rose = λ is. absurd cc;
      say_rose = λ is. absurd cc;
      source_quiet = λ other. refl;
      shelf_quiet = λ other. refl;
      disk_quiet = λ other. refl;
      say_quiet = λ other. refl;
      unreached = λ is. refl;
      unasked = λ is. refl;
      unasked_where = λ tells none_stands. refl;
      unread = λ is. refl;
      apart = λ is. (refl, refl);
      asked = λ is_run. absurd (none (inl is_run));
      files = λ tells name. refl;
      too_long = λ is. absurd cc;
      too_long_where = λ is_run. absurd (none (inl is_run));
      taken = λ tells. ([], refl, omega arith);
      read = λ is_run. absurd (none (inl is_run));
      run_found = λ is_run. absurd (none (inl is_run));
      making_found = λ is. absurd (none (inr is));
      next = λ is_run. absurd (none (inl is_run));
      below = λ tells. below_unwritten g.H.Host c.args.host.now (λ l r u met. g.met.H.Host.only_now c.args.host.now l r u tells met);
      run_done = λ is_run. absurd (none (inl is_run));
      making_done = λ is. absurd (none (inr is));
    }

-- ---- the making of a store

pub returns-in-Some-Init-clause-usage : goal.returns-in-Some-Init-clause-usage
returns-in-Some-Init-clause-usage g c = (
  (λ is. absurd (subst IsOfMaking is c.init.ensures.is_of)),
  (λ none. absurd (none (inr (inl (c.in-Some-Init.id, c.in-Some-Init.ensures.init c.in-Some-Init.id (ap Some c.in-Some-Init.field-0-is)))))),
)

pub returns-in-Some-Init-clause-run : goal.returns-in-Some-Init-clause-run
returns-in-Some-Init-clause-run g c is_run = absurd (not_both _ c.in-Some-Init.id is_run (c.in-Some-Init.ensures.init c.in-Some-Init.id (ap Some c.in-Some-Init.field-0-is)))

pub returns-in-Some-Init-clause-making : goal.returns-in-Some-Init-clause-making
returns-in-Some-Init-clause-making g c id is_init tells =
    let there = c.in-Some-Init.ensures.init c.in-Some-Init.id (ap Some c.in-Some-Init.field-0-is) in
    subst (λ (b : List ℕ). Made g.H.Host b c.args.now c.args.host.now c.init.new.host c.init.result) (one_id _ c.in-Some-Init.id id there is_init) (c.init.ensures.made tells)

pub returns-in-Some-Init-clause-drill : goal.returns-in-Some-Init-clause-drill
returns-in-Some-Init-clause-drill g c start count is_drill =
    absurd (init_not_drill _ (c.in-Some-Init.id, c.in-Some-Init.ensures.init c.in-Some-Init.id (ap Some c.in-Some-Init.field-0-is)) (start, count, is_drill))

pub returns-in-Some-Init-clause-causes : goal.returns-in-Some-Init-clause-causes
returns-in-Some-Init-clause-causes g c =
    let init = c.init.ensures in
    let there = c.in-Some-Init.ensures.init c.in-Some-Init.id (ap Some c.in-Some-Init.field-0-is) in
    making_causes g.S.Source g.F.Shelf g.H.Host _ c.args.source.now c.args.shelf.now c.args.host.now c.init.new.host c.init.result (inl (c.in-Some-Init.id, there)) init.is_of init.host_causes init.found (λ tells. (init.made tells).below)

-- ---- a drill

pub returns-in-Some-Drill-clause-usage : goal.returns-in-Some-Drill-clause-usage
returns-in-Some-Drill-clause-usage g c = (
  (λ is. absurd (subst IsOfMaking is c.drill.ensures.is_of)),
  (λ none. absurd (none (inr (inr (c.in-Some-Drill.start, c.in-Some-Drill.count, c.in-Some-Drill.ensures.drill c.in-Some-Drill.start c.in-Some-Drill.count (ap Some c.in-Some-Drill.field-0-is)))))),
)

pub returns-in-Some-Drill-clause-run : goal.returns-in-Some-Drill-clause-run
returns-in-Some-Drill-clause-run g c is_run = absurd (run_not_drill _ is_run (c.in-Some-Drill.start, c.in-Some-Drill.count, c.in-Some-Drill.ensures.drill c.in-Some-Drill.start c.in-Some-Drill.count (ap Some c.in-Some-Drill.field-0-is)))

pub returns-in-Some-Drill-clause-making : goal.returns-in-Some-Drill-clause-making
returns-in-Some-Drill-clause-making g c id is_init = absurd (init_not_drill _ (id, is_init) (c.in-Some-Drill.start, c.in-Some-Drill.count, c.in-Some-Drill.ensures.drill c.in-Some-Drill.start c.in-Some-Drill.count (ap Some c.in-Some-Drill.field-0-is)))

pub returns-in-Some-Drill-clause-drill : goal.returns-in-Some-Drill-clause-drill
returns-in-Some-Drill-clause-drill g c start count is_drill tells =
    let h = g.H.Host in
    let old = c.args.host.now in
    let new = c.drill.new.host in
    let there = c.in-Some-Drill.ensures.drill c.in-Some-Drill.start c.in-Some-Drill.count (ap Some c.in-Some-Drill.field-0-is) in
    subst (λ (m : ℕ). Drilled h m count c.args.now old new c.drill.result) (one_start _ c.in-Some-Drill.start c.in-Some-Drill.count start count there is_drill)
    (subst (λ (n : ℕ). Drilled h c.in-Some-Drill.start n c.args.now old new c.drill.result) (one_count _ c.in-Some-Drill.start c.in-Some-Drill.count start count there is_drill) (c.drill.ensures.drilled tells))

pub returns-in-Some-Drill-clause-causes : goal.returns-in-Some-Drill-clause-causes
returns-in-Some-Drill-clause-causes g c =
    let drill = c.drill.ensures in
    let there : IsDrill (map string_bytes c.args.words.now) = (c.in-Some-Drill.start, c.in-Some-Drill.count, c.in-Some-Drill.ensures.drill c.in-Some-Drill.start c.in-Some-Drill.count (ap Some c.in-Some-Drill.field-0-is)) in
    making_causes g.S.Source g.F.Shelf g.H.Host _ c.args.source.now c.args.shelf.now c.args.host.now c.drill.new.host c.drill.result (inr there) drill.is_of drill.host_causes drill.found (λ tells. (drill.drilled tells).below)

-- its numbers are within their bounds
pub drill-requires-clause-at_least : goal.drill-requires-clause-at_least
drill-requires-clause-at_least g c = (c.in-Some-Drill.ensures.drill c.in-Some-Drill.start c.in-Some-Drill.count (ap Some c.in-Some-Drill.field-0-is)).1.at_least

pub drill-requires-clause-at_most : goal.drill-requires-clause-at_most
drill-requires-clause-at_most g c = (c.in-Some-Drill.ensures.drill c.in-Some-Drill.start c.in-Some-Drill.count (ap Some c.in-Some-Drill.field-0-is)).1.at_most

-- ---- a run

pub returns-in-Some-Run-clause-usage : goal.returns-in-Some-Run-clause-usage
returns-in-Some-Run-clause-usage g c = (
  (λ is. absurd (subst IsOfRun is c.run.ensures.is_of)),
  (λ none. absurd (none (inl (c.in-Some-Run.ensures.run (ap Some c.in-Some-Run.field-0-is))))),
)

pub returns-in-Some-Run-clause-run : goal.returns-in-Some-Run-clause-run
returns-in-Some-Run-clause-run g c is_run = c.run.ensures.ran

pub returns-in-Some-Run-clause-making : goal.returns-in-Some-Run-clause-making
returns-in-Some-Run-clause-making g c id is_init = absurd (not_both _ id (c.in-Some-Run.ensures.run (ap Some c.in-Some-Run.field-0-is)) is_init)

pub returns-in-Some-Run-clause-drill : goal.returns-in-Some-Run-clause-drill
returns-in-Some-Run-clause-drill g c start count is_drill = absurd (run_not_drill _ (c.in-Some-Run.ensures.run (ap Some c.in-Some-Run.field-0-is)) (start, count, is_drill))

pub returns-in-Some-Run-clause-causes : goal.returns-in-Some-Run-clause-causes
returns-in-Some-Run-clause-causes g c =
    let run = c.run.ensures in
    let answered = c.run.result in
    let there = c.in-Some-Run.ensures.run (ap Some c.in-Some-Run.field-0-is) in
    record {
      belongs = run_belongs _ there answered run.is_of;
      source_rose = run.source_cause;
      shelf_rose = run.shelf_causes.shelf;
      disk_rose = run.host_causes.disk;
      say_rose = run.host_causes.say;
      source_quiet = run.source_quiet;
      shelf_quiet = run.shelf_causes.quiet;
      disk_quiet = run.host_causes.disk_quiet;
      say_quiet = run.host_causes.say_quiet;
      unreached = run.unreached;
      unasked = run.unasked;
      unasked_where = run.unasked_where;
      unread = λ is. absurd (subst IsOfRun is run.is_of);
      apart = λ is. absurd (run_makes_none _ there is);
      asked = λ is_run. run.asked;
      files = run.shelf_causes.files;
      too_long = run.too_long;
      too_long_where = λ is_run. run.too_long_where;
      taken = run.taken;
      read = λ is_run. run.read;
      run_found = λ is_run. run.found;
      making_found = λ is. absurd (run_makes_none _ there is);
      next = λ is_run. run.next;
      below = run.below;
      run_done = λ is_run source_tells tells short found source shelf disk say. run_complete _ _ answered (run.found tells).finds found (λ is. omega (arith, short, run.too_long is source_tells))
          (λ is. source (run.source_cause is)) (λ is. shelf (run.shelf_causes.shelf is)) (λ is. disk (run.host_causes.disk is)) (λ is. say (run.host_causes.say is));
      making_done = λ is. absurd (run_makes_none _ there is);
    }
