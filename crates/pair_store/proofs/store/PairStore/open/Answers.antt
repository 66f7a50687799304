use Rattle.std.proofs.Common.{◌≡◌, inl, inr, ℕ, Err, if◌then◌else◌, refl, sym, ◌∙◌, subst, arith}
use Rattle.std.proofs.lemmas.Result.{err_from_is_err_and}
use Rattle.host_model.specs.declared.side.Side.{Side}
use Rattle.host_model.specs.declared.side.Side.TheVariants.{Left, Right}
use Rattle.host_model.specs.Hosts.{IsDurable, MeetsAll}
use Rattle.gate_journal.specs.Costs.{HasCost}
use Rattle.pair_store.specs.declared.faults.PairFault.TheVariants.{DiskFault}
use Rattle.pair_store.specs.Choice.{payloads_of, IsChoice}
use Rattle.pair_store.specs.Moments.{IsOpening, OpensInTwoPhases, StaysBelow}
use Rattle.pair_store.proofs.Answered.{IsRefused, refused, IsOpened, opened}
use Rattle.pair_store.proofs.Below.{now_met, shut_met, then_below}
use Rattle.pair_store.proofs.Opening.{answer_list, choice_phases, choice_cost, choice_is_store, choice_not_bad, closed_image, cost_at_err, came_from, passed_on}
use Rattle.pair_store.proofs.Phases.{phases_opening}
use Rattle.pair_store.proofs.Synced.{reading_phases}
use Rattle.pair_store.proofs.store.PairStore.open.Given.{Over}
use Rattle.pair_store.proofs.store.PairStore.open.Goals.{After-from_residual-in_err-choice, After-shut_side, After-store_of}
use Rattle.pair_store.proofs.store.PairStore.open.Goals as goal

-- ---- a pair that isn't read

pub returns-in_err-left-clause-below : goal.returns-in_err-left-clause-below
returns-in_err-left-clause-below g c tells = now_met g.H.Host c.args.host.now c.found_both.new.host (c.found_both.ensures.any_moment tells)

pub returns-in_err-left-clause-phases : goal.returns-in_err-left-clause-phases
returns-in_err-left-clause-phases g c tells =
    let p = err_from_is_err_and c.from_residual.result c.from_residual.ensures.1 in
    let e = c.in_err-left.field-0.0 in
    let is : c.from_residual.result ≡ Err e = cc (p.1, p.2) in
    reading_phases g.H.Host c.args.host.now c.found_both.new.host _ c.from_residual.result (λ failed. passed_on c.from_residual.result e DiskFault is (came_from _ e DiskFault refl failed)) (c.in_err-left.ensures.phases tells)

pub returns-in_err-left-clause-only_read : goal.returns-in_err-left-clause-only_read
returns-in_err-left-clause-only_read g c tells none = record { moments = c.found_both.ensures.any_moment tells; cost = c.found_both.ensures.cost tells }

-- ---- a pair that is refused

is_refused : (g : Over) (c : After-from_residual-in_err-choice g) → g.H.Host.tells → IsRefused (g.H.Host.reads c.args.host.now Left) (g.H.Host.reads c.args.host.now Right) c.from_residual-in_err-choice.result
is_refused g c tells =
    let l = g.H.Host.reads c.args.host.now Left in
    let r = g.H.Host.reads c.args.host.now Right in
    let p = err_from_is_err_and c.from_residual-in_err-choice.result c.from_residual-in_err-choice.ensures.1 in
    refused l r c.from_residual-in_err-choice.result c.in_err-choice.field-0.0 (cc (p.1, p.2)) (c.in_err-choice.ensures.answer l r (c.in_ok-left.ensures.left tells) (c.in_ok-left.ensures.right tells))

pub returns-in_err-choice-clause-below : goal.returns-in_err-choice-clause-below
returns-in_err-choice-clause-below g c tells = now_met g.H.Host c.args.host.now c.found_both.new.host (c.found_both.ensures.any_moment tells)

pub returns-in_err-choice-clause-opened_where : goal.returns-in_err-choice-clause-opened_where
returns-in_err-choice-clause-opened_where g c tells payloads has = absurd ((is_refused g c tells).no_list payloads has)

pub returns-in_err-choice-clause-no_store : goal.returns-in_err-choice-clause-no_store
returns-in_err-choice-clause-no_store g c tells = (is_refused g c tells).no_store

pub returns-in_err-choice-clause-none_open : goal.returns-in_err-choice-clause-none_open
returns-in_err-choice-clause-none_open g c tells none side image left =
    closed_image (g.H.Host.reads c.args.host.now) side image ((is_refused g c tells).no_store none)
    (c.in_ok-left.ensures.durable tells (λ failed. cc) side image left ∙ c.in_ok-left.ensures.same tells (λ failed. cc) side)

pub returns-in_err-choice-clause-no_store_where : goal.returns-in_err-choice-clause-no_store_where
returns-in_err-choice-clause-no_store_where g c tells closed = inl ((is_refused g c tells).no_store_where closed)

pub returns-in_err-choice-clause-bad_store : goal.returns-in_err-choice-clause-bad_store
returns-in_err-choice-clause-bad_store g c tells = (is_refused g c tells).bad_store

pub returns-in_err-choice-clause-bad_store_where : goal.returns-in_err-choice-clause-bad_store_where
returns-in_err-choice-clause-bad_store_where g c tells bad = inl ((is_refused g c tells).bad_store_where bad)

pub returns-in_err-choice-clause-phases : goal.returns-in_err-choice-clause-phases
returns-in_err-choice-clause-phases g c tells =
    reading_phases g.H.Host c.args.host.now c.found_both.new.host _ c.from_residual-in_err-choice.result (λ failed. cc) (c.in_ok-left.ensures.phases tells)

pub returns-in_err-choice-clause-only_read : goal.returns-in_err-choice-clause-only_read
returns-in_err-choice-clause-only_read g c tells none = record { moments = c.found_both.ensures.any_moment tells; cost = c.found_both.ensures.cost tells }

-- ---- the earlier of two open sides is closed, or the disk has failed in that

module _ (g : Over) (c : After-shut_side g) (tells : g.H.Host.tells) where
  is_choice : IsChoice (g.H.Host.reads c.args.host.now Left) (g.H.Host.reads c.args.host.now Right) c.in_ok-choice.choice
  is_choice = c.in_ok-choice.ensures.answer (g.H.Host.reads c.args.host.now Left) (g.H.Host.reads c.args.host.now Right) (c.in_ok-left.ensures.left tells) (c.in_ok-left.ensures.right tells)

  in_phases : OpensInTwoPhases g.H.Host c.args.host.now c.shut_side.new.host
  in_phases =
      choice_phases g.H.Host c.in_ok-choice.choice c.other.result c.args.host.now c.found_both.new.host c.shut_side.new.host is_choice c.other.ensures
      (c.in_ok-left.ensures.same tells (λ failed. cc)) (c.in_ok-left.ensures.durable tells (λ failed. cc))
      (c.in_ok-left.ensures.text tells) (c.found_both.ensures.cost tells) (c.in_ok-left.ensures.any_moment tells) (c.shut_side.ensures.any_moment tells)

  opening : MeetsAll g.H.Host c.args.host.now c.shut_side.new.host (IsOpening g.H.Host c.args.host.now)
  opening = phases_opening g.H.Host c.args.host.now c.shut_side.new.host (λ s. g.met.H.Host.read_is_image c.args.host.now s tells) in_phases

  below : MeetsAll g.H.Host c.args.host.now c.shut_side.new.host (StaysBelow g.H.Host c.args.host.now)
  below =
      let h = g.H.Host in
      let old = c.args.host.now in
      let mid = c.found_both.new.host in
      let new = c.shut_side.new.host in
      then_below h old mid new (λ l r u le now. g.met.H.Host.counts_now mid (h.moment old) l r u tells le now) (λ s. g.met.H.Host.read_is_image mid s tells)
      (now_met h old mid (c.found_both.ensures.any_moment tells)) (shut_met h mid new c.in_ok-choice.choice.is_other_open c.other.result (c.shut_side.ensures.any_moment tells))

pub returns-clause-phases : goal.returns-clause-phases
returns-clause-phases g c tells = inr (in_phases g (goal.at.returns-clause-phases g c).After-shut_side tells)

pub returns-clause-any_moment : goal.returns-clause-any_moment
returns-clause-any_moment g c = opening g (goal.at.returns-clause-any_moment g c).After-shut_side

pub returns-clause-below : goal.returns-clause-below
returns-clause-below g c = below g (goal.at.returns-clause-below g c).After-shut_side

pub returns-in_err-shut_side-clause-phases : goal.returns-in_err-shut_side-clause-phases
returns-in_err-shut_side-clause-phases g c tells = inr (in_phases g (goal.at.returns-in_err-shut_side-clause-phases g c).After-shut_side tells)

pub returns-in_err-shut_side-clause-any_moment : goal.returns-in_err-shut_side-clause-any_moment
returns-in_err-shut_side-clause-any_moment g c = opening g (goal.at.returns-in_err-shut_side-clause-any_moment g c).After-shut_side

pub returns-in_err-shut_side-clause-below : goal.returns-in_err-shut_side-clause-below
returns-in_err-shut_side-clause-below g c = below g (goal.at.returns-in_err-shut_side-clause-below g c).After-shut_side

-- ---- the disk has failed

pub returns-in_err-shut_side-clause-only_read : goal.returns-in_err-shut_side-clause-only_read
returns-in_err-shut_side-clause-only_read g c tells none =
    let l = g.H.Host.reads c.args.host.now Left in
    let r = g.H.Host.reads c.args.host.now Right in
    absurd (none (payloads_of c.in_ok-choice.choice.records) (answer_list l r c.in_ok-choice.choice (is_choice g (goal.at.returns-in_err-shut_side-clause-only_read g c).After-shut_side tells)))

pub returns-in_err-shut_side-clause-cost : goal.returns-in_err-shut_side-clause-cost
returns-in_err-shut_side-clause-cost g c tells =
    let h = g.H.Host in
    let old = c.args.host.now in
    let new = c.shut_side.new.host in
    let cost = c.shut_side.ensures.cost tells in
    let same = c.found_both.ensures.cost tells in
    subst (λ (n : ℕ). HasCost n (h.written old) (h.written new) c.from_residual-in_err-shut_side.result)
    (sym (choice_cost (h.reads old Left) (h.reads old Right) c.in_ok-choice.choice (is_choice g (goal.at.returns-in_err-shut_side-clause-cost g c).After-shut_side tells)))
    (cost_at_err (if c.in_ok-choice.choice.is_other_open then 1 else 0) (h.written old) (h.written new) c.from_residual-in_err-shut_side.result c.from_residual-in_err-shut_side.ensures.0
    (omega (arith, cost.least, same)) (omega (arith, cost.most, same)))

-- ---- a pair that is opened

is_opened : (g : Over) (c : After-store_of g) → g.H.Host.tells → IsOpened g.H.Host c.args.host.now c.shut_side.new.host c.store_of.result.0 c.store_of.result.1
is_opened g c tells =
    let durable : (s : Side) → IsDurable g.H.Host c.found_both.new.host s = c.in_ok-left.ensures.durable tells (λ failed. cc) in
    opened g.H.Host c.in_ok-choice.choice c.other.result c.args.host.now c.found_both.new.host c.shut_side.new.host (c.in_ok-choice.ensures.answer _ _ (c.in_ok-left.ensures.left tells) (c.in_ok-left.ensures.right tells)) c.other.ensures
    (c.in_ok-left.ensures.same tells (λ failed. cc)) durable (c.shut_side.ensures.rest tells) (c.in_ok-shut_side.ensures.reads tells)
    (c.in_ok-shut_side.ensures.durable tells (durable c.other.result)) c.store_of.result.0 c.store_of.result.1 c.store_of.ensures.store c.store_of.ensures.payloads

pub returns-clause-only_read : goal.returns-clause-only_read
returns-clause-only_read g c tells none = absurd (none c.store_of.result.1 (is_opened g c tells).list)

pub returns-clause-list : goal.returns-clause-list
returns-clause-list g c tells = (is_opened g c tells).list

pub returns-clause-no_store_where : goal.returns-clause-no_store_where
returns-clause-no_store_where g c tells closed = absurd (choice_is_store (g.H.Host.reads c.args.host.now Left) (g.H.Host.reads c.args.host.now Right) c.in_ok-choice.choice (is_choice g (goal.at.returns-clause-no_store_where g c).After-shut_side tells) closed)

pub returns-clause-bad_store_where : goal.returns-clause-bad_store_where
returns-clause-bad_store_where g c tells bad = absurd (choice_not_bad (g.H.Host.reads c.args.host.now Left) (g.H.Host.reads c.args.host.now Right) c.in_ok-choice.choice (is_choice g (goal.at.returns-clause-bad_store_where g c).After-shut_side tells) bad)

pub returns-clause-opened : goal.returns-clause-opened
returns-clause-opened g c tells = (is_opened g c tells).stands

pub returns-clause-gate : goal.returns-clause-gate
returns-clause-gate g c tells = (is_opened g c tells).gate

pub returns-clause-shut : goal.returns-clause-shut
returns-clause-shut g c tells = (is_opened g c tells).shut

pub returns-clause-left : goal.returns-clause-left
returns-clause-left g c tells other = (is_opened g c tells).left

pub returns-clause-cost : goal.returns-clause-cost
returns-clause-cost g c tells =
    let cost = c.shut_side.ensures.cost tells in
    let exact = (c.in_ok-shut_side.ensures.cost tells).exact in
    let same = c.found_both.ensures.cost tells in
    let bytes = choice_cost (g.H.Host.reads c.args.host.now Left) (g.H.Host.reads c.args.host.now Right) c.in_ok-choice.choice (is_choice g (goal.at.returns-clause-cost g c).After-shut_side tells) in
    record { exact = omega (arith, exact, same, bytes); least = omega (arith, cost.least, same); most = omega (arith, cost.most, same, bytes) }
