use Rattle.std.proofs.Common.{◌≡◌, inl, inr, Err, IsErrOf, refl, sym, ◌∙◌, ap, rules}
use Rattle.std.proofs.lemmas.Result.{err_from_is_err_and}
use Rattle.host_model.specs.declared.side.Side.TheVariants.{Left, Right}
use Rattle.host_model.specs.Hosts.{NowOf, MeetsAll}
use Rattle.host_model.proofs.Meeting.{started}
use Rattle.gate_journal.specs.Opening.{IsSettledOn}
use Rattle.gate_journal.proofs.Opening.{sync_met}
use Rattle.pair_store.specs.declared.faults.PairFault.{PairFault}
use Rattle.pair_store.specs.declared.faults.PairFault.TheVariants.{DiskFault}
use Rattle.pair_store.proofs.Opening.{came_from, passed_on}
use Rattle.pair_store.proofs.Synced.{both_synced, right_read, right_unsynced}
use Rattle.pair_store.proofs.reading.found_both.Given.{Over}
use Rattle.pair_store.proofs.reading.found_both.Goals.{After-found-in-Ok, After-sync}
use Rattle.pair_store.proofs.reading.found_both.Goals as goal

-- ---- the left side is read, and then the right one

settled_before : (g : Over) (c : After-found-in-Ok g) → g.H.Host.tells → IsSettledOn g.H.Host Left c.args.host.now c.found.new.host
settled_before g c tells = record { same = c.in-Ok.ensures.same tells (λ failed. cc); durable = c.in-Ok.ensures.durable tells (λ failed. cc) }

pub returns-in_ok-found-in-Ok-clause-phases : goal.returns-in_ok-found-in-Ok-clause-phases
returns-in_ok-found-in-Ok-clause-phases g c tells =
    let start = c.args.host.now in
    right_read g.H.Host start c.found.new.host c.found-in-Ok.new.host (g.met.H.Host.read_is_image start Left tells) (settled_before g (goal.at.returns-in_ok-found-in-Ok-clause-phases g c).After-found-in-Ok tells)
    (c.found.ensures.rest tells) (c.found.ensures.any_moment tells) (c.found.ensures.cost tells)
    _ _ (λ failed. cc) (c.found-in-Ok.ensures.cost tells) (c.found-in-Ok.ensures.rest tells) (c.in_ok-found-in-Ok.ensures.phases tells)

pub returns-in_err-found-in-Ok-clause-phases : goal.returns-in_err-found-in-Ok-clause-phases
returns-in_err-found-in-Ok-clause-phases g c tells =
    let start = c.args.host.now in
    let p = err_from_is_err_and c.from_residual.result c.from_residual.ensures.1 in
    let e : PairFault = c.in_err-found-in-Ok.field-0.0 in
    let is : c.from_residual.result ≡ Err e = cc (p.1, p.2) in
    right_read g.H.Host start c.found.new.host c.found-in-Ok.new.host (g.met.H.Host.read_is_image start Left tells) (settled_before g (goal.at.returns-in_err-found-in-Ok-clause-phases g c).After-found-in-Ok tells)
    (c.found.ensures.rest tells) (c.found.ensures.any_moment tells) (c.found.ensures.cost tells)
    _ _ (λ failed. passed_on c.from_residual.result e DiskFault is (came_from _ e DiskFault refl failed)) (c.found-in-Ok.ensures.cost tells) (c.found-in-Ok.ensures.rest tells) (c.in_err-found-in-Ok.ensures.phases tells)

-- ---- memory was wanting for the left side, and the right one is synced

module _ (g : Over) (c : After-sync g) (tells : g.H.Host.tells) where
  settled : IsSettledOn g.H.Host Left c.args.host.now c.found.new.host
  settled =
      let other = c.in-Err-OutOfMemory.is ∙ ap (λ (e : PairFault). Err e) c.in-Err-OutOfMemory.field-0-is in
      record {
        same = c.found.ensures.same tells (λ failed. let both = sym other ∙ failed in cc);
        durable = c.found.ensures.durable tells (λ failed. let both = sym other ∙ failed in cc);
      }

  syncing : MeetsAll g.H.Host c.found.new.host c.sync.new.self (NowOf g.H.Host c.found.new.host)
  syncing =
      let mid = c.found.new.host in
      sync_met g.H.Host Right mid c.sync.new.self (λ l r u met. g.met.H.Host.only_now mid l r u tells met) (c.sync.ensures.crash tells) (c.sync.ensures.rest tells) (c.sync.ensures.time tells)

pub returns-in_err-sync-in-Err-OutOfMemory-clause-phases : goal.returns-in_err-sync-in-Err-OutOfMemory-clause-phases
returns-in_err-sync-in-Err-OutOfMemory-clause-phases g c tells =
    let start = c.args.host.now in
    let synced = (goal.at.returns-in_err-sync-in-Err-OutOfMemory-clause-phases g c).After-sync in
    let failed : IsErrOf c.from_residual-in_err-sync-in-Err-OutOfMemory.result DiskFault = search rules in
    inl (
      failed,
      right_unsynced g.H.Host start c.found.new.host c.sync.new.self (g.met.H.Host.read_is_image start Left tells) (settled g synced tells) (c.found.ensures.rest tells) (c.found.ensures.any_moment tells) (c.found.ensures.cost tells)
          (c.sync.ensures.cost tells) (c.sync.ensures.rest tells)
          (record { moments = syncing g synced tells; images = λ image. (c.sync.ensures.crash tells image, (c.in_err-sync-in-Err-OutOfMemory.ensures.images_stay tells).each image) }),
    )

pub returns-in_ok-sync-in-Err-OutOfMemory-clause-phases : goal.returns-in_ok-sync-in-Err-OutOfMemory-clause-phases
returns-in_ok-sync-in-Err-OutOfMemory-clause-phases g c tells =
    let h = g.H.Host in
    let start = c.args.host.now in
    let new = c.sync.new.self in
    let synced = (goal.at.returns-in_ok-sync-in-Err-OutOfMemory-clause-phases g c).After-sync in
    let after = c.in_ok-sync-in-Err-OutOfMemory.ensures.after tells in
    inr (both_synced h start c.found.new.host new (g.met.H.Host.read_is_image start Left tells) (settled g synced tells) (c.found.ensures.rest tells) (c.found.ensures.any_moment tells) (c.found.ensures.cost tells) new
    (record {
      moments = syncing g synced tells;
      settled = record { same = after; durable = λ image left. c.in_ok-sync-in-Err-OutOfMemory.ensures.durable tells image left ∙ sym after };
      rest = c.sync.ensures.rest tells;
      cost = c.sync.ensures.cost tells;
    })
    (started h.moment h.might new (NowOf h new) (λ l r u met. g.met.H.Host.only_now new l r u tells met)))
