use Rattle.std.proofs.Common.{inl, inr, IsErrOf, sym, ◌∙◌, subst, rules}
use Rattle.gate_journal.specs.Records.{IsOpen}
use Rattle.gate_journal.specs.declared.faults.OpenFault.TheVariants.{DiskFault}
use Rattle.gate_journal.proofs.Opening.{sync_met}
use Rattle.gate_journal.proofs.journal.Journal.open.Goals as goal

pub returns-clause-opened_where : goal.returns-clause-opened_where
returns-clause-opened_where g c tells generation payloads side =
    c.find_journal.ensures.opened_where tells generation payloads (subst (IsOpen generation payloads) (sym (c.in_ok-sync.ensures.after tells)) side)

pub returns-in_err-sync-clause-phases : goal.returns-in_err-sync-clause-phases
returns-in_err-sync-clause-phases g c tells =
    let start = c.args.host.now in
    let failed : IsErrOf c.from_residual.result DiskFault = search rules in
    inl (
      failed,
      record {
        moments = sync_met g.H.Host c.args.side start c.sync.new.self (λ l r u met. g.met.H.Host.only_now start l r u tells met) (c.sync.ensures.crash tells) (c.sync.ensures.rest tells) (c.sync.ensures.time tells);
        images = λ image. (c.sync.ensures.crash tells image, (c.in_err-sync.ensures.images_stay tells).each image);
      },
    )

pub returns-clause-phases : goal.returns-clause-phases
returns-clause-phases g c tells =
    let start = c.args.host.now in
    inr (record {
      synced = c.sync.new.self;
      first = record {
        moments = sync_met g.H.Host c.args.side start c.sync.new.self (λ l r u met. g.met.H.Host.only_now start l r u tells met) (c.sync.ensures.crash tells) (c.sync.ensures.rest tells) (c.sync.ensures.time tells);
        settled = record { same = c.in_ok-sync.ensures.after tells; durable = λ image left. c.in_ok-sync.ensures.durable tells image left ∙ sym (c.in_ok-sync.ensures.after tells) };
        rest = c.sync.ensures.rest tells;
        cost = c.sync.ensures.cost tells;
      };
      second = c.find_journal.ensures.any_moment tells;
      still = c.find_journal.ensures.still tells;
    })
