-- A script is read, and run against the store.
use Rattle.std.proofs.Common.{◌≡◌, inl, inr, List, ℕ, length, sym, ◌∙◌, ap, subst, arith}
use Rattle.host_model.specs.declared.side.Side.TheVariants.{Left, Right}
use Rattle.host_model.specs.Hosts.{NowOf}
use Rattle.host_model.proofs.Meeting.{started}
use Rattle.client_words.specs.Commands.{lines_of}
use Rattle.session_run.specs.declared.status.RunStatus.{RunStatus}
use Rattle.session_run.specs.Causes.{OpensNone}
use Rattle.session_run.specs.FaultCauses.{IsStatusOf, HasShelfCauses, HasHostCauses}
use Rattle.session_run.specs.Files.{LinesAsked}
use Rattle.session_run.specs.Finds.{RunFound}
use Rattle.session_run.specs.Later.{MayGoOn}
use Rattle.session_run.specs.Runs.{Ran}
use Rattle.session_run.specs.Starts.{opened_on}
use Rattle.session_run.specs.Statuses.{of_script, IsOfLines, IsOfRun}
use Rattle.session_run.proofs.Asking.{none_asked, lines_unasked}
use Rattle.session_run.proofs.Belonging.{run_is_of, script_is_of, script_source, script_finds, script_leaves}
use Rattle.session_run.proofs.Ending.{script_early}
use Rattle.session_run.proofs.Judging.{run_judges}
use Rattle.session_run.proofs.Linking.{goes_on_as}
use Rattle.session_run.proofs.Opened.{ran_unreached}
use Rattle.session_run.proofs.Writing.{below_unwritten, no_more}
use Rattle.session_run.proofs.run.run.Goals as goal

-- ---- there is a script

pub returns-in-Ok-clause-ran : goal.returns-in-Ok-clause-ran
returns-in-Ok-clause-ran g c source_tells shelf_tells tells =
    let h = g.H.Host in
    let old = c.args.host.now in
    let new = c.run_client.new.host in
    let asked = LinesAsked g.F.Shelf c.args.shelf.now c.run_client.new.shelf in
    let from = λ (script : List ℕ). opened_on g.F.Shelf h c.args.now c.args.shelf.now old (lines_of script) in
    let script_is : c.deref.result.now ≡ g.S.Source.left c.args.source.now = c.deref.ensures.value ∙ c.in-Ok.ensures.bytes source_tells in
    subst (λ (script : List ℕ). Ran h asked (from script) old new c.ended.result) script_is (subst (Ran h asked (from c.deref.result.now) old new) (sym c.ended.ensures) (c.run_client.ensures.ran shelf_tells tells))

pub returns-in-Ok-clause-found : goal.returns-in-Ok-clause-found
returns-in-Ok-clause-found g c tells = subst (RunFound g.H.Host c.args.host.now c.run_client.new.host) (sym c.ended.ensures) (c.run_client.ensures.found tells)

pub returns-in-Ok-clause-is_of : goal.returns-in-Ok-clause-is_of
returns-in-Ok-clause-is_of g c = run_is_of c.ended.result (subst IsOfLines (sym c.ended.ensures) c.run_client.ensures.is_of)

pub returns-in-Ok-clause-too_long : goal.returns-in-Ok-clause-too_long
returns-in-Ok-clause-too_long g c is = absurd (subst IsOfLines (sym c.ended.ensures ∙ is) c.run_client.ensures.is_of)

pub returns-in-Ok-clause-source_cause : goal.returns-in-Ok-clause-source_cause
returns-in-Ok-clause-source_cause g c is = absurd (subst IsOfLines (sym c.ended.ensures ∙ is) c.run_client.ensures.is_of)

pub returns-in-Ok-clause-unreached : goal.returns-in-Ok-clause-unreached
returns-in-Ok-clause-unreached g c (inl is) = absurd (subst IsOfLines (sym c.ended.ensures ∙ is) c.run_client.ensures.is_of)
returns-in-Ok-clause-unreached g c (inr (inl is)) = absurd (subst IsOfLines (sym c.ended.ensures ∙ is) c.run_client.ensures.is_of)
returns-in-Ok-clause-unreached g c (inr (inr is)) = absurd (subst IsOfLines (sym c.ended.ensures ∙ is) c.run_client.ensures.is_of)

pub returns-in-Ok-clause-next : goal.returns-in-Ok-clause-next
returns-in-Ok-clause-next g c tells = subst (MayGoOn g.H.Host c.args.host.now c.run_client.new.host) (sym c.ended.ensures) (c.run_client.ensures.next tells)

pub returns-in-Err-clause-next : goal.returns-in-Err-clause-next
returns-in-Err-clause-next g c tells = goes_on_as g.H.Host c.args.host.now c.args.host.now c.into.result (λ states all. all)

pub returns-in-Ok-clause-asked : goal.returns-in-Ok-clause-asked
returns-in-Ok-clause-asked g c source_tells =
    subst (λ (script : List ℕ). LinesAsked g.F.Shelf c.args.shelf.now c.run_client.new.shelf (lines_of script)) (c.deref.ensures.value ∙ c.in-Ok.ensures.bytes source_tells) c.run_client.ensures.asked

pub returns-in-Ok-clause-unasked : goal.returns-in-Ok-clause-unasked
returns-in-Ok-clause-unasked g c none = c.run_client.ensures.unasked (subst OpensNone c.ended.ensures none)

pub returns-in-Ok-clause-shelf_causes : goal.returns-in-Ok-clause-shelf_causes
returns-in-Ok-clause-shelf_causes g c = subst (λ (status : RunStatus). HasShelfCauses g.F.Shelf (IsStatusOf status) c.args.shelf.now c.run_client.new.shelf) (sym c.ended.ensures) c.run_client.ensures.shelf_causes

pub returns-in-Ok-clause-host_causes : goal.returns-in-Ok-clause-host_causes
returns-in-Ok-clause-host_causes g c = subst (λ (status : RunStatus). HasHostCauses g.H.Host (IsStatusOf status) c.args.host.now c.run_client.new.host) (sym c.ended.ensures) c.run_client.ensures.host_causes

pub returns-in-Ok-clause-too_long_where : goal.returns-in-Ok-clause-too_long_where
returns-in-Ok-clause-too_long_where g c source_tells long =
    absurd (omega (arith, long, c.in-Ok.ensures.short, ap length (c.in-Ok.ensures.bytes source_tells)))

pub returns-in-Ok-clause-source_quiet : goal.returns-in-Ok-clause-source_quiet
returns-in-Ok-clause-source_quiet g c other = c.in-Ok.ensures.quiet (λ is. absurd cc)

-- ---- there is none

pub returns-in-Err-clause-source_quiet : goal.returns-in-Err-clause-source_quiet
returns-in-Err-clause-source_quiet g c other = c.in-Err.ensures.quiet (λ is. other (c.into.ensures ∙ script_source c.in-Err.fault is))

pub returns-in-Err-clause-ran : goal.returns-in-Err-clause-ran
returns-in-Err-clause-ran g c source_tells shelf_tells tells =
    let h = g.H.Host in
    let old = c.args.host.now in
    let lines = lines_of (g.S.Source.left c.args.source.now) in
    let fault = c.in-Err.fault in
    subst (Ran h (LinesAsked g.F.Shelf c.args.shelf.now c.args.shelf.now) (opened_on g.F.Shelf h c.args.now c.args.shelf.now old lines) old old) (sym c.into.ensures)
    (ran_unreached g.F.Shelf h (LinesAsked g.F.Shelf c.args.shelf.now c.args.shelf.now) c.args.now c.requires.moment c.args.shelf.now old lines (g.met.H.Host.read_is_image old Left tells) (g.met.H.Host.read_is_image old Right tells)
    tells g.met.H.Host.counts_now (none_asked g.F.Shelf c.args.shelf.now) (of_script fault) (script_early h old fault) (started h.moment h.might old (NowOf h old) (λ l r u met. g.met.H.Host.only_now old l r u tells met)))

pub returns-in-Err-clause-asked : goal.returns-in-Err-clause-asked
returns-in-Err-clause-asked g c source_tells = lines_unasked g.F.Shelf (lines_of (g.S.Source.left c.args.source.now)) c.args.shelf.now

pub returns-in-Err-clause-below : goal.returns-in-Err-clause-below
returns-in-Err-clause-below g c tells = below_unwritten g.H.Host c.args.host.now (λ l r u met. g.met.H.Host.only_now c.args.host.now l r u tells met)

pub returns-in-Err-clause-found : goal.returns-in-Err-clause-found
returns-in-Err-clause-found g c tells =
    let h = g.H.Host in
    let old = c.args.host.now in
    let l = h.reads old Left in
    let r = h.reads old Right in
    let fault = c.in-Err.fault in
    let finds = script_finds l r fault in
    subst (RunFound h old old) (sym c.into.ensures) (record {
      finds = finds;
      judges = run_judges l r (of_script fault) finds;
      leaves = script_leaves h old old fault;
      quiet = λ empty. no_more h old (λ l r u met. g.met.H.Host.only_now old l r u tells met);
    })

pub returns-in-Err-clause-is_of : goal.returns-in-Err-clause-is_of
returns-in-Err-clause-is_of g c = subst IsOfRun (sym c.into.ensures) (script_is_of c.in-Err.fault)
