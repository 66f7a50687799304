use Rattle.std.proofs.Common.{◌≡◌, ◌∷◌, [], List, ℕ, refl, subst}
use Rattle.gate_journal.specs.Records.{made_on}
use Rattle.host_model.specs.declared.side.Side.TheVariants.{Left}
use Rattle.host_model.specs.Hosts.{MeetsAll}
use Rattle.host_model.proofs.Meeting.{started}
use Rattle.pair_store.specs.Moments.{IsMaking, StaysBelow}
use Rattle.pair_store.specs.Store.{PairStandsWithGate, store_made}
use Rattle.pair_store.proofs.Below.{now_below}
use Rattle.row_batches.specs.Batch.{applied, batch_text}
use Rattle.row_store.proofs.Folds.{kept_rows}
use Rattle.row_store.proofs.Makings.{not_begun, place_made}
use Rattle.row_store.proofs.store.RowStore.make.Goals as goal

pub returns-in_err-frame-clause-below : goal.returns-in_err-frame-clause-below
returns-in_err-frame-clause-below g c tells =
    let h = g.H.Host in
    let host = c.args.host.now in
    started h.moment h.might host (StaysBelow h host) (λ l r u met. now_below h host l r u (g.met.H.Host.only_now host l r u tells met))

pub returns-in_err-frame-clause-any_moment : goal.returns-in_err-frame-clause-any_moment
returns-in_err-frame-clause-any_moment g c tells =
    let h = g.H.Host in
    let host = c.args.host.now in
    let first = batch_text c.args.whole.now in
    started h.moment h.might host (IsMaking h host first) (λ l r u met. not_begun h host first l r u (g.met.H.Host.only_now host l r u tells met))

pub returns-clause-made : goal.returns-clause-made
returns-clause-made g c tells =
    let whole = c.args.whole.now in
    let bytes : c.in_ok-frame.frame ≡ batch_text whole = c.in_ok-frame.ensures.payload in
    kept_rows g.H.Host c.make_pair.new.host (store_made c.in_ok-frame.frame) (c.in_ok-frame.frame ∷ []) (applied whole []) (c.in_ok-make_pair.ensures.stands tells)
    (whole, record { rules = c.in_ok-frame.ensures.rules; bytes = bytes }, refl)

pub returns-clause-stands : goal.returns-clause-stands
returns-clause-stands g c tells =
    let bytes : c.in_ok-frame.frame ≡ batch_text c.args.whole.now = c.in_ok-frame.ensures.payload in
    subst (λ (first : List ℕ). PairStandsWithGate g.H.Host (store_made first) c.make_pair.new.host (first ∷ [])) bytes (c.in_ok-make_pair.ensures.stands tells)

pub returns-clause-place : goal.returns-clause-place
returns-clause-place g c tells =
    let host = c.make_pair.new.host in
    let bytes : c.in_ok-frame.frame ≡ batch_text c.args.whole.now = c.in_ok-frame.ensures.payload in
    place_made g.H.Host host (batch_text c.args.whole.now) (λ s. g.met.H.Host.read_is_image host s tells)
    (subst (λ (first : List ℕ). PairStandsWithGate g.H.Host (store_made first) host (first ∷ [])) bytes (c.in_ok-make_pair.ensures.stands tells))

pub returns-clause-left : goal.returns-clause-left
returns-clause-left g c tells =
    let h = g.H.Host in
    let bytes : c.in_ok-frame.frame ≡ batch_text c.args.whole.now = c.in_ok-frame.ensures.payload in
    subst (λ (first : List ℕ). h.reads c.make_pair.new.host Left ≡ made_on 0 first (h.reads c.args.host.now Left)) bytes (c.in_ok-make_pair.ensures.left tells)

pub returns-clause-any_moment : goal.returns-clause-any_moment
returns-clause-any_moment g c tells =
    let h = g.H.Host in
    let old = c.args.host.now in
    let bytes : c.in_ok-frame.frame ≡ batch_text c.args.whole.now = c.in_ok-frame.ensures.payload in
    subst (λ (first : List ℕ). MeetsAll h old c.make_pair.new.host (IsMaking h old first)) bytes (c.make_pair.ensures.any_moment tells)
