-- Runs, each started on what the one before left.
use Rattle.std.proofs.Common.{◌≡◌, inl, inr, ℕ, List, [], ◌∷◌, refl, subst, arith}
use Rattle.std.specs.Prelude.{IsTrue}
use Rattle.enrol_states.specs.Order.{is_in}
use Rattle.client_state.specs.declared.client_state.ClientState.{ClientState}
use Rattle.client_state.specs.Sound.{IsSound}
use Rattle.client_store.specs.Store.{KeptFor}
use Rattle.client_store.proofs.Uniqueness.{one_state}
use Rattle.session_run.specs.Steps.{after}
use Rattle.session_run.specs.Chains.{Link, Leads, IsChain, EndsKept, folded, NoneBringsBack, IsHeldOutOver}
use Rattle.session_run.specs.OptOuts.{IsHeldOut, IsOut}
use Rattle.session_run.proofs.OptOuts.{out_of, is_out}

-- the next pair is kept for this state's
next_kept : (l r : List ℕ) (s : ClientState) (link : Link) → KeptFor l r s → Leads l r link → KeptFor link.l link.r (after link.at s link.lines link.k)
next_kept l r s link kept leads = subst (λ (x : ClientState). KeptFor link.l link.r (after link.at x link.lines link.k)) (one_state l r leads.s s leads.from kept) leads.left

pub ends_kept : (links : List Link) (l r : List ℕ) (s : ClientState) → KeptFor l r s → IsChain l r links → EndsKept l r links (folded s links)
ends_kept [] l r s kept chain = kept
ends_kept (link ∷ links) l r s kept chain = ends_kept links link.l link.r (after link.at s link.lines link.k) (next_kept l r s link kept chain.0) chain.1

-- the last pair is kept for one state at most
pub one_end : (links : List Link) (l r : List ℕ) (s t : ClientState) → EndsKept l r links s → EndsKept l r links t → s ≡ t
one_end [] l r s t a b = one_state l r s t a b
one_end (link ∷ links) l r s t a b = one_end links link.l link.r s t a b

pub folded_sound : (links : List Link) (l r : List ℕ) (s : ClientState) → KeptFor l r s → IsChain l r links → IsSound (folded s links)
folded_sound [] l r s kept chain = kept.sound
folded_sound (link ∷ links) l r s kept chain = folded_sound links link.l link.r (after link.at s link.lines link.k) (next_kept l r s link kept chain.0) chain.1

-- ---- opt-outs

-- what is out stays out, where no line brings it back
stays_out : (links : List Link) (l r : List ℕ) (s : ClientState) (slug : List ℕ) → KeptFor l r s → IsChain l r links → IsTrue (is_in s.enrolment.opted_out slug) → NoneBringsBack s links slug → IsTrue (is_in (folded s links).enrolment.opted_out slug)
stays_out [] l r s slug kept chain out none = out
stays_out (link ∷ links) l r s slug kept chain out none =
    let next = next_kept l r s link kept chain.0 in
    let held : IsHeldOut link.at s link.lines link.k slug = record { i = 0; within = omega arith; out = inl (refl, out); none = λ j line from below is brings. none.0 j line below is brings } in
    stays_out links link.l link.r (after link.at s link.lines link.k) slug next chain.1 (is_out link.at s link.lines link.k slug chain.0.within next.sound held).opted_out none.1

held_over : (links : List Link) (l r : List ℕ) (s : ClientState) (slug : List ℕ) → KeptFor l r s → IsChain l r links → IsHeldOutOver s links slug → IsTrue (is_in (folded s links).enrolment.opted_out slug)
held_over [] l r s slug kept chain held = held
held_over (link ∷ links) l r s slug kept chain (inl held) =
    let next = next_kept l r s link kept chain.0 in
    stays_out links link.l link.r (after link.at s link.lines link.k) slug next chain.1 (is_out link.at s link.lines link.k slug chain.0.within next.sound held.0).opted_out held.1
held_over (link ∷ links) l r s slug kept chain (inr held) = held_over links link.l link.r (after link.at s link.lines link.k) slug (next_kept l r s link kept chain.0) chain.1 held

pub out_over : (links : List Link) (l r : List ℕ) (s : ClientState) (slug : List ℕ) → KeptFor l r s → IsChain l r links → IsHeldOutOver s links slug → IsOut (folded s links) slug
out_over links l r s slug kept chain held = out_of (folded s links) slug (held_over links l r s slug kept chain held) (folded_sound links l r s kept chain)
