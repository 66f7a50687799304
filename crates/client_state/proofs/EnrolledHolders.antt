-- One preference more, whose holder is enrolled.
use Rattle.std.proofs.Common.{◌≡◌, ◌+◌, ◌<◌, ◌++◌, ◌∷◌, [], ℕ, zero, suc, List, length, get_or, take, sym, subst, arith}
use Rattle.std.proofs.lemmas.List.{take_more}
use Rattle.enrol_states.specs.declared.state.State.{State}
use Rattle.pref_bindings.specs.declared.preference.Preference.{Preference}
use Rattle.client_state.specs.Sound.{HasEnrolledHolder, HaveEnrolledHolders}

pub holder_at : (e : State) (ps : List Preference) (i : ℕ) (p : Preference) → i < length ps → p ≡ get_or ps i p → HaveEnrolledHolders e ps → HasEnrolledHolder e p.hold
holder_at e ps i p within is have = subst (λ (q : Preference). HasEnrolledHolder e q.hold) (sym is) (at ps i within have)
  where
    at : (qs : List Preference) (j : ℕ) → j < length qs → HaveEnrolledHolders e qs → HasEnrolledHolder e (get_or qs j p).hold
    at [] j less all = absurd (omega (arith, less))
    at (q ∷ qs) zero less all = all.0
    at (q ∷ qs) (suc j) less all = at qs j (omega (arith, less)) all.1

holders_append : (e : State) (ps qs : List Preference) → HaveEnrolledHolders e ps → HaveEnrolledHolders e qs → HaveEnrolledHolders e (ps ++ qs)
holders_append e [] qs ps_have qs_have = qs_have
holders_append e (p ∷ ps) qs ps_have qs_have = (ps_have.0, holders_append e ps qs ps_have.1 qs_have)

pub holder_more : (e : State) (ps : List Preference) (i : ℕ) (p : Preference) → i < length ps → p ≡ get_or ps i p → HaveEnrolledHolders e (take i ps) → HasEnrolledHolder e p.hold → HaveEnrolledHolders e (take (i + 1) ps)
holder_more e ps i p within is before here =
    subst (HaveEnrolledHolders e) (sym (take_more ps i p within))
    (holders_append e (take i ps) (get_or ps i p ∷ []) before (subst (λ (q : Preference). HasEnrolledHolder e q.hold) is here, tt))
