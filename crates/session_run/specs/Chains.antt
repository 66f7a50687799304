-- Runs, each started on what the one before left.
use Rattle.std.specs.Prelude.{◌≡◌, ◌⊎◌, ℕ, ◌≤◌, ◌<◌, List, [], ◌∷◌, Some, IsTrue, length, slice_get}
use Rattle.host_model.specs.declared.side.Side.TheVariants.{Left, Right}
use Rattle.host_model.specs.declared.host.Host.{Ghosts}
use Rattle.enrol_states.specs.Order.{is_in}
use Rattle.client_state.specs.declared.client_state.ClientState.{ClientState}
use Rattle.client_steps.specs.Settings.{Setting}
use Rattle.client_store.specs.Store.{KeptFor}
use Rattle.session_run.specs.Moments.{AfterPrefix}
use Rattle.session_run.specs.OptOuts.{LineBringsBack, IsHeldOut}
use Rattle.session_run.specs.Starts.{Start}
use Rattle.session_run.specs.Steps.{run_at, after}

-- a run's setting and its lines, how many of them count, and the pair of images that it left
pub record Link : Type 0 where
  pub at : Setting
  pub lines : List (List ℕ)
  pub k : ℕ
  pub l : List ℕ
  pub r : List ℕ

-- the state after these runs
abbrev pub folded : ClientState → List Link → ClientState
folded s [] = s
folded s (link ∷ links) = folded (after link.at s link.lines link.k) links

-- this pair is kept for some state, and the run's for its first k lines from there
pub record Leads (l r : List ℕ) (link : Link) : Type 0 where
  pub s : ClientState
  pub within : link.k ≤ length link.lines
  pub from : KeptFor l r s
  pub left : KeptFor link.l link.r (after link.at s link.lines link.k)

abbrev pub IsChain : List ℕ → List ℕ → List Link → Type 0
IsChain l r [] = Unit {0}
IsChain l r (link ∷ links) = Leads l r link × IsChain link.l link.r links

-- what may be met in a run that begins so is a link of a chain, from each pair that is kept for the state of its start
abbrev pub MomentsAreLinks : Type 0
MomentsAreLinks =
    (start : Start) (old_l old_r l r u : List ℕ) → KeptFor old_l old_r start.state → (met : AfterPrefix start l r u)
    → Leads old_l old_r (record { at = start.at; lines = start.lines; k = met.k; l = l; r = r })

-- it may be met in a run of these lines, from the state for which an image of the start was kept
pub record IsLinked {H : Type 0} (h : Ghosts H) (old : H) (start : Start) (l r u : List ℕ) : Type 0 where
  pub old_l : List ℕ
  pub old_r : List ℕ
  pub left : h.images old Left old_l
  pub right : h.images old Right old_r
  pub s : ClientState
  pub from : KeptFor old_l old_r s
  pub met : AfterPrefix (record start { state = s }) l r u

-- the last pair is kept for s
abbrev pub EndsKept : List ℕ → List ℕ → List Link → ClientState → Type 0
EndsKept l r [] s = KeptFor l r s
EndsKept l r (link ∷ links) s = EndsKept link.l link.r links s

-- ---- opt-outs

-- none of the lines that counted brings the slug back
abbrev pub NoneBringsBack : ClientState → List Link → List ℕ → Type 0
NoneBringsBack s [] slug = Unit {0}
NoneBringsBack s (link ∷ links) slug =
    ((j : ℕ) (line : List ℕ) → j < link.k → slice_get link.lines j ≡ Some line
    → LineBringsBack link.at (run_at link.at s link.lines j) slug line → ⊥)
    × NoneBringsBack (after link.at s link.lines link.k) links slug

-- the slug is out at the start of some run, or by a line of it that counted, and none of those after that brings it back, in this run or a later one
abbrev pub IsHeldOutOver : ClientState → List Link → List ℕ → Type 0
IsHeldOutOver s [] slug = IsTrue (is_in s.enrolment.opted_out slug)
IsHeldOutOver s (link ∷ links) slug =
    (IsHeldOut link.at s link.lines link.k slug × NoneBringsBack (after link.at s link.lines link.k) links slug)
    ⊎ IsHeldOutOver (after link.at s link.lines link.k) links slug
