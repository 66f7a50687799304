-- The words on a host, over the record of its members: a layer that is generic over H writes H.Host for it.
use Rattle.std.specs.Prelude.{List, ℕ}
use Rattle.host_model.specs.declared.host.Host.{Ghosts}
use Rattle.host_model.specs.declared.side.Side.{Side}
use Rattle.host_model.specs.Images.{Only}
use Rattle.host_model.specs.Moments.{IsNow, KeepsOther, IsStill, Meets, OnSide}

-- what a crash now may leave, and the text said
abbrev pub NowOf : {H : Type 0} → Ghosts H → H → List ℕ → List ℕ → List ℕ → Type 0
NowOf h host l r u = IsNow (h.images host) (h.said host) l r u

-- at each moment since old there was only what Q has
abbrev pub MeetsAll : {H : Type 0} → Ghosts H → H → H → (List ℕ → List ℕ → List ℕ → Type 0) → Type 0
MeetsAll h old new Q = Meets h.moment h.might old new Q

-- this side and the text said are as before
abbrev pub KeepsAll : {H : Type 0} → Ghosts H → Side → H → H → Type 0
KeepsAll h side old new = KeepsOther h.reads h.images h.said side old new

-- nothing is changed
abbrev pub StillAll : {H : Type 0} → Ghosts H → H → H → Type 0
StillAll h old new = IsStill h.reads h.images h.said h.written old new

-- the image on this side has P; all else is as at the start
abbrev pub OnSideOf : {H : Type 0} → Ghosts H → H → Side → (List ℕ → Type 0) → List ℕ → List ℕ → List ℕ → Type 0
OnSideOf h start side P l r u = OnSide h.images h.said start side P l r u

-- each image of this side is what reads give
abbrev pub IsDurable : {H : Type 0} → Ghosts H → H → Side → Type 0
IsDurable h host side = Only (h.reads host side) (h.images host side)
