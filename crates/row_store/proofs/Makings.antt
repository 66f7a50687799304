-- A store that is just made.
use Rattle.std.proofs.Common.{◌≡◌, inl, refl, ℕ, ◌+◌, List, [], ◌∷◌, length, ◌∙◌, ap}
use Rattle.host_model.specs.declared.host.Host.{Ghosts}
use Rattle.host_model.specs.declared.side.Side.{Side}
use Rattle.host_model.specs.declared.side.Side.TheVariants.{Left, Right}
use Rattle.host_model.specs.Hosts.{NowOf}
use Rattle.gate_journal.specs.OpenSide.{OpenSide}
use Rattle.pair_store.specs.Moments.{IsMaking}
use Rattle.pair_store.specs.Store.{PairStandsWithGate, store_made}
use Rattle.pair_store.proofs.Standing.{each_has_list}
use Rattle.row_store.specs.Rows.{HasPlace}

abbrev side_of : Side → ℕ → ℕ → OpenSide
side_of side generation place = record { side = side; generation = generation; place = place }

-- its fields are those of a pair that is just made
pub is_made : (store : OpenSide) (first : List ℕ) → store.side ≡ Left → store.generation ≡ 0 → store.place ≡ length first + 14 → store ≡ store_made first
is_made store first side generation place =
    ap (λ (s : Side). side_of s store.generation store.place) side ∙ ap (λ (n : ℕ). side_of Left n store.place) generation ∙ ap (λ (n : ℕ). side_of Left 0 n) place

module _ {H : Type 0} (h : Ghosts H) where
  -- before anything is written
  pub not_begun : (start : H) (first l r u : List ℕ) → NowOf h start l r u → IsMaking h start first l r u
  not_begun start first l r u now = (inl (now.0, (r, now.1, inl refl)), now.2)

  -- where its next record begins
  pub place_made : (host : H) (first : List ℕ) → ((s : Side) → h.images host s (h.reads host s)) → PairStandsWithGate h (store_made first) host (first ∷ []) → HasPlace (h.reads host Left) (h.reads host Right) (length first + 14)
  place_made host first image gated =
      (first ∷ [], each_has_list h (store_made first) host (first ∷ []) (h.reads host Left) (h.reads host Right) (image Left) (image Right) gated.stands, gated.stands.side.place)
