-- What is met while a pair is made, and its bytes then.
use Rattle.std.proofs.Common.{◌≡◌, inl, inr, ⊎_elim, ℕ, suc, ◌+◌, List, [], ◌∷◌, ◌++◌, length, drop, ◌∙◌, ap, subst, arith}
use Rattle.std.proofs.lemmas.List.{drop-drop}
use Rattle.host_model.specs.declared.host.Host.{Ghosts}
use Rattle.host_model.specs.declared.side.Side.TheVariants.{Left, Right}
use Rattle.host_model.specs.Hosts.{IsDurable, KeepsAll, MeetsAll, OnSideOf}
use Rattle.host_model.specs.Images.{Torn, IsAfter}
use Rattle.host_model.proofs.Meeting.{met_weaker, then_met}
use Rattle.gate_journal.specs.Journal.{IsShutOrHas, SameButFirst}
use Rattle.gate_journal.specs.Records.{opened, made_on}
use Rattle.pair_store.specs.Moments.{IsMaking}

-- a side that is closed first has the same bytes behind the journal
pub made_closed : (generation : ℕ) (payload image : List ℕ) → made_on generation payload (0 ∷ drop 1 image) ≡ made_on generation payload image
made_closed generation payload image =
    let n = length payload + 14 in
    let one : length payload + 15 ≡ suc n = omega arith in
    let same : drop (length payload + 15) (0 ∷ drop 1 image) ≡ drop (length payload + 15) image =
    ap (λ (i : ℕ). drop i (0 ∷ drop 1 image)) one ∙ drop-drop n 1 image ∙ ap (λ (i : ℕ). drop i image) (omega arith) in
    ap (λ (l : List ℕ). opened generation (payload ∷ []) ++ 0 ∷ l) same

module _ {H : Type 0} (h : Ghosts H) where
  -- two facts of the moments of one run
  pub met_both : (old new : H) (P Q : List ℕ → List ℕ → List ℕ → Type 0) → MeetsAll h old new P → MeetsAll h old new Q → MeetsAll h old new (λ l r u. P l r u × Q l r u)
  met_both old new P Q a b = record {
    later = a.later;
    each = λ l r u met. (a.each l r u met, b.each l r u met);
    before = λ t l r u le met. ⊎_elim (λ past. inl past) (λ p. ⊎_elim (λ past. inl past) (λ q. inr (p, q)) (b.before t l r u le met)) (a.before t l r u le met);
  }

  module _ (start : H) (first : List ℕ) where
    -- the right side is closed
    pub right_met : (one : H) → MeetsAll h start one (OnSideOf h start Right (SameButFirst (h.images start Right))) → MeetsAll h start one (IsMaking h start first)
    right_met one run = met_weaker h.moment h.might start one _ _ run (λ l r u met. (inl (met.1, met.0), met.2))

    -- then the left one
    module _ (one : H) (kept_left : KeepsAll h Left start one) (right : h.reads one Right ≡ 0 ∷ drop 1 (h.reads start Right)) (only_right : IsDurable h one Right) where
      pub left_met : (two : H) → MeetsAll h start one (IsMaking h start first) → MeetsAll h one two (OnSideOf h one Left (SameButFirst (h.images one Left))) → MeetsAll h start two (IsMaking h start first)
      left_met two so_far run = then_met h.moment h.might start one two _ _ _ so_far run (λ l r u met. met) (λ l r u met. (
        inr (inl ((met.0.0, (kept_left.images_same met.0.0).0 met.0.1, met.0.2), only_right r met.1 ∙ right)),
        met.2 ∙ kept_left.text,
      ))

      -- and then its journal is made
      module _ (two : H) (kept_right : KeepsAll h Right one two) (left : h.reads two Left ≡ 0 ∷ drop 1 (h.reads one Left)) (only_left : IsDurable h two Left) where
        closed_left : h.reads two Left ≡ 0 ∷ drop 1 (h.reads start Left)
        closed_left = left ∙ ap (λ (c : List ℕ). 0 ∷ drop 1 c) kept_left.reads_same

        pub journal_met : (new : H) → MeetsAll h start two (IsMaking h start first) → MeetsAll h two new (OnSideOf h two Left (IsShutOrHas 0 first))
            → MeetsAll h two new (OnSideOf h two Left (IsAfter (Torn 0 (length first + 15)) (h.images two Left))) → MeetsAll h start new (IsMaking h start first)
        journal_met new so_far run range = then_met h.moment h.might start two new _ _ _ so_far (met_both two new _ _ run range) (λ l r u met. met) (λ l r u met. (
          inr (inr (record {
            range = subst (λ (d : List ℕ). Torn 0 (length first + 15) d l) (only_left met.1.0.0 met.1.0.1 ∙ closed_left) met.1.0.2;
            left = met.0.0;
            right = only_right r ((kept_right.images_same r).0 met.0.1) ∙ right;
          })),
          met.0.2 ∙ kept_right.text ∙ kept_left.text,
        ))

        pub journal_bytes : (new : H) → h.reads new Left ≡ made_on 0 first (h.reads two Left) → h.reads new Left ≡ made_on 0 first (h.reads start Left)
        journal_bytes new is = is ∙ ap (λ (c : List ℕ). made_on 0 first c) closed_left ∙ made_closed 0 first (h.reads start Left)
