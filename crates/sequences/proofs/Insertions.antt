-- A text is put among texts that rise.
use Rattle.std.proofs.Common.{Less, Equal, Greater, ◌≡◌, ◌∷◌, [], List, ℕ, refl, ap}
use Rattle.std.specs.BTreeSet.{insert_key}
use Rattle.std.specs.Ordering.{match_ordering}
use Rattle.sequences.specs.Order.{text_cmp, AreAbove}

-- one below all others comes first
pub insert_first : (s : List ℕ) (ts : List (List ℕ)) → AreAbove s ts → insert_key text_cmp ts s ≡ s ∷ ts
insert_first s [] above = refl
insert_first s (t ∷ ts) above = ap (λ o. match_ordering o (s ∷ t ∷ ts) (t ∷ ts) (t ∷ insert_key text_cmp ts s)) above.0

-- what is below all stays below one more that is above it
pub above_insert : (a s : List ℕ) (ts : List (List ℕ)) → text_cmp a s ≡ Less → AreAbove a ts → AreAbove a (insert_key text_cmp ts s)
above_insert a s [] less above = (less, tt)
above_insert a s (t ∷ ts) less above =
    elim (text_cmp s t) as (λ o. AreAbove a (match_ordering o (s ∷ t ∷ ts) (t ∷ ts) (t ∷ insert_key text_cmp ts s))) [
      | Less ↦ (less, above)
      | Equal ↦ above
      | Greater ↦ (above.0, above_insert a s ts less above.1)
    ]
