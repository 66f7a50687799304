-- Rows that are added behind others.
use Rattle.std.proofs.Common.{◌≡◌, ◌++◌, ◌∷◌, [], List, ◌∙◌, ap, append_assoc}
use Rattle.row_batches.specs.declared.store_row.StoreRow.{StoreRow}

-- rows, and the rows that follow them
pub follow : {A : Type 0} (rs rest old : List A) {new all : List A} → new ≡ old ++ rs → all ≡ new ++ rest → all ≡ old ++ (rs ++ rest)
follow rs rest old {new} {all} is rest_is = rest_is ∙ ap (λ l. l ++ rest) is ∙ append_assoc old rs rest

-- a row of its own value, and the rows that follow it
pub row_then : (r : StoreRow) (rest old : List StoreRow) (q : StoreRow) {new all : List StoreRow} → new ≡ old ++ q ∷ [] → q ≡ r → all ≡ new ++ rest → all ≡ old ++ r ∷ rest
row_then r rest old q {new} {all} is same rest_is = follow (r ∷ []) rest old (is ∙ ap (λ p. old ++ p ∷ []) same) rest_is
