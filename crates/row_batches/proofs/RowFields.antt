-- The fields of a row are read in one way alone.
use Rattle.std.proofs.Common.{◌≡◌, ◌<◌, ◌^◌, ◌++◌, List, ℕ, length, ◌∙◌, sym, append_assoc, w16, w32}
use Rattle.std.specs.Int.{to_be_bytes}
use Rattle.row_batches.specs.declared.store_row.StoreRow.{StoreRow}
use Rattle.row_batches.specs.Batches.{short_field, long_field, fields, HasRoom}
use Rattle.row_batches.proofs.Fields.{same_field, two_sized, two_tell, four_sized, four_tell}

pub same_short : (f g x y : List ℕ) → length f < 2 ^ 16 → length g < 2 ^ 16 → short_field f ++ x ≡ short_field g ++ y → (f ≡ g) × (x ≡ y)
unfolding short_field
same_short f g x y f_in g_in same = same_field (to_be_bytes w16) 2 (2 ^ 16) two_sized two_tell f g x y f_in g_in same

pub same_long : (f g x y : List ℕ) → length f < 2 ^ 32 → length g < 2 ^ 32 → long_field f ++ x ≡ long_field g ++ y → (f ≡ g) × (x ≡ y)
unfolding long_field
same_long f g x y f_in g_in same = same_field (to_be_bytes w32) 4 (2 ^ 32) four_sized four_tell f g x y f_in g_in same

pub same_row : (r s : StoreRow) (x y : List ℕ) → HasRoom r → HasRoom s → fields r ++ x ≡ fields s ++ y → (r ≡ s) × (x ≡ y)
same_row r s x y r_in s_in same =
    let whole : short_field r.key ++ (long_field r.value ++ x) ≡ short_field s.key ++ (long_field s.value ++ y) =
    sym (append_assoc (short_field r.key) (long_field r.value) x) ∙ same ∙ append_assoc (short_field s.key) (long_field s.value) y in
    let keys = same_short r.key s.key (long_field r.value ++ x) (long_field s.value ++ y) r_in.key s_in.key whole in
    let values = same_long r.value s.value x y r_in.value s_in.value keys.1 in
    (λ i. record { key = keys.0 i; value = values.0 i }, values.1)
