-- Rows in the order of their keys: those of items that are in order, and one list behind another.
use Rattle.std.proofs.Common.{Less, ◌≡◌, ◌++◌, ◌∷◌, [], List, ℕ, map, ◌∙◌}
use Rattle.std.specs.List.{AllByRecursion}
use Rattle.std.specs.List.Sorted.{IsStrictlySortedBy}
use Rattle.row_batches.specs.Rows.{AreRows, Rise, key_cmp, key_of}
use Rattle.row_batches.specs.declared.store_row.StoreRow.{StoreRow}
use Rattle.row_batches.proofs.Joining.{Precede}

-- the key is below those of all these rows
abbrev pub IsBelow : List ℕ → List StoreRow → Type 0
IsBelow key rows = AllByRecursion (λ t. key_cmp key t ≡ Less) (map key_of rows)

pub below_append : (key : List ℕ) (rs ss : List StoreRow) → IsBelow key rs → IsBelow key ss → IsBelow key (rs ++ ss)
below_append key [] ss r_are s_are = s_are
below_append key (r ∷ rs) ss r_are s_are = (r_are.0, below_append key rs ss r_are.1 s_are)

pub below_map : {A : Type 0} (key : List ℕ) (f : A → StoreRow) (xs : List A) → ((x : A) → key_cmp key (f x).key ≡ Less) → IsBelow key (map f xs)
below_map key f [] each = tt
below_map key f (x ∷ xs) each = (each x, below_map key f xs each)

pub all_below : {A : Type 0} (f : A → StoreRow) (xs : List A) (behind : List StoreRow) → ((x : A) → IsBelow (f x).key behind) → Precede (map f xs) behind
all_below f [] behind each = tt
all_below f (x ∷ xs) behind each = (each x, all_below f xs behind each)

pub rise_append : (rs ss : List StoreRow) → AreRows rs → AreRows ss → Precede rs ss → AreRows (rs ++ ss)
unfolding IsStrictlySortedBy
rise_append [] ss r_rise s_rise below = s_rise
rise_append (r ∷ rs) ss r_rise s_rise below = (below_append r.key rs ss r_rise.0 below.0, rise_append rs ss r_rise.1 s_rise below.1)

-- keys in the order of the items' texts
module _ {A : Type 0} (text : A → List ℕ) (f : A → StoreRow) (same : (x y : A) → key_cmp (f x).key (f y).key ≡ key_cmp (text x) (text y)) where
  pub above_section : (x : A) (xs : List A) → AllByRecursion (λ t. key_cmp (text x) t ≡ Less) (map text xs) → IsBelow (f x).key (map f xs)
  above_section x [] above = tt
  above_section x (y ∷ ys) above = (same x y ∙ above.0, above_section x ys above.1)

  pub rise_section : (xs : List A) → Rise (map text xs) → AreRows (map f xs)
  unfolding IsStrictlySortedBy
  rise_section [] rise = tt
  rise_section (x ∷ xs) rise = (above_section x xs rise.0, rise_section xs rise.1)
