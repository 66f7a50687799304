-- Which rows are those of no counts.
use Rattle.std.proofs.Common.{◌≡◌, ℕ, zero, suc, ◌<◌, List, [], ◌∷◌, length, get_or, refl, sym, ap, ◌∙◌, subst, arith}
use Rattle.std.specs.List.{AllByRecursion}
use Rattle.row_batches.specs.declared.store_row.StoreRow.{StoreRow}
use Rattle.event_counts.specs.declared.name_counts.NameCounts.{NameCounts}
use Rattle.event_counts.specs.Rows.{row_of, rows_of}
use Rattle.event_counts.specs.Sound.{AreInOrder, IsSoundName, IsSound}
use Rattle.event_counts.proofs.SameRows.{rows_same}

length-rows_of : (ns : List NameCounts) → length (rows_of ns) ≡ length ns
length-rows_of [] = refl
length-rows_of (n ∷ ns) = ap suc (length-rows_of ns)

-- more than 64 rows
pub too_many : (rows : List StoreRow) → 64 < length rows → (ns : List NameCounts) → IsSound ns → rows_of ns ≡ rows → ⊥
too_many rows many ns sound same =
    let len : length (rows_of ns) ≡ length rows = ap (λ (l : List StoreRow). length l) same in
    omega (arith, len, length-rows_of ns, sound.most, many)

-- rows of names that aren't in order
pub not_in_order : (rows : List StoreRow) (read : List NameCounts) → AllByRecursion IsSoundName read → rows_of read ≡ rows → (AreInOrder read → ⊥) → (ns : List NameCounts) → IsSound ns → rows_of ns ≡ rows → ⊥
not_in_order rows read sound is out ns other same =
    out (subst AreInOrder (rows_same ns read other.names sound (same ∙ sym is)) other.order)

none_at : (ns : List NameCounts) (i : ℕ) (d row : StoreRow) → AllByRecursion IsSoundName ns → i < length (rows_of ns) → get_or (rows_of ns) i d ≡ row → ((n : NameCounts) → IsSoundName n → row_of n ≡ row → ⊥) → ⊥
none_at [] i d row sound less is none = absurd (omega (arith, less))
none_at (n ∷ ns) zero d row sound less is none = none n sound.0 is
none_at (n ∷ ns) (suc i) d row sound less is none = none_at ns i d row sound.1 (omega (arith, less)) is none

-- a row that is that of no name
pub no_row_at : (rows : List StoreRow) (i : ℕ) (d row : StoreRow) → i < length rows → get_or rows i d ≡ row → ((n : NameCounts) → IsSoundName n → row_of n ≡ row → ⊥)
    → (ns : List NameCounts) → AllByRecursion IsSoundName ns → rows_of ns ≡ rows → ⊥
no_row_at rows i d row less is none ns sound same =
    none_at ns i d row sound
    (subst (λ (l : List StoreRow). i < length l) (sym same) less)
    (ap (λ (l : List StoreRow). get_or l i d) same ∙ is) none
