-- How many bytes the rows of counts take.
use Rattle.std.proofs.Common.{◌≡◌, ◌+◌, ◌<◌, ◌++◌, ◌∷◌, [], List, ℕ, zero, suc, length, length-append, get_or, take, ap, ◌∙◌, sym, subst, arith}
use Rattle.std.proofs.lemmas.List.{map-append, take_more}
use Rattle.std.specs.List.{AllByRecursion}
use Rattle.row_batches.proofs.Sizes.{put_size, puts_text-append}
use Rattle.row_batches.specs.Batch.{puts_text}
use Rattle.event_counts.specs.declared.name_counts.NameCounts.{NameCounts}
use Rattle.event_counts.specs.Rows.{row_of, rows_of}
use Rattle.event_counts.specs.Sound.{IsSoundName}
use Rattle.event_counts.proofs.SameRows.{length-value}

pub sound_at : (ns : List NameCounts) (i : ℕ) (n : NameCounts) → AllByRecursion IsSoundName ns → i < length ns → n ≡ get_or ns i n → IsSoundName n
sound_at [] i n sound within is = absurd (omega (arith, within))
sound_at (m ∷ ms) zero n sound within is = subst IsSoundName (sym is) sound.0
sound_at (m ∷ ms) (suc i) n sound within is = sound_at ms i n sound.1 (omega (arith, within)) is

-- one name more
pub size_more : (ns : List NameCounts) (i : ℕ) (n : NameCounts) → i < length ns → n ≡ get_or ns i n → IsSoundName n
    → length (puts_text (rows_of (take (i + 1) ns))) ≡ length (puts_text (rows_of (take i ns))) + (736 + length n.name)
size_more ns i n within is sound =
    ap (λ l. length (puts_text (rows_of l))) (take_more ns i n within)
    ∙ ap (λ l. length (puts_text l)) (map-append row_of (take i ns) (get_or ns i n ∷ []))
    ∙ ap length (puts_text-append (rows_of (take i ns)) (row_of (get_or ns i n) ∷ []))
    ∙ ap (λ m. length (puts_text (rows_of (take i ns)) ++ puts_text (row_of m ∷ []))) (sym is)
    ∙ length-append (puts_text (rows_of (take i ns))) (puts_text (row_of n ∷ []))
    ∙ ap (λ k. length (puts_text (rows_of (take i ns))) + k) (omega (arith, put_size (row_of n) [], length-value n sound))
