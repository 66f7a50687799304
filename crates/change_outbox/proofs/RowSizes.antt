-- How many bytes the rows of an outbox take.
use Rattle.std.proofs.Common.{◌≡◌, ◌+◌, ◌*◌, ◌<◌, ◌≤◌, ◌++◌, ◌∷◌, [], List, ℕ, Bool, true, false, map, length, length-append, get_or, take, drop, refl, ap, ◌∙◌, sym, arith}
use Rattle.std.specs.Prelude.{nat_lt, if◌then◌else◌}
use Rattle.std.proofs.lemmas.Bool.{lt-ltb}
use Rattle.std.proofs.lemmas.List.{map-append, take-append-drop, take_more}
use Rattle.plain_text.proofs.ShortNames.{slug_short}
use Rattle.row_batches.proofs.Sizes.{put_size, puts_size-append}
use Rattle.row_batches.specs.Batch.{puts_text}
use Rattle.change_outbox.specs.declared.change.Change.{Change}
use Rattle.change_outbox.specs.Contents.{HaveSlugs, numbered}
use Rattle.change_outbox.specs.Rows.{change_row, entry_rows, next_row, next_rows, number_text}

length-number_text : (n : ℕ) → length (number_text n) ≡ 8
unfolding number_text
length-number_text n = refl

next_size_at : (n : ℕ) (b : Bool) → nat_lt 1 n ≡ b → length (puts_text (next_rows n)) ≡ (if b then 16 else 0)
next_size_at n true is = ap (λ (t : Bool). length (puts_text (if t then next_row n ∷ [] else []))) is ∙ omega (arith, put_size (next_row n) [], length-number_text n)
next_size_at n false is = ap (λ (t : Bool). length (puts_text (if t then next_row n ∷ [] else []))) is

pub one_size : (n : ℕ) → 1 < n → 16 ≡ length (puts_text (next_rows n))
one_size n more = sym (next_size_at n true (lt-ltb 1 n more))

row_size : (c : Change) → length (puts_text (change_row c ∷ [])) ≡ 18 + length c.slug + length c.branch
row_size c = omega (arith, put_size (change_row c) [], length-number_text c.number, length-append c.slug c.branch)

-- one entry more
pub size_more : (cs : List Change) (i : ℕ) (c : Change) → i < length cs → c ≡ get_or cs i c
    → length (puts_text (map change_row (take (i + 1) cs))) ≡ length (puts_text (map change_row (take i cs))) + (18 + length c.slug + length c.branch)
size_more cs i c within is =
    ap (λ l. length (puts_text (map change_row l))) (take_more cs i c within)
    ∙ ap (λ l. length (puts_text l)) (map-append change_row (take i cs) (get_or cs i c ∷ []))
    ∙ puts_size-append (map change_row (take i cs)) (change_row (get_or cs i c) ∷ [])
    ∙ ap (λ d. length (puts_text (map change_row (take i cs))) + length (puts_text (change_row d ∷ []))) (sym is)
    ∙ ap (λ k. length (puts_text (map change_row (take i cs))) + k) (row_size c)

-- ---- entries of more than one outbox

-- numbers don't matter
numbered-size : (n : ℕ) (cs : List Change) → length (puts_text (entry_rows (numbered n cs))) ≡ length (puts_text (entry_rows cs))
numbered-size n [] = refl
numbered-size n (c ∷ cs) =
    omega (arith, put_size (change_row (record c { number = n })) (entry_rows (numbered (n + 1) cs)), put_size (change_row c) (entry_rows cs), length-number_text n, length-number_text c.number, numbered-size (n + 1) cs)

sizes-append : (cs ds : List Change) → length (puts_text (entry_rows (cs ++ ds))) ≡ length (puts_text (entry_rows cs)) + length (puts_text (entry_rows ds))
sizes-append cs ds = ap (λ rs. length (puts_text rs)) (map-append change_row cs ds) ∙ puts_size-append (entry_rows cs) (entry_rows ds)

-- the size of entries with changes behind them
pub appended_size : (n : ℕ) (cs ds all : List Change) → all ≡ cs ++ numbered n ds → length (puts_text (entry_rows cs)) + length (puts_text (entry_rows ds)) ≡ length (puts_text (entry_rows all))
appended_size n cs ds all is =
    ap (λ k. length (puts_text (entry_rows cs)) + k) (sym (numbered-size n ds)) ∙ sym (sizes-append cs (numbered n ds)) ∙ sym (ap (λ (l : List Change). length (puts_text (entry_rows l))) is)

-- the first entries and the others
pub divided_size : (k : ℕ) (cs : List Change) → length (puts_text (entry_rows cs)) ≡ length (puts_text (entry_rows (take k cs))) + length (puts_text (entry_rows (drop k cs)))
divided_size k cs = ap (λ (l : List Change). length (puts_text (entry_rows l))) (sym (take-append-drop k cs)) ∙ sizes-append (take k cs) (drop k cs)

-- each has at most 178 bytes
pub size_bound : (cs : List Change) → HaveSlugs cs → length (puts_text (entry_rows cs)) ≤ 178 * length cs
size_bound [] slugs = omega arith
size_bound (c ∷ cs) slugs =
    omega (arith, sizes-append (c ∷ []) cs, row_size c, slug_short c.slug slugs.0.slug, slug_short c.branch slugs.0.branch, size_bound cs slugs.1)
