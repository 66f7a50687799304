-- How many bytes fields and changes have.
use Rattle.std.proofs.Common.{Less, Equal, Greater, ◌≡◌, ◌+◌, ◌≤◌, ◌++◌, ◌∷◌, [], List, ℕ, Bool, true, false, map, length, arith, length-append, ap, ◌∙◌, w16, w32}
use Rattle.std.specs.Int.{to_be_bytes}
use Rattle.std.specs.Prelude.{bytes_eq, if◌then◌else◌}
use Rattle.std.specs.Ordering.{match_ordering}
use Rattle.std.proofs.lemmas.List.{map-append}
use Rattle.row_batches.specs.Batch.{changes_text, puts_text, batch_text, whole_of}
use Rattle.row_batches.specs.Batches.{short_field, long_field, fields}
use Rattle.row_batches.specs.Between.{put_where_differs, changes_from, changes_between, between}
use Rattle.row_batches.specs.Rows.{key_cmp}
use Rattle.row_batches.specs.declared.change.RowChange.{RowChange}
use Rattle.row_batches.specs.declared.change.RowChange.TheVariants.{Put, Delete}
use Rattle.row_batches.specs.declared.store_row.StoreRow.{StoreRow}
use Rattle.row_batches.proofs.Fields.{two_sized, four_sized}
use Rattle.row_batches.proofs.Texts.{changes_text-append}

pub short_size : (field : List ℕ) → length (short_field field) ≡ length field + 2
unfolding short_field
short_size field = omega (arith, length-append (to_be_bytes w16 (length field)) field, two_sized (length field))

pub long_size : (field : List ℕ) → length (long_field field) ≡ length field + 4
unfolding long_field
long_size field = omega (arith, length-append (to_be_bytes w32 (length field)) field, four_sized (length field))

pub fields_size : (r : StoreRow) → length (fields r) ≡ length r.key + length r.value + 6
fields_size r = omega (arith, length-append (short_field r.key) (long_field r.value), short_size r.key, long_size r.value)

-- ---- puts of rows

pub put_size : (r : StoreRow) (rs : List StoreRow) → length (puts_text (r ∷ rs)) ≡ 7 + length r.key + length r.value + length (puts_text rs)
put_size r rs = omega (arith, length-append (fields r) (puts_text rs), fields_size r)

pub puts_text-append : (rs ss : List StoreRow) → puts_text (rs ++ ss) ≡ puts_text rs ++ puts_text ss
puts_text-append rs ss = ap changes_text (map-append Put rs ss) ∙ changes_text-append (map Put rs) (map Put ss)

pub puts_size-append : (rs ss : List StoreRow) → length (puts_text (rs ++ ss)) ≡ length (puts_text rs) + length (puts_text ss)
puts_size-append rs ss = ap length (puts_text-append rs ss) ∙ length-append (puts_text rs) (puts_text ss)

-- ---- the batch between two maps is no longer than both

abbrev rest_of : List StoreRow → List StoreRow → List RowChange
rest_of olds more = changes_between olds more

delete_size : (key : List ℕ) (cs : List RowChange) → length (changes_text (Delete key ∷ cs)) ≡ 3 + length key + length (changes_text cs)
delete_size key cs = omega (arith, length-append (short_field key) (changes_text cs), short_size key)

change_size : (new : StoreRow) (cs : List RowChange) → length (changes_text (Put new ∷ cs)) ≡ 7 + length new.key + length new.value + length (changes_text cs)
change_size new cs = omega (arith, length-append (fields new) (changes_text cs), fields_size new)

where_size : (b : Bool) (new : StoreRow) (cs : List RowChange) → length (changes_text ((if b then [] else Put new ∷ []) ++ cs)) ≤ 7 + length new.key + length new.value + length (changes_text cs)
where_size true new cs = omega arith
where_size false new cs = omega (arith, change_size new cs)

size_from : (old : StoreRow) (olds news : List StoreRow) → ((more : List StoreRow) → length (changes_text (rest_of olds more)) ≤ length (puts_text olds) + length (puts_text more))
    → length (changes_text (changes_from old (λ more. rest_of olds more) news)) ≤ length (puts_text (old ∷ olds)) + length (puts_text news)
size_from old olds [] rest = omega (arith, delete_size old.key (rest_of olds []), put_size old olds, rest [])
size_from old olds (new ∷ news) rest =
    elim (key_cmp old.key new.key) as (λ o. length (changes_text (match_ordering o (Delete old.key ∷ rest_of olds (new ∷ news)) (put_where_differs old new ++ rest_of olds news) (Put new ∷ changes_from old (λ more. rest_of olds more) news)))
    ≤ length (puts_text (old ∷ olds)) + length (puts_text (new ∷ news))) [
      | Less ↦ omega (arith, delete_size old.key (rest_of olds (new ∷ news)), put_size old olds, rest (new ∷ news))
      | Equal ↦ omega (arith, where_size (bytes_eq old.value new.value) new (rest_of olds news), put_size old olds, put_size new news, rest news)
      | Greater ↦ omega (arith, change_size new (changes_from old (λ more. rest_of olds more) news), put_size new news, size_from old olds news rest)
    ]

changes_short : (olds news : List StoreRow) → length (changes_text (changes_between olds news)) ≤ length (puts_text olds) + length (puts_text news)
changes_short [] news = omega arith
changes_short (old ∷ olds) news = size_from old olds news (λ more. changes_short olds more)

pub between_short : (olds news : List StoreRow) → length (batch_text (between olds news)) ≤ length (batch_text (whole_of olds)) + length (batch_text (whole_of news))
between_short olds news = omega (arith, changes_short olds news)
