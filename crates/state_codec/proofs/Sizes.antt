-- How many bytes rows are put in.
use Rattle.std.proofs.Common.{◌≡◌, ◌+◌, ◌<◌, ◌≤◌, ◌^◌, ◌++◌, ◌∷◌, [], List, ℕ, map, length, get_or, take, refl, ap, ◌∙◌, sym, arith, length-append}
use Rattle.std.proofs.lemmas.List.{map-append, take_more}
use Rattle.std.specs.Option.{is_some}
use Rattle.row_batches.proofs.Sizes.{put_size, puts_text-append, puts_size-append}
use Rattle.row_batches.specs.Batch.{batch_text, puts_text, whole_of}
use Rattle.uuid.proofs.TextLemmas.{by_index_length}
use Rattle.recipe_reader.specs.declared.recipe.Recipe.{Recipe}
use Rattle.enrol_states.specs.declared.state.State.{State}
use Rattle.state_codec.specs.Forms.{old_encoding}
use Rattle.state_values.specs.Values.{hyphenated, participation_byte, bit}
use Rattle.state_codec.specs.Sizes.{recipes_size, rows_size, slugs_size}
use Rattle.state_codec.specs.Sound.{IsSound}
use Rattle.state_codec.specs.Encoding.{row, key_row, recipe_row, status_row, status_rows, last_rows, pending_recipes, first_rows, later_rows, rows_with, encoding}
use Rattle.state_values.specs.Statuses.{number}
use Rattle.row_batches.specs.declared.store_row.StoreRow.{StoreRow}
use Rattle.state_values.proofs.ValuesRead.{length-number}

pub length-hyphenated : (id : List ℕ) → length (hyphenated id) ≡ 36
unfolding hyphenated
length-hyphenated id = by_index_length 36 _

-- one item more
puts_more : {A : Type 0} (f : A → StoreRow) (xs : List A) (i : ℕ) (x : A) → i < length xs → x ≡ get_or xs i x → puts_text (map f (take (i + 1) xs)) ≡ puts_text (map f (take i xs)) ++ puts_text (f x ∷ [])
puts_more f xs i x within is =
    ap (λ l. puts_text (map f l)) (take_more xs i x within)
    ∙ ap puts_text (map-append f (take i xs) (get_or xs i x ∷ []))
    ∙ puts_text-append (map f (take i xs)) (f (get_or xs i x) ∷ [])
    ∙ ap (λ y. puts_text (map f (take i xs)) ++ puts_text (f y ∷ [])) (sym is)

pub size_more : {A : Type 0} (f : A → StoreRow) (xs : List A) (i : ℕ) (x : A) → i < length xs → x ≡ get_or xs i x
    → length (puts_text (map f (take (i + 1) xs))) ≡ length (puts_text (map f (take i xs))) + (7 + length (f x).key + length (f x).value)
size_more f xs i x within is =
    let some = puts_text (map f (take i xs)) in
    ap length (puts_more f xs i x within is) ∙ length-append some (puts_text (f x ∷ [])) ∙ ap (λ n. length some + n) (omega (arith, put_size (f x) []))

-- ---- the encoding

status_rows_size : (byte : ℕ) (s : State) → length (puts_text (status_rows byte s)) ≡ 18 + length (puts_text (map status_row s.rows))
status_rows_size byte s =
    let rows = map status_row s.rows in
    omega (arith, put_size (row (112 ∷ []) (byte ∷ [])) (row (113 ∷ []) (bit (is_some s.pending) ∷ []) ∷ rows), put_size (row (113 ∷ []) (bit (is_some s.pending) ∷ [])) rows)

last_rows_size : (s : State) → length (puts_text (last_rows s)) ≡ 40 + length s.version
last_rows_size s =
    omega (arith, put_size (row (116 ∷ []) (number s.installed)) (row (117 ∷ []) (number s.updated) ∷ row (118 ∷ []) s.version ∷ []), put_size (row (117 ∷ []) (number s.updated)) (row (118 ∷ []) s.version ∷ []), put_size (row (118 ∷ []) s.version) [], length-number s.installed, length-number s.updated)

-- whatever the letter of their keys is
recipe_rows_size : (tag : ℕ) (rs : List Recipe) → length (puts_text (map (recipe_row (tag ∷ [])) rs)) ≡ recipes_size rs
recipe_rows_size tag [] = refl
recipe_rows_size tag (r ∷ rs) = omega (arith, put_size (recipe_row (tag ∷ []) r) (map (recipe_row (tag ∷ [])) rs), recipe_rows_size tag rs)

pub length-with : (byte : ℕ) (s : State) → length (batch_text (whole_of (rows_with byte s)))
    ≡ 103 + length (puts_text (map (key_row (99 ∷ [])) s.coenrolling)) + length (puts_text (map (key_row (111 ∷ [])) s.opted_out)) + length (puts_text (map status_row s.rows)) + length s.version
    + (recipes_size s.live + recipes_size (pending_recipes s.pending))
unfolding rows_with first_rows later_rows
length-with byte s =
    let c = map (key_row (99 ∷ [])) s.coenrolling in
    let i = row (105 ∷ []) (hyphenated s.id) in
    let l = map (recipe_row (108 ∷ [])) s.live in
    let n = map (recipe_row (110 ∷ [])) (pending_recipes s.pending) in
    let o = map (key_row (111 ∷ [])) s.opted_out in
    let last = status_rows byte s ++ last_rows s in
    omega (arith, puts_size-append c (i ∷ (l ++ (n ++ (o ++ last)))), put_size i (l ++ (n ++ (o ++ last))), length-hyphenated s.id, puts_size-append l (n ++ (o ++ last)), puts_size-append n (o ++ last), recipe_rows_size 108 s.live, recipe_rows_size 110 (pending_recipes s.pending), puts_size-append o last, puts_size-append (status_rows byte s) (last_rows s), status_rows_size byte s, last_rows_size s)

pub length-encoding : (s : State) → length (encoding s)
    ≡ 103 + length (puts_text (map (key_row (99 ∷ [])) s.coenrolling)) + length (puts_text (map (key_row (111 ∷ [])) s.opted_out)) + length (puts_text (map status_row s.rows)) + length s.version
    + (recipes_size s.live + recipes_size (pending_recipes s.pending))
unfolding encoding
length-encoding s = length-with (participation_byte s) s

-- rows are as long whatever the byte of participation is
pub length-byte : (byte other : ℕ) (s : State) → length (batch_text (whole_of (rows_with byte s))) ≡ length (batch_text (whole_of (rows_with other s)))
length-byte byte other s = length-with byte s ∙ sym (length-with other s)

pub length-old : (s : State) → length (old_encoding s) ≡ length (encoding s)
unfolding old_encoding encoding
length-old s = length-byte (bit s.experiments) (participation_byte s) s

-- the parts of a sound state are short
pub live_short : (s : State) → IsSound s → recipes_size s.live ≤ 2 ^ 24
live_short s is = omega (arith, length-encoding s, is.size)

pub pending_short : (s : State) → IsSound s → recipes_size (pending_recipes s.pending) ≤ 2 ^ 24
pending_short s is = omega (arith, length-encoding s, is.size)

pub opted_out_short : (s : State) → IsSound s → slugs_size s.opted_out ≤ 2 ^ 24
opted_out_short s is = omega (arith, length-encoding s, is.size)

pub rows_short : (s : State) → IsSound s → rows_size s.rows ≤ 2 ^ 24
rows_short s is = omega (arith, length-encoding s, is.size)
