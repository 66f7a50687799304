-- The rows of a state that isn't encoded in 4 GiB have room in a batch.
use Rattle.std.proofs.Common.{◌<◌, ◌≤◌, ◌^◌, ◌++◌, ◌∷◌, [], List, ℕ, Option, Some, None, map, length, All, IsTrue, arith}
use Rattle.std.specs.Prelude.{⊤}
use Rattle.std.proofs.lemmas.List.Elements.{All-head, All-tail}
use Rattle.plain_text.specs.Names.{is_name}
use Rattle.recipe_reader.specs.Payloads.{AreValid}
use Rattle.recipe_reader.specs.declared.recipe.Recipe.{Recipe}
use Rattle.enrol_states.specs.Consistent.{IsConsistent, ArePending}
use Rattle.enrol_states.specs.Statuses.{IsSlug}
use Rattle.enrol_states.specs.declared.state.State.{State}
use Rattle.enrol_states.specs.declared.state.Row.{Row}
use Rattle.row_batches.specs.Batch.{batch_text, puts_text, whole_of}
use Rattle.row_batches.specs.Batches.{HaveRoom}
use Rattle.state_values.specs.Values.{participation_byte}
use Rattle.state_codec.specs.Encoding.{key_row, recipe_row, status_row, status_rows, last_rows, pending_recipes, first_rows, later_rows, rows_with, rows_of, encoding}
use Rattle.state_codec.specs.Sound.{IsSound}
use Rattle.row_batches.specs.declared.store_row.StoreRow.{StoreRow}
use Rattle.state_values.proofs.Names.{slug_short, name_short, recipe_slug}
use Rattle.row_batches.proofs.Sizes.{put_size}

abbrev pub HaveShortKeys : List StoreRow → Type 0
HaveShortKeys [] = ⊤
HaveShortKeys (r ∷ rs) = (length r.key ≤ 81) × HaveShortKeys rs

pub short-append : (rs ss : List StoreRow) → HaveShortKeys rs → HaveShortKeys ss → HaveShortKeys (rs ++ ss)
short-append [] ss r_are s_are = s_are
short-append (r ∷ rs) ss r_are s_are = (r_are.0, short-append rs ss r_are.1 s_are)

short-map : {A : Type 0} (P : A → Type 0) (f : A → StoreRow) (xs : List A) → ((x : A) → P x → length (f x).key ≤ 81) → All P xs → HaveShortKeys (map f xs)
short-map P f [] each all = tt
short-map P f (x ∷ xs) each all = (each x (All-head P x xs all), short-map P f xs each (All-tail P x xs all))

recipes_short : (tag : ℕ) (rs : List Recipe) → AreValid rs → HaveShortKeys (map (recipe_row (tag ∷ [])) rs)
recipes_short tag [] valid = tt
recipes_short tag (r ∷ rs) valid = (omega (arith, slug_short r.slug (recipe_slug r valid.0)), recipes_short tag rs valid.1)

pub pending_valid : (p : Option (List Recipe)) → ArePending p → AreValid (pending_recipes p)
pending_valid None are = tt
pending_valid (Some rs) are = are.valid

pub pending_limit : (p : Option (List Recipe)) → ArePending p → length (pending_recipes p) ≤ 2000
pending_limit None are = omega arith
pending_limit (Some rs) are = are.limit

pub first_short : (s : State) → IsConsistent s → HaveShortKeys (first_rows s)
unfolding first_rows
first_short s is = short-map (λ name. IsTrue (is_name name)) (key_row (99 ∷ [])) s.coenrolling (λ name is_one. omega (arith, name_short name is_one)) is.coenrolling_names

pub later_short : (byte : ℕ) (s : State) → IsConsistent s → HaveShortKeys (later_rows byte s)
unfolding later_rows
later_short byte s is =
    let last : HaveShortKeys (last_rows s) = (omega arith, (omega arith, (omega arith, tt))) in
    let statuses : HaveShortKeys (status_rows byte s) = (omega arith, (omega arith, short-map (λ (w : Row). IsSlug w.slug) status_row s.rows (λ w slug. omega (arith, slug_short w.slug slug)) is.row_slugs)) in
    let opted_out = short-map IsSlug (key_row (111 ∷ [])) s.opted_out (λ slug is_one. omega (arith, slug_short slug is_one)) is.opted_out_slugs in (
      omega arith,
      short-append (map (recipe_row (108 ∷ [])) s.live) _ (recipes_short 108 s.live is.live.valid)
          (short-append (map (recipe_row (110 ∷ [])) (pending_recipes s.pending)) _ (recipes_short 110 (pending_recipes s.pending) (pending_valid s.pending is.pending))
          (short-append (map (key_row (111 ∷ [])) s.opted_out) _ opted_out (short-append (status_rows byte s) (last_rows s) statuses last))),
    )

keys_short : (byte : ℕ) (s : State) → IsConsistent s → HaveShortKeys (rows_with byte s)
unfolding rows_with
keys_short byte s is = short-append (first_rows s) (later_rows byte s) (first_short s is) (later_short byte s is)

pub room_of : (rs : List StoreRow) → HaveShortKeys rs → length (puts_text rs) < 2 ^ 32 → HaveRoom rs
room_of [] short fits = tt
room_of (r ∷ rs) short fits = (record { key = omega (arith, short.0); value = omega (arith, put_size r rs) }, room_of rs short.1 (omega (arith, put_size r rs)))

puts_fit : (rows : List StoreRow) → length (batch_text (whole_of rows)) < 2 ^ 32 → length (puts_text rows) < 2 ^ 32
puts_fit rows fits = omega (arith, fits)

pub with_room : (byte : ℕ) (s : State) → IsConsistent s → length (batch_text (whole_of (rows_with byte s))) < 2 ^ 32 → HaveRoom (rows_with byte s)
with_room byte s is fits = room_of (rows_with byte s) (keys_short byte s is) (puts_fit (rows_with byte s) fits)

pub rows_room : (s : State) → IsConsistent s → length (encoding s) < 2 ^ 32 → HaveRoom (rows_of s)
unfolding encoding
rows_room s is fits = with_room (participation_byte s) s is fits

pub sound_room : (s : State) → IsSound s → HaveRoom (rows_of s)
sound_room s is = rows_room s is.consistent (omega (arith, is.size))
