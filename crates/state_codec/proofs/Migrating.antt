-- The batch from the old form of a state's rows to its rows is a put of the row `p`.
use Rattle.std.proofs.Common.{◌≡◌, ◌+◌, ◌*◌, ◌++◌, ◌∷◌, [], List, ℕ, Bool, true, false, map, length, refl, sym, ap, ◌∙◌, subst, arith}
use Rattle.std.specs.Prelude.{bytes_eq}
use Rattle.std.specs.List.Sorted.{IsStrictlySortedBy}
use Rattle.std.specs.Option.{is_some}
use Rattle.std.specs.Cmp.Lexicographic.{bytes_decides, nat_list_cmp_total}
use Rattle.std.proofs.lemmas.Cmp.{tied_itself}
use Rattle.enrol_states.specs.Consistent.{IsConsistent}
use Rattle.enrol_states.specs.declared.state.State.{State}
use Rattle.row_batches.specs.Batch.{ChangeList, IsBatch, applied, batch_text, puts_text, whole_of}
use Rattle.row_batches.specs.Between.{changes_between, between}
use Rattle.row_batches.specs.declared.change.RowChange.{RowChange}
use Rattle.row_batches.specs.declared.change.RowChange.TheVariants.{Put}
use Rattle.row_batches.specs.declared.store_row.StoreRow.{StoreRow}
use Rattle.row_batches.proofs.Sizes.{put_size}
use Rattle.row_batches.proofs.Turns as turns
use Rattle.row_batches.proofs.Walks.{applied_between}
use Rattle.state_codec.specs.Forms.{old_rows}
use Rattle.state_values.specs.Values.{bit, hyphenated, participation_byte}
use Rattle.state_codec.specs.Encoding.{row, key_row, recipe_row, status_row, last_rows, pending_recipes, first_rows, later_rows, rows_with, rows_of, encoding}
use Rattle.state_codec.proofs.Joined.{between_itself}
use Rattle.state_codec.proofs.KeyOrder.{from_statuses, from_opt_outs, from_pending, from_live, from_id, with_rise}

-- ---- the batch of one put

abbrev byte_row : ℕ → StoreRow
byte_row byte = row (112 ∷ []) (byte ∷ [])

abbrev pub of_list : List RowChange → ChangeList
of_list changes = record { clear = false; changes = changes }

one_put : (byte : ℕ) → IsBatch (of_list (Put (byte_row byte) ∷ []))
unfolding IsStrictlySortedBy
one_put byte = record { rise = (tt, tt); room = (record { key = omega arith; value = omega arith }, tt); puts = λ is. absurd cc }

pub one_change : (s : State) (start changes : List RowChange) (r : StoreRow) → start ≡ [] → changes ≡ start ++ Put r ∷ [] → r ≡ byte_row (participation_byte s) → changes ≡ Put (byte_row (participation_byte s)) ∷ []
one_change s start changes r none grows is = grows ∙ ap (λ (l : List RowChange). l ++ Put r ∷ []) none ∙ ap (λ (q : StoreRow). Put q ∷ []) is

pub one_rule : (s : State) (changes : List RowChange) → changes ≡ Put (byte_row (participation_byte s)) ∷ [] → IsBatch (of_list changes)
one_rule s changes are = subst (λ (cs : List RowChange). IsBatch (of_list cs)) (sym are) (one_put (participation_byte s))

-- ---- the batch between the two forms

-- rows that stand before both change nothing
pub same_front : (front olds news : List StoreRow) → changes_between (front ++ olds) (front ++ news) ≡ changes_between olds news
same_front [] olds news = refl
same_front (r ∷ rs) olds news =
    (turns.same r r (rs ++ olds) (rs ++ news) ((bytes_decides r.value r.value).1 refl) (tied_itself nat_list_cmp_total r.key)).split ∙ same_front rs olds news

other_byte : (byte other : ℕ) (rest : List StoreRow) → bytes_eq (byte ∷ []) (other ∷ []) ≡ false → changes_between (byte_row byte ∷ rest) (byte_row other ∷ rest) ≡ Put (byte_row other) ∷ []
other_byte byte other rest differ =
    (turns.differs (byte_row byte) (byte_row other) rest rest differ refl).split ∙ ap (λ (cs : List RowChange). Put (byte_row other) ∷ cs) (between_itself rest)

with_bytes : (byte other : ℕ) (s : State) → bytes_eq (byte ∷ []) (other ∷ []) ≡ false → changes_between (rows_with byte s) (rows_with other s) ≡ Put (byte_row other) ∷ []
unfolding rows_with first_rows later_rows
with_bytes byte other s differ =
    same_front (map (key_row (99 ∷ [])) s.coenrolling) (from_id byte s) (from_id other s)
    ∙ same_front (row (105 ∷ []) (hyphenated s.id) ∷ []) (from_live byte s) (from_live other s)
    ∙ same_front (map (recipe_row (108 ∷ [])) s.live) (from_pending byte s) (from_pending other s)
    ∙ same_front (map (recipe_row (110 ∷ [])) (pending_recipes s.pending)) (from_opt_outs byte s) (from_opt_outs other s)
    ∙ same_front (map (key_row (111 ∷ [])) s.opted_out) (from_statuses byte s) (from_statuses other s)
    ∙ other_byte byte other (row (113 ∷ []) (bit (is_some s.pending) ∷ []) ∷ (map status_row s.rows ++ last_rows s)) differ

differ : (e r : Bool) → bytes_eq (bit e ∷ []) ((4 + bit e + 2 * bit r) ∷ []) ≡ false
differ true true = refl
differ true false = refl
differ false true = refl
differ false false = refl

old_differs : (s : State) → bytes_eq (bit s.experiments ∷ []) (participation_byte s ∷ []) ≡ false
unfolding participation_byte
old_differs s = differ s.experiments s.rollouts

pub migrating : (s : State) → changes_between (old_rows s) (rows_of s) ≡ Put (byte_row (participation_byte s)) ∷ []
migrating s = with_bytes (bit s.experiments) (participation_byte s) s (old_differs s)

pub migrated : (s : State) (batch : ChangeList) → batch ≡ record { clear = false; changes = Put (byte_row (participation_byte s)) ∷ [] } → batch ≡ between (old_rows s) (rows_of s)
migrated s batch is = is ∙ ap of_list (sym (migrating s))

pub rows_migrated : (s : State) (batch : ChangeList) → IsConsistent s → batch ≡ between (old_rows s) (rows_of s) → applied batch (old_rows s) ≡ rows_of s
rows_migrated s batch is between_is = applied_between (old_rows s) (rows_of s) batch (with_rise (bit s.experiments) s is) (with_rise (participation_byte s) s is) between_is

pub text_migrated : (s : State) (rows : List StoreRow) → rows ≡ rows_of s → batch_text (whole_of rows) ≡ encoding s
unfolding encoding
text_migrated s rows is = ap (λ (rs : List StoreRow). batch_text (whole_of rs)) is

pub nine : (byte : ℕ) → length (puts_text (byte_row byte ∷ [])) ≡ 9
nine byte = omega (arith, put_size (byte_row byte) [])
