-- The rows of a state are read as that state.
use Rattle.std.proofs.Common.{ℕ, ◌≡◌, ◌≤◌, ◌∷◌, [], List, length, arith, Option, Some, None, IsTrue, refl, ap, ◌∙◌}
use Rattle.std.specs.Option.{is_some}
use Rattle.plain_text.specs.Names.{is_name}
use Rattle.recipe_reader.specs.Records.{IsValid}
use Rattle.recipe_reader.specs.Payloads.{AreInOrder, AreValid}
use Rattle.recipe_reader.specs.declared.recipe.Recipe.{Recipe}
use Rattle.enrol_states.specs.Consistent.{IsConsistent, ArePending}
use Rattle.enrol_states.specs.Statuses.{IsSlug, IsStatus}
use Rattle.enrol_states.specs.declared.state.State.{State}
use Rattle.enrol_states.specs.declared.state.Row.{Row}
use Rattle.state_values.specs.Outcome.{◌>>=◌}
use Rattle.state_codec.specs.Folds.{keeping}
use Rattle.state_codec.specs.Encoding.{key_row, recipe_row, status_row, pending_recipes, first_rows, later_rows}
use Rattle.state_codec.specs.Sound.{AreRecords, HaveRecords}
use Rattle.state_values.specs.Reading as values
use Rattle.state_codec.specs.Reading as reading
use Rattle.state_values.specs.Reading.{flags, participation_in}
use Rattle.state_codec.specs.Reading.{participation_under, slug_row, text_row, client_row, client_row_in, inserting, slugs_under, texts_under, client_rows_under, recipes_under, number_under, flag_under, id_under, version_under, pending_if, lists_in, recipes_in, last_in, state_in}
use Rattle.state_values.proofs.ValuesRead.{slug_read, text_read, number_read, flag_read, id_read, recipe_read, status_read}
use Rattle.state_values.proofs.Names.{IsUtf8-name}
use Rattle.state_codec.proofs.SectionsRead.{all_kept, all_inserted, skipped, all_sections, all_statuses, all_last, to_statuses, to_last}

-- ---- the lists

features_read : (s : State) → IsConsistent s → texts_under 99 (first_rows s) ≡ Some s.coenrolling
unfolding texts_under text_row first_rows
features_read s is =
    all_kept (λ name. IsTrue (is_name name)) (text_row 99) (key_row (99 ∷ [])) s.coenrolling [] (λ name is_one. ap (λ o. o >>= λ t. Some (Some t)) (text_read name (IsUtf8-name name is_one))) is.coenrolling_names

opted_out_read : (byte : ℕ) (s : State) → IsConsistent s → slugs_under 111 (later_rows byte s) ≡ Some s.opted_out
unfolding slugs_under slug_row
opted_out_read byte s is =
    let step = keeping (slug_row 111) in
    let ss = s.opted_out in
    all_sections step byte s [] [] [] [] ss ss ss
    refl
    (skipped step (recipe_row (108 ∷ [])) s.live [] (λ r. refl))
    (skipped step (recipe_row (110 ∷ [])) (pending_recipes s.pending) [] (λ r. refl))
    (all_kept IsSlug (slug_row 111) (key_row (111 ∷ [])) ss [] (λ slug is_one. ap (λ o. o >>= λ t. Some (Some t)) (slug_read slug is_one)) is.opted_out_slugs)
    (all_statuses step byte s ss ss ss ss refl refl (skipped step status_row s.rows ss (λ w. refl)))
    (all_last step s ss ss ss ss refl refl refl)

abbrev IsClientRow : Row → Type 0
IsClientRow w = IsSlug w.slug × IsStatus w.status

client_row_read : (w : Row) → IsClientRow w → client_row 114 (status_row w) ≡ Some (Some w)
unfolding client_row client_row_in
client_row_read w is = rw (slug_read w.slug is.0, status_read w.status is.1) refl

client_rows_read : (byte : ℕ) (s : State) → IsConsistent s → client_rows_under 114 (later_rows byte s) ≡ Some s.rows
unfolding client_rows_under client_row
client_rows_read byte s is =
    let step = keeping (client_row 114) in
    let ws = s.rows in
    all_sections step byte s [] [] [] [] [] ws ws
    refl
    (skipped step (recipe_row (108 ∷ [])) s.live [] (λ r. refl))
    (skipped step (recipe_row (110 ∷ [])) (pending_recipes s.pending) [] (λ r. refl))
    (skipped step (key_row (111 ∷ [])) s.opted_out [] (λ slug. refl))
    (all_statuses step byte s [] [] [] ws refl refl (all_kept IsClientRow (client_row 114) status_row ws [] client_row_read (λ k d within. (is.row_slugs k d within, is.row_statuses k d within))))
    (all_last step s ws ws ws ws refl refl refl)

-- ---- the recipes

live_row_read : (r : Recipe) → IsValid r → AreRecords (r ∷ []) → reading.recipe_row 108 (recipe_row (108 ∷ []) r) ≡ Some (Some r)
unfolding reading.recipe_row
live_row_read r valid sound = ap (λ o. o >>= λ q. Some (Some q)) (recipe_read r valid sound.0)

pending_row_read : (r : Recipe) → IsValid r → AreRecords (r ∷ []) → reading.recipe_row 110 (recipe_row (110 ∷ []) r) ≡ Some (Some r)
unfolding reading.recipe_row
pending_row_read r valid sound = ap (λ o. o >>= λ q. Some (Some q)) (recipe_read r valid sound.0)

live_read : (byte : ℕ) (s : State) → IsConsistent s → HaveRecords s → recipes_under 108 (later_rows byte s) ≡ Some s.live
unfolding recipes_under reading.recipe_row
live_read byte s is records =
    let step = inserting 108 in
    let rs = s.live in
    all_sections step byte s [] [] rs rs rs rs rs
    refl
    (all_inserted 108 (recipe_row (108 ∷ [])) rs [] live_row_read is.live.in_order is.live.limit is.live.valid records.live)
    (skipped step (recipe_row (110 ∷ [])) (pending_recipes s.pending) rs (λ r. refl))
    (skipped step (key_row (111 ∷ [])) s.opted_out rs (λ slug. refl))
    (all_statuses step byte s rs rs rs rs refl refl (skipped step status_row s.rows rs (λ w. refl)))
    (all_last step s rs rs rs rs refl refl refl)

waiting_order : (p : Option (List Recipe)) → ArePending p → AreInOrder (pending_recipes p)
waiting_order None are = tt
waiting_order (Some rs) are = are.in_order

waiting_limit : (p : Option (List Recipe)) → ArePending p → length (pending_recipes p) ≤ 2000
waiting_limit None are = omega arith
waiting_limit (Some rs) are = are.limit

waiting_valid : (p : Option (List Recipe)) → ArePending p → AreValid (pending_recipes p)
waiting_valid None are = tt
waiting_valid (Some rs) are = are.valid

waiting_read : (byte : ℕ) (s : State) → IsConsistent s → HaveRecords s → recipes_under 110 (later_rows byte s) ≡ Some (pending_recipes s.pending)
unfolding recipes_under reading.recipe_row
waiting_read byte s is records =
    let step = inserting 110 in
    let rs = pending_recipes s.pending in
    all_sections step byte s [] [] [] rs rs rs rs
    refl
    (skipped step (recipe_row (108 ∷ [])) s.live [] (λ r. refl))
    (all_inserted 110 (recipe_row (110 ∷ [])) rs [] pending_row_read (waiting_order s.pending is.pending) (waiting_limit s.pending is.pending) (waiting_valid s.pending is.pending) records.pending)
    (skipped step (key_row (111 ∷ [])) s.opted_out rs (λ slug. refl))
    (all_statuses step byte s rs rs rs rs refl refl (skipped step status_row s.rows rs (λ w. refl)))
    (all_last step s rs rs rs rs refl refl refl)

pending_again : (p : Option (List Recipe)) → pending_if (is_some p) (pending_recipes p) ≡ p
pending_again None = refl
pending_again (Some rs) = refl

-- ---- single values

id_read_again : (byte : ℕ) (s : State) → IsConsistent s → id_under (later_rows byte s) ≡ Some s.id
unfolding id_under later_rows
id_read_again byte s is = id_read s.id is.id

participation_read : (byte : ℕ) (s : State) → participation_in (byte ∷ []) ≡ Some (flags s.experiments s.rollouts) → participation_under (later_rows byte s) ≡ Some (flags s.experiments s.rollouts)
unfolding participation_under
participation_read byte s says = ap (λ o. o >>= participation_in) (to_statuses 112 byte s refl refl refl refl) ∙ says

is_pending_read : (byte : ℕ) (s : State) → flag_under 113 (later_rows byte s) ≡ Some (is_some s.pending)
unfolding flag_under
is_pending_read byte s = ap (λ o. o >>= λ v. Some (values.flag_in v)) (to_statuses 113 byte s refl refl refl refl) ∙ ap (λ b. Some b) (flag_read (is_some s.pending))

installed_read : (byte : ℕ) (s : State) → IsConsistent s → number_under 116 (later_rows byte s) ≡ Some s.installed
unfolding number_under
installed_read byte s is = ap (λ o. o >>= values.number_in) (to_statuses 116 byte s refl refl refl refl ∙ to_last 116 byte s refl refl refl) ∙ number_read s.installed is.installed

updated_read : (byte : ℕ) (s : State) → IsConsistent s → number_under 117 (later_rows byte s) ≡ Some s.updated
unfolding number_under
updated_read byte s is = ap (λ o. o >>= values.number_in) (to_statuses 117 byte s refl refl refl refl ∙ to_last 117 byte s refl refl refl) ∙ number_read s.updated is.updated

version_read : (byte : ℕ) (s : State) → IsConsistent s → version_under (later_rows byte s) ≡ Some s.version
unfolding version_under
version_read byte s is = ap (λ o. o >>= values.text_in) (to_statuses 118 byte s refl refl refl refl ∙ to_last 118 byte s refl refl refl) ∙ text_read s.version is.version

-- ---- the state

lists_read : (byte : ℕ) (s : State) → IsConsistent s → lists_in (first_rows s) (later_rows byte s) ≡ Some (record { coenrolling = s.coenrolling; opted_out = s.opted_out; rows = s.rows })
unfolding lists_in
lists_read byte s is = rw (features_read s is, opted_out_read byte s is, client_rows_read byte s is) refl

recipes_read : (byte : ℕ) (s : State) → IsConsistent s → HaveRecords s → recipes_in (later_rows byte s) ≡ Some (record { live = s.live; pending = s.pending })
unfolding recipes_in
recipes_read byte s is records = rw (live_read byte s is records, waiting_read byte s is records, is_pending_read byte s, pending_again s.pending) refl

last_read : (byte : ℕ) (s : State) → IsConsistent s → last_in (later_rows byte s) ≡ Some (record { installed = s.installed; updated = s.updated; version = s.version })
unfolding last_in
last_read byte s is = rw (installed_read byte s is, updated_read byte s is, version_read byte s is) refl

-- the rows of a state are read as the state, where the byte of participation says what its flags are
pub state_read : (byte : ℕ) (s : State) → participation_in (byte ∷ []) ≡ Some (flags s.experiments s.rollouts) → IsConsistent s → HaveRecords s → state_in (first_rows s) (later_rows byte s) ≡ Some s
unfolding state_in
state_read byte s says is records = rw (id_read_again byte s is, participation_read byte s says, last_read byte s is, lists_read byte s is, recipes_read byte s is records) refl
