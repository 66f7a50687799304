-- Each value is read as what it encodes.
use Rattle.std.proofs.Common.{◌≡◌, ◌≤◌, ◌++◌, ◌∷◌, [], List, ℕ, Bool, true, false, Some, length, drop, IsUtf8, inl, refl, sym, ap, ◌∙◌, arith}
use Rattle.std.specs.Prelude.{nat_le}
use Rattle.std.proofs.lemmas.Bool.{le-leb}
use Rattle.std.proofs.lemmas.List.{take_at, drop_at}
use Rattle.std.proofs.lemmas.Nat.{from_be_bytes-to_be_bytes_8}
use Rattle.std.proofs.lemmas.Str.{is_utf8-from_IsUtf8}
use Rattle.uuid.specs.Text.{lower}
use Rattle.uuid.proofs.RoundTrips.{parses_hyphenated}
use Rattle.json_tree.specs.Json as json
use Rattle.json_tree.specs.Json.{Json, depth}
use Rattle.json_tree.specs.Bytes.{max_depth}
use Rattle.json_tree.proofs.RoundTrip.{tree_of-text_of}
use Rattle.recipe_reader.specs.Outcome.{only_if}
use Rattle.recipe_reader.specs.Records.{recipe_of, record_json, IsValid}
use Rattle.recipe_reader.specs.declared.recipe.Recipe.{Recipe}
use Rattle.recipe_reader.proofs.Shallows.{valid_within}
use Rattle.enrol_states.specs.Consistent.{IsId}
use Rattle.enrol_states.specs.Statuses.{last_moment, IsSlug, IsStatus}
use Rattle.enrol_states.specs.declared.status.Status.{Status}
use Rattle.enrol_states.specs.declared.status.Status.TheVariants.{Enrolled, NotEnrolled, Disqualified, WasEnrolled, Error}
use Rattle.enrol_states.specs.declared.status.EnrolledReason.TheVariants as enrolled
use Rattle.enrol_states.specs.declared.status.NotEnrolledReason.TheVariants as not_enrolled
use Rattle.enrol_states.specs.declared.status.DisqualifiedReason.TheVariants as disqualified
use Rattle.enrol_states.specs.declared.status.ErrorCause.TheVariants as error
use Rattle.state_values.specs.Outcome.{◌>>=◌}
use Rattle.state_values.specs.Statuses.{number, status_bytes}
use Rattle.state_values.specs.Values.{hyphenated, recipe_text, bit}
use Rattle.state_values.specs.Reading.{slug_in, text_in, number_in, flag_in, id_in, kept, recipe_in, enrolled_in, not_enrolled_in, disqualified_in, was_enrolled_in, error_in, status_of_kind, status_in}

pub slug_read : (s : List ℕ) → IsSlug s → slug_in s ≡ Some s
unfolding slug_in
slug_read s slug = rw slug refl

pub text_read : (s : List ℕ) → IsUtf8 s → text_in s ≡ Some s
unfolding text_in
text_read s utf8 = rw (is_utf8-from_IsUtf8 s utf8) refl

pub number_read : (n : ℕ) → n ≤ last_moment → number_in (number n) ≡ Some n
unfolding number_in number
number_read n within = ap (λ m. Some m) (from_be_bytes-to_be_bytes_8 n (omega (arith, within)))

pub length-number : (n : ℕ) → length (number n) ≡ 8
unfolding number
length-number n = refl

pub flag_read : (b : Bool) → flag_in (bit b ∷ []) ≡ b
unfolding flag_in
flag_read true = refl
flag_read false = refl

pub id_read : (id : List ℕ) → IsId id → id_in (hyphenated id) ≡ Some id
unfolding id_in hyphenated
id_read id is = sym (parses_hyphenated lower id (inl refl) is.sixteen is.bytes)

shallow_read : (x : Json) → depth x ≤ max_depth → only_if (nat_le (depth x) max_depth) x ≡ Some x
shallow_read x within = rw (le-leb (depth x) max_depth within) refl

pub recipe_read : (r : Recipe) → IsValid r → json.IsSound (record_json r) → recipe_in (recipe_text r) ≡ Some r
unfolding recipe_in recipe_text
recipe_read r valid sound =
    let x : Json = record_json r in
    let shallow : depth x ≤ max_depth = valid_within r valid in
    ap (λ o. o >>= λ y. only_if (nat_le (depth y) max_depth) y >>= λ z. kept (recipe_of z)) (tree_of-text_of x sound (omega (arith, shallow)))
    ∙ ap (λ o. o >>= λ z. kept (recipe_of z)) (shallow_read x shallow)
    ∙ ap kept valid

-- ---- statuses

pub status_read : (s : Status) → IsStatus s → status_in (status_bytes s) ≡ Some s
unfolding status_in status_of_kind enrolled_in not_enrolled_in disqualified_in was_enrolled_in error_in
status_read (Enrolled enrolled.Qualified branch) slug = rw (slug_read branch slug) refl
status_read (Enrolled enrolled.OptIn branch) slug = rw (slug_read branch slug) refl
status_read (NotEnrolled not_enrolled.DifferentAppName) slug = refl
status_read (NotEnrolled not_enrolled.DifferentChannel) slug = refl
status_read (NotEnrolled not_enrolled.EnrollmentsPaused) slug = refl
status_read (NotEnrolled not_enrolled.FeatureConflict) slug = refl
status_read (NotEnrolled not_enrolled.NotSelected) slug = refl
status_read (NotEnrolled not_enrolled.NotTargeted) slug = refl
status_read (NotEnrolled not_enrolled.OptOut) slug = refl
status_read (Disqualified disqualified.Error branch) slug = rw (slug_read branch slug) refl
status_read (Disqualified disqualified.FeatureConflict branch) slug = rw (slug_read branch slug) refl
status_read (Disqualified disqualified.NotSelected branch) slug = rw (slug_read branch slug) refl
status_read (Disqualified disqualified.NotTargeted branch) slug = rw (slug_read branch slug) refl
status_read (Disqualified disqualified.OptOut branch) slug = rw (slug_read branch slug) refl
status_read (WasEnrolled branch ended) is =
    ap (λ o. o >>= λ n. slug_in (drop 8 (number ended ++ branch)) >>= λ b. Some (WasEnrolled b n)) (ap number_in (take_at (number ended) branch 8 (length-number ended)) ∙ number_read ended is.1)
    ∙ ap (λ o. o >>= λ b. Some (WasEnrolled b ended)) (ap slug_in (drop_at (number ended) branch 8 (length-number ended)) ∙ slug_read branch is.0)
status_read (Error error.Unparsed) slug = refl
status_read (Error error.Faulted) slug = refl
status_read (Error error.NotTruth) slug = refl
status_read (Error error.NoUnit) slug = refl
