-- The targeting attributes of a client: which names have values, and which values.
use Rattle.std.specs.Prelude.{◌≡◌, ℕ, ◌-◌, ◌/◌, ◌||◌, not, pos, Bool, List, [], ◌∷◌, ◌++◌, map, filter, Option, Some, None, option_map, option_and_then, codes, bytes_eq}
use Rattle.std.specs.List.{list_any}
use Rattle.uuid.specs.Text.{hyphenated_text, lower}
use Rattle.json_tree.specs.Json.{Json, truth, whole, text, list, object, items_of, members_of}
use Rattle.jexl_value.specs.Meaning.{without_odd}
use Rattle.jexl_value.specs.Names.{with_member}
use Rattle.enrol_states.specs.State.{status_of}
use Rattle.enrol_states.specs.Statuses.{is_enrolled_now}
use Rattle.enrol_states.specs.declared.state.State.{State}
use Rattle.app_context.specs.Keys.{name_of, text_keys}
use Rattle.app_context.specs.Contexts.{text_of}
use Rattle.app_context.specs.Locales.{language_of, region_of}
use Rattle.app_context.specs.Enrolments.{active_slugs, enrolments_of, slug_json, branch_json}
use Rattle.app_context.specs.declared.context.Context.{Context}
use Rattle.app_context.specs.declared.key.ContextKey.{ContextKey}
use Rattle.app_context.specs.declared.key.ContextKey.TheVariants.{Locale}

-- ---- the table, each name with its value, where it has one

abbrev pub text_entry : Context → ContextKey → List ℕ × Option Json
text_entry c key = (name_of key, option_map text (text_of key c))

unfoldable pub text_entries : Context → List (List ℕ × Option Json)
text_entries c = map (text_entry c) text_keys

unfoldable pub locale_entries : Option (List ℕ) → List (List ℕ × Option Json)
locale_entries locale =
    (codes "language", option_map (λ l. text (language_of l)) locale)
    ∷ (codes "region", option_map text (option_and_then region_of locale)) ∷ []

-- whole days from a moment to a later one, and 0 to an earlier one
abbrev pub days_to : ℕ → ℕ → ℕ
days_to now moment = (now - moment) / 86400

unfoldable pub client_entries : State → ℕ → List (List ℕ × Option Json)
client_entries s now =
    (codes "nimbus_id", Some (text (hyphenated_text lower s.id)))
    ∷ (codes "current_date", Some (whole (pos now)))
    ∷ (codes "days_since_install", Some (whole (pos (days_to now s.installed))))
    ∷ (codes "days_since_update", Some (whole (pos (days_to now s.updated)))) ∷ []

unfoldable pub enrolment_entries : State → List (List ℕ × Option Json)
enrolment_entries s =
    (codes "active_experiments", Some (list (items_of (map text (active_slugs s.rows)))))
    ∷ (codes "enrollments", Some (list (items_of (map slug_json (enrolments_of s.rows)))))
    ∷ (codes "enrollments_map", Some (object (members_of (map branch_json (enrolments_of s.rows))))) ∷ []

-- what doesn't depend on the recipe
abbrev pub shared_entries : Context → State → ℕ → List (List ℕ × Option Json)
shared_entries c s now = text_entries c ++ (locale_entries (text_of Locale c) ++ (client_entries s now ++ enrolment_entries s))

abbrev pub enrolled_name : List ℕ
enrolled_name = codes "is_already_enrolled"

-- ---- the names of the table, whether or not they have a value

abbrev pub is_text_name : List ℕ → Bool
is_text_name name = list_any (λ key. bytes_eq name (name_of key)) text_keys

abbrev pub other_names : List (List ℕ)
other_names = codes "language" ∷ codes "region" ∷ codes "nimbus_id" ∷ codes "current_date" ∷ codes "days_since_install" ∷ codes "days_since_update" ∷ codes "active_experiments" ∷ codes "enrollments" ∷ codes "enrollments_map" ∷ enrolled_name ∷ []

abbrev pub is_other_name : List ℕ → Bool
is_other_name name = list_any (λ other. bytes_eq name other) other_names

abbrev pub is_table_name : List ℕ → Bool
is_table_name name = is_text_name name || is_other_name name

-- the custom attributes that have none of the table's names
unfoldable pub custom_attributes : List (List ℕ × Json) → List (List ℕ × Json)
custom_attributes ms = map (λ m. (m.0, without_odd m.1)) (filter (λ m. not (is_table_name m.0)) ms)

-- ---- all attributes, in order by name

-- with the entries that have values
abbrev pub entered : List (List ℕ × Option Json) → List (List ℕ × Json) → List (List ℕ × Json)
entered [] ms = ms
entered ((name, None) ∷ es) ms = entered es ms
entered ((name, Some x) ∷ es) ms = entered es (with_member name x ms)

unfoldable pub shared_attributes : Context → State → ℕ → List (List ℕ × Json)
shared_attributes c s now = entered (shared_entries c s now) (custom_attributes c.custom)

-- with whether the client is enrolled in the recipe
abbrev pub with_enrolled : Bool → List (List ℕ × Json) → List (List ℕ × Json)
with_enrolled is_enrolled ms = with_member enrolled_name (truth is_enrolled) ms

unfoldable pub attributes : Context → State → List ℕ → ℕ → List (List ℕ × Json)
attributes c s slug now = with_enrolled (is_enrolled_now (status_of slug s.rows)) (shared_attributes c s now)

-- the attributes of some recipe, or those that don't depend on it
abbrev pub ArePrepared : Context → State → ℕ → List (List ℕ × Json) → Type 0
ArePrepared c s now ms = (is_enrolled : Bool) → with_enrolled is_enrolled ms ≡ with_enrolled is_enrolled (shared_attributes c s now)
