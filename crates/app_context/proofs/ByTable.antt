-- The attributes by name.
use Rattle.std.proofs.Common.{◌≡◌, ◌&&◌, ◌||◌, ℕ, Bool, true, false, cond, not, List, [], ◌∷◌, map, Option, Some, None, refl, sym, ap, ◌∙◌, subst}
use Rattle.std.specs.Prelude.{bytes_eq, filter, option_map, if◌then◌else◌}
use Rattle.std.specs.List.{list_any}
use Rattle.std.specs.Cmp.Lexicographic.{bytes_decides}
use Rattle.std.proofs.lemmas.List.Folds.{list_any-append}
use Rattle.std.proofs.lemmas.Bool.{or_parts}
use Rattle.json_tree.specs.Json.{Json, truth, members_of, get_member}
use Rattle.jexl_value.specs.Meaning.{without_odd}
use Rattle.jexl_value.specs.Names.{with_member}
use Rattle.jexl_value.proofs.Found.{get_member-with}
use Rattle.enrol_states.specs.State.{status_of}
use Rattle.enrol_states.specs.Statuses.{is_enrolled_now}
use Rattle.enrol_states.specs.declared.state.State.{State}
use Rattle.enrol_states.proofs.Ordered.{bytes_turned}
use Rattle.app_context.specs.declared.context.Context.{Context}
use Rattle.app_context.specs.Keys.{name_of, text_keys}
use Rattle.app_context.specs.Attributes.{text_entries, locale_entries, client_entries, enrolment_entries, shared_entries, enrolled_name, other_names, is_table_name, custom_attributes, entered, shared_attributes, attributes}
use Rattle.app_context.specs.Events.{counts_name, with_events, HaveCounts}
use Rattle.app_context.specs.Laws.{table, value_in, AreByTable}
use Rattle.app_context.proofs.Entries.{entered-append}

abbrev entry_names : List (List ℕ × Option Json) → List (List ℕ)
entry_names es = map (λ e. e.0) es

abbrev has : List (List ℕ) → List ℕ → Bool
has names name = list_any (λ own. bytes_eq name own) names

abbrev are_distinct : List (List ℕ) → Bool
are_distinct [] = true
are_distinct (name ∷ names) = not (has names name) && are_distinct names

first_apart : (a b : Bool) → (not a && b) ≡ true → a ≡ false
first_apart true b e = absurd (cc)
first_apart false b e = refl

later_distinct : (a b : Bool) → (not a && b) ≡ true → b ≡ true
later_distinct true b e = absurd (cc)
later_distinct false b e = e

-- ---- a name that the entries lack

lacks_value : (es : List (List ℕ × Option Json)) (name : List ℕ) (other : Option Json) → has (entry_names es) name ≡ false → value_in es name other ≡ other
lacks_value [] name other none = refl
lacks_value (e ∷ es) name other none =
    ap (λ b. if b then e.1 else value_in es name other) (or_parts (bytes_eq name e.0) (has (entry_names es) name) none).0 ∙ lacks_value es name other (or_parts (bytes_eq name e.0) (has (entry_names es) name) none).1

lacks_entered : (es : List (List ℕ × Option Json)) (name : List ℕ) (ms : List (List ℕ × Json)) → has (entry_names es) name ≡ false → get_member name (members_of (entered es ms)) ≡ get_member name (members_of ms)
lacks_entered [] name ms none = refl
lacks_entered ((k, None) ∷ es) name ms none = lacks_entered es name ms (or_parts (bytes_eq name k) (has (entry_names es) name) none).1
lacks_entered ((k, Some x) ∷ es) name ms none =
    lacks_entered es name (with_member k x ms) (or_parts (bytes_eq name k) (has (entry_names es) name) none).1
    ∙ get_member-with k x ms name
    ∙ ap (λ b. if b then Some x else get_member name (members_of ms)) (bytes_turned k name ∙ (or_parts (bytes_eq name k) (has (entry_names es) name) none).0)

-- ---- a name that the entries have

has_value : (es : List (List ℕ × Option Json)) (name : List ℕ) (one other : Option Json) → has (entry_names es) name ≡ true → value_in es name one ≡ value_in es name other
has_value [] name one other h = absurd (cc)
has_value (e ∷ es) name one other h =
    elim (bytes_eq name e.0) as (λ b. (b || has (entry_names es) name) ≡ true → (if b then e.1 else value_in es name one) ≡ (if b then e.1 else value_in es name other)) [
      | true ↦ λ f. refl
      | false ↦ λ f. has_value es name one other f
    ] h

not_later : (k name : List ℕ) (es : List (List ℕ × Option Json)) → are_distinct (k ∷ entry_names es) ≡ true → bytes_eq name k ≡ true → has (entry_names es) name ≡ false
not_later k name es distinct e =
    subst (λ n. has (entry_names es) n ≡ false) (sym ((bytes_decides name k).0 e)) (first_apart (has (entry_names es) k) (are_distinct (entry_names es)) distinct)

has_entered : (es : List (List ℕ × Option Json)) (name : List ℕ) (ms : List (List ℕ × Json)) → are_distinct (entry_names es) ≡ true → get_member name (members_of ms) ≡ None → get_member name (members_of (entered es ms)) ≡ value_in es name None
has_entered [] name ms distinct absent = absent
has_entered ((k, None) ∷ es) name ms distinct absent =
    let rest = has_entered es name ms (later_distinct (has (entry_names es) k) (are_distinct (entry_names es)) distinct) absent in
    elim (bytes_eq name k) as (λ b. bytes_eq name k ≡ b → get_member name (members_of (entered es ms)) ≡ (if b then None else value_in es name None)) [
      | true ↦ λ e. rest ∙ lacks_value es name None (not_later k name es distinct e)
      | false ↦ λ e. rest
    ] refl
has_entered ((k, Some x) ∷ es) name ms distinct absent =
    let more = with_member k x ms in
    elim (bytes_eq name k) as (λ b. bytes_eq name k ≡ b → get_member name (members_of (entered es more)) ≡ (if b then Some x else value_in es name None)) [
      | true ↦ λ e. lacks_entered es name more (not_later k name es distinct e) ∙ get_member-with k x ms name ∙ ap (λ b. if b then Some x else get_member name (members_of ms)) (bytes_turned k name ∙ e)
      | false ↦ λ e. has_entered es name more (later_distinct (has (entry_names es) k) (are_distinct (entry_names es)) distinct)
          (get_member-with k x ms name ∙ ap (λ b. if b then Some x else get_member name (members_of ms)) (bytes_turned k name ∙ e) ∙ absent)
    ] refl

-- ---- custom attributes

abbrev is_custom : List ℕ × Json → Bool
is_custom m = not (is_table_name m.0)

abbrev custom_value : List ℕ × Json → List ℕ × Json
custom_value m = (m.0, without_odd m.1)

not_same : (u : Bool) → not u ≡ u → ⊥
not_same true e = cc
not_same false e = cc

apart_at : (a b : List ℕ) (u e : Bool) → is_table_name a ≡ not u → is_table_name b ≡ u → bytes_eq a b ≡ e → e ≡ false
apart_at a b u false at bt same = refl
apart_at a b u true at bt same = absurd (not_same u (sym at ∙ ap is_table_name ((bytes_decides a b).0 same) ∙ bt))

custom_gone : (name : List ℕ) → is_table_name name ≡ true → (ms : List (List ℕ × Json)) → get_member name (members_of (custom_attributes ms)) ≡ None
unfolding custom_attributes
custom_gone name own [] = refl
custom_gone name own (m ∷ ms) =
    let rest = custom_gone name own ms in
    elim (is_table_name m.0) as (λ t. is_table_name m.0 ≡ t → get_member name (members_of (map custom_value (cond (not t) (m ∷ filter is_custom ms) (filter is_custom ms)))) ≡ None) [
      | true ↦ λ t. rest
      | false ↦ λ t. ap (λ b. if b then Some (without_odd m.1) else get_member name (members_of (map custom_value (filter is_custom ms)))) (apart_at m.0 name true (bytes_eq m.0 name) t own refl) ∙ rest
    ] refl

custom_kept : (name : List ℕ) → is_table_name name ≡ false → (ms : List (List ℕ × Json)) → get_member name (members_of (custom_attributes ms)) ≡ option_map without_odd (get_member name (members_of ms))
unfolding custom_attributes
custom_kept name free [] = refl
custom_kept name free (m ∷ ms) =
    let rest = custom_kept name free ms in
    let kept = members_of (map custom_value (filter is_custom ms)) in
    let all = get_member name (members_of ms) in
    elim (is_table_name m.0) as (λ t. is_table_name m.0 ≡ t
    → get_member name (members_of (map custom_value (cond (not t) (m ∷ filter is_custom ms) (filter is_custom ms)))) ≡ option_map without_odd (if bytes_eq m.0 name then Some m.1 else all)) [
      | true ↦ λ t. rest ∙ ap (λ b. option_map without_odd (if b then Some m.1 else all)) (sym (apart_at m.0 name false (bytes_eq m.0 name) t free refl))
      | false ↦ λ t. elim (bytes_eq m.0 name) as (λ b. (if b then Some (without_odd m.1) else get_member name kept) ≡ option_map without_odd (if b then Some m.1 else all)) [ true ↦ refl | false ↦ rest ]
    ] refl

-- ---- the table

table_distinct : (c : Context) (s : State) (slug : List ℕ) (now : ℕ) → are_distinct (entry_names (table c s slug now)) ≡ true
unfolding text_entries locale_entries client_entries enrolment_entries
table_distinct c s slug now = refl

table_has : (c : Context) (s : State) (slug : List ℕ) (now : ℕ) (name : List ℕ) → has (entry_names (table c s slug now)) name ≡ is_table_name name
unfolding text_entries locale_entries client_entries enrolment_entries
table_has c s slug now name = list_any-append (λ own. bytes_eq name own) (map name_of text_keys) other_names

all_entered : (c : Context) (s : State) (slug : List ℕ) (now : ℕ) → attributes c s slug now ≡ entered (table c s slug now) (custom_attributes c.custom)
unfolding attributes shared_attributes
all_entered c s slug now = sym (entered-append (shared_entries c s now) ((enrolled_name, Some (truth (is_enrolled_now (status_of slug s.rows)))) ∷ []) (custom_attributes c.custom))

pub by_table : AreByTable
by_table c s slug now name =
    let t = table c s slug now in
    let custom = custom_attributes c.custom in
    let other = option_map without_odd (get_member name (members_of c.custom)) in
    let is = table_has c s slug now name in
    ap (λ ms. get_member name (members_of ms)) (all_entered c s slug now)
    ∙ (elim (is_table_name name) as (λ b. is_table_name name ≡ b → get_member name (members_of (entered t custom)) ≡ value_in t name other) [
      | true ↦ λ e. has_entered t name custom (table_distinct c s slug now) (custom_gone name e c.custom) ∙ has_value t name None other (is ∙ e)
      | false ↦ λ e. lacks_entered t name custom (is ∙ e) ∙ custom_kept name e c.custom ∙ sym (lacks_value t name other (is ∙ e))
    ] refl)

-- ---- the counts of events

no_table_name : (name : List ℕ) → bytes_eq counts_name name ≡ true → is_table_name name ≡ false
no_table_name name same = subst (λ n. is_table_name n ≡ false) ((bytes_decides counts_name name).0 same) refl

pub have_counts : HaveCounts
unfolding text_entries locale_entries client_entries enrolment_entries
have_counts c x s slug now name =
    let t = table c s slug now in
    by_table (with_events c x) s slug now name
    ∙ ap (λ o. value_in t name (option_map without_odd o)) (get_member-with counts_name x c.custom name)
    ∙ (elim (bytes_eq counts_name name) as (λ b. bytes_eq counts_name name ≡ b
    → value_in t name (option_map without_odd (if b then Some x else get_member name (members_of c.custom))) ≡ (if b then Some (without_odd x) else get_member name (members_of (attributes c s slug now)))) [
      | true ↦ λ e. lacks_value t name (Some (without_odd x)) (table_has c s slug now name ∙ no_table_name name e)
      | false ↦ λ e. sym (by_table c s slug now name)
    ] refl)
