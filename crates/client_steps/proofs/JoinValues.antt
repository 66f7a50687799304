-- What joins set by the records of recipes is such as a join takes.
use Rattle.std.proofs.Common.{Less, Equal, Greater, ◌≡◌, ℕ, Bool, true, false, List, [], ◌∷◌, map, Option, Some, None, IsTrue, refl, sym, ap, ◌∙◌, subst}
use Rattle.std.specs.Prelude.{◌&&◌, bytes_eq, find, fold, option_and_then, option_map, IfSome, if◌then◌else◌}
use Rattle.std.specs.BTreeMap.{insert_entry}
use Rattle.std.specs.BTreeSet.{insert_key}
use Rattle.std.specs.List.{AllByRecursion, cons_option, filter_map}
use Rattle.std.specs.Ordering.{match_ordering}
use Rattle.json_tree.specs.Json.{Json, IsSound, AreSoundItems, items_of, get}
use Rattle.json_tree.specs.Tree.{json_of}
use Rattle.json_tree.specs.declared.tree.Tree.{Tree}
use Rattle.plain_text.specs.Names.{is_name}
use Rattle.recipe_reader.specs.Outcome.{only_if}
use Rattle.recipe_reader.specs.Payloads.{slug_cmp, recipe_with}
use Rattle.recipe_reader.specs.Records.{branch_json, feature_json, record_json}
use Rattle.json_tree.specs.Inverse.{tree_from}
use Rattle.recipe_reader.specs.declared.recipe.Branch.{Branch}
use Rattle.recipe_reader.specs.declared.recipe.FeatureValue.{FeatureValue}
use Rattle.recipe_reader.specs.declared.recipe.Recipe.{Recipe}
use Rattle.json_tree.proofs.Trees.{same_values}
use Rattle.fml_types.specs.Shapes.{shape_of}
use Rattle.fml_types.specs.declared.field_type.FieldType.{FieldType}
use Rattle.fml_types.specs.declared.manifest.Field.{Field}
use Rattle.fml_types.specs.declared.manifest.Manifest.{Manifest}
use Rattle.fml_types.specs.declared.manifest.TypeTable.{TypeTable}
use Rattle.fml_value.specs.Takes.{takes}
use Rattle.enrol_states.specs.Order.{Rise}
use Rattle.enrol_states.specs.declared.state.State.{State}
use Rattle.enrol_states.proofs.OptOuts.{rise-insert}
use Rattle.pref_bindings.specs.Bindings.{AreBindings}
use Rattle.pref_bindings.specs.Bound.{bound_value, bound_values, branch_with, is_bound_type, set_by, set_by_recipe, setting_of, taken, value_for, variable_of, with_setting}
use Rattle.pref_bindings.specs.Changes.{AreSettings, IsSetting, Setting}
use Rattle.pref_bindings.specs.Preferences.{IsValueOrNone}
use Rattle.pref_bindings.specs.declared.bindings.Binding.{Binding}
use Rattle.pref_bindings.proofs.BoundValues.{no_settings, put_each, taken_value}
use Rattle.change_outbox.specs.declared.change.Change.{Change}
use Rattle.client_state.specs.Following.{join_values, values_by}
use Rattle.client_state.specs.Sound.{AreRecords, HaveRecords}
use Rattle.client_steps.specs.Soundness.{HasBindings}
use Rattle.client_steps.proofs.FoundValues.{chosen, get_sound}

-- ---- the records

recipe_sound : (slug : List ℕ) (rs : List Recipe) → AreRecords rs → IfSome (recipe_with slug rs) (λ r. IsSound (record_json r))
recipe_sound slug [] are = tt
recipe_sound slug (r ∷ rs) are = chosen (λ q. IsSound (record_json q)) (bytes_eq r.slug slug) r (recipe_with slug rs) are.0 (recipe_sound slug rs are.1)

branch_found : (slug : List ℕ) (bs : List Branch) → AreSoundItems (items_of (map branch_json bs)) → IfSome (find (λ b. bytes_eq b.slug slug) bs) (λ b. IsSound (branch_json b))
branch_found slug [] sound = tt
branch_found slug (b ∷ bs) sound = chosen (λ c. IsSound (branch_json c)) (bytes_eq b.slug slug) b (find (λ c. bytes_eq c.slug slug) bs) sound.0 (branch_found slug bs sound.1)

value_found : (feature : List ℕ) (fs : List FeatureValue) → AreSoundItems (items_of (map feature_json fs)) → IfSome (option_map (λ f. f.value) (find (λ f. bytes_eq f.feature feature) fs)) (λ t. IsSound (json_of t))
value_found feature [] sound = tt
value_found feature (f ∷ fs) sound =
    elim (bytes_eq f.feature feature) as (λ b. IfSome (option_map (λ g. g.value) (if b then Some f else find (λ g. bytes_eq g.feature feature) fs)) (λ t. IsSound (json_of t))) [
      | true ↦ sound.0.3.2
      | false ↦ value_found feature fs sound.1
    ]

-- ---- one binding

taken_at : (table : TypeTable) (of : FieldType) (x : Json) → IsSound x → (bound takes_it : Bool) → is_bound_type of ≡ bound → takes table (shape_of of) x ≡ takes_it → IsValueOrNone (only_if (bound && takes_it) (tree_from x))
taken_at table of x sound false takes_it is_bound is_taken = tt
taken_at table of x sound true false is_bound is_taken = tt
taken_at table of x sound true true is_bound is_taken =
    taken_value table of (tree_from x) (subst IsSound (sym (same_values x)) sound) is_bound (ap (takes table (shape_of of)) (same_values x) ∙ is_taken)

taken_sound : (table : TypeTable) (of : FieldType) (x : Json) → IsSound x → IsValueOrNone (taken table of x)
taken_sound table of x sound = taken_at table of x sound (is_bound_type of) (takes table (shape_of of) x) refl refl

taken_if : (table : TypeTable) (of : FieldType) (x : Option Json) → IfSome x IsSound → IsValueOrNone (option_and_then (taken table of) x)
taken_if table of None sound = tt
taken_if table of (Some x) sound = taken_sound table of x sound

field_value : (m : Manifest) (field : Option Field) (variable : List ℕ) (t : Tree) → IsSound (json_of t) → IsValueOrNone (option_and_then (λ f. value_for m f variable t) field)
field_value m None variable t sound = tt
field_value m (Some f) variable t sound = taken_if m.types f.field_type (get variable (json_of t)) (get_sound variable (json_of t) sound)

set_value : (m : Manifest) (b : Binding) (t : Option Tree) → IfSome t (λ x. IsSound (json_of x))
    → IsValueOrNone (option_and_then (λ value. option_and_then (λ field. value_for m field b.variable value) (variable_of b.feature b.variable m)) t)
set_value m b None sound = tt
set_value m b (Some t) sound = field_value m (variable_of b.feature b.variable m) b.variable t sound

bound_sound : (m : Manifest) (branch : Branch) (b : Binding) → IsSound (branch_json branch) → IsValueOrNone (bound_value m branch b)
bound_sound m branch b sound = set_value m b (set_by b.feature branch) (value_found b.feature branch.features sound.2)

setting_if : (name : List ℕ) (v : Option Tree) → IsTrue (is_name name) → IsValueOrNone v → IfSome (option_map (λ t. (name, t)) v) IsSetting
setting_if name None is value = tt
setting_if name (Some v) is value = record { name = is; value = value }

-- ---- all bindings, in order

names_put : (k : List ℕ) (v : Tree) (es : List Setting) → map (λ e. e.0) (insert_entry slug_cmp es k v) ≡ insert_key slug_cmp (map (λ e. e.0) es) k
names_put k v [] = refl
names_put k v (e ∷ es) =
    elim (slug_cmp k e.0) as (λ o. map (λ c. c.0) (match_ordering o ((k, v) ∷ e ∷ es) ((e.0, v) ∷ es) (e ∷ insert_entry slug_cmp es k v)) ≡ match_ordering o (k ∷ e.0 ∷ map (λ c. c.0) es) (e.0 ∷ map (λ c. c.0) es) (e.0 ∷ insert_key slug_cmp (map (λ c. c.0) es) k)) [
      | Less ↦ refl
      | Equal ↦ refl
      | Greater ↦ ap (λ ks. e.0 ∷ ks) (names_put k v es)
    ]

one_more : (vs : List Setting) (v : Setting) → IsSetting v → AreSettings vs → AreSettings (with_setting vs v)
one_more vs v is are = record {
  names = subst Rise (sym (names_put v.0 v.1 vs)) (rise-insert v.0 (map (λ e. e.0) vs) are.names);
  each = put_each v.0 v.1 vs is.name is.value are.each;
}

all_more : (vs ws : List Setting) → AreSettings vs → AllByRecursion IsSetting ws → AreSettings (fold with_setting vs ws)
all_more vs [] are more = are
all_more vs (w ∷ ws) are more = all_more (with_setting vs w) ws (one_more vs w more.0 are) more.1

kept_if : (o : Option Setting) (rest : List Setting) → IfSome o IsSetting → AllByRecursion IsSetting rest → AllByRecursion IsSetting (cons_option o rest)
kept_if None rest is others = others
kept_if (Some v) rest is others = (is, others)

all_set : (m : Manifest) (branch : Branch) (bs : List Binding) → IsSound (branch_json branch) → AllByRecursion (λ b. IsTrue (is_name b.preference)) bs → AllByRecursion IsSetting (filter_map (setting_of m branch) bs)
all_set m branch [] sound named = tt
all_set m branch (b ∷ bs) sound named =
    kept_if (setting_of m branch b) (filter_map (setting_of m branch) bs) (setting_if b.preference (bound_value m branch b) named.0 (bound_sound m branch b sound)) (all_set m branch bs sound named.1)

no_setting : AreSettings []
no_setting = no_settings [] refl

set_by_any : (m : Manifest) (bs : List Binding) (branch : Option Branch) → AreBindings bs → IfSome branch (λ b. IsSound (branch_json b)) → AreSettings (set_by_recipe m bs branch)
set_by_any m bs None are sound = no_setting
set_by_any m bs (Some branch) are sound = all_more [] (filter_map (setting_of m branch) bs) no_setting (all_set m branch bs sound are.names)

bound_set : (m : Manifest) (r : Recipe) (slug : List ℕ) (bs : List Binding) → AreBindings bs → IsSound (record_json r) → AreSettings (bound_values m r slug bs)
unfolding bound_values
bound_set m r slug bs are sound = set_by_any m bs (branch_with slug r) are (branch_found slug r.branches sound.3.2)

values_set : (m : Option Manifest) (bs : Option (List Binding)) (r : Option Recipe) (slug : List ℕ) → HasBindings bs → IfSome r (λ q. IsSound (record_json q)) → AreSettings (values_by m bs r slug)
values_set None bs r slug are sound = no_setting
values_set (Some m) None r slug are sound = no_setting
values_set (Some m) (Some bs) None slug are sound = no_setting
values_set (Some m) (Some bs) (Some r) slug are sound = bound_set m r slug bs are sound

-- what each join sets
pub join_sets : (m : Option Manifest) (bs : Option (List Binding)) (e : State) → HasBindings bs → HaveRecords e → (c : Change) → AreSettings (join_values m bs e c)
join_sets m bs e are records c = values_set m bs (recipe_with c.slug e.live) c.branch are (recipe_sound c.slug e.live records.live)
