-- What a branch sets, one binding after the other; and that it is such as a join takes.
use Rattle.std.proofs.Common.{◌≡◌, ℕ, ◌+◌, ◌<◌, Bool, true, false, cond, List as Seq, [], ◌∷◌, ◌++◌, length, get_or, map, take, Option, Some, None, Less, Equal, Greater, IsTrue, refl, sym, ap, ◌∙◌, subst}
use Rattle.std.specs.Prelude.{bytes_eq, fold}
use Rattle.std.specs.BTreeMap.{insert_entry}
use Rattle.std.specs.List.{AllByRecursion, cons_option, filter_map, flat_map}
use Rattle.std.specs.List.Sorted.{IsStrictlySortedBy}
use Rattle.std.specs.Ordering.{match_ordering}
use Rattle.std.specs.declared.cmp.Ordering.{Ordering}
use Rattle.std.proofs.lemmas.List.{take_more}
use Rattle.std.proofs.lemmas.List.Elements.{filter_map-append}
use Rattle.std.proofs.lemmas.List.Sums.{fold-append}
use Rattle.sequences.proofs.Alls.{all_at}
use Rattle.json_tree.specs.Json.{IsSound}
use Rattle.json_tree.specs.Tree.{json_of}
use Rattle.json_tree.specs.declared.tree.Tree.{Tree}
use Rattle.json_tree.specs.declared.tree.Tree.TheVariants.{Null, Truth, Whole, Odd, Text, List, Object}
use Rattle.plain_text.specs.Names.{is_name}
use Rattle.fml_types.specs.Shapes.{shape_of}
use Rattle.fml_types.specs.declared.field_type.FieldType.{FieldType}
use Rattle.fml_types.specs.declared.field_type.FieldType.TheVariants as types
use Rattle.fml_types.specs.declared.manifest.Manifest.{Manifest}
use Rattle.fml_types.specs.declared.manifest.TypeTable.{TypeTable}
use Rattle.fml_value.specs.Kinds.{is_truth, is_whole, is_text}
use Rattle.fml_value.specs.Takes.{takes}
use Rattle.recipe_reader.specs.Payloads.{slug_cmp}
use Rattle.recipe_reader.specs.declared.recipe.Branch.{Branch}
use Rattle.recipe_reader.specs.declared.recipe.FeatureValue.{FeatureValue}
use Rattle.enrol_states.specs.Order.{Rise}
use Rattle.pref_bindings.specs.declared.bindings.Binding.{Binding}
use Rattle.pref_bindings.specs.Bindings.{of_feature}
use Rattle.pref_bindings.specs.Bound.{in_order, is_bound_type, setting_of, with_any, with_setting}
use Rattle.pref_bindings.specs.Changes.{AreSettings, IsSetting, Setting}
use Rattle.pref_bindings.specs.Preferences.{IsValue}
use Rattle.pref_bindings.proofs.Parts.{flat_map_take}

-- ---- one binding more

folded_any : (vs : Seq Setting) (o : Option Setting) → fold with_setting vs (cons_option o []) ≡ with_any vs o
folded_any vs None = refl
folded_any vs (Some v) = refl

module _ (m : Manifest) (branch : Branch) (bs : Seq Binding) (i : ℕ) (b : Binding) (inside : i < length bs) (at : b ≡ get_or bs i b) (start vs : Seq Setting) (so_far : vs ≡ fold with_setting start (filter_map (setting_of m branch) (take i bs))) where
  next : fold with_setting start (filter_map (setting_of m branch) (take (i + 1) bs)) ≡ fold with_setting vs (cons_option (setting_of m branch b) [])
  next =
      let given = setting_of m branch in
      ap (λ cs. fold with_setting start (filter_map given cs)) (take_more bs i b inside ∙ ap (λ c. take i bs ++ c ∷ []) (sym at)) ∙ ap (fold with_setting start) (filter_map-append given (take i bs) (b ∷ []))
      ∙ fold-append with_setting start (filter_map given (take i bs)) (cons_option (given b) []) ∙ ap (λ ws. fold with_setting ws (cons_option (given b) [])) (sym so_far)

  pub set_next : with_any vs (setting_of m branch b) ≡ fold with_setting start (filter_map (setting_of m branch) (take (i + 1) bs))
  set_next = sym (next ∙ folded_any vs (setting_of m branch b))

-- ---- one feature more

module _ (m : Manifest) (branch : Branch) (bs : Seq Binding) (i : ℕ) (f : FeatureValue) (inside : i < length branch.features) (at : f ≡ get_or branch.features i f) where
  pub feature_next : in_order (filter_map (setting_of m branch) (flat_map (λ g. of_feature g.feature bs) (take (i + 1) branch.features)))
      ≡ fold with_setting (in_order (filter_map (setting_of m branch) (flat_map (λ g. of_feature g.feature bs) (take i branch.features)))) (filter_map (setting_of m branch) (of_feature f.feature bs))
  feature_next =
      let given = setting_of m branch in
      let own : FeatureValue → Seq Binding = λ g. of_feature g.feature bs in
      let before = flat_map own (take i branch.features) in
      ap (λ cs. in_order (filter_map given cs)) (flat_map_take own branch.features i f inside at) ∙ ap in_order (filter_map-append given before (own f))
      ∙ fold-append with_setting [] (filter_map given before) (filter_map given (own f))

named_if : (p : Bool) (b : Binding) (bs : Seq Binding) → IsTrue (is_name b.preference) → AllByRecursion (λ c. IsTrue (is_name c.preference)) bs → AllByRecursion (λ c. IsTrue (is_name c.preference)) (cond p (b ∷ bs) bs)
named_if true b bs one all = (one, all)
named_if false b bs one all = all

pub named_own : (feature : Seq ℕ) (bs : Seq Binding) → AllByRecursion (λ c. IsTrue (is_name c.preference)) bs → AllByRecursion (λ c. IsTrue (is_name c.preference)) (of_feature feature bs)
named_own feature [] all = tt
named_own feature (b ∷ bs) all = named_if (bytes_eq b.feature feature) b (of_feature feature bs) all.0 (named_own feature bs all.1)

-- ---- each is a setting

no_setting : AreSettings []
unfolding IsStrictlySortedBy
no_setting = record { names = tt; each = tt }

pub no_settings : (vs : Seq Setting) → vs ≡ [] → AreSettings vs
no_settings vs e = subst AreSettings (sym e) no_setting

pub put_each : (k : Seq ℕ) (v : Tree) (es : Seq Setting) → IsTrue (is_name k) → IsValue v → AllByRecursion IsSetting es → AllByRecursion IsSetting (insert_entry slug_cmp es k v)
put_each k v [] named sound all = (record { name = named; value = sound }, tt)
put_each k v (e ∷ es) named sound all = at (slug_cmp k e.0) (put_each k v es named sound all.1) where
  at : (o : Ordering) → AllByRecursion IsSetting (insert_entry slug_cmp es k v) → AllByRecursion IsSetting (match_ordering o ((k, v) ∷ e ∷ es) ((e.0, v) ∷ es) (e ∷ insert_entry slug_cmp es k v))
  at Less behind = (record { name = named; value = sound }, all)
  at Equal behind = (record { name = all.0.name; value = sound }, all.1)
  at Greater behind = (all.0, behind)

-- settings that are the same as others
pub are_settings : (vs ws : Seq Setting) → vs ≡ ws → Rise (map (λ v. v.0) ws) → AllByRecursion IsSetting ws → AreSettings vs
are_settings vs ws same rise all = subst AreSettings (sym same) (record { names = rise; each = all })

pub named_at : (bs : Seq Binding) (i : ℕ) (b : Binding) → i < length bs → b ≡ get_or bs i b → AllByRecursion (λ c. IsTrue (is_name c.preference)) bs → IsTrue (is_name b.preference)
named_at bs i b h at all = subst (λ (c : Binding). IsTrue (is_name c.preference)) (sym at) (all_at (λ (c : Binding). IsTrue (is_name c.preference)) bs i b h all)

-- ---- what a bound type takes is a value of a preference

truth_value : (t : Tree) → IsSound (json_of t) → is_truth (json_of t) ≡ true → IsValue t
truth_value Null sound is = absurd cc
truth_value (Truth b) sound is = tt
truth_value (Whole n) sound is = absurd cc
truth_value Odd sound is = absurd cc
truth_value (Text s) sound is = absurd cc
truth_value (List xs) sound is = absurd cc
truth_value (Object ms) sound is = absurd cc

whole_value : (t : Tree) → IsSound (json_of t) → is_whole (json_of t) ≡ true → IsValue t
whole_value Null sound is = absurd cc
whole_value (Truth b) sound is = absurd cc
whole_value (Whole n) sound is = sound
whole_value Odd sound is = absurd cc
whole_value (Text s) sound is = absurd cc
whole_value (List xs) sound is = absurd cc
whole_value (Object ms) sound is = absurd cc

text_value : (t : Tree) → IsSound (json_of t) → is_text (json_of t) ≡ true → IsValue t
text_value Null sound is = absurd cc
text_value (Truth b) sound is = absurd cc
text_value (Whole n) sound is = absurd cc
text_value Odd sound is = absurd cc
text_value (Text s) sound is = sound
text_value (List xs) sound is = absurd cc
text_value (Object ms) sound is = absurd cc

pub taken_value : (table : TypeTable) (of : FieldType) (t : Tree) → IsSound (json_of t) → is_bound_type of ≡ true → takes table (shape_of of) (json_of t) ≡ true → IsValue t
taken_value table types.Boolean t sound bound is = truth_value t sound is
taken_value table types.Int t sound bound is = whole_value t sound is
taken_value table types.String t sound bound is = text_value t sound is
taken_value table types.Text t sound bound is = text_value t sound is
taken_value table types.Image t sound bound is = absurd cc
taken_value table (types.Option s) t sound bound is = absurd cc
taken_value table (types.List s) t sound bound is = absurd cc
taken_value table (types.Map k s) t sound bound is = absurd cc
taken_value table (types.Named n) t sound bound is = absurd cc
