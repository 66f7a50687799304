use Rattle.std.proofs.Common.{rules, ◌≡◌, ℕ, ◌+◌, ◌-◌, ◌*◌, ◌<◌, ◌≤◌, ◌++◌, List, [], ◌∷◌, length, map, take, drop, Some, None, Bor, IfOk, OnOk, true, option_map, sym, ap, ap₂, ◌∙◌, subst, arith}
use Rattle.std.proofs.lemmas.List.{take_all, drop_all, length-map}
use Rattle.std.proofs.lemmas.Result.{on_ok_weaker}
use Rattle.std.proofs.Math.Nat.{mul-le-mul_left}
use Rattle.json_tree.specs.Json.{Json, depth, items_depth, members_depth, members_of, get_member}
use Rattle.json_tree.specs.Json as json
use Rattle.json_tree.specs.Tree.{json_of}
use Rattle.json_tree.specs.declared.tree.Tree.{Tree}
use Rattle.json_tree.proofs.Depths.{depth_within, member_depth_within}
use Rattle.fml_types.specs.Named.{IsAbove, AreRising, found}
use Rattle.fml_types.specs.Shape as shape
use Rattle.fml_types.specs.Shape.{Shape, height}
use Rattle.fml_types.specs.Shapes.{shape_of}
use Rattle.fml_types.specs.declared.manifest.Field.{Field}
use Rattle.fml_types.specs.declared.manifest.ObjectDefinition.{ObjectDefinition}
use Rattle.fml_types.specs.declared.field_type.FieldType.{FieldType}
use Rattle.fml_value.specs.Takes.{takes}
use Rattle.fml_value.specs.Entries.{with_entry, replaced}
use Rattle.fml_value.specs.Typed.{TypedValue, absent, present, items_of}
use Rattle.fml_value.specs.TypedOf.{typed_of}
use Rattle.fml_value.proofs.Ordered.{replaced_none}
use Rattle.fml_merge.specs.Overlay.{laid, items_laid, members_laid, pairs_in, value_with, type_under}
use Rattle.fml_merge.specs.Highest.{highest_type}
use Rattle.fml_merge.specs.Zero.{zero_within, with_default}
use Rattle.fml_merge.specs.Merging.{base_value, field_laid, inside_laid, types_of, zero_fields, merged_in, left_in, lower, upper, named, unnamed}
use Rattle.fml_merge.specs.Laying.{members_in}
use Rattle.fml_merge.specs.Layers.{replaced_by, trees_laid, objects_laid, layers_laid, run_laid, piece_of, pieces, trees_under, depth_of, AreClimbing, trees_depth, layers_depth, objects_depth}
use Rattle.fml_merge.specs.declared.sorting.Piece.{Piece}
use Rattle.fml_merge.proofs.Layered.{no_items, no_option, one_object, objects_deep, option_objects, first_rest, not_object}
use Rattle.fml_merge.proofs.Sorted.{sorted_deep}
use Rattle.fml_merge.proofs.Turns.{tree_in, rest_whole, turn_within, turn_some, turn_deep, turn_climbing, turn_depth, turn_same, after_rising, layers_rising, merged_layers}
use Rattle.fml_merge.proofs.Measures.{step, field_weight, fields_weight, level, greater, step_most, object_level, one_field, one_type, with_tree, some_weight, item_height, member_high, one_deeper, one_level}
use Rattle.fml_merge.proofs.Fields.{depth_under, each_laid, fields_laid, no_default, one_value_more, replaces, zero_has, zero_none, zero_object}
use Rattle.fml_merge.proofs.Placing.{there_laid, new_laid, place_turn, place_end}
use Rattle.fml_merge.proofs.Pieces.{option_laid, laid_items, taken_has, above_before}
use Rattle.fml_merge.proofs.laying.Layering.+laying.Goals.{field_base-else-is_some-via-then-is_some+else-is_object, field_base-else-is_some-via-else-is_some}
use Rattle.fml_merge.proofs.laying.Layering.+laying.Goals as goal

-- ---- zeros

pub initial-with_default-requires : goal.initial-with_default-requires
initial-with_default-requires t c =
    let types = c.args.self.types.now in
    let pairs = c.as_slice-pairs.result.now in
    let f = c.loop-name-item.result in
    let among = subst (λ y. field_weight types y.1 ≤ fields_weight types pairs) (sym c.loop-name-item.is) (one_field types pairs c.loop-name.name-index f c.loop-name-test.true) in
    let within = subst (λ fs. field_weight types f.1 ≤ fields_weight types fs) c.as_slice-pairs.ensures.pairs among in
    let h = c.decreases in
    (omega (arith, within), tt)

pub initial-push_entry-requires : goal.initial-push_entry-requires
initial-push_entry-requires t c =
    let zeros = zero_within c.args.self.types.now c.args.self.levels in
    let pairs = c.as_slice-pairs.result.now in
    let rising = subst AreRising (sym c.as_slice-pairs.ensures.pairs) c.as_slice-pairs.ensures.rising in
    let above = above_before (λ f. with_default zeros c.args.self.types.now (shape_of f.1.field_type) f.1.default) pairs c.loop-name.name-index c.loop-name-item.result c.loop-name-test.true c.loop-name-item.is rising in
    subst (λ es. IsAbove c.loop-name-item.result.0 es) (sym c.loop-name.invariant) above

pub object_zero-initial-requires : goal.object_zero-initial-requires
object_zero-initial-requires t c =
    let types = c.args.self.types.now in
    let o = c.in-Some.object in
    let there : found c.args.name.now types.objects ≡ Some o.now = sym c.get.ensures ∙ ap (option_map (λ (v : Bor ObjectDefinition). v.now)) c.in-Some.is in
    let fits = object_level types c.args.name.now o.now there in
    let some : 0 < c.args.self.levels = omega arith in
    let more = one_level (level types) c.args.self.levels some in
    (omega (arith, fits, more), tt)

pub with_default-lay_over_zero-requires : goal.with_default-lay_over_zero-requires
with_default-lay_over_zero-requires t c =
    let weighs = with_tree c.args.self.types.now c.args.field.now c.in-Some.tree c.in-Some.is in
    let h = c.decreases in
    (omega (arith, weighs), tt)

pub with_default-zero-requires : goal.with_default-zero-requires
with_default-zero-requires t c =
    let some = some_weight c.args.self.types.now c.args.field.now in
    let h = c.decreases in
    (omega (arith, some), tt)

-- ---- trees

pub lay-lay_objects-requires : goal.lay-lay_objects-requires
lay-lay_objects-requires t c =
    let types = c.args.self.types.now in
    let ms = members_of c.in-Object.members in
    let same : step types * depth (json_of c.args.tree.now) ≡ step types * objects_depth (ms ∷ []) = ap (λ u. step types * depth (json_of u)) c.in-Object.is ∙ ap (λ n. step types * n) (sym (one_object ms)) in
    let h = c.decreases in
    (omega (arith, same), tt)

pub lay-returns-in-Object : goal.lay-returns-in-Object
lay-returns-in-Object t c =
    let types = c.args.self.types.now in
    let s = shape_of c.args.of.now in
    let zeros = zero_within types c.args.self.levels in
    subst (λ u. IfOk c.lay_objects.result (λ v. typed_of v ≡ laid zeros types s (base_value types s c.args.base) (json_of u))) (sym c.in-Object.is) c.lay_objects.ensures

pub lay-returns-in_default : goal.lay-returns-in_default
lay-returns-in_default t c =
    let types = c.args.self.types.now in
    let s = shape_of c.args.of.now in
    let zeros = zero_within types c.args.self.levels in
    let same = replaces zeros types s (json_of c.args.tree.now) (zeros s) (base_value types s c.args.base) (not_object c.args.tree.now c.in_default.not-Object) in
    subst (λ w. IfOk c.lay_over_zero.result (λ v. typed_of v ≡ w)) same c.lay_over_zero.ensures

pub lay_over_zero-returns-in-Option : goal.lay_over_zero-returns-in-Option
lay_over_zero-returns-in-Option t c =
    let types = c.args.self.types.now in
    let zeros = zero_within types c.args.self.levels in
    let inner = c.in-Option.inner in
    let x = json_of c.args.tree.now in
    let same : inside_laid zeros types inner (zeros inner) x ≡ laid zeros types (shape_of c.args.of.now) (zeros (shape_of c.args.of.now)) x =
    option_laid zeros types inner (zeros (shape.option inner)) x ∙ ap (λ (o : FieldType). laid zeros types (shape_of o) (zeros (shape_of o)) x) (sym c.in-Option.is) in
    subst (λ w. IfOk c.lay_inside.result (λ v. typed_of v ≡ w)) same c.lay_inside.ensures

pub lay_over_zero-lay_items-requires : goal.lay_over_zero-lay_items-requires
lay_over_zero-lay_items-requires t c =
    let types = c.args.self.types.now in
    let xs = c.in-List.items in
    let deeper : step types * depth (json_of c.args.tree.now) ≡ step types * items_depth (json.items_of xs) + step types = ap (λ u. step types * depth (json_of u)) c.in-List.is ∙ one_deeper (step types) (items_depth (json.items_of xs)) in
    let high = subst (λ (s : Shape). height s ≤ height (shape_of c.args.of.now)) (sym c.item_type.ensures) (item_height (shape_of c.args.of.now)) in
    let most = step_most types in
    let h = c.decreases in
    (omega (arith, deeper, high, most), tt)

pub lay_over_zero-lay_over_zero_fields-requires : goal.lay_over_zero-lay_over_zero_fields-requires
lay_over_zero-lay_over_zero_fields-requires t c =
    let types = c.args.self.types.now in
    let ms = c.in-Object.members in
    let deeper : step types * depth (json_of c.args.tree.now) ≡ step types * members_depth (members_of ms) + step types = ap (λ u. step types * depth (json_of u)) c.in-Object.is ∙ one_deeper (step types) (members_depth (members_of ms)) in
    let most = step_most types in
    let h = c.decreases in
    (omega (arith, deeper, most), tt)

pub lay_over_zero-returns-in_ok-entries-in-Object : goal.lay_over_zero-returns-in_ok-entries-in-Object
lay_over_zero-returns-in_ok-entries-in-Object t c =
    let types = c.args.self.types.now in
    let zeros = zero_within types c.args.self.levels in
    let s = shape_of c.args.of.now in
    let ms = members_of c.in-Object.members in
    let some : 0 < length (ms ∷ []) = omega arith in
    c.value_with.ensures ∙ ap (value_with s) c.in_ok-entries-in-Object.ensures ∙ sym (no_option zeros types c.args.of.now c.in_default.not-Option (zeros s) (ms ∷ []) some)
    ∙ ap (λ u. laid zeros types s (zeros s) (json_of u)) (sym c.in-Object.is)

pub lay_items-lay_over_zero-requires : goal.lay_items-lay_over_zero-requires
lay_items-lay_over_zero-requires t c =
    let types = c.args.self.types.now in
    let within = depth_within json_of _ _ _ _ c.as_slice-trees.ensures.items c.loop-tree-test.true c.tree-item.is in
    let less = mul-le-mul_left (step types) within in
    let h = c.decreases in
    (omega (arith, less), tt)

pub lay_items-returns : goal.lay_items-returns
lay_items-returns t c =
    let types = c.args.self.types.now in
    let zeros = zero_within types c.args.self.levels in
    let s = shape_of c.args.of.now in
    let trees = c.as_slice-trees.result.now in
    ap items_of (c.loop-tree.invariant ∙ ap (map (λ u. laid zeros types s (zeros s) (json_of u))) (take_all c.loop-tree.tree-index trees c.loop-tree-test.false))
    ∙ laid_items zeros types s trees ∙ ap (λ xs. items_laid zeros types s (json.items_of xs)) c.as_slice-trees.ensures.items

-- ---- objects over the zeros of their types

pub lay_over_zero_fields-lay_members-requires : goal.lay_over_zero_fields-lay_members-requires
lay_over_zero_fields-lay_members-requires t c =
    let high = c.types_in.ensures.high in
    let h = c.decreases in
    (omega (arith, high), tt)

pub lay_over_zero_fields-returns-in-None : goal.lay_over_zero_fields-returns-in-None
lay_over_zero_fields-returns-in-None t c =
    let types = c.args.self.types.now in
    let zeros = zero_within types c.args.self.levels in
    let s = shape_of c.args.of.now in
    let ms = members_of c.args.members.now in
    let none : zero_fields types s c.args.zero_levels ≡ None = sym c.zero_fields.ensures ∙ ap (option_map (λ (fs : Bor (List (List ℕ × Field))). fs.now)) c.in-None.is in
    let same : members_laid zeros types (types_of types c.types_in.result) c.new-entries.result ms ≡ members_laid zeros types (type_under types s) (pairs_in (zero_within types c.args.zero_levels s)) ms =
    ap₂ (λ f es. members_laid zeros types f es ms) c.types_in.ensures.types (c.new-entries.ensures ∙ sym (zero_none types s c.args.zero_levels none)) in
    subst (λ l. IfOk c.lay_members.result (λ es. es ≡ l)) same c.lay_members.ensures

pub lay_over_zero_fields-lay_fields-requires : goal.lay_over_zero_fields-lay_fields-requires
lay_over_zero_fields-lay_fields-requires t c =
    let types = c.args.self.types.now in
    let s = shape_of c.args.of.now in
    let some : zero_fields types s c.args.zero_levels ≡ Some c.in-Some.fields.now = sym c.zero_fields.ensures ∙ ap (option_map (λ (fs : Bor (List (List ℕ × Field))). fs.now)) c.in-Some.is in
    let within = zero_object types s c.args.zero_levels c.in-Some.fields.now some in
    let there = zero_has types s c.args.zero_levels c.in-Some.fields.now some in
    let more = one_level (level types) c.args.zero_levels there.0 in
    let h = c.decreases in
    (omega (arith, within.0, within.1, more), tt)

pub lay_over_zero_fields-returns-in-Some : goal.lay_over_zero_fields-returns-in-Some
lay_over_zero_fields-returns-in-Some t c =
    let types = c.args.self.types.now in
    let zeros = zero_within types c.args.self.levels in
    let s = shape_of c.args.of.now in
    let ms = members_of c.args.members.now in
    let some : zero_fields types s c.args.zero_levels ≡ Some c.in-Some.fields.now = sym c.zero_fields.ensures ∙ ap (option_map (λ (fs : Bor (List (List ℕ × Field))). fs.now)) c.in-Some.is in
    let there = zero_has types s c.args.zero_levels c.in-Some.fields.now some in
    let same = sym (ap₂ (λ f es. members_laid zeros types f es ms) there.1 there.2) in
    subst (λ l. IfOk c.lay_fields.result (λ es. es ≡ l)) same c.lay_fields.ensures

pub lay_fields-lay_field-requires : goal.lay_fields-lay_field-requires
lay_fields-lay_field-requires t c =
    let types = c.args.self.types.now in
    let pairs = c.as_slice-pairs.result.now in
    let f = c.loop-name-item.result in
    let i = c.loop-name.name-index in
    let ms = members_of c.args.members.now in
    let heavy = subst (λ fs. field_weight types f.1 ≤ fields_weight types fs) c.as_slice-pairs.ensures.pairs (subst (λ y. field_weight types y.1 ≤ fields_weight types pairs) (sym c.loop-name-item.is) (one_field types pairs i f c.loop-name-test.true)) in
    let high = subst (λ fs. height (shape_of f.1.field_type) ≤ highest_type fs) c.as_slice-pairs.ensures.pairs (subst (λ (y : List ℕ × Field). height (shape_of y.1.field_type) ≤ highest_type pairs) (sym c.loop-name-item.is) (one_type pairs i f c.loop-name-test.true)) in
    let deep = subst (λ o. depth_of o ≤ members_depth ms) (sym c.get-tree.ensures) (depth_under c.as_str.result.now ms) in
    let less = mul-le-mul_left (step types) deep in
    let h = c.decreases in
    (omega (arith, heavy, high, less), tt)

pub lay_fields-push_entry-requires : goal.lay_fields-push_entry-requires
lay_fields-push_entry-requires t c =
    let types = c.args.self.types.now in
    let pairs = c.as_slice-pairs.result.now in
    let zeros = zero_within types c.args.field_levels in
    let ms = members_of c.args.members.now in
    let first = λ (f : List ℕ × Field). with_default zeros types (shape_of f.1.field_type) f.1.default in
    let value = λ (f : List ℕ × Field). field_laid (zero_within types c.args.self.levels) types (shape_of f.1.field_type) (first f) (get_member f.0 ms) in
    let rising = subst AreRising (sym c.as_slice-pairs.ensures.pairs) c.as_slice-pairs.ensures.rising in
    let above = above_before value pairs c.loop-name.name-index c.loop-name-item.result c.loop-name-test.true c.loop-name-item.is rising in
    subst (λ es. IsAbove c.loop-name-item.result.0 es) (sym c.loop-name.invariant) above

pub lay_fields-returns : goal.lay_fields-returns
lay_fields-returns t c =
    let types = c.args.self.types.now in
    let pairs = c.as_slice-pairs.result.now in
    let fields = c.args.fields.now in
    let zeros = zero_within types c.args.self.levels in
    let ms = members_of c.args.members.now in
    let first = λ (f : List ℕ × Field). with_default (zero_within types c.args.field_levels) types (shape_of f.1.field_type) f.1.default in
    c.loop-name.invariant ∙ ap (each_laid zeros types first ms) (take_all c.loop-name.name-index pairs c.loop-name-test.false ∙ c.as_slice-pairs.ensures.pairs) ∙ sym (fields_laid zeros types ms first fields c.as_slice-pairs.ensures.rising c.as_slice-rising.ensures.sound)

pub lay_fields-loop-name-preserved : goal.lay_fields-loop-name-preserved
lay_fields-loop-name-preserved t c =
    let types = c.args.self.types.now in
    let pairs = c.as_slice-pairs.result.now in
    let f = c.loop-name-item.result in
    let i = c.loop-name.name-index in
    let ms = members_of c.args.members.now in
    let zeros = zero_within types c.args.self.levels in
    let below = zero_within types c.args.field_levels in
    let value = λ (g : List ℕ × Field). field_laid zeros types (shape_of g.1.field_type) (with_default below types (shape_of g.1.field_type) g.1.default) (get_member g.0 ms) in
    let here : typed_of c.in_ok-value.value ≡ value f =
    c.in_ok-value.ensures ∙ ap (field_laid zeros types (shape_of f.1.field_type) (with_default below types (shape_of f.1.field_type) f.1.default)) (c.get-tree.ensures ∙ ap (λ k. get_member k ms) c.as_str.ensures.text) in
    let entry : (f.0, typed_of c.in_ok-value.value) ≡ (f.0, value f) = ap (λ (v : TypedValue). (f.0, v)) here in
    c.in_ok-push_entry.ensures ∙ ap₂ (λ es p. es ++ p ∷ []) c.loop-name.invariant entry ∙ one_value_more value pairs i f c.loop-name-test.true c.loop-name-item.is

pub lay_field-field_base-requires : goal.lay_field-field_base-requires
lay_field-field_base-requires t c = let h = c.decreases in (omega arith, tt)

pub lay_field-lay-requires : goal.lay_field-lay-requires
lay_field-lay-requires t c =
    let types = c.args.self.types.now in
    let x = json_of c.in-Some.tree.now in
    let deep : step types * depth x ≡ step types * depth_of (option_map (λ (u : Bor Tree). json_of u.now) c.args.tree) = ap (λ o. step types * depth_of (option_map (λ (u : Bor Tree). json_of u.now) o)) (sym c.in-Some.is) in
    let less = mul-le-mul_left (level types) c.in_ok-base-in-Some.ensures.levels in
    let h = c.decreases in
    (omega (arith, deep, less), tt)

pub lay_field-with_default-requires : goal.lay_field-with_default-requires
lay_field-with_default-requires t c = let h = c.decreases in (omega arith, tt)

pub field_base-with_default-requires : goal.field_base-with_default-requires
field_base-with_default-requires t c = let h = c.decreases in (omega arith, tt)

pub field_base-returns-else-is_some-clause-value : goal.field_base-returns-else-is_some-clause-value
field_base-returns-else-is_some-clause-value t c = λ zeros.
    let types = c.args.self.types.now in
    let s = shape_of c.args.field.now.field_type in
    let x = json_of c.args.tree.now in
    let below = zero_within types c.args.field_levels in
    let default = c.args.field.now.default in
    elim c.else-is_some.branch [
      | field_base-else-is_some-via-then-is_some+else-is_object w ↦ replaces zeros types s x (below s) (with_default below types s default) (sym w.is_object.ensures ∙ w.if-is_object.false)
      | field_base-else-is_some-via-else-is_some w ↦ ap (λ v. laid zeros types s v x) (sym (no_default below types s default (sym c.is_some.ensures ∙ w.if-is_some.false)))
    ]

-- ---- members in their places

pub lay_named-lay-requires : goal.lay_named-lay-requires
lay_named-lay-requires t c =
    let high = member_high c.args.self.types.now c.args.member_types c.as_str.result.now c.type_of.result c.in-Some.member_type c.type_of.ensures c.in-Some.is in
    let h = c.decreases in
    (omega (arith, high), tt)

pub lay_named-lay_over_zero-requires : goal.lay_named-lay_over_zero-requires
lay_named-lay_over_zero-requires t c =
    let high = member_high c.args.self.types.now c.args.member_types c.as_str.result.now c.type_of.result c.in-Some.member_type c.type_of.ensures c.in-Some.is in
    let h = c.decreases in
    (omega (arith, high), tt)

pub lay_in_place-lay_named-requires : goal.lay_in_place-lay_named-requires
lay_in_place-lay_named-requires t c =
    let types = c.args.self.types.now in
    let within = member_depth_within json_of _ _ _ _ c.as_slice-pairs.ensures.members c.loop-name-test.true c.loop-name-item.is in
    let less = mul-le-mul_left (step types) within in
    let h = c.decreases in
    (omega (arith, less), tt)

pub lay_in_place-loop-name-preserved : goal.lay_in_place-loop-name-preserved
lay_in_place-loop-name-preserved t c =
    let types = c.args.self.types.now in
    place_turn (zero_within types c.args.self.levels) types (types_of types c.args.member_types) c.as_slice-pairs.result.now c.loop-name.name-index c.loop-name-item.result c.loop-name.entries c.lay_named.new.entries _
    c.loop-name-test.true c.loop-name-item.is c.in_ok-lay_named.ensures c.loop-name.invariant

pub lay_in_place-returns : goal.lay_in_place-returns
lay_in_place-returns t c =
    let types = c.args.self.types.now in
    let all = place_end (zero_within types c.args.self.levels) types (types_of types c.args.member_types) c.as_slice-pairs.result.now c.loop-name.name-index c.loop-name.entries _ c.loop-name-test.false c.loop-name.invariant in
    all ∙ ap (λ ms. members_laid (zero_within types c.args.self.levels) types (types_of types c.args.member_types) c.args.base (members_of ms)) c.as_slice-pairs.ensures.members

pub lay_named-returns-in_ok-value-in-Some-replace : goal.lay_named-returns-in_ok-value-in-Some-replace
lay_named-returns-in_ok-value-in-Some-replace t c =
    let types = c.args.self.types.now in
    let zeros = zero_within types c.args.self.levels in
    let type_of = types_of types c.args.member_types in
    let k = c.args.name.now in
    let x = json_of c.args.tree.now in
    let es = c.args.entries.now in
    let left = c.replace.new.self in
    let s = shape_of c.in-Some.member_type.now in
    let base = typed_of c.in-Some-replace.base in
    let value = typed_of c.in_ok-value-in-Some-replace.value in
    let typed : type_of k ≡ Some s = ap type_of (sym c.as_str.ensures.text) ∙ sym c.type_of.ensures ∙ ap (option_map (λ (u : Bor FieldType). shape_of u.now)) c.in-Some.is in
    let taken : takes types s x ≡ true = sym c.takes.ensures ∙ c.if-not-takes.false in
    let had : found k es ≡ Some base = ap (λ n. found n es) (sym c.as_str-2.ensures.text) ∙ sym c.in-Some-replace.ensures.old in
    let without : left ≡ replaced k absent es = c.in-Some-replace.ensures.new ∙ ap (λ n. replaced n absent es) c.as_str-2.ensures.text in
    let grown : c.replace-in-Some-replace.new.self ≡ replaced k value left = c.replace-in-Some-replace.ensures.new ∙ ap (λ n. replaced n value left) c.as_str-in-Some-replace.ensures.text in
    there_laid zeros types type_of k x s es left c.replace-in-Some-replace.new.self base absent value typed taken had without c.in_ok-value-in-Some-replace.ensures grown

pub lay_named-returns-in_ok-value-in-None : goal.lay_named-returns-in_ok-value-in-None
lay_named-returns-in_ok-value-in-None t c =
    let types = c.args.self.types.now in
    let zeros = zero_within types c.args.self.levels in
    let type_of = types_of types c.args.member_types in
    let k = c.args.name.now in
    let x = json_of c.args.tree.now in
    let es = c.args.entries.now in
    let left = c.replace.new.self in
    let s = shape_of c.in-Some.member_type.now in
    let value = typed_of c.in_ok-value-in-None.value in
    let typed : type_of k ≡ Some s = ap type_of (sym c.as_str.ensures.text) ∙ sym c.type_of.ensures ∙ ap (option_map (λ (u : Bor FieldType). shape_of u.now)) c.in-Some.is in
    let taken : takes types s x ≡ true = sym c.takes.ensures ∙ c.if-not-takes.false in
    let none : found k es ≡ None = ap (λ n. found n es) (sym c.as_str-2.ensures.text) ∙ sym c.in-None.ensures.old in
    let same : left ≡ es = c.in-None.ensures.new ∙ ap (λ n. replaced n absent es) c.as_str-2.ensures.text ∙ replaced_none k absent es none in
    let all = subst (λ l. OnOk c.insert_entry.result (c.insert_entry.new.entries ≡ with_entry k value l)) same c.insert_entry.ensures in
    on_ok_weaker c.insert_entry.result (λ grown. new_laid zeros types type_of k x s es c.insert_entry.new.entries value typed taken none c.in_ok-value-in-None.ensures grown) all

-- ---- layers

pub lay_objects-returns-then-is_empty : goal.lay_objects-returns-then-is_empty
lay_objects-returns-then-is_empty t c =
    let types = c.args.self.types.now in
    let s = shape_of c.args.of.now in
    let empty : length c.args.layers.now ≡ 0 = search rules in
    subst (λ l. IfOk c.made.result (λ v. typed_of v ≡ objects_laid (zero_within types c.args.self.levels) types s (base_value types s c.args.base) (map members_in l))) (sym (no_items c.args.layers.now empty)) c.made.ensures

pub lay_objects-lay_over_base-requires : goal.lay_objects-lay_over_base-requires
lay_objects-lay_over_base-requires t c =
    let types = c.args.self.types.now in
    let layers = map members_in c.args.layers.now in
    let some : 0 < length c.args.layers.now = search rules in
    let deep : step types * objects_depth layers ≡ step types * layers_depth layers + step types =
    ap (λ n. step types * n) (objects_deep layers (subst (λ n. 0 < n) (sym (length-map c.args.layers.now members_in)) some)) ∙ one_deeper (step types) (layers_depth layers) in
    let most = step_most types in
    let h = c.decreases in
    (omega (arith, deep, most), some)

pub lay_objects-returns-in_ok-new-in-Option : goal.lay_objects-returns-in_ok-new-in-Option
lay_objects-returns-in_ok-new-in-Option t c =
    let types = c.args.self.types.now in
    let zeros = zero_within types c.args.self.levels in
    let inner = c.in-Option.inner in
    let layers = map members_in c.args.layers.now in
    let there : 0 < length c.args.layers.now = search rules in
    let some : 0 < length layers = subst (λ n. 0 < n) (sym (length-map c.args.layers.now members_in)) there in
    ap present (c.in_ok-new-in-Option.ensures ∙ c.in_ok-value-in-Option.ensures ∙ ap (λ (s : Shape). objects_laid zeros types s (base_value types s c.held.result) layers) c.get.ensures
    ∙ ap (λ v. objects_laid zeros types inner v layers) (c.held.ensures.value types inner))
    ∙ option_objects zeros types inner (base_value types (shape.option inner) c.args.base) layers some
    ∙ ap (λ (o : FieldType). objects_laid zeros types (shape_of o) (base_value types (shape_of o) c.args.base) layers) (sym c.in-Option.is)

pub lay_objects-returns-in_ok-entries-in_default : goal.lay_objects-returns-in_ok-entries-in_default
lay_objects-returns-in_ok-entries-in_default t c =
    let types = c.args.self.types.now in
    let s = shape_of c.args.of.now in
    let layers = map members_in c.args.layers.now in
    let there : 0 < length c.args.layers.now = search rules in
    let some : 0 < length layers = subst (λ n. 0 < n) (sym (length-map c.args.layers.now members_in)) there in
    c.value_with.ensures ∙ ap (value_with s) c.in_ok-entries-in_default.ensures ∙ sym (no_option (zero_within types c.args.self.levels) types c.args.of.now c.in_default.not-Option (base_value types s c.args.base) layers some)

pub lay_over_base-returns-in-Made : goal.lay_over_base-returns-in-Made
lay_over_base-returns-in-Made t c =
    let types = c.args.self.types.now in
    let zeros = zero_within types c.args.self.levels in
    let s = shape_of c.args.of.now in
    let layers = map members_in c.args.layers.now in
    let same = ap₂ (λ f es. layers_laid zeros types f es layers) c.types_in-member_types.ensures.types (c.entries_in.ensures ∙ ap (λ b. pairs_in (base_value types s b)) (sym c.in-Made.is)) in
    subst (λ l. IfOk c.lay_layers.result (λ es. es ≡ l)) same c.lay_layers.ensures

pub lay_over_base-returns-in_ok-entries-in-Zero : goal.lay_over_base-returns-in_ok-entries-in-Zero
lay_over_base-returns-in_ok-entries-in-Zero t c =
    let types = c.args.self.types.now in
    let zeros = zero_within types c.args.self.levels in
    let s = shape_of c.args.of.now in
    let under = pairs_in (zero_within types c.in-Zero.levels s) in
    let layers = map members_in c.args.layers.now in
    let rest = take (length c.args.layers.now - 1) (drop 1 c.args.layers.now) in
    let first = c.index-layers-0.result in
    let same = ap₂ (λ f es. layers_laid zeros types f es (map members_in rest)) c.types_in-member_types.ensures.types c.in_ok-entries-in-Zero.ensures
    ∙ ap (λ l. layers_laid zeros types (type_under types s) (members_laid zeros types (type_under types s) under (members_in first)) (map members_in l)) (rest_whole 1 c.args.layers.now)
    ∙ ap (layers_laid zeros types (type_under types s) under) (sym (first_rest members_in c.args.layers.now first c.requires c.index-layers-0.is))
    ∙ ap (λ b. layers_laid zeros types (type_under types s) (pairs_in (base_value types s b)) layers) (sym c.in-Zero.is) in
    subst (λ l. IfOk c.lay_layers-in-Zero.result (λ es. es ≡ l)) same c.lay_layers-in-Zero.ensures

pub lay_run-lay_trees-requires : goal.lay_run-lay_trees-requires
lay_run-lay_trees-requires t c =
    let high = member_high c.args.self.types.now c.args.member_types c.as_str.result.now c.type_of.result c.in-Some.of c.type_of.ensures c.in-Some.is in
    let h = c.decreases in
    (omega (arith, high), tt)

pub lay_run-lay_trees-requires-in-None : goal.lay_run-lay_trees-requires-in-None
lay_run-lay_trees-requires-in-None t c =
    let high = member_high c.args.self.types.now c.args.member_types c.as_str.result.now c.type_of.result c.in-Some.of c.type_of.ensures c.in-Some.is in
    let h = c.decreases in
    (omega (arith, high), tt)

pub lay_trees-lay_counted-requires : goal.lay_trees-lay_counted-requires
lay_trees-lay_counted-requires t c =
    let types = c.args.self.types.now in
    let most = trees_depth (map tree_in c.args.pieces.now) in
    let replacing = c.in_ok-counted.ensures.within.replacing in
    let objects = subst (λ l. objects_depth (map members_in l) ≤ most) (sym c.as_slice.ensures.value) c.in_ok-counted.ensures.within.objects in
    let both : greater (depth_of (option_map (λ (u : Bor Tree). json_of u.now) c.in_ok-counted.counted.replacing)) (objects_depth (map members_in c.as_slice.result.now)) ≤ most = omega (arith, replacing, objects) in
    let less = mul-le-mul_left (step types) both in
    let h = c.decreases in
    (omega (arith, less), tt)

pub lay_trees-returns : goal.lay_trees-returns
lay_trees-returns t c =
    let types = c.args.self.types.now in
    let zeros = zero_within types c.args.self.levels in
    let s = shape_of c.args.of.now in
    let base = base_value types s c.args.base in
    let over = replaced_by zeros types s base (option_map (λ (u : Bor Tree). json_of u.now) c.in_ok-counted.counted.replacing) in
    let same : objects_laid zeros types s over (map members_in c.as_slice.result.now) ≡ trees_laid zeros types s base (map tree_in c.args.pieces.now) =
    ap (λ l. objects_laid zeros types s over (map members_in l)) c.as_slice.ensures.value ∙ c.in_ok-counted.ensures.same zeros base in
    subst (λ w. IfOk c.lay_counted.result (λ v. typed_of v ≡ w)) same c.lay_counted.ensures

pub lay_counted-lay_over_zero-requires : goal.lay_counted-lay_over_zero-requires
lay_counted-lay_over_zero-requires t c =
    let types = c.args.self.types.now in
    let objects = objects_depth (map members_in c.args.objects.now) in
    let same = ap (λ o. step types * greater (depth_of (option_map (λ (u : Bor Tree). json_of u.now) o)) objects) c.in-Some.is in
    let within : depth (json_of c.in-Some.tree.now) ≤ greater (depth (json_of c.in-Some.tree.now)) objects = omega arith in
    let less = mul-le-mul_left (step types) within in
    let h = c.decreases in
    (omega (arith, same, less), tt)

pub lay_counted-lay_objects-requires : goal.lay_counted-lay_objects-requires
lay_counted-lay_objects-requires t c =
    let types = c.args.self.types.now in
    let objects = objects_depth (map members_in c.args.objects.now) in
    let replacing = depth_of (option_map (λ (u : Bor Tree). json_of u.now) c.args.replacing) in
    let within : objects ≤ greater replacing objects = omega arith in
    let less = mul-le-mul_left (step types) within in
    let h = c.decreases in
    (omega (arith, less), tt)

pub lay_counted-lay_objects-requires-in-Some : goal.lay_counted-lay_objects-requires-in-Some
lay_counted-lay_objects-requires-in-Some t c =
    let types = c.args.self.types.now in
    let objects = objects_depth (map members_in c.args.objects.now) in
    let replacing = depth_of (option_map (λ (u : Bor Tree). json_of u.now) c.args.replacing) in
    let within : objects ≤ greater replacing objects = omega arith in
    let less = mul-le-mul_left (step types) within in
    let h = c.decreases in
    (omega (arith, less), tt)

pub lay_counted-returns-in-None : goal.lay_counted-returns-in-None
lay_counted-returns-in-None t c =
    let types = c.args.self.types.now in
    let zeros = zero_within types c.args.self.levels in
    let s = shape_of c.args.of.now in
    let base = base_value types s c.args.base in
    let same = ap (λ o. objects_laid zeros types s (replaced_by zeros types s base (option_map (λ (u : Bor Tree). json_of u.now) o)) (map members_in c.args.objects.now)) (sym c.in-None.is) in
    subst (λ w. IfOk c.lay_objects.result (λ v. typed_of v ≡ w)) same c.lay_objects.ensures

pub lay_counted-returns-in_ok-value-in-Some : goal.lay_counted-returns-in_ok-value-in-Some
lay_counted-returns-in_ok-value-in-Some t c =
    let types = c.args.self.types.now in
    let zeros = zero_within types c.args.self.levels in
    let s = shape_of c.args.of.now in
    let base = base_value types s c.args.base in
    let same : objects_laid zeros types s (typed_of c.in_ok-value-in-Some.value) (map members_in c.args.objects.now) ≡ objects_laid zeros types s (replaced_by zeros types s base (option_map (λ (u : Bor Tree). json_of u.now) c.args.replacing)) (map members_in c.args.objects.now) =
    ap (λ v. objects_laid zeros types s v (map members_in c.args.objects.now)) c.in_ok-value-in-Some.ensures
    ∙ ap (λ o. objects_laid zeros types s (replaced_by zeros types s base (option_map (λ (u : Bor Tree). json_of u.now) o)) (map members_in c.args.objects.now)) (sym c.in-Some.is) in
    subst (λ w. IfOk c.lay_objects-in-Some.result (λ v. typed_of v ≡ w)) same c.lay_objects-in-Some.ensures

-- ---- layers that are merged

pub merge_layers-merge_pieces-requires : goal.merge_layers-merge_pieces-requires
merge_layers-merge_pieces-requires t c =
    let types = c.args.self.types.now in
    let ps = c.as_slice.result.now in
    let trees : (k : List ℕ) → trees_under k (map piece_of ps) ≡ trees_under k (pieces (map (λ (m : Bor (List (List ℕ × Json))). m.now) c.args.layers.now)) =
    λ k. ap (λ l. trees_under k (map piece_of l)) c.as_slice.ensures.value ∙ c.in_ok-pieces.ensures.trees k in
    let less = mul-le-mul_left (step types) (sorted_deep (λ (m : Bor (List (List ℕ × Json))). m.now) c.args.layers.now (map piece_of ps) trees) in
    let h = c.decreases in
    (omega (arith, less), (subst (λ l. AreClimbing (map piece_of l)) (sym c.as_slice.ensures.value) c.in_ok-pieces.ensures.climbing, subst AreRising (sym c.new-merge.ensures.left) c.new-merge.ensures.rising))

pub merge_layers-finish-requires : goal.merge_layers-finish-requires
merge_layers-finish-requires t c =
    let types = c.args.self.types.now in
    let zeros = zero_within types c.args.self.levels in
    let type_of = types_of types c.args.member_types in
    let ps = c.as_slice.result.now in
    let trees : (k : List ℕ) → trees_under k (map piece_of ps) ≡ trees_under k (pieces (map (λ (m : Bor (List (List ℕ × Json))). m.now) c.args.layers.now)) =
    λ k. ap (λ l. trees_under k (map piece_of l)) c.as_slice.ensures.value ∙ c.in_ok-pieces.ensures.trees k in
    let whole = merged_layers zeros types type_of c.args.layers.now c.args.base (map piece_of ps) c.new-merge.result c.merge_pieces.new.merge c.new-merge.ensures.rising trees c.new-merge.ensures.merged c.new-merge.ensures.left c.in_ok-merge_pieces.ensures in
    subst AreRising (sym whole) (layers_rising zeros types type_of c.args.base (map members_in c.args.layers.now) c.new-merge.ensures.rising)

pub merge_layers-returns : goal.merge_layers-returns
merge_layers-returns t c =
    let types = c.args.self.types.now in
    let zeros = zero_within types c.args.self.levels in
    let type_of = types_of types c.args.member_types in
    let ps = c.as_slice.result.now in
    let trees : (k : List ℕ) → trees_under k (map piece_of ps) ≡ trees_under k (pieces (map (λ (m : Bor (List (List ℕ × Json))). m.now) c.args.layers.now)) =
    λ k. ap (λ l. trees_under k (map piece_of l)) c.as_slice.ensures.value ∙ c.in_ok-pieces.ensures.trees k in
    let whole = merged_layers zeros types type_of c.args.layers.now c.args.base (map piece_of ps) c.new-merge.result c.merge_pieces.new.merge c.new-merge.ensures.rising trees c.new-merge.ensures.merged c.new-merge.ensures.left c.in_ok-merge_pieces.ensures in
    subst (λ l. IfOk c.finish.result (λ es. es ≡ l)) whole c.finish.ensures

pub merge_pieces-merge_run-requires : goal.merge_pieces-merge_run-requires
merge_pieces-merge_run-requires t c =
    let types = c.args.self.types.now in
    let ps = c.args.pieces.now in
    let start = c.loop-start.start in
    let x = c.index-rest-0.result in
    let key = c.as_str.result.now in
    let given = c.as_str.ensures.text in
    let name : key ≡ x.name.now = given ∙ ap (λ (q : Piece). q.name.now) (sym c.index-rest-0.is) in
    let count = c.run_length-count.result in
    let left = take (length ps - start) (drop start ps) in
    let deep = turn_deep ps start left x key count (rest_whole start ps) c.loop-start-test.true c.index-rest-0.is name c.run_length-count.ensures.value (take count left) (members_depth (members_of (map piece_of ps))) (ap (take count) (rest_whole start ps)) c.loop-start.invariant.depth in
    let less = mul-le-mul_left (step types) deep in
    let h = c.decreases in
    (omega (arith, less), tt)

pub merge_pieces-loop-start-smaller : goal.merge_pieces-loop-start-smaller
merge_pieces-loop-start-smaller t c =
    let ps = c.args.pieces.now in
    let start = c.loop-start.start in
    let some = turn_some ps start (take (length ps - start) (drop start ps)) c.index-rest-0.result c.as_str.result.now c.run_length-count.result (rest_whole start ps) c.loop-start-test.true c.index-rest-0.is (c.as_str.ensures.text ∙ ap (λ (q : Piece). q.name.now) (sym c.index-rest-0.is)) c.run_length-count.ensures.value in
    let before = c.loop-start-test.true in
    omega (arith, some, before)

pub merge_pieces-loop-start-preserved : goal.merge_pieces-loop-start-preserved
merge_pieces-loop-start-preserved t c =
    let types = c.args.self.types.now in
    let zeros = zero_within types c.args.self.levels in
    let type_of = types_of types c.args.member_types in
    let ps = c.args.pieces.now in
    let start = c.loop-start.start in
    let left = take (length ps - start) (drop start ps) in
    let x = c.index-rest-0.result in
    let key = c.as_str.result.now in
    let count = c.run_length-count.result in
    let given = c.as_str.ensures.text in
    let name : key ≡ x.name.now = given ∙ ap (λ (q : Piece). q.name.now) (sym c.index-rest-0.is) in
    let whole = rest_whole start ps in
    let run = take count left in
    let es = left_in c.loop-start.merge in
    let goes : left_in c.merge_run.new.merge ≡ unnamed key (upper key es) = c.in_ok-merge_run.ensures.left ∙ ap (λ n. unnamed n (upper n es)) (sym given) in
    let grows : merged_in c.merge_run.new.merge ≡ (merged_in c.loop-start.merge ++ lower key es) ++ run_laid zeros types type_of key (map tree_in run) (named key (upper key es)) =
    c.in_ok-merge_run.ensures.merged ∙ ap (λ n. (merged_in c.loop-start.merge ++ lower n es) ++ run_laid zeros types type_of n (map tree_in run) (named n (upper n es))) (sym given) in
    record {
      same = turn_same ps start left x key count whole c.loop-start-test.true c.index-rest-0.is name c.run_length-count.ensures.value zeros types type_of run (merged_in c.loop-start.merge) (merged_in c.merge_run.new.merge) es (left_in c.merge_run.new.merge)
          (merged_in c.args.merge.now ++ members_laid zeros types type_of (left_in c.args.merge.now) (members_of (map piece_of ps))) (ap (take count) whole) c.loop-start.invariant.climbing c.loop-start.invariant.rising grows goes c.loop-start.invariant.same;
      rising = after_rising zeros types type_of key es (left_in c.merge_run.new.merge) c.loop-start.invariant.rising goes;
      within = turn_within ps start left x key count whole c.loop-start-test.true c.index-rest-0.is name c.run_length-count.ensures.value;
      climbing = turn_climbing ps start left x key count whole c.loop-start-test.true c.index-rest-0.is name c.run_length-count.ensures.value c.loop-start.invariant.climbing;
      depth = turn_depth ps start left x key count whole c.loop-start-test.true c.index-rest-0.is name c.run_length-count.ensures.value (members_depth (members_of (map piece_of ps))) c.loop-start.invariant.depth;
    }

pub merge_pieces-returns : goal.merge_pieces-returns
merge_pieces-returns t c =
    let types = c.args.self.types.now in
    let zeros = zero_within types c.args.self.levels in
    let type_of = types_of types c.args.member_types in
    let m = c.loop-start.merge in
    sym (ap (λ l. merged_in m ++ members_laid zeros types type_of (left_in m) (members_of (map piece_of l))) (drop_all c.loop-start.start c.args.pieces.now c.loop-start-test.false)) ∙ c.loop-start.invariant.same

pub merge_run-lay_run-requires : goal.merge_run-lay_run-requires
merge_run-lay_run-requires t c =
    let h = c.decreases in
    let name = c.as_str.ensures.text in
    (omega arith, λ p is. taken_has c.as_str.result.now (upper c.as_str.result.now (left_in c.args.merge.now)) c.in_ok-there.there p c.in_ok-there.ensures.taken is ∙ name)

pub merge_run-returns : goal.merge_run-returns
merge_run-returns t c =
    let types = c.args.self.types.now in
    let zeros = zero_within types c.args.self.levels in
    let type_of = types_of types c.args.member_types in
    let k = c.args.name.now in
    let es = left_in c.args.merge.now in
    let name : c.as_str.result.now ≡ k = c.as_str.ensures.text in
    let value = c.in_ok-entry.ensures ∙ ap (run_laid zeros types type_of k (map tree_in c.args.pieces.now)) (c.in_ok-there.ensures.taken ∙ ap (λ n. named n (upper n es)) name) in
    record {
      merged = on_ok_weaker c.push.result (λ is. is ∙ ap₂ (λ f e. f ++ e) (c.in_ok-there.ensures.merged ∙ ap (λ n. merged_in c.args.merge.now ++ lower n es) name) value) c.push.ensures.merged;
      left = on_ok_weaker c.push.result (λ is. is ∙ c.in_ok-there.ensures.left ∙ ap (λ n. unnamed n (upper n es)) name) c.push.ensures.left;
    }
