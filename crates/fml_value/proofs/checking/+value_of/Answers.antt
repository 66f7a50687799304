use Rattle.std.proofs.Common.{◌≡◌, ◌<◌, map, take, length, sym, ap, ◌∙◌, subst, arith, true, []}
use Rattle.fml_types.specs.Shapes.{shape_of, key_of}
use Rattle.json_tree.specs.Json as json
use Rattle.json_tree.specs.Json.{IsSound, AreSoundMembers}
use Rattle.json_tree.specs.Tree.{json_of, member_of}
use Rattle.json_tree.proofs.Pairs.{IsAbove-at}
use Rattle.json_tree.proofs.Depths.{depth_within, member_depth_within}
use Rattle.fml_value.specs.Checks.{AreEntriesOf}
use Rattle.fml_value.specs.HasType.{HaveType, AreEntries, AreFields, AreKeys}
use Rattle.fml_value.specs.Kinds.{is_key}
use Rattle.fml_value.specs.Trees.{IsValueOf, tree_of}
use Rattle.fml_value.specs.Typed.{items_of, entries_of}
use Rattle.fml_value.specs.TypedOf.{typed_of}
use Rattle.fml_value.proofs.Checked.{none_found, some_found, values_turn, values_end, values_none, entries_turn, entries_end, entries_none, no_key_there, fields_turn, fields_end, fields_none, fields_apart, above_typed, keys_sound, none_inside, inside_wrapped}
use Rattle.fml_value.proofs.Trees.{typed_entry_tree}
use Rattle.fml_value.proofs.checking.+value_of.Goals as goal

pub bare_value_of-named_of-requires : goal.bare_value_of-named_of-requires
bare_value_of-named_of-requires t c = let h = c.decreases in (omega arith, tt)

-- ---- options

pub value_of-bare_value_of-requires : goal.value_of-bare_value_of-requires
value_of-bare_value_of-requires t c = let h = c.decreases in (omega arith, c.bare.ensures.bare)

pub value_of-returns-in_default : goal.value_of-returns-in_default
value_of-returns-in_default t c =
    let types = c.args.types.now in
    let x = json_of c.args.tree.now in
    let none = none_found typed_of (IsValueOf types (shape_of c.bare.result.now) x) c.in_ok-value.field-0 c.in_default.is c.in_ok-value.ensures in
    none_inside types (shape_of c.args.of.now) x (sym c.is_null.ensures ∙ c.if-is_null.false) (subst (λ s. (v : _) → IsValueOf types s x v → ⊥) c.bare.ensures.shape none)

pub value_of-returns : goal.value_of-returns
value_of-returns t c =
    let types = c.args.types.now in
    let x = json_of c.args.tree.now in
    let some = some_found typed_of (IsValueOf types (shape_of c.bare.result.now) x) c.in_ok-value.field-0 c.in-Some.value c.in-Some.is c.in_ok-value.ensures in
    let there = inside_wrapped types (shape_of c.args.of.now) x (typed_of c.in-Some.value) (subst (λ s. IsValueOf types s x (typed_of c.in-Some.value)) c.bare.ensures.shape some) in
    subst (IsValueOf types (shape_of c.args.of.now) x) (sym c.in_ok-wrap.ensures) there

-- ---- lists

pub values_of-loop-tree-init : goal.values_of-loop-tree-init
values_of-loop-tree-init t c =
    (subst (λ vs. HaveType c.args.types.now (shape_of c.args.of.now) (items_of vs)) (sym c.new-values.ensures) tt, ap (map tree_of) c.new-values.ensures)

pub values_of-value_of-requires : goal.values_of-value_of-requires
values_of-value_of-requires t c =
    let h = c.decreases in (omega (arith, depth_within json_of _ _ _ _ c.as_slice-trees.ensures.items c.loop-tree-test.true c.tree-item.is), tt)

pub values_of-returns-in_default : goal.values_of-returns-in_default
values_of-returns-in_default t c =
    let types = c.args.types.now in
    let s = shape_of c.args.of.now in
    let x = c.tree-item.result in
    values_none types s c.as_slice-trees.result.now c.args.items.now c.loop-tree.tree-index x c.as_slice-trees.ensures.items c.loop-tree-test.true c.tree-item.is
    (none_found typed_of (IsValueOf types s (json_of x)) c.in_ok-value.field-0 c.in_default.is c.in_ok-value.ensures)

pub values_of-loop-tree-preserved : goal.values_of-loop-tree-preserved
values_of-loop-tree-preserved t c =
    let types = c.args.types.now in
    let s = shape_of c.args.of.now in
    let x = c.tree-item.result in
    values_turn types s c.as_slice-trees.result.now c.loop-tree.tree-index x c.loop-tree.values c.push.new.self (typed_of c.in-Some.value) c.loop-tree-test.true c.tree-item.is c.in_ok-push.ensures.ok c.loop-tree.invariant
    (some_found typed_of (IsValueOf types s (json_of x)) c.in_ok-value.field-0 c.in-Some.value c.in-Some.is c.in_ok-value.ensures)

pub values_of-returns : goal.values_of-returns
values_of-returns t c =
    values_end c.args.types.now (shape_of c.args.of.now) c.as_slice-trees.result.now c.args.items.now c.loop-tree.tree-index c.loop-tree.values c.as_slice-trees.ensures.items c.loop-tree-test.false c.loop-tree.invariant

-- ---- maps

pub map_of-returns : goal.map_of-returns
map_of-returns t c =
    let types = c.args.types.now in
    let key = key_of c.args.key.now in
    let ms = json.members_of c.in-Object.members in
    let es = entries_of c.in-Some.entries in
    let found = some_found entries_of (AreEntriesOf types key (shape_of c.get.result.now) ms) c.in_ok-entries.field-0 c.in-Some.entries c.in-Some.is c.in_ok-entries.ensures in
    let sound : AreSoundMembers ms = subst (λ u. IsSound (json_of u)) c.in-Object.is c.requires in
    let keys : AreKeys es = keys_sound es (subst AreSoundMembers (sym found.1) sound) in
    let has : AreEntries types key c.args.of.now es = subst (λ s. AreEntries types key s es) c.get.ensures found.0 in
    ((keys, has), ap json.object found.1 ∙ sym (ap json_of c.in-Object.is))

pub entries_of-loop-name-init : goal.entries_of-loop-name-init
entries_of-loop-name-init t c =
    (subst (λ es. AreEntries c.args.types.now (key_of c.args.key.now) (shape_of c.args.of.now) (entries_of es)) (sym c.new-entries.ensures) tt, ap (map typed_entry_tree) c.new-entries.ensures)

pub entries_of-value_of-requires : goal.entries_of-value_of-requires
entries_of-value_of-requires t c =
    let h = c.decreases in (omega (arith, member_depth_within json_of _ _ _ _ c.as_slice-pairs.ensures.members c.loop-name-test.true c.loop-name-item.is), tt)

pub entries_of-returns-then-not-is_key : goal.entries_of-returns-then-not-is_key
entries_of-returns-then-not-is_key t c =
    let types = c.args.types.now in
    let key = key_of c.args.key.now in
    let m = c.loop-name-item.result in
    entries_none types key (shape_of c.args.of.now) c.as_slice-pairs.result.now c.args.members.now c.loop-name.name-index m c.as_slice-pairs.ensures.members c.loop-name-test.true c.loop-name-item.is
    (λ v keyed found. no_key_there types key c.is_key.result m.0 c.as_str.result.now c.as_str.ensures.text c.is_key.ensures c.if-not-is_key.true keyed)

pub entries_of-returns-in_default : goal.entries_of-returns-in_default
entries_of-returns-in_default t c =
    let types = c.args.types.now in
    let s = shape_of c.args.of.now in
    let m = c.loop-name-item.result in
    entries_none types (key_of c.args.key.now) s c.as_slice-pairs.result.now c.args.members.now c.loop-name.name-index m c.as_slice-pairs.ensures.members c.loop-name-test.true c.loop-name-item.is
    (λ v keyed found. none_found typed_of (IsValueOf types s (json_of m.1)) c.in_ok-value.field-0 c.in_default.is c.in_ok-value.ensures v found)

pub entries_of-push-requires : goal.entries_of-push-requires
entries_of-push-requires t c =
    let pairs = c.as_slice-pairs.result.now in
    let m = c.loop-name-item.result in
    let i = c.loop-name.name-index in
    let sound = subst (λ ms. AreSoundMembers (json.members_of ms)) (sym c.as_slice-pairs.ensures.members) c.as_slice-pairs.ensures.sound in
    let above = IsAbove-at pairs i m c.loop-name-test.true c.loop-name-item.is sound in
    above_typed c.in_ok-clone.field-0 c.loop-name.entries
    (subst (λ ms. json.IsAbove c.in_ok-clone.field-0 ms) (sym c.loop-name.invariant.1) (subst (λ k. json.IsAbove k (map member_of (take i pairs))) (sym c.in_ok-clone.ensures.cases) above))

pub entries_of-loop-name-preserved : goal.entries_of-loop-name-preserved
entries_of-loop-name-preserved t c =
    let types = c.args.types.now in
    let key = key_of c.args.key.now in
    let s = shape_of c.args.of.now in
    let m = c.loop-name-item.result in
    let keyed : is_key types key m.0 ≡ true = ap (is_key types key) (sym c.as_str.ensures.text) ∙ sym c.is_key.ensures ∙ c.if-not-is_key.false in
    entries_turn types key s c.as_slice-pairs.result.now c.loop-name.name-index m c.loop-name.entries c.push.new.self c.in_ok-clone.field-0 (typed_of c.in-Some.value) c.loop-name-test.true c.loop-name-item.is c.in_ok-push.ensures.ok c.in_ok-clone.ensures.cases
    keyed c.loop-name.invariant (some_found typed_of (IsValueOf types s (json_of m.1)) c.in_ok-value.field-0 c.in-Some.value c.in-Some.is c.in_ok-value.ensures)

pub entries_of-returns : goal.entries_of-returns
entries_of-returns t c =
    entries_end c.args.types.now (key_of c.args.key.now) (shape_of c.args.of.now) c.as_slice-pairs.result.now c.args.members.now c.loop-name.name-index c.loop-name.entries c.as_slice-pairs.ensures.members c.loop-name-test.false c.loop-name.invariant

-- ---- objects

pub field_of-value_of-requires : goal.field_of-value_of-requires
field_of-value_of-requires t c = let h = c.decreases in (omega arith, tt)

pub fields_of-returns-then-fields-pairs : goal.fields_of-returns-then-fields-pairs
fields_of-returns-then-fields-pairs t c =
    fields_apart c.args.types.now c.as_slice-fields.result.now c.args.definition.now.fields c.as_slice-pairs.result.now c.args.members.now c.as_slice-fields.ensures.pairs c.as_slice-pairs.ensures.members c.if-fields-pairs.true

pub fields_of-loop-place-init : goal.fields_of-loop-place-init
fields_of-loop-place-init t c =
    (subst (λ es. AreFields c.args.types.now [] (entries_of es)) (sym c.new-entries.ensures) tt, ap (map typed_entry_tree) c.new-entries.ensures)

pub fields_of-field_of-requires : goal.fields_of-field_of-requires
fields_of-field_of-requires t c =
    let pairs = c.as_slice-pairs.result.now in
    let i = c.loop-place.place in
    let below : i < length pairs = omega (arith, c.loop-place-test.true, c.if-fields-pairs.false) in
    let h = c.decreases in (omega (arith, member_depth_within json_of _ _ _ _ c.as_slice-pairs.ensures.members below c.index-pairs-place.is), tt)

pub fields_of-returns-in_default : goal.fields_of-returns-in_default
fields_of-returns-in_default t c =
    let types = c.args.types.now in
    let fields = c.as_slice-fields.result.now in
    let pairs = c.as_slice-pairs.result.now in
    let f = c.index-fields-place.result in
    let m = c.index-pairs-place.result in
    let i = c.loop-place.place in
    let below : i < length pairs = omega (arith, c.loop-place-test.true, c.if-fields-pairs.false) in
    fields_none types fields c.args.definition.now.fields pairs c.args.members.now i f m c.as_slice-fields.ensures.pairs c.as_slice-pairs.ensures.members c.loop-place-test.true below c.index-fields-place.is c.index-pairs-place.is
    (none_found typed_of (λ v. (m.0 ≡ f.0) × IsValueOf types (shape_of f.1.field_type) (json_of m.1) v) c.in_ok-value.field-0 c.in_default.is c.in_ok-value.ensures)

pub fields_of-push-requires : goal.fields_of-push-requires
fields_of-push-requires t c =
    let pairs = c.as_slice-pairs.result.now in
    let m = c.index-pairs-place.result in
    let i = c.loop-place.place in
    let below : i < length pairs = omega (arith, c.loop-place-test.true, c.if-fields-pairs.false) in
    let sound = subst (λ ms. AreSoundMembers (json.members_of ms)) (sym c.as_slice-pairs.ensures.members) c.as_slice-pairs.ensures.sound in
    let above = IsAbove-at pairs i m below c.index-pairs-place.is sound in
    above_typed c.in_ok-clone.field-0 c.loop-place.entries
    (subst (λ ms. json.IsAbove c.in_ok-clone.field-0 ms) (sym c.loop-place.invariant.1) (subst (λ k. json.IsAbove k (map member_of (take i pairs))) (sym c.in_ok-clone.ensures.cases) above))

pub fields_of-loop-place-preserved : goal.fields_of-loop-place-preserved
fields_of-loop-place-preserved t c =
    let types = c.args.types.now in
    let fields = c.as_slice-fields.result.now in
    let pairs = c.as_slice-pairs.result.now in
    let f = c.index-fields-place.result in
    let m = c.index-pairs-place.result in
    let i = c.loop-place.place in
    let below : i < length pairs = omega (arith, c.loop-place-test.true, c.if-fields-pairs.false) in
    let found = some_found typed_of (λ v. (m.0 ≡ f.0) × IsValueOf types (shape_of f.1.field_type) (json_of m.1) v) c.in_ok-value.field-0 c.in-Some.value c.in-Some.is c.in_ok-value.ensures in
    fields_turn types fields f pairs i m c.loop-place.entries c.push.new.self c.in_ok-clone.field-0 (typed_of c.in-Some.value) c.loop-place-test.true below c.index-fields-place.is c.index-pairs-place.is c.in_ok-push.ensures.ok c.in_ok-clone.ensures.cases
    found.0 c.loop-place.invariant found.1

pub fields_of-returns : goal.fields_of-returns
fields_of-returns t c =
    let fields = c.as_slice-fields.result.now in
    let pairs = c.as_slice-pairs.result.now in
    fields_end c.args.types.now fields c.args.definition.now.fields pairs c.args.members.now c.loop-place.place c.loop-place.entries c.as_slice-fields.ensures.pairs c.as_slice-pairs.ensures.members
    c.loop-place-test.false (omega (arith, c.loop-place-test.false, c.if-fields-pairs.false)) c.loop-place.invariant
