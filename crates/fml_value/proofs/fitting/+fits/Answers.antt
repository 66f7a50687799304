use Rattle.std.proofs.Common.{refl, sym, ◌∙◌, arith}
use Rattle.fml_types.specs.Shapes.{shape_of, key_of}
use Rattle.json_tree.specs.Tree.{json_of}
use Rattle.json_tree.proofs.Depths.{depth_within, member_depth_within}
use Rattle.fml_value.specs.Fits.{fits, items_fit, members_fit, type_of_entry, type_of_field}
use Rattle.fml_value.proofs.Walking.{tree_refused, tree_passed, trees_end, pair_refused, pair_passed, pairs_end}
use Rattle.fml_value.proofs.Members.{entry_fits, no_key, key_there, field_fits, no_field, field_there}
use Rattle.fml_value.proofs.fitting.+fits.Goals as goal

-- ---- lists

pub items_fit-loop-tree-init : goal.items_fit-loop-tree-init
items_fit-loop-tree-init t c = refl

pub items_fit-fits-requires : goal.items_fit-fits-requires
items_fit-fits-requires t c =
    let h = c.decreases in (omega (arith, depth_within json_of _ _ _ _ c.as_slice-trees.ensures.items c.loop-tree-test.true c.tree-item.is), tt)

pub items_fit-returns-then-not-fits : goal.items_fit-returns-then-not-fits
items_fit-returns-then-not-fits t c =
    let s = shape_of c.args.of.now in
    tree_refused (items_fit c.args.types.now s) (fits c.args.types.now s) (λ x xs. refl) c.as_slice-trees.result.now c.args.items.now c.loop-tree.tree-index c.tree-item.result c.as_slice-trees.ensures.items c.loop-tree-test.true c.tree-item.is c.loop-tree.invariant (sym c.fits.ensures ∙ c.if-not-fits.true)

pub items_fit-loop-tree-preserved : goal.items_fit-loop-tree-preserved
items_fit-loop-tree-preserved t c =
    let s = shape_of c.args.of.now in
    tree_passed (items_fit c.args.types.now s) (fits c.args.types.now s) (λ x xs. refl) c.as_slice-trees.result.now c.loop-tree.tree-index c.tree-item.result c.loop-tree-test.true c.tree-item.is c.loop-tree.invariant (sym c.fits.ensures ∙ c.if-not-fits.false)

pub items_fit-returns : goal.items_fit-returns
items_fit-returns t c =
    let s = shape_of c.args.of.now in
    trees_end (items_fit c.args.types.now s) (fits c.args.types.now s) (λ x xs. refl) c.as_slice-trees.result.now c.args.items.now c.loop-tree.tree-index c.as_slice-trees.ensures.items c.loop-tree-test.false c.loop-tree.invariant refl

-- ---- maps

pub entries_fit-loop-name-init : goal.entries_fit-loop-name-init
entries_fit-loop-name-init t c = refl

pub entries_fit-fits-requires : goal.entries_fit-fits-requires
entries_fit-fits-requires t c =
    let h = c.decreases in (omega (arith, member_depth_within json_of _ _ _ _ c.as_slice-pairs.ensures.members c.loop-name-test.true c.loop-name-item.is), tt)

pub entries_fit-returns-then-not-is_key : goal.entries_fit-returns-then-not-is_key
entries_fit-returns-then-not-is_key t c =
    let types = c.args.types.now in
    let key = key_of c.args.key.now in
    let m = c.loop-name-item.result in
    pair_refused (members_fit types (type_of_entry types key c.args.of.now)) (entry_fits types key c.args.of.now) (λ k x ms. refl) c.as_slice-pairs.result.now c.args.members.now c.loop-name.name-index m c.as_slice-pairs.ensures.members c.loop-name-test.true c.loop-name-item.is c.loop-name.invariant
    (no_key types key c.args.of.now m.0 c.as_str.result.now (json_of m.1) c.is_key.result c.as_str.ensures.text c.is_key.ensures c.if-not-is_key.true)

pub entries_fit-returns-then-not-fits : goal.entries_fit-returns-then-not-fits
entries_fit-returns-then-not-fits t c =
    let types = c.args.types.now in
    let key = key_of c.args.key.now in
    let m = c.loop-name-item.result in
    pair_refused (members_fit types (type_of_entry types key c.args.of.now)) (entry_fits types key c.args.of.now) (λ k x ms. refl) c.as_slice-pairs.result.now c.args.members.now c.loop-name.name-index m c.as_slice-pairs.ensures.members c.loop-name-test.true c.loop-name-item.is c.loop-name.invariant
    (key_there types key c.args.of.now (shape_of c.get-of.result.now) m.0 c.as_str.result.now (json_of m.1) c.is_key.result c.fits.result c.as_str.ensures.text c.is_key.ensures c.if-not-is_key.false c.get-of.ensures c.fits.ensures ∙ c.if-not-fits.true)

pub entries_fit-loop-name-preserved : goal.entries_fit-loop-name-preserved
entries_fit-loop-name-preserved t c =
    let types = c.args.types.now in
    let key = key_of c.args.key.now in
    let m = c.loop-name-item.result in
    pair_passed (members_fit types (type_of_entry types key c.args.of.now)) (entry_fits types key c.args.of.now) (λ k x ms. refl) c.as_slice-pairs.result.now c.loop-name.name-index m c.loop-name-test.true c.loop-name-item.is c.loop-name.invariant
    (key_there types key c.args.of.now (shape_of c.get-of.result.now) m.0 c.as_str.result.now (json_of m.1) c.is_key.result c.fits.result c.as_str.ensures.text c.is_key.ensures c.if-not-is_key.false c.get-of.ensures c.fits.ensures ∙ c.if-not-fits.false)

pub entries_fit-returns : goal.entries_fit-returns
entries_fit-returns t c =
    let types = c.args.types.now in
    let key = key_of c.args.key.now in
    pairs_end (members_fit types (type_of_entry types key c.args.of.now)) (entry_fits types key c.args.of.now) (λ k x ms. refl) c.as_slice-pairs.result.now c.args.members.now c.loop-name.name-index c.as_slice-pairs.ensures.members c.loop-name-test.false c.loop-name.invariant refl

-- ---- objects

pub fields_fit-loop-name-init : goal.fields_fit-loop-name-init
fields_fit-loop-name-init t c = refl

pub fields_fit-fits-requires : goal.fields_fit-fits-requires
fields_fit-fits-requires t c =
    let h = c.decreases in (omega (arith, member_depth_within json_of _ _ _ _ c.as_slice-pairs.ensures.members c.loop-name-test.true c.loop-name-item.is), tt)

pub fields_fit-returns-in_default : goal.fields_fit-returns-in_default
fields_fit-returns-in_default t c =
    let types = c.args.types.now in
    let fields = c.args.fields.now in
    let m = c.loop-name-item.result in
    pair_refused (members_fit types (type_of_field fields)) (field_fits types fields) (λ k x ms. refl) c.as_slice-pairs.result.now c.args.members.now c.loop-name.name-index m c.as_slice-pairs.ensures.members c.loop-name-test.true c.loop-name-item.is c.loop-name.invariant
    (no_field types fields m.0 c.as_str.result.now (json_of m.1) c.get.result c.as_str.ensures.text c.get.ensures c.in_default.not-Some)

pub fields_fit-returns-then-not-fits : goal.fields_fit-returns-then-not-fits
fields_fit-returns-then-not-fits t c =
    let types = c.args.types.now in
    let fields = c.args.fields.now in
    let m = c.loop-name-item.result in
    pair_refused (members_fit types (type_of_field fields)) (field_fits types fields) (λ k x ms. refl) c.as_slice-pairs.result.now c.args.members.now c.loop-name.name-index m c.as_slice-pairs.ensures.members c.loop-name-test.true c.loop-name-item.is c.loop-name.invariant
    (field_there types fields m.0 c.as_str.result.now (json_of m.1) c.get.result c.in-Some.field c.fits.result c.as_str.ensures.text c.get.ensures c.in-Some.is c.fits.ensures ∙ c.if-not-fits.true)

pub fields_fit-loop-name-preserved : goal.fields_fit-loop-name-preserved
fields_fit-loop-name-preserved t c =
    let types = c.args.types.now in
    let fields = c.args.fields.now in
    let m = c.loop-name-item.result in
    pair_passed (members_fit types (type_of_field fields)) (field_fits types fields) (λ k x ms. refl) c.as_slice-pairs.result.now c.loop-name.name-index m c.loop-name-test.true c.loop-name-item.is c.loop-name.invariant
    (field_there types fields m.0 c.as_str.result.now (json_of m.1) c.get.result c.in-Some.field c.fits.result c.as_str.ensures.text c.get.ensures c.in-Some.is c.fits.ensures ∙ c.if-not-fits.false)

pub fields_fit-returns : goal.fields_fit-returns
fields_fit-returns t c =
    let types = c.args.types.now in
    let fields = c.args.fields.now in
    pairs_end (members_fit types (type_of_field fields)) (field_fits types fields) (λ k x ms. refl) c.as_slice-pairs.result.now c.args.members.now c.loop-name.name-index c.as_slice-pairs.ensures.members c.loop-name-test.false c.loop-name.invariant refl
