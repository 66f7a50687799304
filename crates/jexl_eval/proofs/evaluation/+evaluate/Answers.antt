use Rattle.std.proofs.Common.{rules, arith, ◌+◌, drop, Ok, refl, sym, ap, ap₂, ◌∙◌, subst, map}
use Rattle.json_tree.specs.Json.{members_of, get_member}
use Rattle.jexl_parser.specs.Tree as trees
use Rattle.jexl_value.specs.Meaning.{is_truthy}
use Rattle.jexl_value.specs.Value.{as_json}
use Rattle.jexl_eval.specs.Gives.{Fails, Gives}
use Rattle.jexl_eval.specs.Elements.{or_null, member, index}
use Rattle.jexl_eval.specs.Operations.{decided, filter_items}
use Rattle.jexl_eval.specs.Meaning.{meaning, transformed}
use Rattle.jexl_eval.specs.Parts.{values_of}
use Rattle.jexl_eval.specs.Seen.{found_as_json}
use Rattle.jexl_eval.specs.Places.{trees_of, FitsBelow, AllFit, PairsFit}
use Rattle.jexl_parser.specs.declared.node.Node.{the_lemmas}
use Rattle.jexl_parser.specs.View.{view, views, view_pairs}
use Rattle.jexl_parser.proofs.Views.{view_list, view_members, view_transform}
use Rattle.jexl_eval.proofs.Placing.{fits_next, pair_fits_next}
use Rattle.jexl_eval.proofs.Parts.{known_more}
use Rattle.jexl_eval.proofs.Exits.{exit, exit_memory, fails_at, gives_at, is_at}
use Rattle.jexl_eval.proofs.Lists.{nodes_begin, nodes_turn, nodes_fail, nodes_end, pairs_begin, pairs_turn, pairs_fail, pairs_end, kept_begin, kept_turn, kept_fail, kept_end}
use Rattle.jexl_eval.proofs.Arms.{items_fail, items_ok, members_fail, members_ok, member_fail, member_goes, index_fail, index_goes, filter_fail, filter_goes, transform_fail, arguments_fail, transform_goes, not_fail, not_ok, left_fail, operation_goes, condition_fail, choose_goes, first_fail, or_else_goes}
use Rattle.jexl_eval.proofs.FirstValues.{key_fails, key_goes, no_items_fails, condition_fails, filter_ok, left_decides, right_fails, right_goes, first_chosen, second_chosen}
use Rattle.jexl_eval.proofs.evaluation.+evaluate.Goals as goal

pub unkept-returns-in-Literal-clause-value : goal.unkept-returns-in-Literal-clause-value
unkept-returns-in-Literal-clause-value g t c =
    gives_at _ _ _ _ _ c.constant.result (ap view c.in-Literal.is) c.constant.ensures

pub unkept-returns-in-Name-clause-value : goal.unkept-returns-in-Name-clause-value
unkept-returns-in-Name-clause-value g t c =
    is_at _ _ _ _ _ _ (ap view c.in-Name.is)
    (ap Ok (sym (c.value_or_null.ensures ∙ ap or_null (c.get.ensures ∙ ap (λ n. get_member n (members_of c.args.scene.now.attributes.now.pairs)) c.as_str.ensures.text))))

pub unkept-returns-in-Relative-clause-value : goal.unkept-returns-in-Relative-clause-value
unkept-returns-in-Relative-clause-value g t c =
    is_at _ _ _ _ _ _ (ap view c.in-Relative.is)
    (ap Ok (sym (c.member_of.ensures ∙ ap (λ n. member n (as_json c.args.scene.now.current.now)) c.as_str-in-Relative.ensures.text)))

pub unkept-returns-in_err-each-in-List-clause-value : goal.unkept-returns-in_err-each-in-List-clause-value
unkept-returns-in_err-each-in-List-clause-value g t c =
    fails_at _ _ _ _ _ c.from_residual.result c.in_err-each-in-List.field-0.0 c.from_residual.ensures.1 (ap view c.in-List.is ∙ view_list c.in-List.nodes ∙ ap (λ ns. trees.Items (views ns)) (sym c.as_slice.ensures.value))
    (items_fail _ _ _ (views c.as_slice.result.now) c.in_err-each-in-List.field-0.0 c.in_err-each-in-List.ensures.value)

pub unkept-returns-in-List-clause-value : goal.unkept-returns-in-List-clause-value
unkept-returns-in-List-clause-value g t c =
    is_at _ _ _ _ _ _ (ap view c.in-List.is ∙ view_list c.in-List.nodes ∙ ap (λ ns. trees.Items (views ns)) (sym c.as_slice.ensures.value))
    (items_ok _ _ _ (views c.as_slice.result.now) c.in_ok-each-in-List.field-0 c.in_ok-each-in-List.ensures.value ∙ ap Ok (sym c.list.ensures))

pub unkept-returns-in_err-each_member-in-Members-clause-value : goal.unkept-returns-in_err-each_member-in-Members-clause-value
unkept-returns-in_err-each_member-in-Members-clause-value g t c =
    fails_at _ _ _ _ _ c.from_residual-in_err-each_member-in-Members.result c.in_err-each_member-in-Members.field-0.0 c.from_residual-in_err-each_member-in-Members.ensures.1 (ap view c.in-Members.is ∙ view_members c.in-Members.pairs ∙ ap (λ ps. trees.Members (view_pairs ps)) (sym c.as_slice-in-Members.ensures.value))
    (members_fail _ _ _ (view_pairs c.as_slice-in-Members.result.now) c.in_err-each_member-in-Members.field-0.0 c.in_err-each_member-in-Members.ensures.value)

pub unkept-returns-in-Members-clause-value : goal.unkept-returns-in-Members-clause-value
unkept-returns-in-Members-clause-value g t c =
    is_at _ _ _ _ _ _ (ap view c.in-Members.is ∙ view_members c.in-Members.pairs ∙ ap (λ ps. trees.Members (view_pairs ps)) (sym c.as_slice-in-Members.ensures.value))
    (members_ok _ _ _ (view_pairs c.as_slice-in-Members.result.now) c.in_ok-each_member-in-Members.field-0 c.in_ok-each_member-in-Members.ensures.value ∙ ap Ok (sym c.object.ensures))

pub unkept-returns-in_err-evaluate-in-Member-clause-value : goal.unkept-returns-in_err-evaluate-in-Member-clause-value
unkept-returns-in_err-evaluate-in-Member-clause-value g t c =
    fails_at _ _ _ _ _ c.from_residual-in_err-evaluate-in-Member.result c.in_err-evaluate-in-Member.field-0.0 c.from_residual-in_err-evaluate-in-Member.ensures.1 (ap view c.in-Member.is ∙ ap (λ n. trees.Member (view n) c.in-Member.name) (sym c.deref.ensures))
    (member_fail _ _ _ (view c.deref.result.now) c.in-Member.name c.in_err-evaluate-in-Member.field-0.0 c.in_err-evaluate-in-Member.ensures.value)

pub unkept-returns-in-Member-clause-value : goal.unkept-returns-in-Member-clause-value
unkept-returns-in-Member-clause-value g t c =
    gives_at _ _ _ _ _ c.member.result (ap view c.in-Member.is ∙ ap (λ n. trees.Member (view n) c.in-Member.name) (sym c.deref.ensures))
    (member_goes _ _ _ (view c.deref.result.now) c.in-Member.name (found_as_json c.in_ok-evaluate-in-Member.field-0) c.member.result c.in_ok-evaluate-in-Member.ensures.value (subst (λ n. Gives found_as_json c.member.result (Ok (member n (found_as_json c.in_ok-evaluate-in-Member.field-0)))) c.as_str-in-Member.ensures.text c.member.ensures))

pub unkept-returns-in_err-subject-in-Index-clause-value : goal.unkept-returns-in_err-subject-in-Index-clause-value
unkept-returns-in_err-subject-in-Index-clause-value g t c =
    fails_at _ _ _ _ _ c.from_residual-in_err-subject-in-Index.result c.in_err-subject-in-Index.field-0.0 c.from_residual-in_err-subject-in-Index.ensures.1 (ap view c.in-Index.is ∙ ap (λ n. trees.Index (view n) (view c.in-Index.key.value)) (sym c.deref-in-Index.ensures))
    (index_fail _ _ _ (view c.deref-in-Index.result.now) (view c.in-Index.key.value) c.in_err-subject-in-Index.field-0.0 c.in_err-subject-in-Index.ensures.value)

pub unkept-returns-in-Index-clause-value : goal.unkept-returns-in-Index-clause-value
unkept-returns-in-Index-clause-value g t c =
    gives_at _ _ _ _ _ c.indexed.result (ap view c.in-Index.is ∙ ap₂ (λ n k. trees.Index (view n) (view k)) (sym c.deref-in-Index.ensures) (sym c.deref-in-Index-2.ensures))
    (index_goes _ _ _ (view c.deref-in-Index.result.now) (view c.deref-in-Index-2.result.now) (found_as_json c.in_ok-subject-in-Index.subject) c.indexed.result c.in_ok-subject-in-Index.ensures.value c.indexed.ensures.value)

pub unkept-returns-in_err-subject-in-Filter-clause-value : goal.unkept-returns-in_err-subject-in-Filter-clause-value
unkept-returns-in_err-subject-in-Filter-clause-value g t c =
    fails_at _ _ _ _ _ c.from_residual-in_err-subject-in-Filter.result c.in_err-subject-in-Filter.field-0.0 c.from_residual-in_err-subject-in-Filter.ensures.1 (ap view c.in-Filter.is ∙ ap (λ n. trees.Filter (view n) (view c.in-Filter.condition.value)) (sym c.deref-in-Filter.ensures))
    (filter_fail _ _ _ (view c.deref-in-Filter.result.now) (view c.in-Filter.condition.value) c.in_err-subject-in-Filter.field-0.0 c.in_err-subject-in-Filter.ensures.value)

pub unkept-returns-in-Filter-clause-value : goal.unkept-returns-in-Filter-clause-value
unkept-returns-in-Filter-clause-value g t c =
    gives_at _ _ _ _ _ c.filtered.result (ap view c.in-Filter.is ∙ ap₂ (λ n k. trees.Filter (view n) (view k)) (sym c.deref-in-Filter.ensures) (sym c.deref-in-Filter-2.ensures))
    (filter_goes _ _ _ (view c.deref-in-Filter.result.now) (view c.deref-in-Filter-2.result.now) (found_as_json c.in_ok-subject-in-Filter.subject) c.filtered.result c.in_ok-subject-in-Filter.ensures.value c.filtered.ensures.value)

pub unkept-returns-in_err-subject-in-Transform-clause-value : goal.unkept-returns-in_err-subject-in-Transform-clause-value
unkept-returns-in_err-subject-in-Transform-clause-value g t c =
    fails_at _ _ _ _ _ c.from_residual-in_err-subject-in-Transform.result c.in_err-subject-in-Transform.field-0.0 c.from_residual-in_err-subject-in-Transform.ensures.1 (ap view c.in-Transform.is ∙ view_transform c.in-Transform.subject c.in-Transform.name c.in-Transform.arguments ∙ ap (λ n. trees.Transform (view n) c.in-Transform.name (views c.in-Transform.arguments.items)) (sym c.deref-in-Transform.ensures))
    (transform_fail _ _ _ (view c.deref-in-Transform.result.now) c.in-Transform.name (views c.in-Transform.arguments.items) c.in_err-subject-in-Transform.field-0.0 c.in_err-subject-in-Transform.ensures.value)

pub unkept-returns-in_err-arguments-in-Transform-clause-value : goal.unkept-returns-in_err-arguments-in-Transform-clause-value
unkept-returns-in_err-arguments-in-Transform-clause-value g t c =
    fails_at _ _ _ _ _ c.from_residual-in_err-arguments-in-Transform.result c.in_err-arguments-in-Transform.field-0.0 c.from_residual-in_err-arguments-in-Transform.ensures.1 (ap view c.in-Transform.is ∙ view_transform c.in-Transform.subject c.in-Transform.name c.in-Transform.arguments ∙ ap₂ (λ n ns. trees.Transform (view n) c.in-Transform.name (views ns)) (sym c.deref-in-Transform.ensures) (sym c.as_slice-in-Transform.ensures.value))
    (arguments_fail _ _ _ (view c.deref-in-Transform.result.now) c.in-Transform.name (views c.as_slice-in-Transform.result.now) (found_as_json c.in_ok-subject-in-Transform.subject) c.in_err-arguments-in-Transform.field-0.0 c.in_ok-subject-in-Transform.ensures.value c.in_err-arguments-in-Transform.ensures.value)

pub unkept-returns-in-Transform-clause-value : goal.unkept-returns-in-Transform-clause-value
unkept-returns-in-Transform-clause-value g t c =
    gives_at _ _ _ _ _ c.transformed.result (ap view c.in-Transform.is ∙ view_transform c.in-Transform.subject c.in-Transform.name c.in-Transform.arguments ∙ ap₂ (λ n ns. trees.Transform (view n) c.in-Transform.name (views ns)) (sym c.deref-in-Transform.ensures) (sym c.as_slice-in-Transform.ensures.value))
    (transform_goes _ _ _ (view c.deref-in-Transform.result.now) c.in-Transform.name (views c.as_slice-in-Transform.result.now) (found_as_json c.in_ok-subject-in-Transform.subject) c.in_ok-arguments-in-Transform.arguments c.transformed.result c.in_ok-subject-in-Transform.ensures.value c.in_ok-arguments-in-Transform.ensures.value
    (subst (λ n. Gives found_as_json c.transformed.result (transformed (g.C.TransformCalls.has c.args.scene.now.table.now) n (members_of c.args.scene.now.attributes.now.pairs) (found_as_json c.in_ok-subject-in-Transform.subject) c.in_ok-arguments-in-Transform.arguments)) c.as_str-in-Transform.ensures.text
    (subst (λ xs. Gives found_as_json c.transformed.result (transformed (g.C.TransformCalls.has c.args.scene.now.table.now) c.as_str-in-Transform.result.now (members_of c.args.scene.now.attributes.now.pairs) (found_as_json c.in_ok-subject-in-Transform.subject) xs)) c.as_slice-in-Transform-2.ensures.items
    (subst (λ x. Gives found_as_json c.transformed.result (transformed (g.C.TransformCalls.has c.args.scene.now.table.now) c.as_str-in-Transform.result.now (members_of c.args.scene.now.attributes.now.pairs) x (map as_json c.as_slice-in-Transform-2.result.now))) c.value.ensures c.transformed.ensures))))

pub unkept-returns-in_err-evaluate-in-Not-clause-value : goal.unkept-returns-in_err-evaluate-in-Not-clause-value
unkept-returns-in_err-evaluate-in-Not-clause-value g t c =
    fails_at _ _ _ _ _ c.from_residual-in_err-evaluate-in-Not.result c.in_err-evaluate-in-Not.field-0.0 c.from_residual-in_err-evaluate-in-Not.ensures.1 (ap view c.in-Not.is ∙ ap (λ n. trees.Not (view n)) (sym c.deref-in-Not.ensures))
    (not_fail _ _ _ (view c.deref-in-Not.result.now) c.in_err-evaluate-in-Not.field-0.0 c.in_err-evaluate-in-Not.ensures.value)

pub unkept-returns-in-Not-clause-value : goal.unkept-returns-in-Not-clause-value
unkept-returns-in-Not-clause-value g t c =
    is_at _ _ _ _ _ _ (ap view c.in-Not.is ∙ ap (λ n. trees.Not (view n)) (sym c.deref-in-Not.ensures))
    (not_ok _ _ _ (view c.deref-in-Not.result.now) (found_as_json c.in_ok-evaluate-in-Not.field-0) c.in_ok-evaluate-in-Not.ensures.value ∙ ap Ok (sym c.opposite.ensures))

pub unkept-returns-in_err-left-in-Binary-clause-value : goal.unkept-returns-in_err-left-in-Binary-clause-value
unkept-returns-in_err-left-in-Binary-clause-value g t c =
    fails_at _ _ _ _ _ c.from_residual-in_err-left-in-Binary.result c.in_err-left-in-Binary.field-0.0 c.from_residual-in_err-left-in-Binary.ensures.1 (ap view c.in-Binary.is ∙ ap (λ n. trees.Binary c.in-Binary.sign (view n) (view c.in-Binary.right.value)) (sym c.deref-in-Binary.ensures))
    (left_fail _ _ _ c.in-Binary.sign (view c.deref-in-Binary.result.now) (view c.in-Binary.right.value) c.in_err-left-in-Binary.field-0.0 c.in_err-left-in-Binary.ensures.value)

pub unkept-returns-in-Binary-clause-value : goal.unkept-returns-in-Binary-clause-value
unkept-returns-in-Binary-clause-value g t c =
    gives_at _ _ _ _ _ c.operation.result (ap view c.in-Binary.is ∙ ap₂ (λ n k. trees.Binary c.in-Binary.sign (view n) (view k)) (sym c.deref-in-Binary.ensures) (sym c.deref-in-Binary-2.ensures))
    (operation_goes _ _ _ c.in-Binary.sign (view c.deref-in-Binary.result.now) (view c.deref-in-Binary-2.result.now) (found_as_json c.in_ok-left-in-Binary.left) c.operation.result c.in_ok-left-in-Binary.ensures.value c.operation.ensures.value)

pub unkept-returns-in_err-condition-in-Choose-clause-value : goal.unkept-returns-in_err-condition-in-Choose-clause-value
unkept-returns-in_err-condition-in-Choose-clause-value g t c =
    fails_at _ _ _ _ _ c.from_residual-in_err-condition-in-Choose.result c.in_err-condition-in-Choose.field-0.0 c.from_residual-in_err-condition-in-Choose.ensures.1 (ap view c.in-Choose.is ∙ ap (λ n. trees.Choose (view n) (view c.in-Choose.first.value) (view c.in-Choose.second.value)) (sym c.deref-in-Choose.ensures))
    (condition_fail _ _ _ (view c.deref-in-Choose.result.now) (view c.in-Choose.first.value) (view c.in-Choose.second.value) c.in_err-condition-in-Choose.field-0.0 c.in_err-condition-in-Choose.ensures.value)

pub unkept-returns-then-truthy-clause-value : goal.unkept-returns-then-truthy-clause-value
unkept-returns-then-truthy-clause-value g t c =
    let x = as_json c.value-in-Choose.result.now in
    gives_at _ _ _ _ _ c.evaluate-then-truthy.result (ap view c.in-Choose.is ∙ ap₂ (λ n k. trees.Choose (view n) (view k) (view c.in-Choose.second.value)) (sym c.deref-in-Choose.ensures) (sym c.deref-then-truthy.ensures))
    (choose_goes _ _ _ (view c.deref-in-Choose.result.now) (view c.deref-then-truthy.result.now) (view c.in-Choose.second.value) x c.evaluate-then-truthy.result (c.in_ok-condition-in-Choose.ensures.value ∙ ap Ok (sym c.value-in-Choose.ensures))
    (first_chosen x _ _ c.truthy.result c.evaluate-then-truthy.result c.truthy.ensures c.if-truthy.true c.evaluate-then-truthy.ensures.value))

pub unkept-returns-in_err-first-in-OrElse-clause-value : goal.unkept-returns-in_err-first-in-OrElse-clause-value
unkept-returns-in_err-first-in-OrElse-clause-value g t c =
    fails_at _ _ _ _ _ c.from_residual-in_err-first-in-OrElse.result c.in_err-first-in-OrElse.field-0.0 c.from_residual-in_err-first-in-OrElse.ensures.1 (ap view c.in-OrElse.is ∙ ap (λ n. trees.OrElse (view n) (view c.in-OrElse.second.value)) (sym c.deref-in-OrElse.ensures))
    (first_fail _ _ _ (view c.deref-in-OrElse.result.now) (view c.in-OrElse.second.value) c.in_err-first-in-OrElse.field-0.0 c.in_err-first-in-OrElse.ensures.value)

pub unkept-returns-clause-value : goal.unkept-returns-clause-value
unkept-returns-clause-value g t c =
    gives_at _ _ _ _ _ c.or_else.result (ap view c.in-OrElse.is ∙ ap₂ (λ n k. trees.OrElse (view n) (view k)) (sym c.deref-in-OrElse.ensures) (sym c.deref-in-OrElse-2.ensures))
    (or_else_goes _ _ _ (view c.deref-in-OrElse.result.now) (view c.deref-in-OrElse-2.result.now) (found_as_json c.in_ok-first-in-OrElse.first) c.or_else.result c.in_ok-first-in-OrElse.ensures.value c.or_else.ensures.value)

pub unkept-each-requires : goal.unkept-each-requires
unkept-each-requires g t c = λ κs h. (
  search (rules, the_lemmas),
  (h, (subst (λ t. FitsBelow (trees_of c.args.scene.now.parts.now) t c.args.places.now) (ap view c.in-List.is ∙ view_list c.in-List.nodes ∙ ap (λ ns. trees.Items (views ns)) (sym c.as_slice.ensures.value)) c.requires.fits, c.requires.known)),
)

pub unkept-each_member-requires : goal.unkept-each_member-requires
unkept-each_member-requires g t c = λ κs h. (
  search (rules, the_lemmas),
  (h, (subst (λ t. FitsBelow (trees_of c.args.scene.now.parts.now) t c.args.places.now) (ap view c.in-Members.is ∙ view_members c.in-Members.pairs ∙ ap (λ ps. trees.Members (view_pairs ps)) (sym c.as_slice-in-Members.ensures.value)) c.requires.fits, c.requires.known)),
)

pub unkept-each-requires-in-Transform : goal.unkept-each-requires-in-Transform
unkept-each-requires-in-Transform g t c =
    let fits = subst (λ t. FitsBelow (trees_of c.args.scene.now.parts.now) t c.args.places.now)
    (ap view c.in-Transform.is ∙ view_transform c.in-Transform.subject c.in-Transform.name c.in-Transform.arguments ∙ ap (λ ns. trees.Transform (view c.in-Transform.subject.value) c.in-Transform.name (views ns)) (sym c.as_slice-in-Transform.ensures.value)) c.requires.fits in
    λ κs h. (
      grind (arith, the_lemmas, c.decreases, c.in-Transform.is, c.as_slice-in-Transform.ensures.value),
      (h, (subst (AllFit (trees_of c.args.scene.now.parts.now) (views c.as_slice-in-Transform.result.now)) (sym c.after-in-Transform.ensures) fits.1, c.in_ok-subject-in-Transform.ensures.known)),
    )

-- ---- the values of trees

pub each-loop-node-init : goal.each-loop-node-init
each-loop-node-init g t c =
    record { same = nodes_begin (g.C.TransformCalls.has c.args.scene.now.table.now) (members_of c.args.scene.now.attributes.now.pairs) (as_json c.args.scene.now.current.now) c.args.nodes.now _ c.new-values.ensures; fits = c.requires.fits; known = c.requires.known }

pub each-evaluate-requires : goal.each-evaluate-requires
each-evaluate-requires g t c = λ κs h. (
  search (rules, the_lemmas),
  (h, ((fits_next (trees_of c.args.scene.now.parts.now) c.args.nodes.now c.loop-node.node-index c.node-item.result _ c.loop-node.invariant.fits c.loop-node-test.true c.node-item.is).0, c.loop-node.invariant.known)),
)

pub each-returns-in_err-value-clause-value : goal.each-returns-in_err-value-clause-value
each-returns-in_err-value-clause-value g t c =
    exit (λ xs. xs) _ c.from_residual.result c.in_err-value.field-0.0 c.from_residual.ensures.1 (subst (Fails c.in_err-value.field-0.0) (sym c.loop-node.invariant.same)
    (nodes_fail _ _ _ c.args.nodes.now c.loop-node.node-index c.node-item.result c.loop-node.values c.in_err-value.field-0.0 c.loop-node-test.true c.node-item.is c.in_err-value.ensures.value))

pub each-returns-in_err-push-clause-value : goal.each-returns-in_err-push-clause-value
each-returns-in_err-push-clause-value g t c =
    exit_memory (λ xs. xs) _ c.from_residual-in_err-push.result c.from_residual-in_err-push.ensures.1

pub each-loop-node-preserved : goal.each-loop-node-preserved
each-loop-node-preserved g t c =
    record {
      same = c.loop-node.invariant.same ∙ nodes_turn _ _ _ c.args.nodes.now c.loop-node.node-index c.node-item.result c.loop-node.values _ (found_as_json c.in_ok-value.value) c.loop-node-test.true c.node-item.is c.in_ok-value.ensures.value c.in_ok-push.ensures;
      fits = subst (AllFit (trees_of c.args.scene.now.parts.now) (views (drop (c.loop-node.node-index + 1) c.args.nodes.now))) (sym c.after-places.ensures) (fits_next (trees_of c.args.scene.now.parts.now) c.args.nodes.now c.loop-node.node-index c.node-item.result _ c.loop-node.invariant.fits c.loop-node-test.true c.node-item.is).1;
      known = c.in_ok-value.ensures.known;
    }

pub each-returns-clause-value : goal.each-returns-clause-value
each-returns-clause-value g t c =
    c.loop-node.invariant.same ∙ nodes_end _ _ _ c.args.nodes.now c.loop-node.node-index c.loop-node.values c.loop-node-test.false

-- ---- the members

pub each_member-loop-name-init : goal.each_member-loop-name-init
each_member-loop-name-init g t c =
    record { same = pairs_begin (g.C.TransformCalls.has c.args.scene.now.table.now) (members_of c.args.scene.now.attributes.now.pairs) (as_json c.args.scene.now.current.now) c.args.pairs.now _ c.new-members.ensures; fits = c.requires.fits; known = c.requires.known }

pub each_member-evaluate-requires : goal.each_member-evaluate-requires
each_member-evaluate-requires g t c = λ κs h. (
  search (rules, the_lemmas),
  (h, ((pair_fits_next (trees_of c.args.scene.now.parts.now) c.args.pairs.now c.loop-name.name-index c.loop-name-item.result _ c.loop-name.invariant.fits c.loop-name-test.true c.loop-name-item.is).0, c.loop-name.invariant.known)),
)

pub each_member-returns-in_err-member-clause-value : goal.each_member-returns-in_err-member-clause-value
each_member-returns-in_err-member-clause-value g t c =
    exit (λ ms. ms) _ c.from_residual.result c.in_err-member.field-0.0 c.from_residual.ensures.1 (subst (Fails c.in_err-member.field-0.0) (sym c.loop-name.invariant.same)
    (pairs_fail _ _ _ c.args.pairs.now c.loop-name.name-index c.loop-name-item.result c.loop-name.members c.in_err-member.field-0.0 c.loop-name-test.true c.loop-name-item.is c.in_err-member.ensures.value))

pub each_member-returns-in_err-put-clause-value : goal.each_member-returns-in_err-put-clause-value
each_member-returns-in_err-put-clause-value g t c =
    exit_memory (λ ms. ms) _ c.from_residual-in_err-put.result c.from_residual-in_err-put.ensures.1

pub each_member-loop-name-preserved : goal.each_member-loop-name-preserved
each_member-loop-name-preserved g t c =
    record {
      same = c.loop-name.invariant.same ∙ pairs_turn _ _ _ c.args.pairs.now c.loop-name.name-index c.loop-name-item.result c.loop-name.members _ (found_as_json c.in_ok-member.member) c.loop-name-test.true c.loop-name-item.is c.in_ok-member.ensures.value c.in_ok-put.ensures;
      fits = subst (PairsFit (trees_of c.args.scene.now.parts.now) (view_pairs (drop (c.loop-name.name-index + 1) c.args.pairs.now))) (sym c.after-places.ensures) (pair_fits_next (trees_of c.args.scene.now.parts.now) c.args.pairs.now c.loop-name.name-index c.loop-name-item.result _ c.loop-name.invariant.fits c.loop-name-test.true c.loop-name-item.is).1;
      known = c.in_ok-member.ensures.known;
    }

pub each_member-returns-clause-value : goal.each_member-returns-clause-value
each_member-returns-clause-value g t c =
    c.loop-name.invariant.same ∙ pairs_end _ _ _ c.args.pairs.now c.loop-name.name-index c.loop-name.members c.loop-name-test.false

-- ---- an index

pub indexed-returns-in_err-key-clause-value : goal.indexed-returns-in_err-key-clause-value
indexed-returns-in_err-key-clause-value g t c =
    exit found_as_json _ c.from_residual.result c.in_err-key.field-0.0 c.from_residual.ensures.1 (key_fails (found_as_json c.args.subject) _ c.in_err-key.field-0.0 c.in_err-key.ensures.value)

pub indexed-returns-clause-value : goal.indexed-returns-clause-value
indexed-returns-clause-value g t c =
    key_goes (found_as_json c.args.subject) _ (found_as_json c.in_ok-key.key) c.index.result c.in_ok-key.ensures.value (subst (λ k. Gives found_as_json c.index.result (Ok (index (found_as_json c.args.subject) k))) c.value.ensures c.index.ensures)

-- ---- a filter

pub filtered-returns-in_err-items-clause-value : goal.filtered-returns-in_err-items-clause-value
filtered-returns-in_err-items-clause-value g t c =
    exit found_as_json _ c.from_residual.result c.in_err-items.field-0.0 c.from_residual.ensures.1
    (no_items_fails (λ x. meaning (g.C.TransformCalls.has c.args.scene.now.table.now) (members_of c.args.scene.now.attributes.now.pairs) x (view c.args.condition.now)) (found_as_json c.args.subject) c.in_err-items.field-0.0 (subst (λ x. Fails c.in_err-items.field-0.0 (filter_items x)) c.value.ensures c.in_err-items.ensures))

pub filtered-loop-item-init : goal.filtered-loop-item-init
filtered-loop-item-init g t c =
    record { same = kept_begin (λ x. meaning (g.C.TransformCalls.has c.args.scene.now.table.now) (members_of c.args.scene.now.attributes.now.pairs) x (view c.args.condition.now)) c.in_ok-items.items.now _ c.new-kept.ensures; known = c.requires.known }

pub filtered-returns-in_err-verdict-clause-value : goal.filtered-returns-in_err-verdict-clause-value
filtered-returns-in_err-verdict-clause-value g t c =
    exit found_as_json _ c.from_residual-in_err-verdict.result c.in_err-verdict.field-0.0 c.from_residual-in_err-verdict.ensures.1
    (condition_fails (λ x. meaning (g.C.TransformCalls.has c.args.scene.now.table.now) (members_of c.args.scene.now.attributes.now.pairs) x (view c.args.condition.now)) (found_as_json c.args.subject) _ c.in_err-verdict.field-0.0 (ap filter_items (sym c.value.ensures) ∙ c.in_ok-items.ensures) (subst (Fails c.in_err-verdict.field-0.0) (sym c.loop-item.invariant.same)
    (kept_fail (λ x. meaning (g.C.TransformCalls.has c.args.scene.now.table.now) (members_of c.args.scene.now.attributes.now.pairs) x (view c.args.condition.now)) c.in_ok-items.items.now c.loop-item.item-index c.item-item.result c.loop-item.kept c.in_err-verdict.field-0.0 c.loop-item-test.true c.item-item.is c.in_err-verdict.ensures.value)))

pub filtered-returns-in_err-keep_if-clause-value : goal.filtered-returns-in_err-keep_if-clause-value
filtered-returns-in_err-keep_if-clause-value g t c =
    exit_memory found_as_json _ c.from_residual-in_err-keep_if.result c.from_residual-in_err-keep_if.ensures.1

pub filtered-loop-item-preserved : goal.filtered-loop-item-preserved
filtered-loop-item-preserved g t c =
    record {
      same = c.loop-item.invariant.same ∙ kept_turn (λ x. meaning (g.C.TransformCalls.has c.args.scene.now.table.now) (members_of c.args.scene.now.attributes.now.pairs) x (view c.args.condition.now)) c.in_ok-items.items.now c.loop-item.item-index c.item-item.result c.loop-item.kept c.keep_if.new.kept (as_json c.value-in-loop-item.result.now) c.loop-item-test.true c.item-item.is
          (c.in_ok-verdict.ensures.value ∙ ap Ok (sym c.value-in-loop-item.ensures)) c.in_ok-keep_if.ensures;
      known = c.in_ok-verdict.ensures.known;
    }

pub filtered-returns-clause-value : goal.filtered-returns-clause-value
filtered-returns-clause-value g t c =
    filter_ok (λ x. meaning (g.C.TransformCalls.has c.args.scene.now.table.now) (members_of c.args.scene.now.attributes.now.pairs) x (view c.args.condition.now)) (found_as_json c.args.subject) _ c.loop-item.kept (ap filter_items (sym c.value.ensures) ∙ c.in_ok-items.ensures) (c.loop-item.invariant.same ∙ kept_end (λ x. meaning (g.C.TransformCalls.has c.args.scene.now.table.now) (members_of c.args.scene.now.attributes.now.pairs) x (view c.args.condition.now)) c.in_ok-items.items.now c.loop-item.item-index c.loop-item.kept c.loop-item-test.false) ∙ ap Ok (sym c.list.ensures)

-- ---- an operation

pub operation-returns-in-Some-clause-value : goal.operation-returns-in-Some-clause-value
operation-returns-in-Some-clause-value g t c =
    left_decides c.args.sign (found_as_json c.args.left) _ c.in-Some.decided (sym (c.decided.ensures ∙ ap (decided c.args.sign) c.value.ensures) ∙ c.in-Some.is) ∙ ap Ok (sym c.truth.ensures)

pub operation-returns-in_err-right-clause-value : goal.operation-returns-in_err-right-clause-value
operation-returns-in_err-right-clause-value g t c =
    exit found_as_json _ c.from_residual.result c.in_err-right.field-0.0 c.from_residual.ensures.1
    (right_fails c.args.sign (found_as_json c.args.left) _ c.decided.result c.in_err-right.field-0.0 (c.decided.ensures ∙ ap (decided c.args.sign) c.value.ensures) c.in_default.not-Some c.in_err-right.ensures.value)

pub operation-returns-clause-value : goal.operation-returns-clause-value
operation-returns-clause-value g t c =
    right_goes c.args.sign (found_as_json c.args.left) _ c.decided.result (as_json c.value-2.result.now) c.operate.result (c.decided.ensures ∙ ap (decided c.args.sign) c.value.ensures) c.in_default.not-Some (c.in_ok-right.ensures.value ∙ ap Ok (sym c.value-2.ensures)) c.operate.ensures

-- ---- choices

pub or_else-returns-then-truthy-clause-value : goal.or_else-returns-then-truthy-clause-value
or_else-returns-then-truthy-clause-value g t c =
    first_chosen (found_as_json c.args.first) _ _ c.truthy.result (Ok c.args.first) (c.truthy.ensures ∙ ap is_truthy c.value.ensures) c.if-truthy.true refl

pub or_else-returns-clause-value : goal.or_else-returns-clause-value
or_else-returns-clause-value g t c =
    second_chosen (found_as_json c.args.first) _ _ c.truthy.result c.evaluate.result (c.truthy.ensures ∙ ap is_truthy c.value.ensures) c.if-truthy.false c.evaluate.ensures.value

-- ---- a part that is kept

pub kept_part-returns-in-Some-clause-value : goal.kept_part-returns-in-Some-clause-value
kept_part-returns-in-Some-clause-value g t c =
    c.requires.known c.args.place (view c.args.part.now) (as_json c.in-Some.value.now.value) c.requires.part.0 c.in-Some.ensures (as_json c.args.scene.now.current.now)
    ∙ ap (λ v. Ok (as_json v)) (sym c.in_ok-clone.ensures.cases)

pub kept_part-returns-clause-known : goal.kept_part-returns-clause-known
kept_part-returns-clause-known g t c =
    known_more (g.C.TransformCalls.has c.args.scene.now.table.now) (members_of c.args.scene.now.attributes.now.pairs) (trees_of c.args.scene.now.parts.now) (values_of c.unkept.new.known) (values_of c.keep.new.self) c.args.place (view c.args.part.now) (as_json c.args.scene.now.current.now) (found_as_json c.in_ok-value.value)
    c.in_ok-value.ensures.known c.requires.part c.in_ok-value.ensures.value c.in_ok-keep.ensures.known
