use Rattle.std.proofs.Common.{◌≡◌, ◌∷◌, ◌++◌, [], map, sym, ap, ◌∙◌, subst}
use Rattle.serde_json.proofs.Views.{Entry}
use Rattle.std.specs.Vec.Iter.{into_iter_items}
use Rattle.std.proofs.lemmas.List.{nil_from_length}
use Rattle.json_tree.specs.Json.{items_of, members_of, IsAbove}
use Rattle.json_tree.proofs.Growing.{IsRising, IsAbove-done}
use Rattle.json_tree.proofs.Converting.{item_of, entry_of, of_items-items_view, of_members-members_view, IsRising-entries, all_done}
use Rattle.json_tree.proofs.reading.+convert.Goals as goal

pub convert_items-returns : goal.convert_items-returns
convert_items-returns t c =
    let over : into_iter_items c.loop-value.value-iterator ≡ [] = nil_from_length _ (sym c.loop-value.value-iterator.rest.ok.0 ∙ c.in-None.ensures.steps.0) in
    ap items_of (all_done item_of _ _ _ over c.loop-value.invariant) ∙ sym (of_items-items_view c.args.values.items)

pub convert_members-push-requires : goal.convert_members-push-requires
convert_members-push-requires t c =
    let e : Entry = (c.in-Some.key, c.in-Some.value) in
    let left = map entry_of c.next.new.self in
    let whole : c.loop-key.members ++ entry_of e ∷ left ≡ map entry_of c.args.values.entries =
    ap (λ es. c.loop-key.members ++ map entry_of es) (sym c.in-Some.ensures.steps) ∙ c.loop-key.invariant in
    let above = IsAbove-done c.loop-key.members (entry_of e) left (subst IsRising (sym whole) (IsRising-entries c.args.values.entries c.into_iter-key-iterator.ensures.into_iter_gives.5)) in
    subst (λ k. IsAbove k c.loop-key.members) (sym c.from_string.ensures) above

pub convert_members-returns : goal.convert_members-returns
convert_members-returns t c =
    ap members_of (all_done entry_of c.loop-key.members (map entry_of c.args.values.entries) c.loop-key.key-iterator c.in-None.ensures.steps.0 c.loop-key.invariant) ∙ sym (of_members-members_view c.args.values.entries)
