-- The next name is above the keys before it.
use Rattle.std.proofs.Common.{◌≡◌, map, take, sym, subst, ap, ◌∙◌}
use Rattle.json_tree.specs.Json.{IsAbove}
use Rattle.event_counts.specs.View.{member_at}
use Rattle.event_counts.specs.declared.name_counts.NameCounts.{NameCounts}
use Rattle.event_counts.proofs.Rising.{above_members}
use Rattle.event_counts.proofs.viewing.members_at.Goals as goal

pub push-requires : goal.push-requires
push-requires c =
    let names = c.args.names.now in
    let place = c.loop-counts.counts-index in
    let counts = c.counts-item.result in
    let before = map (member_at c.args.moment) (take place names) in
    let are : c.loop-counts.members ≡ before = c.loop-counts.invariant in
    let named : c.in_ok-turned.turned.name ≡ counts.name = ap (λ (n : NameCounts). n.name) c.in_ok-turned.ensures ∙ ap (λ (n : NameCounts). n.name) c.get.ensures in
    let above = subst (λ (n : NameCounts). IsAbove n.name before) (sym c.counts-item.is) (above_members c.args.moment names place counts c.loop-counts-test.true c.requires) in
    subst (IsAbove c.in_ok-turned.turned.name) (sym are) (subst (λ k. IsAbove k before) (sym named) above)
