use Rattle.std.proofs.Common.{◌≡◌, ◌-◌, drop, rules, refl, subst, arith}
use Rattle.fml_imports.specs.Channels.{is_among}
use Rattle.fml_imports.specs.Standings.{AreStandings}
use Rattle.fml_imports.specs.declared.joining.Linked.{Linked}
use Rattle.fml_imports.proofs.Standing.{stands_none, stands_turn}
use Rattle.fml_imports.proofs.imports.standings.Goals as goal

pub loop-place-init : goal.loop-place-init
loop-place-init c = stands_none c.args.files.now c.new-standings.result c.new-standings.ensures.empty

pub loop-place-preserved : goal.loop-place-preserved
loop-place-preserved c =
    let f : Linked = c.index-files-place.result in
    let key : c.in_ok-clone.field-0 ≡ f.name = search rules in
    let own : c.contains-has_channel.result ≡ is_among f.channel f.module.channels = search rules in
    stands_turn c.args.files.now c.loop-place.place f (record { place = c.loop-place.place - 1; has_channel = c.contains-has_channel.result }) c.in_ok-clone.field-0 c.loop-place.standings c.insert.new.self
    (omega arith) (omega arith) c.index-files-place.is refl own key c.loop-place.invariant c.in_ok-insert.ensures.updates

pub returns : goal.returns
returns c =
    let first : c.loop-place.place ≡ 0 = omega arith in
    subst (λ i. AreStandings c.args.files.now (drop i c.args.files.now) c.loop-place.standings) first c.loop-place.invariant
