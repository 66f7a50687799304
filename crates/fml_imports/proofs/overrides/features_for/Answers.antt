use Rattle.std.proofs.Common.{◌≡◌, ◌++◌, [], rules, map, sym, ap, ◌∙◌, subst, append-nil, arith}
use Rattle.std.proofs.lemmas.Grind.{common_steps}
use Rattle.fml_types.specs.Named.{AreRising}
use Rattle.fml_imports.specs.Tables.{feature_for}
use Rattle.fml_imports.proofs.Overriding.{counted_rise}
use Rattle.fml_imports.proofs.overrides.features_for.Goals as goal

pub from_vec-requires : goal.from_vec-requires
from_vec-requires c =
    let asked = c.args.asked.now in
    let channel = c.args.channel.now in
    let pairs = c.loop-name.pairs.items in
    let empty : c.loop-name.name-iterator.rest.items ≡ [] = first_of (search rules, grind (arith, common_steps)) in
    let all = sym (append-nil pairs) ∙ sym (ap (λ l. pairs ++ map (feature_for asked channel) l) empty) ∙ c.loop-name.invariant in
    counted_rise asked channel c.args.features pairs all (subst AreRising c.risen-features.ensures.pairs c.risen-features.ensures.rising)
