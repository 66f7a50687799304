use Rattle.std.proofs.Common.{◌++◌, map, sym, ap, ◌∙◌, subst}
use Rattle.fml_types.specs.Named.{AreRising}
use Rattle.fml_value.specs.TypedOf.{entry_of}
use Rattle.fml_merge.proofs.Merge.{map_join}
use Rattle.fml_merge.proofs.merging.Merge.finish.Goals as goal

pub from_vec-requires : goal.from_vec-requires
from_vec-requires c =
    let m = c.args.self in
    let joins = ap (map entry_of) (c.in_ok-append.ensures.items ∙ ap (λ l. m.merged.items ++ l) c.into_vec-left.ensures.items) ∙ map_join m.merged.items m.left.items in
    subst AreRising (sym joins) c.requires

pub returns : goal.returns
returns c =
    let m = c.args.self in
    c.from_vec.ensures ∙ ap (map entry_of) (c.in_ok-append.ensures.items ∙ ap (λ l. m.merged.items ++ l) c.into_vec-left.ensures.items) ∙ map_join m.merged.items m.left.items
