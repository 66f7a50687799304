-- The recipe goes to its place, under its own slug.
use Rattle.std.proofs.Common.{sym, ap, ◌∙◌, subst}
use Rattle.std.specs.BTreeMap.{insert_entry}
use Rattle.std.specs.Map.{values_of}
use Rattle.std.specs.Ordering.{nat_cmp}
use Rattle.std.specs.Cmp.Lexicographic.{slice_cmp}
use Rattle.recipe_reader.specs.Payloads.{AreValid}
use Rattle.recipe_reader.specs.Taken.{HaveOwnSlugs}
use Rattle.recipe_reader.proofs.Taken.{put, put_own, put_valid}
use Rattle.recipe_reader.proofs.payload.insert.Goals as goal

pub returns-clause-put : goal.returns-clause-put
returns-clause-put c =
    let es = c.args.recipes.now.entries in
    let r = c.args.recipe in
    let grown = c.in_ok-insert.ensures.entries ∙ ap (λ s. insert_entry (slice_cmp nat_cmp) es s r) c.in_ok-slug.ensures.cases in
    ap values_of grown ∙ put r es c.requires.slugs c.requires.absent

pub returns-clause-slugs : goal.returns-clause-slugs
returns-clause-slugs c =
    let es = c.args.recipes.now.entries in
    let r = c.args.recipe in
    let grown = c.in_ok-insert.ensures.entries ∙ ap (λ s. insert_entry (slice_cmp nat_cmp) es s r) c.in_ok-slug.ensures.cases in
    subst HaveOwnSlugs (sym grown) (put_own r es c.requires.slugs c.requires.absent)

pub returns-clause-valid : goal.returns-clause-valid
returns-clause-valid c one all =
    let es = c.args.recipes.now.entries in
    let r = c.args.recipe in
    let grown = c.in_ok-insert.ensures.entries ∙ ap (λ s. insert_entry (slice_cmp nat_cmp) es s r) c.in_ok-slug.ensures.cases in
    subst AreValid (sym (ap values_of grown ∙ put r es c.requires.slugs c.requires.absent)) (put_valid r (values_of es) one all)
