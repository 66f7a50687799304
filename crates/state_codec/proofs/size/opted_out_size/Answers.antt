-- The part's old rows go, and its new ones come.
use Rattle.std.proofs.Common.{◌∷◌, [], List, ℕ, ◌∙◌, ap}
use Rattle.sequences.specs.ListParts.{part_of_new, part_of_old}
use Rattle.state_codec.specs.Sizes.{slugs_size}
use Rattle.state_codec.specs.Encoding.{key_row}
use Rattle.state_codec.proofs.ListParts.{removed_short, size_after}
use Rattle.state_codec.proofs.size.opted_out_size.Goals as goal

pub overflow_sub-result : goal.overflow_sub-result
overflow_sub-result c =
    let part = c.opted_out_part-part.result in
    let olds = c.of_old.ensures ∙ ap (part_of_old part) c.as_slice.ensures in
    removed_short (key_row (111 ∷ [])) part c.args.old.now.opted_out c.args.new.now.opted_out c.opted_out_part-part.ensures c.args.before c.slugs_size-removed.result c.requires.before
    (c.slugs_size-removed.ensures.size ∙ ap (λ (slugs : List (List ℕ)). slugs_size slugs) olds)

pub returns-clause-size : goal.returns-clause-size
returns-clause-size c =
    let part = c.opted_out_part-part.result in
    let olds = c.of_old.ensures ∙ ap (part_of_old part) c.as_slice.ensures in
    let news = c.of_new.ensures ∙ ap (part_of_new part) c.as_slice-2.ensures in
    size_after (key_row (111 ∷ [])) part c.args.old.now.opted_out c.args.new.now.opted_out c.opted_out_part-part.ensures c.args.before c.slugs_size-removed.result c.requires.before
    (c.slugs_size-removed.ensures.size ∙ ap (λ (slugs : List (List ℕ)). slugs_size slugs) olds) c.slugs_size-added.result
    (c.slugs_size-added.ensures.size ∙ ap (λ (slugs : List (List ℕ)). slugs_size slugs) news)
