use Rattle.std.proofs.Common.{◌≡◌, ◌+◌, ◌-◌, ◌++◌, List, ℕ, sym, ◌∙◌, length, take, drop, replicate, ap, rules}
use Rattle.std.proofs.lemmas.List.{length-replicate}
use Rattle.host_model.proofs.Overwriting.{overwritten_is, all_of}
use Rattle.host_model.proofs.reserved.mark.Goals as goal

pub returns-clause-items : goal.returns-clause-items
returns-clause-items c =
    let grown = c.grow.new.bytes in
    let marks : List ℕ = replicate c.args.len 255 in
    let size : length marks ≡ c.args.len = length-replicate c.args.len 255 in
    let same : length c.fill_range.new.into ≡ length grown.items = search rules in
    all_of grown.items c.fill_range.new.into grown.len grown.ok.0 same
    ∙ overwritten_is c.args.bytes.now.items c.args.at marks grown.items c.fill_range.new.into
    (c.grow.ensures.items ∙ ap (λ (n : ℕ). c.args.bytes.now.items ++ replicate (c.args.at + n - length c.args.bytes.now.items) 0) (sym size))
    (c.fill_range.ensures ∙ ap (λ (l : List ℕ). take c.args.at l ++ marks ++ drop (c.args.at + c.args.len) l) c.deref_mut.ensures.value ∙ ap (λ (n : ℕ). take c.args.at grown.items ++ marks ++ drop (c.args.at + n) grown.items) (sym size))
