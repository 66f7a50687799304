use Rattle.std.proofs.Common.{sym, ap, ◌∙◌}
use Rattle.std.proofs.lemmas.Result.{IfOk-weaker}
use Rattle.json_tree.specs.Bytes.{tree_of}
use Rattle.json_tree.specs.Inverse.{json_of-injective, one_value}
use Rattle.json_tree.proofs.rereading.reread.Goals as goal

pub returns-clause-ok : goal.returns-clause-ok
returns-clause-ok c =
    let bytes = c.as_bytes.ensures.value ∙ c.as_str.ensures.text in
    IfOk-weaker c.read.result _ _ (λ t is. json_of-injective t c.args.tree.now (one_value _ _ (sym is ∙ ap tree_of bytes ∙ c.in_ok-text.ensures.reads_back c.requires))) c.read.ensures.ok
