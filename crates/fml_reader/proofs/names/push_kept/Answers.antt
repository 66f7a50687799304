use Rattle.std.proofs.Common.{[], ◌∷◌, ◌++◌, sym, ap, ◌∙◌}
use Rattle.fml_reader.proofs.Pieces.{kept}
use Rattle.fml_reader.proofs.names.push_kept.Goals as goal

pub returns : goal.returns
returns c =
    c.in_ok-push.ensures.ok ∙ ap (λ text. c.args.names.now ++ text ∷ []) c.in_ok-text.ensures ∙ ap (λ l. c.args.names.now ++ l) (sym (kept c.args.name.now c.if-name-eq0.false))
