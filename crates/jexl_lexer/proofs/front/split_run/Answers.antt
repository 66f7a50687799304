use Rattle.std.proofs.Common.{◌∙◌, ap, ℕ, List, Option, length}
use Rattle.std.specs.Prelude.{not, position}
use Rattle.std.specs.Option.{unwrap_or}
use Rattle.jexl_lexer.specs.Classes.{in_class}
use Rattle.jexl_lexer.proofs.Runs.{run_boundary, run_cut}
use Rattle.jexl_lexer.proofs.front.split_run.Goals as goal

pub split_at-requires : goal.split_at-requires
split_at-requires c =
    let place = c.first_other.ensures ∙ ap (λ (bs : List ℕ). position (λ b. not (in_class c.args.class b)) bs) c.as_bytes.ensures.value in
    run_boundary c.args.class c.args.text.now c.unwrap_or-end.result c.utf8.text (c.unwrap_or-end.ensures ∙ ap (λ (o : Option ℕ). unwrap_or o (length c.args.text.now)) place)

pub returns : goal.returns
returns c =
    let place = c.first_other.ensures ∙ ap (λ (bs : List ℕ). position (λ b. not (in_class c.args.class b)) bs) c.as_bytes.ensures.value in
    run_cut (in_class c.args.class) c.args.text.now c.split_at.result.0.now c.split_at.result.1.now c.unwrap_or-end.result (c.unwrap_or-end.ensures ∙ ap (λ (o : Option ℕ). unwrap_or o (length c.args.text.now)) place) c.split_at.ensures.front c.split_at.ensures.back
