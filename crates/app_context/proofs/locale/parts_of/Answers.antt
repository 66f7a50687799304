use Rattle.std.proofs.Common.{None, Some, sym, ap, arith}
use Rattle.std.specs.Prelude.{if◌then◌else◌}
use Rattle.std.specs.List.{after_first}
use Rattle.std.proofs.lemmas.Str.Pattern.{split_once_first}
use Rattle.app_context.specs.Locales.{is_dash}
use Rattle.app_context.proofs.Dashes.{none_any}
use Rattle.app_context.proofs.locale.parts_of.Goals as goal

pub returns-in-None-clause-region : goal.returns-in-None-clause-region
returns-in-None-clause-region c =
    let locale = c.args.locale.now in
    let none = none_any is_dash locale (split_once_first 45 locale None c.in-None.ensures.cases (omega arith)) in
    ap (λ b. if b then Some (after_first is_dash locale) else None) (sym none)
