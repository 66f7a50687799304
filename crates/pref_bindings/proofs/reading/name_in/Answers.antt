-- The bytes of a name are a text.
use Rattle.std.proofs.Common.{◌≡◌, ◌-◌, List, ℕ, length, take, drop, sym, ◌∙◌}
use Rattle.plain_text.proofs.ShortNames.{IsUtf8-name}
use Rattle.pref_bindings.proofs.reading.name_in.Goals as goal

pub returns-in-Err-clause-none : goal.returns-in-Err-clause-none
returns-in-Err-clause-none c = λ none name is same.
    let key : List ℕ = c.args.key.now in
    c.in-Err.ensures.cases.0 (IsUtf8-name (take (length key - 1) (drop 1 key)) (sym c.is_name.ensures ∙ c.if-is_name.true))
