use Rattle.std.proofs.Common.{rules, ◌≡◌, ◌∙◌, List, false, sym, ap}
use Rattle.std.specs.List.{list_any}
use Rattle.pref_bindings.specs.declared.preference.Preference.{Preference}
use Rattle.pref_bindings.specs.Changes.{holds}
use Rattle.pref_bindings.proofs.HeldApart.{left_held}
use Rattle.pref_bindings.proofs.prefs.Prefs.leave.Goals as goal

pub returns-then-not-holds_any : goal.returns-then-not-holds_any
returns-then-not-holds_any c =
    let slug = c.args.slug.now in
    let none : c.holds_any.result ≡ false = search rules in
    sym (left_held slug c.args.self.now (sym (c.holds_any.ensures ∙ ap (λ (ps : List Preference). list_any (λ p. holds slug p.hold) ps) c.held.ensures) ∙ none))
