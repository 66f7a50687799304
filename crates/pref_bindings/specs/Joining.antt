-- One step of a walk over preferences and settings, which both rise by name.
use Rattle.std.specs.Prelude.{◌≡◌, ◌<◌, ◌+◌, ℕ, List, [], ◌∷◌, ◌++◌, length, map, Option, Some, None, option_map}
use Rattle.enrol_states.specs.Order.{Rise}
use Rattle.pref_bindings.specs.declared.joining.Step.{Step}
use Rattle.pref_bindings.specs.declared.preference.Preference.{Preference}
use Rattle.pref_bindings.specs.Preferences.{names_of}
use Rattle.pref_bindings.specs.Changes.{Setting, held_by, joined_at, joined}

pub record AreInOrder (ps : List Preference) (vs : List Setting) : Type 0 where
  pub preferences : Rise (names_of ps)
  pub settings : Rise (map (λ v. v.0) vs)

-- what a slug makes of the preference and the setting of one name, where they are there
abbrev pub joined_of : List ℕ → Option Preference → Option Setting → List Preference
joined_of slug None None = []
joined_of slug (Some p) None = p ∷ []
joined_of slug None (Some v) = held_by slug v None ∷ []
joined_of slug (Some p) (Some v) = joined_at slug v p ∷ []

-- what the step joins comes first, and then what is joined of the rest, which is less
pub record IsStep (slug : List ℕ) (ps : List Preference) (vs : List Setting) (step : Step) : Type 0 where
  pub split : joined slug vs ps ≡ joined_of slug (option_map (λ p. p.now) step.preference) (option_map (λ v. v.now) step.setting) ++ joined slug step.settings.now step.preferences.now
  pub fewer : length step.preferences.now + length step.settings.now < length ps + length vs
  pub order : AreInOrder step.preferences.now step.settings.now
