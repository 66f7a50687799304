-- The preferences that somebody holds, and what is kept beside preferences.
use Rattle.std.specs.Prelude.{◌≡◌, ℕ, List, filter}
use Rattle.std.specs.Option.{is_some}
use Rattle.pref_bindings.specs.declared.preference.Preference.{Preference}
use Rattle.pref_bindings.specs.Sizes.{AreSized}

-- those of the preferences that somebody holds
abbrev pub held_preferences : List Preference → List Preference
held_preferences ps = filter (λ p. is_some p.hold) ps

-- preferences, those of them that somebody holds, and how many bytes the puts of their rows have
pub record AreKept (ps held : List Preference) (bytes : ℕ) : Type 0 where
  pub sized : AreSized ps bytes
  pub same : held ≡ held_preferences ps
