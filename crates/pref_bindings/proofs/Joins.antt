-- What a slug makes of the least name of preferences and settings comes first.
use Rattle.std.proofs.Common.{Ordering, Less, Equal, Greater, ◌≡◌, ℕ, Bool, true, false, List, [], ◌∷◌, map, length, None, Some, refl, sym, ap, ◌∙◌, arith}
use Rattle.std.specs.Prelude.{if◌then◌else◌}
use Rattle.std.specs.List.Sorted.{IsStrictlySortedBy}
use Rattle.std.specs.Ordering.{match_ordering}
use Rattle.recipe_reader.specs.Payloads.{slug_cmp}
use Rattle.enrol_states.specs.Order.{Rise, AreAbove}
use Rattle.enrol_states.proofs.Ordered.{same_texts, turned_up}
use Rattle.pref_bindings.specs.declared.preference.Preference.{Preference}
use Rattle.pref_bindings.specs.Preferences.{names_of}
use Rattle.pref_bindings.specs.Changes.{Setting, is_held, held_by, joined_at, joined_one, joined}
use Rattle.pref_bindings.proofs.Order.{turned_even, above_same}

abbrev pub settings_names : List Setting → List (List ℕ)
settings_names vs = map (λ v. v.0) vs

pub one_step : (slug : List ℕ) (v : Setting) (p : Preference) (ps : List Preference) (o : Ordering) → slug_cmp v.0 p.name ≡ o
    → joined_one slug v (p ∷ ps) ≡ match_ordering o (held_by slug v None ∷ p ∷ ps) (joined_at slug v p ∷ ps) (p ∷ joined_one slug v ps)
one_step slug v p ps o e = ap (λ c. match_ordering c (held_by slug v None ∷ p ∷ ps) (joined_at slug v p ∷ ps) (p ∷ joined_one slug v ps)) e

-- one that is held stays
pub stays_held : (slug : List ℕ) (v : Setting) (p : Preference) → is_held p.hold ≡ true → joined_at slug v p ≡ p
stays_held slug v p held = ap (λ (b : Bool). if b then p else held_by slug v (Some p.value)) held

-- a preference whose name is below those of all settings stays first
pub stays_first : (slug : List ℕ) (vs : List Setting) (p : Preference) (ps : List Preference) → AreAbove p.name (settings_names vs) → joined slug vs (p ∷ ps) ≡ p ∷ joined slug vs ps
stays_first slug [] p ps above = refl
stays_first slug (v ∷ vs) p ps above = ap (joined slug vs) (one_step slug v p ps Greater (turned_up p.name v.0 above.0)) ∙ stays_first slug vs p (joined_one slug v ps) above.1

-- a setting whose name is below those of all preferences is put first
put_first : (slug : List ℕ) (v : Setting) (ps : List Preference) → AreAbove v.0 (names_of ps) → joined_one slug v ps ≡ held_by slug v None ∷ ps
put_first slug v [] above = refl
put_first slug v (p ∷ ps) above = one_step slug v p ps Less above.0

pub set_first : (slug : List ℕ) (v : Setting) (vs : List Setting) (ps : List Preference) → AreAbove v.0 (names_of ps) → Rise (settings_names (v ∷ vs)) → joined slug (v ∷ vs) ps ≡ held_by slug v None ∷ joined slug vs ps
unfolding IsStrictlySortedBy
set_first slug v vs ps above rise = ap (joined slug vs) (put_first slug v ps above) ∙ stays_first slug vs (held_by slug v None) ps rise.0

pub joined_name : (b : Bool) (slug : List ℕ) (v : Setting) (p : Preference) → p.name ≡ v.0 → (if b then p else held_by slug v (Some p.value)).name ≡ v.0
joined_name true slug v p same = same
joined_name false slug v p same = refl

pub both_first : (slug : List ℕ) (v : Setting) (vs : List Setting) (p : Preference) (ps : List Preference) → slug_cmp p.name v.0 ≡ Equal → Rise (settings_names (v ∷ vs)) → joined slug (v ∷ vs) (p ∷ ps) ≡ joined_at slug v p ∷ joined slug vs ps
unfolding IsStrictlySortedBy
both_first slug v vs p ps even rise =
    let name : (joined_at slug v p).name ≡ v.0 = joined_name (is_held p.hold) slug v p (same_texts p.name v.0 even) in
    ap (joined slug vs) (one_step slug v p ps Equal (turned_even p.name v.0 even)) ∙ stays_first slug vs (joined_at slug v p) ps (above_same v.0 (joined_at slug v p).name (settings_names vs) (sym name) rise.0)

pub none_joined : (slug : List ℕ) (vs : List Setting) (ps : List Preference) → length ps ≡ 0 → length vs ≡ 0 → joined slug vs ps ≡ []
none_joined slug [] [] p v = refl
none_joined slug [] (q ∷ ps) p v = absurd (omega arith)
none_joined slug (w ∷ vs) ps p v = absurd (omega arith)
