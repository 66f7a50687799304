-- A join of names that are held changes nothing.
use Rattle.std.proofs.Common.{Ordering, Less, Equal, Greater, ◌≡◌, ◌∙◌, ℕ, Bool, true, false, List, [], ◌∷◌, Option, None, Some, refl, sym, ap}
use Rattle.std.specs.Prelude.{option_map}
use Rattle.std.specs.List.Sorted.{IsStrictlySortedBy}
use Rattle.std.specs.Option.{is_some}
use Rattle.recipe_reader.specs.Payloads.{slug_cmp}
use Rattle.enrol_states.specs.Order.{Rise, AreAbove}
use Rattle.enrol_states.proofs.Ordered.{above_trans, equal_texts, lesser_texts, turned_down}
use Rattle.pref_bindings.specs.declared.preference.Hold.{Hold}
use Rattle.pref_bindings.specs.declared.preference.Preference.{Preference}
use Rattle.pref_bindings.specs.Preferences.{AreHeld, IsSound, holder_of, names_of}
use Rattle.pref_bindings.specs.Changes.{Setting, is_held, held_by, joined, joined_at, joined_one}
use Rattle.pref_bindings.proofs.Joins.{one_step, stays_held}
use Rattle.pref_bindings.proofs.Order.{turned_even}
use Rattle.pref_bindings.proofs.Places.{found_above, found_step, holder_in}

is_held_if : (h : Option Hold) → is_some (option_map (λ k. k.holder) h) ≡ true → is_held h ≡ true
is_held_if None some = absurd cc
is_held_if (Some k) some = refl

one_at : (o : Ordering) (slug : List ℕ) (v : Setting) (p : Preference) (ps : List Preference) → slug_cmp v.0 p.name ≡ o → AreAbove p.name (names_of ps) → is_some (holder_of v.0 (p ∷ ps)) ≡ true
    → (is_some (holder_of v.0 ps) ≡ true → joined_one slug v ps ≡ ps) → joined_one slug v (p ∷ ps) ≡ p ∷ ps
one_at Less slug v p ps e above held rest =
    let none : false ≡ true = sym (ap (λ o. is_some (holder_in o)) (found_above v.0 (p ∷ ps) (e, above_trans v.0 p.name (names_of ps) e above))) ∙ held in
    absurd cc
one_at Equal slug v p ps e above held rest =
    let here : is_some (option_map (λ (k : Hold). k.holder) p.hold) ≡ true = sym (ap (λ o. is_some (holder_in o)) (found_step v.0 p ps true (equal_texts p.name v.0 (turned_even v.0 p.name e)))) ∙ held in
    one_step slug v p ps Equal e ∙ ap (λ (q : Preference). q ∷ ps) (stays_held slug v p (is_held_if p.hold here))
one_at Greater slug v p ps e above held rest =
    let behind : is_some (holder_of v.0 ps) ≡ true = sym (ap (λ o. is_some (holder_in o)) (found_step v.0 p ps false (lesser_texts p.name v.0 (turned_down v.0 p.name e)))) ∙ held in
    one_step slug v p ps Greater e ∙ ap (λ (qs : List Preference). p ∷ qs) (rest behind)

one_held : (slug : List ℕ) (v : Setting) (ps : List Preference) → Rise (names_of ps) → is_some (holder_of v.0 ps) ≡ true → joined_one slug v ps ≡ ps
unfolding IsStrictlySortedBy
one_held slug v [] rise held = absurd cc
one_held slug v (p ∷ ps) rise held = one_at (slug_cmp v.0 p.name) slug v p ps refl rise.0 held (one_held slug v ps rise.1)

pub held_joined : (slug : List ℕ) (vs : List Setting) (ps : List Preference) → IsSound ps → AreHeld vs ps → joined slug vs ps ≡ ps
held_joined slug [] ps sound held = refl
held_joined slug (v ∷ vs) ps sound held = ap (joined slug vs) (one_held slug v ps sound.names held.0) ∙ held_joined slug vs ps sound held.1
