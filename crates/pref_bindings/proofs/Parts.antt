-- Preferences that become one or none each, under the same name.
use Rattle.std.proofs.Common.{◌≡◌, ℕ, ◌+◌, ◌<◌, Bool, true, false, List, [], ◌∷◌, ◌++◌, take, length, get_or, Option, None, Some, ◌⊎◌, inl, inr, Less, refl, sym, ap, ◌∙◌, subst}
use Rattle.std.specs.Prelude.{if◌then◌else◌}
use Rattle.std.specs.List.{flat_map}
use Rattle.std.specs.List.Sorted.{IsStrictlySortedBy}
use Rattle.std.proofs.lemmas.List.{take_more, append-nil}
use Rattle.std.proofs.lemmas.Grind.{flat_map-append}
use Rattle.recipe_reader.specs.Payloads.{slug_cmp}
use Rattle.enrol_states.specs.Order.{Rise, AreAbove}
use Rattle.pref_bindings.specs.declared.preference.Hold.{Hold}
use Rattle.pref_bindings.specs.declared.preference.Preference.{Preference}
use Rattle.pref_bindings.specs.Preferences.{names_of}
use Rattle.pref_bindings.specs.Changes.{set_value, users_part, holds, restored}
use Rattle.json_tree.specs.declared.tree.Tree.{Tree}

-- none, or one under the same name
abbrev pub AtMost : List ℕ → List Preference → Type 0
AtMost name l = (l ≡ []) ⊎ ((q : Preference) × (l ≡ q ∷ []) × (q.name ≡ name))

pub above_parts : (f : Preference → List Preference) (a : List ℕ) (ps : List Preference) → ((p : Preference) → AtMost p.name (f p)) → AreAbove a (names_of ps) → AreAbove a (names_of (flat_map f ps))
above_parts f a [] most above = tt
above_parts f a (p ∷ ps) most above =
    let rest = above_parts f a ps most above.1 in
    elim (most p) [
      | inl none ↦ subst (λ (l : List Preference). AreAbove a (names_of (l ++ flat_map f ps))) (sym none) rest
      | inr one ↦ subst (λ (l : List Preference). AreAbove a (names_of (l ++ flat_map f ps))) (sym one.1) (subst (λ t. slug_cmp a t ≡ Less) (sym one.2) above.0, rest)
    ]

pub rise_parts : (f : Preference → List Preference) (ps : List Preference) → ((p : Preference) → AtMost p.name (f p)) → Rise (names_of ps) → Rise (names_of (flat_map f ps))
unfolding IsStrictlySortedBy
rise_parts f [] most rise = tt
rise_parts f (p ∷ ps) most rise =
    let rest = rise_parts f ps most rise.1 in
    let above = above_parts f p.name ps most rise.0 in
    elim (most p) [
      | inl none ↦ subst (λ (l : List Preference). Rise (names_of (l ++ flat_map f ps))) (sym none) rest
      | inr one ↦ subst (λ (l : List Preference). Rise (names_of (l ++ flat_map f ps))) (sym one.1) (subst (λ t. AreAbove t (names_of (flat_map f ps))) (sym one.2) above, rest)
    ]

set_most : (name : List ℕ) (v : Option Tree) → AtMost name (set_value name v)
set_most name None = inl refl
set_most name (Some v) = inr (record { name = name; value = v; hold = None }, refl, refl)

pub users_most : (p : Preference) (h : Option Hold) → AtMost p.name (users_part p h)
users_most p None = inr (p, refl, refl)
users_most p (Some h) = set_most p.name h.before

most_if : (b : Bool) (p : Preference) → AtMost p.name (if b then users_part p p.hold else p ∷ [])
most_if true p = users_most p p.hold
most_if false p = inr (p, refl, refl)

pub restored_most : (slug : List ℕ) (p : Preference) → AtMost p.name (restored slug p)
restored_most slug p = most_if (holds slug p.hold) p

-- one more of a walk
pub flat_map_take : {X Y : Type 0} (f : X → List Y) (xs : List X) (i : ℕ) (x : X) → i < length xs → x ≡ get_or xs i x → flat_map f (take (i + 1) xs) ≡ flat_map f (take i xs) ++ f x
flat_map_take {X} {Y} f xs i x within is =
    ap (flat_map f) (take_more xs i x within) ∙ flat_map-append f (take i xs) (get_or xs i x ∷ [])
    ∙ ap (λ (l : List Y). flat_map f (take i xs) ++ l) (append-nil (f (get_or xs i x)) ∙ ap f (sym is))
