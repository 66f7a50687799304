-- What the tests of the definitions say in words.
use Rattle.std.proofs.Common.{◌≡◌, ◌<◌, ◌↔◌, ℕ, zero, suc, List, [], ◌∷◌, length, get_or, slice_get, Some, option_map, Bool, true, false, not, ◌&&◌, ◌||◌, Decides, Contains, is_lt, refl, sym, ap, ◌∙◌, arith, true≢false}
use Rattle.std.proofs.lemmas.List.{length-map}
use Rattle.std.specs.List.{list_any}
use Rattle.std.proofs.lemmas.Option.{slice_get-map, slice_get-get_or, slice_get_within, same_Some}
use Rattle.std.proofs.lemmas.Bool.{and_parts, and_from}
use Rattle.sequences.proofs.Texts.{is_Less}
use Rattle.enrol_conflicts.specs.declared.candidate.Candidate.{Candidate}
use Rattle.recipe_reader.specs.Kinds.{kind_eq}
use Rattle.recipe_reader.proofs.SameKind.{kind_Decides}
use Rattle.enrol_states.specs.Order.{is_in}
use Rattle.enrol_conflicts.specs.Settlement.{rank_cmp, is_before, clashes, any_granted, is_blocked, Settled}
use Rattle.enrol_conflicts.specs.Laws.{Clashes, IsBlocked, IsSettledInWords, SettledSays}
use Rattle.enrol_conflicts.proofs.Exclusion.{Contains-is_in, is_in-Contains, clash_from, any_granted-at}
use Rattle.enrol_conflicts.proofs.Pass.{map_by_places}

module _ {X : Type 0} where
  any_find : (p : X → Bool) (xs : List X) → list_any p xs ≡ true → (x : X) × Contains xs x × (p x ≡ true)
  any_find p [] h = absurd (true≢false (sym h))
  any_find p (x ∷ xs) h = split (any_find p xs) (p x) refl h where
    split : (list_any p xs ≡ true → (y : X) × Contains xs y × (p y ≡ true)) → (b : Bool) → p x ≡ b → (b || list_any p xs) ≡ true → (y : X) × Contains (x ∷ xs) y × (p y ≡ true)
    split find true e k = (x, (zero, omega arith, refl), e)
    split find false e k = let f = find k in (f.0, (suc f.1.0, omega (arith, f.1.1), f.1.2), f.2)

  granted_find : (p : X → Bool) (xs : List X) (gs : List Bool) → any_granted p xs gs ≡ true → (j : ℕ) × (v : X) × (slice_get xs j ≡ Some v) × (slice_get gs j ≡ Some true) × (p v ≡ true)
  granted_find p [] gs h = absurd (true≢false (sym h))
  granted_find p (x ∷ xs) [] h = absurd (true≢false (sym h))
  granted_find p (x ∷ xs) (g ∷ gs) h = split (granted_find p xs gs) (g && p x) refl h where
    split : (any_granted p xs gs ≡ true → (j : ℕ) × (v : X) × (slice_get xs j ≡ Some v) × (slice_get gs j ≡ Some true) × (p v ≡ true)) → (b : Bool) → (g && p x) ≡ b → (b || any_granted p xs gs) ≡ true → (j : ℕ) × (v : X) × (slice_get (x ∷ xs) j ≡ Some v) × (slice_get (g ∷ gs) j ≡ Some true) × (p v ≡ true)
    split find true e k = (zero, x, refl, ap Some (and_parts g (p x) e).0, (and_parts g (p x) e).1)
    split find false e k = let f = find k in (suc f.0, f.1, f.2, f.3, f.4)

not_true : (b : Bool) → (b ≡ true → ⊥) → not b ≡ true
not_true true h = absurd (h refl)
not_true false h = refl

true_not : (b : Bool) → not b ≡ true → b ≡ true → ⊥
true_not true h k = true≢false (sym h)
true_not false h k = true≢false (sym k)

pub clashes-Decides : (coenrolling : List (List ℕ)) (v w : Candidate) → Decides (clashes coenrolling v w) (Clashes coenrolling v w)
clashes-Decides coenrolling v w = (there, back) where
  there : clashes coenrolling v w ≡ true → Clashes coenrolling v w
  there h =
      let kinds : kind_eq v.kind w.kind ≡ true = (and_parts (kind_eq v.kind w.kind) (list_any (λ f. is_in v.features f && not (is_in coenrolling f)) w.features) h).0 in
      let f = any_find (λ f. is_in v.features f && not (is_in coenrolling f)) w.features (and_parts (kind_eq v.kind w.kind) (list_any (λ f. is_in v.features f && not (is_in coenrolling f)) w.features) h).1 in
      ((kind_Decides v.kind w.kind).0 kinds, (f.0, Contains-is_in f.0 v.features (and_parts (is_in v.features f.0) (not (is_in coenrolling f.0)) f.2).0, f.1, λ c. true_not (is_in coenrolling f.0) (and_parts (is_in v.features f.0) (not (is_in coenrolling f.0)) f.2).1 (is_in-Contains f.0 coenrolling c)))

  back : Clashes coenrolling v w → clashes coenrolling v w ≡ true
  back h = clash_from coenrolling v w h.1.0 h.0 h.1.1 h.1.2 (not_true (is_in coenrolling h.1.0) (λ e. h.1.3 (Contains-is_in h.1.0 coenrolling e)))

pub is_blocked-Decides : (ws : List Candidate) (coenrolling : List (List ℕ)) (gs : List Bool) (w : Candidate) → Decides (is_blocked coenrolling ws gs w) (IsBlocked ws coenrolling gs w)
is_blocked-Decides ws coenrolling gs w = (there, back) where
  there : is_blocked coenrolling ws gs w ≡ true → IsBlocked ws coenrolling gs w
  there h =
      let f = granted_find (λ v. is_before v w && clashes coenrolling v w) ws gs h in
      (f.0, f.1, f.2, f.3, is_Less (rank_cmp f.1 w) (and_parts (is_before f.1 w) (clashes coenrolling f.1 w) f.4).0, (clashes-Decides coenrolling f.1 w).0 (and_parts (is_before f.1 w) (clashes coenrolling f.1 w) f.4).1)

  back : IsBlocked ws coenrolling gs w → is_blocked coenrolling ws gs w ≡ true
  back h = any_granted-at (λ v. is_before v w && clashes coenrolling v w) ws gs h.0 h.1 h.2 h.3 (and_from (is_before h.1 w) (clashes coenrolling h.1 w) (ap is_lt h.4) ((clashes-Decides coenrolling h.1 w).1 h.5))

agree : (a b : Bool) → (a ≡ true → b ≡ true) → (b ≡ true → a ≡ true) → a ≡ b
agree true b f g = sym (f refl)
agree false true f g = g refl
agree false false f g = refl

pub settled_says : SettledSays
settled_says ws coenrolling gs = (there, back) where
  there : Settled ws coenrolling gs → IsSettledInWords ws coenrolling gs
  there s = (ap length s ∙ length-map ws (λ w. not (is_blocked coenrolling ws gs w)), each) where
    each : (i : ℕ) (w : Candidate) → slice_get ws i ≡ Some w → (slice_get gs i ≡ Some true) ↔ (IsBlocked ws coenrolling gs w → ⊥)
    each i w h =
        let e : slice_get gs i ≡ Some (not (is_blocked coenrolling ws gs w)) = ap (λ l. slice_get l i) s ∙ slice_get-map (λ w. not (is_blocked coenrolling ws gs w)) ws i ∙ ap (option_map (λ w. not (is_blocked coenrolling ws gs w))) h in
        (λ g b. true_not (is_blocked coenrolling ws gs w) (same_Some (not (is_blocked coenrolling ws gs w)) true (sym e ∙ g)) ((is_blocked-Decides ws coenrolling gs w).1 b), λ n. e ∙ ap Some (not_true (is_blocked coenrolling ws gs w) (λ b. n ((is_blocked-Decides ws coenrolling gs w).0 b))))

  back : IsSettledInWords ws coenrolling gs → Settled ws coenrolling gs
  back h = map_by_places (λ w. not (is_blocked coenrolling ws gs w)) ws gs h.0 each where
    each : (j : ℕ) (w : Candidate) → slice_get ws j ≡ Some w → get_or gs j false ≡ not (is_blocked coenrolling ws gs w)
    each j w k =
        let l : j < length ws = slice_get_within ws j w k in
        let g : slice_get gs j ≡ Some (get_or gs j false) = slice_get-get_or gs j false (rw h.0 l) in
        agree (get_or gs j false) (not (is_blocked coenrolling ws gs w))
        (λ e. not_true (is_blocked coenrolling ws gs w) (λ b. (h.1 j w k).0 (g ∙ ap Some e) ((is_blocked-Decides ws coenrolling gs w).0 b)))
        (λ n. same_Some (get_or gs j false) true (sym g ∙ (h.1 j w k).1 (λ b. true_not (is_blocked coenrolling ws gs w) n ((is_blocked-Decides ws coenrolling gs w).1 b))))
