-- The features that allow coenrolment, one after the other.
use Rattle.std.proofs.Common.{◌≡◌, ℕ, ◌+◌, ◌<◌, Bool, true, false, List, [], ◌∷◌, ◌++◌, length, get_or, take, refl, sym, ap, ◌∙◌}
use Rattle.std.proofs.lemmas.List.{take_more}
use Rattle.std.specs.Prelude.{if◌then◌else◌}
use Rattle.fml_types.specs.declared.manifest.FeatureDefinition.{FeatureDefinition}
use Rattle.fml_types.specs.Coenrolling.{coenrolling}

either : (b : Bool) (name : List ℕ) (xs ys : List (List ℕ)) → (if b then name ∷ (xs ++ ys) else xs ++ ys) ≡ (if b then name ∷ xs else xs) ++ ys
either true name xs ys = refl
either false name xs ys = refl

joined : (fs gs : List (List ℕ × FeatureDefinition)) → coenrolling (fs ++ gs) ≡ coenrolling fs ++ coenrolling gs
joined [] gs = refl
joined (f ∷ fs) gs = ap (λ l. if f.1.allows_coenrollment then f.0 ∷ l else l) (joined fs gs) ∙ either f.1.allows_coenrollment f.0 (coenrolling fs) (coenrolling gs)

pub one_more : (fs : List (List ℕ × FeatureDefinition)) (i : ℕ) (f : List ℕ × FeatureDefinition) (names grown : List (List ℕ)) → i < length fs → f ≡ get_or fs i f → grown ≡ names ++ coenrolling (f ∷ []) → names ≡ coenrolling (take i fs)
    → grown ≡ coenrolling (take (i + 1) fs)
one_more fs i f names grown h is grows so_far =
    grows ∙ ap (λ l. l ++ coenrolling (f ∷ [])) so_far ∙ ap (λ g. coenrolling (take i fs) ++ coenrolling (g ∷ [])) is ∙ sym (joined (take i fs) (get_or fs i f ∷ [])) ∙ ap coenrolling (sym (take_more fs i f h))
