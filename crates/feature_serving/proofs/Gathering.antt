-- What a list gives, one item after the other.
use Rattle.std.proofs.Common.{◌≡◌, ℕ, ◌+◌, ◌<◌, List, [], ◌∷◌, ◌++◌, length, get_or, take, map, Option, Some, None, refl, sym, ap, ◌∙◌, append-nil}
use Rattle.std.specs.Prelude.{fold, option_map}
use Rattle.std.specs.List.{filter_map, cons_option}
use Rattle.std.proofs.lemmas.List.{map-append, take_more}
use Rattle.std.proofs.lemmas.List.Elements.{filter_map-append}

module _ {X Y Z : Type 0} (view : Y → Z) (given : X → Option Z) (xs : List X) (i : ℕ) (x : X) (inside : i < length xs) (at : x ≡ get_or xs i x) (ys : List Y) (so_far : map view ys ≡ filter_map given (take i xs)) where
  next : filter_map given (take (i + 1) xs) ≡ filter_map given (take i xs) ++ cons_option (given x) []
  next = ap (filter_map given) (take_more xs i x inside ∙ ap (λ y. take i xs ++ y ∷ []) (sym at)) ∙ filter_map-append given (take i xs) (x ∷ [])

  pub gathered_one : (y : Y) → option_map view (Some y) ≡ given x → map view (ys ++ y ∷ []) ≡ filter_map given (take (i + 1) xs)
  gathered_one y e = map-append view ys (y ∷ []) ∙ ap (λ zs. zs ++ view y ∷ []) so_far ∙ sym (next ∙ ap (λ o. filter_map given (take i xs) ++ cons_option o []) (sym e))

  pub gathered_none : None ≡ given x → map view ys ≡ filter_map given (take (i + 1) xs)
  gathered_none e = so_far ∙ sym (append-nil (filter_map given (take i xs))) ∙ sym (next ∙ ap (λ o. filter_map given (take i xs) ++ cons_option o []) (sym e))

-- items are folded by what each is
pub folded_over : {X Y Z W : Type 0} (view : X → Y) (part : Y → W) (f : Z → W → Z) (a : Z) (xs : List X) → fold f a (map (λ x. part (view x)) xs) ≡ fold (λ z y. f z (part y)) a (map view xs)
folded_over view part f a [] = refl
folded_over view part f a (x ∷ xs) = folded_over view part f (f a (part (view x))) xs
