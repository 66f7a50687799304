-- Each value is no higher than all of them.
use Rattle.std.proofs.Common.{◌≡◌, ℕ, zero, suc, ◌<◌, ◌≤◌, List, [], ◌∷◌, map, length, get_or, sym, subst, arith}
use Rattle.fml_value.specs.Typed.{TypedValue, height, items_height, entries_height, items_of, entries_of}
use Rattle.fml_value.specs.TypedOf.{typed_of, entry_of}
use Rattle.fml_value.specs.declared.value.Value.{Value}

height_at : (vs : List Value) (i : ℕ) (d : Value) → i < length vs → height (typed_of (get_or vs i d)) ≤ items_height (items_of (map typed_of vs))
height_at [] i d h = absurd (omega arith)
height_at (v ∷ vs) zero d h = omega arith
height_at (v ∷ vs) (suc i) d h = omega (arith, height_at vs i d (omega arith))

entry_height_at : (es : List (List ℕ × Value)) (i : ℕ) (d : List ℕ × Value) → i < length es → height (typed_of (get_or es i d).1) ≤ entries_height (entries_of (map entry_of es))
entry_height_at [] i d h = absurd (omega arith)
entry_height_at (e ∷ es) zero d h = omega arith
entry_height_at (e ∷ es) (suc i) d h = omega (arith, entry_height_at es i d (omega arith))

-- the item at a place of the list
pub height_within : (vs : List Value) (xs : List TypedValue) (i : ℕ) (v : Value) → map typed_of vs ≡ xs → i < length vs → v ≡ get_or vs i v → height (typed_of v) ≤ items_height (items_of xs)
height_within vs xs i v same h is =
    subst (λ ys. height (typed_of v) ≤ items_height (items_of ys)) same (subst (λ w. height (typed_of w) ≤ items_height (items_of (map typed_of vs))) (sym is) (height_at vs i v h))

-- the entry at a place of the entries
pub entry_height_within : (es : List (List ℕ × Value)) (xs : List (List ℕ × TypedValue)) (i : ℕ) (e : List ℕ × Value) → map entry_of es ≡ xs → i < length es → e ≡ get_or es i e → height (typed_of e.1) ≤ entries_height (entries_of xs)
entry_height_within es xs i e same h is =
    subst (λ ys. height (typed_of e.1) ≤ entries_height (entries_of ys)) same (subst (λ d. height (typed_of d.1) ≤ entries_height (entries_of (map entry_of es))) (sym is) (entry_height_at es i e h))
