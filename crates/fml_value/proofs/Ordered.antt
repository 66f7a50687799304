-- Names that rise, and those that get values.
use Rattle.std.proofs.Common.{◌≡◌, ℕ, zero, suc, ◌<◌, List, [], ◌∷◌, ◌++◌, map, length, get_or, take, drop, true, false, Some, None, Less, Equal, Greater, refl, sym, ap, ◌∙◌, subst, arith}
use Rattle.std.specs.Prelude.{bytes_eq, if◌then◌else◌}
use Rattle.std.specs.Cmp.Lexicographic.{slice_cmp, nat_list_cmp_total, texts_ties, bytes_decides}
use Rattle.std.specs.Ordering.{nat_cmp, ordering_reverse, is_eq}
use Rattle.fml_types.specs.Named.{IsAbove, IsBelow, AreRising, found}
use Rattle.fml_value.specs.Entries.{beside, with_entry, replaced}
use Rattle.fml_value.specs.Typed.{TypedValue}
use Rattle.fml_value.specs.TypedOf.{entry_of}
use Rattle.fml_value.specs.declared.value.Value.{Value}

pub below_at : (k : List ℕ) (es : List (List ℕ × Value)) (i : ℕ) (d : List ℕ × Value) → i < length es → IsBelow k (map entry_of es) → slice_cmp nat_cmp k (get_or es i d).0 ≡ Less
below_at k [] i d h below = absurd (omega arith)
below_at k (e ∷ es) zero d h below = below.0
below_at k (e ∷ es) (suc i) d h below = below_at k es i d (omega arith) below.1

above_at : (es : List (List ℕ × Value)) (i : ℕ) (d : List ℕ × Value) → i < length es → AreRising (map entry_of es) → IsAbove (get_or es i d).0 (map entry_of (take i es))
above_at [] i d h rising = absurd (omega arith)
above_at (e ∷ es) zero d h rising = tt
above_at (e ∷ es) (suc i) d h rising = (below_at e.0 es i d (omega arith) rising.0, above_at es i d (omega arith) rising.1)

-- a name is above those before it
pub above_before : (es : List (List ℕ × Value)) (i : ℕ) (e : List ℕ × Value) → i < length es → e ≡ get_or es i e → AreRising (map entry_of es) → IsAbove e.0 (map entry_of (take i es))
above_before es i e h is rising = subst (λ n. IsAbove n.0 (map entry_of (take i es))) (sym is) (above_at es i e h rising)

-- ---- a name that gets a value

below_with : (k : List ℕ) (name : List ℕ) (v : TypedValue) (es : List (List ℕ × TypedValue)) → slice_cmp nat_cmp k name ≡ Less → IsBelow k es → IsBelow k (with_entry name v es)
below_with k name v [] less h = (less, tt)
below_with k name v (e ∷ es) less h =
    elim (slice_cmp nat_cmp name e.0) as (λ o. IsBelow k (beside o (name, v) e es (with_entry name v es))) [
      | Less ↦ (less, h)
      | Equal ↦ (less, h.1)
      | Greater ↦ (h.0, below_with k name v es less h.1)
    ]

below_first : (k : List ℕ) (e : List ℕ × TypedValue) (es : List (List ℕ × TypedValue)) → slice_cmp nat_cmp k e.0 ≡ Less → IsBelow e.0 es → IsBelow k es
below_first k e [] less h = tt
below_first k e (n ∷ es) less h = (nat_list_cmp_total.trans k e.0 n.0 less h.0, below_first k e es less h.1)

below_same : (k l : List ℕ) (es : List (List ℕ × TypedValue)) → slice_cmp nat_cmp k l ≡ Equal → IsBelow l es → IsBelow k es
below_same k l es tied h = subst (λ n. IsBelow n es) (sym ((bytes_decides k l).0 (texts_ties k l ∙ ap is_eq tied))) h

pub rising_with : (name : List ℕ) (v : TypedValue) (es : List (List ℕ × TypedValue)) → AreRising es → AreRising (with_entry name v es)
rising_with name v [] h = (tt, tt)
rising_with name v (e ∷ es) h =
    elim (slice_cmp nat_cmp name e.0) as (λ o. slice_cmp nat_cmp name e.0 ≡ o → AreRising (beside o (name, v) e es (with_entry name v es))) [
      | Less ↦ λ s. ((s, below_first name e es s h.0), h)
      | Equal ↦ λ s. (below_same name e.0 es s h.0, h.1)
      | Greater ↦ λ s. (below_with e.0 name v es (nat_list_cmp_total.antisymm e.0 name ∙ ap ordering_reverse s) h.0, rising_with name v es h.1)
    ] refl

-- ---- a name that gets another value

replaced_below : (a k : List ℕ) (v : TypedValue) (es : List (List ℕ × TypedValue)) → IsBelow a es → IsBelow a (replaced k v es)
replaced_below a k v [] below = tt
replaced_below a k v (e ∷ es) below =
    elim (bytes_eq e.0 k) as (λ b. bytes_eq e.0 k ≡ b → IsBelow a (if b then (k, v) ∷ es else e ∷ replaced k v es)) [
      | true ↦ λ same. (subst (λ n. slice_cmp nat_cmp a n ≡ Less) ((bytes_decides e.0 k).0 same) below.0, below.1)
      | false ↦ λ other. (below.0, replaced_below a k v es below.1)
    ] refl

pub replaced_rising : (k : List ℕ) (v : TypedValue) (es : List (List ℕ × TypedValue)) → AreRising es → AreRising (replaced k v es)
replaced_rising k v [] rising = tt
replaced_rising k v (e ∷ es) rising =
    elim (bytes_eq e.0 k) as (λ b. bytes_eq e.0 k ≡ b → AreRising (if b then (k, v) ∷ es else e ∷ replaced k v es)) [
      | true ↦ λ same. (subst (λ n. IsBelow n es) ((bytes_decides e.0 k).0 same) rising.0, rising.1)
      | false ↦ λ other. (replaced_below e.0 k v es rising.0, replaced_rising k v es rising.1)
    ] refl

-- a name that isn't there
pub replaced_none : (k : List ℕ) (v : TypedValue) (es : List (List ℕ × TypedValue)) → found k es ≡ None → replaced k v es ≡ es
replaced_none k v [] absent = refl
replaced_none k v (e ∷ es) absent =
    elim (bytes_eq e.0 k) as (λ b. (if b then Some e.1 else found k es) ≡ None → (if b then (k, v) ∷ es else e ∷ replaced k v es) ≡ e ∷ es) [
      | true ↦ λ h. absurd (cc)
      | false ↦ λ h. ap (λ l. e ∷ l) (replaced_none k v es h)
    ] absent

pub map-insert : {A B : Type 0} (f : A → B) (xs : List A) (i : ℕ) (x : A) → map f (take i xs ++ x ∷ drop i xs) ≡ take i (map f xs) ++ f x ∷ drop i (map f xs)
map-insert f [] zero x = refl
map-insert f [] (suc i) x = refl
map-insert f (y ∷ ys) zero x = refl
map-insert f (y ∷ ys) (suc i) x = ap (λ l. f y ∷ l) (map-insert f ys i x)
