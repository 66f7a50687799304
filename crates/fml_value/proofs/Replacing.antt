-- A name that gets another value in its place.
use Rattle.std.proofs.Common.{◌≡◌, ℕ, zero, suc, ◌<◌, List, [], ◌∷◌, map, length, get_or, set, Some, option_map, slice_get, refl, sym, ap, ◌∙◌, subst, arith}
use Rattle.std.proofs.lemmas.List.{length-map, map-set}
use Rattle.fml_types.specs.Named.{AreRising, found}
use Rattle.fml_value.specs.Entries.{Stands, replaced}
use Rattle.fml_value.specs.Typed.{TypedValue}
use Rattle.fml_value.specs.TypedOf.{typed_of, entry_of}
use Rattle.fml_value.specs.declared.value.Value.{Value}
use Rattle.fml_value.proofs.Ordered.{replaced_rising}

slice_at : (items : List (List ℕ × Value)) (i : ℕ) (d : List ℕ × Value) → i < length items → slice_get (map entry_of items) i ≡ Some (entry_of (get_or items i d))
slice_at [] i d h = absurd (omega arith)
slice_at (e ∷ es) zero d h = refl
slice_at (e ∷ es) (suc i) d h = slice_at es i d (omega arith)

get_at : (items : List (List ℕ × Value)) (i : ℕ) (d : List ℕ × Value) → i < length items → (get_or (map entry_of items) i (entry_of d)).0 ≡ (get_or items i d).0
get_at [] i d h = absurd (omega arith)
get_at (e ∷ es) zero d h = refl
get_at (e ∷ es) (suc i) d h = get_at es i d (omega arith)

module _ (key : List ℕ) (items : List (List ℕ × Value)) (i : ℕ) (stands : Stands key (map entry_of items) i) where
  inside : i < length items
  inside = omega (arith, stands.within, length-map items entry_of)

  -- the value that it had
  pub value_before : (d : List ℕ × Value) (v : Value) → v ≡ (get_or items i d).1 → Some (typed_of v) ≡ found key (map entry_of items)
  value_before d v is = ap (λ w. Some (typed_of w)) is ∙ sym (stands.value ∙ ap (option_map (λ (e : List ℕ × TypedValue). e.1)) (slice_at items i d inside))

  -- the names after it
  pub names_after : (d : List ℕ × Value) (v : Value) (after : List (List ℕ × Value)) → after ≡ set items i ((get_or items i d).0, v) → map entry_of after ≡ replaced key (typed_of v) (map entry_of items)
  names_after d v after made =
      let name : (get_or items i d).0 ≡ key = sym (get_at items i d inside) ∙ stands.named (entry_of d) in
      ap (map entry_of) made ∙ map-set entry_of items i ((get_or items i d).0, v) ∙ ap (λ n. set (map entry_of items) i (n, typed_of v)) name ∙ sym (stands.replacing (typed_of v))

  pub rising_after : (d : List ℕ × Value) (v : Value) (after : List (List ℕ × Value)) → AreRising (map entry_of items) → after ≡ set items i ((get_or items i d).0, v) → AreRising (map entry_of after)
  rising_after d v after rising made = subst AreRising (sym (names_after d v after made)) (replaced_rising key (typed_of v) (map entry_of items) rising)
