-- Zeros of objects that aren't too high are the same with one level more.
use Rattle.std.proofs.Common.{◌≡◌, ℕ, zero, suc, ◌<◌, ◌≤◌, Bool, true, false, List as Seq, [], ◌∷◌, length, map as over, Option as Maybe, Some, None, refl, sym, ap, ap₂, ◌∙◌, arith}
use Rattle.std.specs.Prelude.{◌&&◌, ◌||◌, if◌then◌else◌}
use Rattle.json_tree.specs.Json as json
use Rattle.json_tree.specs.Json.{Json}
use Rattle.json_tree.specs.Tree.{json_of}
use Rattle.json_tree.specs.declared.tree.Tree.{Tree}
use Rattle.fml_types.specs.Graph.{is_named, is_list, is_map, is_empty, is_empty_json, has_no_items, has_no_members, need_of, part_of, graph_of}
use Rattle.fml_types.specs.Ground.{greatest, at, reached_all, value_of_need, needed, height_up_to}
use Rattle.fml_types.specs.Named.{found, place}
use Rattle.fml_types.specs.Shape as shape
use Rattle.fml_types.specs.Shape.{Shape}
use Rattle.fml_types.specs.Shapes.{shape_of}
use Rattle.fml_types.specs.declared.graph.Need.TheVariants.{Nothing, Mentioned}
use Rattle.fml_types.specs.declared.graph.Part.{Part}
use Rattle.fml_types.specs.declared.manifest.EnumDefinition.{EnumDefinition}
use Rattle.fml_types.specs.declared.manifest.Field.{Field}
use Rattle.fml_types.specs.declared.manifest.ObjectDefinition.{ObjectDefinition}
use Rattle.fml_types.specs.declared.manifest.TypeTable.{TypeTable}
use Rattle.fml_types.proofs.Reaching.{base_le}
use Rattle.fml_value.specs.Takes.{takes, takes_named}
use Rattle.fml_value.specs.Typed as typed
use Rattle.fml_value.specs.Typed.{TypedValue, object, entries_of}
use Rattle.fml_merge.specs.Overlay.{fields_of, pairs_in, overlay_with}
use Rattle.fml_merge.specs.Zero.{zero_named, zero_within, object_zero, with_default, initial, zero_of}
use Rattle.fml_merge.proofs.Agreement.{overlay_agree}
use Rattle.fml_merge.proofs.Needs.{mentioned, field_within, low_parts, at_place, at_le, first_greatest}
use Rattle.fml_merge.proofs.Typing.{IsScope}

module _ (types : TypeTable) where
  abbrev graph : Seq (Seq Part)
  graph = graph_of types.objects

  -- types all whose objects have at most this value
  abbrev Low : (ℕ → ℕ) → ℕ → Shape → Type 0
  Low v k t = at (reached_all graph v) (mentioned types.objects t) ≤ k

  low_scope : (v : ℕ → ℕ) (k : ℕ) → IsScope types (Low v k)
  low_scope v k = record {
    inner = λ t p. p;
    items = λ t p. p;
    entries = λ key t p. p;
    fields = λ n o name f p is there. field_within types v k o n name f is there (place n types.objects) refl p;
  }

  -- ---- one level

  module _ (k : ℕ) (v : ℕ → ℕ) (y z : Shape → TypedValue) (simple : (t : Shape) → is_named t ≡ false → y t ≡ z t) (below : (t : Shape) → at v (mentioned types.objects t) ≤ k → y t ≡ z t) where
    itself : (t : Shape) → value_of_need v (reached_all graph v) (mentioned types.objects t) (if is_named t then Mentioned else Nothing) ≤ k → y t ≡ z t
    itself (shape.named n) low = below (shape.named n) low
    itself shape.boolean low = simple shape.boolean refl
    itself shape.int low = simple shape.int refl
    itself shape.string low = simple shape.string refl
    itself shape.text low = simple shape.text refl
    itself shape.image low = simple shape.image refl
    itself (shape.option t) low = simple (shape.option t) refl
    itself (shape.list t) low = simple (shape.list t) refl
    itself (shape.map key t) low = simple (shape.map key t) refl

    -- ---- an empty default

    empty_list : (t : Shape) (xs : json.Items) → (has_no_items xs && is_list t) ≡ true → y t ≡ z t → overlay_with y types t (y t) (json.list xs) ≡ overlay_with z types t (z t) (json.list xs)
    empty_list t (json.item x xs) e same = absurd cc
    empty_list (shape.list t) json.no_items e same = refl
    empty_list shape.boolean json.no_items e same = absurd cc
    empty_list shape.int json.no_items e same = absurd cc
    empty_list shape.string json.no_items e same = absurd cc
    empty_list shape.text json.no_items e same = absurd cc
    empty_list shape.image json.no_items e same = absurd cc
    empty_list (shape.option t) json.no_items e same = absurd cc
    empty_list (shape.map key t) json.no_items e same = absurd cc
    empty_list (shape.named n) json.no_items e same = absurd cc

    empty_object : (t : Shape) (ms : json.Members) → (has_no_members ms && (is_map t || is_named t)) ≡ true → y t ≡ z t → overlay_with y types t (y t) (json.object ms) ≡ overlay_with z types t (z t) (json.object ms)
    empty_object t (json.member name x ms) e same = absurd cc
    empty_object (shape.map key t) json.no_members e same = ap (λ w. typed.map (entries_of (pairs_in w))) same
    empty_object (shape.named n) json.no_members e same = ap (λ w. if takes_named (found n types.enums) (found n types.objects) (json.object json.no_members) then object (entries_of (pairs_in w)) else w) same
    empty_object shape.boolean json.no_members e same = absurd cc
    empty_object shape.int json.no_members e same = absurd cc
    empty_object shape.string json.no_members e same = absurd cc
    empty_object shape.text json.no_members e same = absurd cc
    empty_object shape.image json.no_members e same = absurd cc
    empty_object (shape.option t) json.no_members e same = absurd cc
    empty_object (shape.list t) json.no_members e same = absurd cc

    empty_over : (t : Shape) (x : Json) → is_empty_json t x ≡ true → y t ≡ z t → overlay_with y types t (y t) x ≡ overlay_with z types t (z t) x
    empty_over t json.null e same = ap (λ w. if takes types t json.null then typed.absent else w) same
    empty_over t (json.list xs) e same = empty_list t xs e same
    empty_over t (json.object ms) e same = empty_object t ms e same
    empty_over t (json.truth b) e same = absurd cc
    empty_over t (json.whole m) e same = absurd cc
    empty_over t json.odd e same = absurd cc
    empty_over t (json.text w) e same = absurd cc

    -- ---- each default

    tree_stable : (t : Shape) (x : Json) (b : Bool) → is_empty_json t x ≡ b → value_of_need v (reached_all graph v) (mentioned types.objects t) (need_of t b) ≤ k → overlay_with y types t (y t) x ≡ overlay_with z types t (z t) x
    tree_stable t x true e low = empty_over t x e (itself t low)
    tree_stable t x false e low =
        overlay_agree types y z (Low v k) (low_scope v k) (λ u p. below u (let under = at_le v (reached_all graph v) (λ i. base_le graph v (length graph) i) (mentioned types.objects u) in omega (arith, under, p))) x t low

    default_stable : (t : Shape) (d : Maybe Tree) → value_of_need v (reached_all graph v) (mentioned types.objects t) (need_of t (is_empty t d)) ≤ k → with_default y types t d ≡ with_default z types t d
    default_stable t None low = itself t low
    default_stable t (Some tree) low = tree_stable t (json_of tree) (is_empty_json t (json_of tree)) refl low

    initial_stable : (fs : Seq (Seq ℕ × Field)) → greatest (needed v (reached_all graph v)) (over (part_of types.objects) fs) ≤ k → initial y types fs ≡ initial z types fs
    unfolding part_of
    initial_stable [] low = refl
    initial_stable (f ∷ fs) low =
        let parts = first_greatest (needed v (reached_all graph v)) (part_of types.objects f) (over (part_of types.objects) fs) k low in
        ap₂ (λ w ws. (f.0, w) ∷ ws) (default_stable (shape_of f.1.field_type) f.1.default parts.0) (initial_stable fs parts.1)

  -- ---- all levels

  -- of a type that is no name itself
  simple_stable : (k l : ℕ) (t : Shape) → is_named t ≡ false → zero_within types k t ≡ zero_within types l t
  simple_stable k l shape.boolean h = refl
  simple_stable k l shape.int h = refl
  simple_stable k l shape.string h = refl
  simple_stable k l shape.text h = refl
  simple_stable k l shape.image h = refl
  simple_stable k l (shape.option t) h = refl
  simple_stable k l (shape.list t) h = refl
  simple_stable k l (shape.map key t) h = refl
  simple_stable k l (shape.named n) h = absurd cc

  stable : (k : ℕ) (t : Shape) → at (height_up_to graph (suc k)) (mentioned types.objects t) ≤ k → zero_within types k t ≡ zero_within types (suc k) t
  stable k shape.boolean low = refl
  stable k shape.int low = refl
  stable k shape.string low = refl
  stable k shape.text low = refl
  stable k shape.image low = refl
  stable k (shape.option t) low = refl
  stable k (shape.list t) low = refl
  stable k (shape.map key t) low = refl
  stable zero (shape.named n) low = ap (zero_named (found n types.enums)) (bottom (found n types.objects) refl)
    where
      bottom : (o : Maybe ObjectDefinition) → found n types.objects ≡ o → object_zero types zero n ≡ object_zero types (suc zero) n
      bottom None is = sym (ap (λ (d : Maybe ObjectDefinition). object (entries_of (initial (zero_within types zero) types (fields_of d)))) is)
      bottom (Some o) is = absurd (let high = low_parts types zero n o is (place n types.objects) refl low in omega (arith, high))
  stable (suc k) (shape.named n) low = ap (zero_named (found n types.enums)) (one (found n types.objects) refl (stable k))
    where
      one : (o : Maybe ObjectDefinition) → found n types.objects ≡ o → ((u : Shape) → at (height_up_to graph (suc k)) (mentioned types.objects u) ≤ k → zero_within types k u ≡ zero_within types (suc k) u)
          → object_zero types (suc k) n ≡ object_zero types (suc (suc k)) n
      one None is below =
          ap (λ (d : Maybe ObjectDefinition). object (entries_of (initial (zero_within types k) types (fields_of d)))) is
          ∙ sym (ap (λ (d : Maybe ObjectDefinition). object (entries_of (initial (zero_within types (suc k)) types (fields_of d)))) is)
      one (Some o) is below =
          let low_o = low_parts types (suc k) n o is (place n types.objects) refl low in
          ap (λ (d : Maybe ObjectDefinition). object (entries_of (initial (zero_within types k) types (fields_of d)))) is
          ∙ ap (λ es. object (entries_of es)) (initial_stable k (height_up_to graph (suc k)) (zero_within types k) (zero_within types (suc k)) (simple_stable k (suc k)) below o.fields (omega (arith, low_o)))
          ∙ sym (ap (λ (d : Maybe ObjectDefinition). object (entries_of (initial (zero_within types (suc k)) types (fields_of d)))) is)

  object_over : (k : ℕ) (n : Seq ℕ) (o : ObjectDefinition) → at (height_up_to graph (suc k)) (place n types.objects) ≤ k → found n types.enums ≡ None → found n types.objects ≡ Some o
      → zero_within types k (shape.named n) ≡ object (entries_of (initial (zero_within types k) types o.fields))
  object_over k n o low none there =
      stable k (shape.named n) low
      ∙ ap (λ (e : Maybe EnumDefinition). zero_named e (object_zero types (suc k) n)) none
      ∙ ap (λ (d : Maybe ObjectDefinition). object (entries_of (initial (zero_within types k) types (fields_of d)))) there

  -- the zero of an object that isn't too high
  pub zero_over : (n : Seq ℕ) (o : ObjectDefinition) → ((i : ℕ) → i < length types.objects → height_up_to graph 33 i ≤ 32) → found n types.enums ≡ None → found n types.objects ≡ Some o
      → zero_of types (shape.named n) ≡ object (entries_of (initial (zero_of types) types o.fields))
  zero_over n o low none there = object_over 32 n o (at_place types low n (place n types.objects) refl) none there
