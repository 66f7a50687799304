-- The zeros of a grounded table have their types.
use Rattle.std.proofs.Common.{◌≡◌, ℕ, zero, suc, ◌+◌, ◌<◌, ◌≤◌, Bool, true, false, List as Seq, [], ◌∷◌, length, map as over, Option as Maybe, Some, None, Ok, is_some, FitsSigned, w64, pos, rules, refl, sym, ap, ◌∙◌, subst, arith}
use Rattle.std.proofs.lemmas.Str.{IsUtf8-nil}
use Rattle.std.specs.Cmp.Lexicographic.{bytes_decides}
use Rattle.std.specs.Prelude.{nat_lt, ◌&&◌, ◌||◌, bytes_eq, option_and_then, if◌then◌else◌}
use Rattle.std.proofs.lemmas.Bool.{ltb-false}
use Rattle.json_tree.specs.Json as json
use Rattle.json_tree.specs.Json.{Json, IsSound}
use Rattle.json_tree.specs.Tree.{json_of}
use Rattle.json_tree.specs.declared.tree.Tree.{Tree}
use Rattle.fml_types.specs.Graph.{mention, is_named, is_list, is_map, is_empty, is_empty_json, has_no_items, has_no_members, need_of, part_of, graph_of}
use Rattle.fml_types.specs.Ground.{greatest, at, reached_all, value_of_need, needed, height_up_to, first_above, endless, too_large, verdict, grounding}
use Rattle.fml_types.specs.Named.{found, has_name, place}
use Rattle.fml_types.specs.Shape as shape
use Rattle.fml_types.specs.Shape.{Shape}
use Rattle.fml_types.specs.Shapes.{shape_of}
use Rattle.fml_types.specs.Sound.{IsSoundTable, IsSoundType, IsSoundDefault, AreSoundFields, IsGrounded, where_unknown}
use Rattle.fml_types.specs.declared.graph.Need.TheVariants.{Nothing, Mentioned}
use Rattle.fml_types.specs.declared.graph.Part.{Part}
use Rattle.fml_types.specs.declared.manifest.EnumDefinition.{EnumDefinition}
use Rattle.fml_types.specs.declared.manifest.Field.{Field}
use Rattle.fml_types.specs.declared.manifest.ObjectDefinition.{ObjectDefinition}
use Rattle.fml_types.specs.declared.manifest.TypeTable.{TypeTable}
use Rattle.fml_types.proofs.Reaching.{base_le}
use Rattle.fml_value.proofs.OneValue.{all_found}
use Rattle.fml_value.specs.HasType.{HasType, AreFields}
use Rattle.fml_value.specs.Kinds.{is_variant_of}
use Rattle.fml_value.specs.Takes.{takes_named}
use Rattle.fml_value.specs.Typed as typed
use Rattle.fml_value.specs.Typed.{TypedValue, entries_of}
use Rattle.fml_merge.specs.Overlay.{fields_of, pairs_in, overlay_with}
use Rattle.fml_merge.specs.Zero.{least, zero_named, zero_within, object_zero, with_default, initial, HasZeros}
use Rattle.fml_merge.proofs.Needs.{mentioned, field_within, low_parts, at_place, at_le, first_greatest}
use Rattle.fml_merge.proofs.Typing.{IsScope, over_typed, sound_fields, sound_field, sound_scope, to_object, entries_kept}

-- ---- small facts

zero_fits : FitsSigned w64 (pos 0)
zero_fits = search rules

least_there : {T : Type 0} (vs : Seq (Seq ℕ × T)) → 0 < length vs → is_some (found (least vs) vs) ≡ true
least_there [] h = absurd (omega arith)
least_there (p ∷ ps) h = ap (λ b. is_some (if b then Some p.1 else found p.0 ps)) ((bytes_decides p.0 p.0).1 refl)

not_named : {T : Type 0} (n : Seq ℕ) (ps : Seq (Seq ℕ × T)) → found n ps ≡ None → has_name n ps ≡ false
not_named n [] h = refl
not_named n (p ∷ ps) h = one (bytes_eq p.0 n) h (not_named n ps)
  where
    one : (b : Bool) → (if b then Some p.1 else found n ps) ≡ None → (found n ps ≡ None → has_name n ps ≡ false) → (b || has_name n ps) ≡ false
    one true e rest = absurd cc
    one false e rest = rest e

module _ (types : TypeTable) (table : IsSoundTable types) where
  abbrev graph : Seq (Seq Part)
  graph = graph_of types.objects

  -- sound types all whose objects have at most this value
  abbrev Within : (ℕ → ℕ) → ℕ → Shape → Type 0
  Within v k t = IsSoundType types t × (at (reached_all graph v) (mentioned types.objects t) ≤ k)

  within_scope : (v : ℕ → ℕ) (k : ℕ) → IsScope types (Within v k)
  within_scope v k = record {
    inner = λ t p. ((sound_scope types table).inner t p.0, p.1);
    items = λ t p. ((sound_scope types table).items t p.0, p.1);
    entries = λ key t p. ((sound_scope types table).entries key t p.0, p.1);
    fields = λ n o name f p is there. (sound_field types o.fields name f (sound_fields types table n o is) there, field_within types v k o n name f is there (place n types.objects) refl p.1);
  }

  -- ---- zeros that need no object

  variant_zero : (n : Seq ℕ) (e : EnumDefinition) (o : TypedValue) → found n types.enums ≡ Some e → HasType types (shape.named n) (zero_named (Some e) o)
  variant_zero n e o is =
      subst (λ x. is_variant_of x (least e.variants) ≡ true) (sym is) (least_there e.variants (all_found (λ (d : EnumDefinition). 0 < length d.variants) n types.enums e table.variants is))

  -- of a type that is no name itself
  simple_zero : (k : ℕ) (t : Shape) → is_named t ≡ false → HasType types t (zero_within types k t)
  simple_zero k shape.boolean h = tt
  simple_zero k shape.int h = zero_fits
  simple_zero k shape.string h = IsUtf8-nil
  simple_zero k shape.text h = IsUtf8-nil
  simple_zero k shape.image h = IsUtf8-nil
  simple_zero k (shape.option t) h = tt
  simple_zero k (shape.list t) h = tt
  simple_zero k (shape.map key t) h = (tt, tt)
  simple_zero k (shape.named n) h = absurd cc

  -- ---- one level

  module _ (k : ℕ) (v : ℕ → ℕ) (zero_typed : (t : Shape) → IsSoundType types t → at v (mentioned types.objects t) ≤ k → HasType types t (zero_within types k t)) where
    -- where an empty default stands
    needs_itself : (t : Shape) → IsSoundType types t → value_of_need v (reached_all graph v) (mentioned types.objects t) (if is_named t then Mentioned else Nothing) ≤ k → HasType types t (zero_within types k t)
    needs_itself (shape.named n) sound low = zero_typed (shape.named n) sound low
    needs_itself shape.boolean sound low = simple_zero k shape.boolean refl
    needs_itself shape.int sound low = simple_zero k shape.int refl
    needs_itself shape.string sound low = simple_zero k shape.string refl
    needs_itself shape.text sound low = simple_zero k shape.text refl
    needs_itself shape.image sound low = simple_zero k shape.image refl
    needs_itself (shape.option t) sound low = tt
    needs_itself (shape.list t) sound low = tt
    needs_itself (shape.map key t) sound low = (tt, tt)

    -- an empty default changes nothing but an option that is absent
    empty_null : (t : Shape) → HasType types t (zero_within types k t) → HasType types t (overlay_with (zero_within types k) types t (zero_within types k t) json.null)
    empty_null (shape.option t) h = tt
    empty_null (shape.list t) h = h
    empty_null (shape.map key t) h = h
    empty_null shape.boolean h = h
    empty_null shape.int h = h
    empty_null shape.string h = h
    empty_null shape.text h = h
    empty_null shape.image h = h
    empty_null (shape.named n) h = refused (found n types.enums) (found n types.objects) h
      where
        refused : (d : Maybe EnumDefinition) (o : Maybe ObjectDefinition) → HasType types (shape.named n) (zero_within types k (shape.named n)) → HasType types (shape.named n) (if takes_named d o json.null then typed.absent else zero_within types k (shape.named n))
        refused None None g = g
        refused None (Some o) g = g
        refused (Some d) o g = g

    empty_list : (t : Shape) (xs : json.Items) → (has_no_items xs && is_list t) ≡ true → HasType types t (overlay_with (zero_within types k) types t (zero_within types k t) (json.list xs))
    empty_list t (json.item x xs) e = absurd cc
    empty_list (shape.list t) json.no_items e = tt
    empty_list shape.boolean json.no_items e = absurd cc
    empty_list shape.int json.no_items e = absurd cc
    empty_list shape.string json.no_items e = absurd cc
    empty_list shape.text json.no_items e = absurd cc
    empty_list shape.image json.no_items e = absurd cc
    empty_list (shape.option t) json.no_items e = absurd cc
    empty_list (shape.map key t) json.no_items e = absurd cc
    empty_list (shape.named n) json.no_items e = absurd cc

    kept_object : (n : Seq ℕ) (w : TypedValue) → found n types.enums ≡ None → HasType types (shape.named n) w → HasType types (shape.named n) (typed.object (entries_of (pairs_in w)))
    kept_object n (typed.object es) none h = subst (λ fs. HasType types (shape.named n) (typed.object fs)) (sym (entries_kept es)) h
    kept_object n (typed.variant m) none h = absurd (let no : is_variant_of (found n types.enums) m ≡ false = ap (λ e. is_variant_of e m) none in cc)
    kept_object n w none h = absurd h

    empty_object : (t : Shape) (ms : json.Members) → (has_no_members ms && (is_map t || is_named t)) ≡ true → HasType types t (zero_within types k t) → HasType types t (overlay_with (zero_within types k) types t (zero_within types k t) (json.object ms))
    empty_object t (json.member name x ms) e h = absurd cc
    empty_object (shape.map key t) json.no_members e h = (tt, tt)
    empty_object (shape.named n) json.no_members e h = over_named (found n types.enums) refl (found n types.objects)
      where
        over_named : (d : Maybe EnumDefinition) → found n types.enums ≡ d → (o : Maybe ObjectDefinition) → HasType types (shape.named n) (if takes_named d o (json.object json.no_members) then typed.object (entries_of (pairs_in (zero_within types k (shape.named n)))) else zero_within types k (shape.named n))
        over_named None none None = h
        over_named None none (Some o) = kept_object n (zero_within types k (shape.named n)) none h
        over_named (Some d) none o = h
    empty_object shape.boolean json.no_members e h = absurd cc
    empty_object shape.int json.no_members e h = absurd cc
    empty_object shape.string json.no_members e h = absurd cc
    empty_object shape.text json.no_members e h = absurd cc
    empty_object shape.image json.no_members e h = absurd cc
    empty_object (shape.option t) json.no_members e h = absurd cc
    empty_object (shape.list t) json.no_members e h = absurd cc

    empty_over : (t : Shape) (x : Json) → is_empty_json t x ≡ true → HasType types t (zero_within types k t) → HasType types t (overlay_with (zero_within types k) types t (zero_within types k t) x)
    empty_over t json.null e h = empty_null t h
    empty_over t (json.list xs) e h = empty_list t xs e
    empty_over t (json.object ms) e h = empty_object t ms e h
    empty_over t (json.truth b) e h = absurd cc
    empty_over t (json.whole m) e h = absurd cc
    empty_over t json.odd e h = absurd cc
    empty_over t (json.text w) e h = absurd cc

    tree_typed : (t : Shape) (tree : Tree) → IsSoundType types t → IsSound (json_of tree) → (b : Bool) → is_empty_json t (json_of tree) ≡ b → value_of_need v (reached_all graph v) (mentioned types.objects t) (need_of t b) ≤ k
        → HasType types t (overlay_with (zero_within types k) types t (zero_within types k t) (json_of tree))
    tree_typed t tree sound tree_sound true e low = empty_over t (json_of tree) e (needs_itself t sound low)
    tree_typed t tree sound tree_sound false e low =
        let scoped : (u : Shape) → Within v k u → HasType types u (zero_within types k u) = λ u p. zero_typed u p.0 (let under = at_le v (reached_all graph v) (λ i. base_le graph v (length graph) i) (mentioned types.objects u) in omega (arith, under, p.1)) in
        over_typed types (zero_within types k) (Within v k) (within_scope v k) scoped t (zero_within types k t) (json_of tree) (sound, low) (scoped t (sound, low)) tree_sound

    default_typed : (f : Field) → IsSoundType types (shape_of f.field_type) → (d : Maybe Tree) → IsSoundDefault d → value_of_need v (reached_all graph v) (mentioned types.objects (shape_of f.field_type)) (need_of (shape_of f.field_type) (is_empty (shape_of f.field_type) d)) ≤ k
        → HasType types (shape_of f.field_type) (with_default (zero_within types k) types (shape_of f.field_type) d)
    default_typed f sound None d low = needs_itself (shape_of f.field_type) sound low
    default_typed f sound (Some tree) d low = tree_typed (shape_of f.field_type) tree sound d (is_empty_json (shape_of f.field_type) (json_of tree)) refl low

    initial_typed : (fs : Seq (Seq ℕ × Field)) → AreSoundFields types fs → greatest (needed v (reached_all graph v)) (over (part_of types.objects) fs) ≤ k → AreFields types fs (entries_of (initial (zero_within types k) types fs))
    unfolding part_of
    initial_typed [] sound low = tt
    initial_typed (f ∷ fs) sound low =
        let parts = first_greatest (needed v (reached_all graph v)) (part_of types.objects f) (over (part_of types.objects) fs) k low in
        let here = sound 0 f (omega arith) in
        (refl, default_typed f.1 here.of_type f.1.default here.default parts.0, initial_typed fs (λ j d less. sound (suc j) d (omega arith)) parts.1)

  -- ---- all levels

  known_object : (n : Seq ℕ) → IsSoundType types (shape.named n) → found n types.enums ≡ None → (o : Maybe ObjectDefinition) → found n types.objects ≡ o → (d : ObjectDefinition) × (found n types.objects ≡ Some d)
  known_object n sound none (Some o) is = (o, is)
  known_object n sound none None is =
      absurd (let absent : (has_name n types.enums || has_name n types.objects) ≡ false = ap (λ b. b || has_name n types.objects) (not_named n types.enums none) ∙ not_named n types.objects is in
      let unknown = ap (where_unknown n) (sym absent) ∙ sound.known in cc)

  pub zero_typed : (k : ℕ) (t : Shape) → IsSoundType types t → at (height_up_to graph (suc k)) (mentioned types.objects t) ≤ k → HasType types t (zero_within types k t)
  zero_typed k shape.boolean sound low = simple_zero k shape.boolean refl
  zero_typed k shape.int sound low = simple_zero k shape.int refl
  zero_typed k shape.string sound low = simple_zero k shape.string refl
  zero_typed k shape.text sound low = simple_zero k shape.text refl
  zero_typed k shape.image sound low = simple_zero k shape.image refl
  zero_typed k (shape.option t) sound low = tt
  zero_typed k (shape.list t) sound low = tt
  zero_typed k (shape.map key t) sound low = (tt, tt)
  zero_typed zero (shape.named n) sound low = bottom (found n types.enums) refl
    where
      bottom : (e : Maybe EnumDefinition) → found n types.enums ≡ e → HasType types (shape.named n) (zero_named e (object_zero types zero n))
      bottom (Some e) is = variant_zero n e (object_zero types zero n) is
      bottom None is = let o = known_object n sound is (found n types.objects) refl in absurd (let high = low_parts types zero n o.0 o.1 (place n types.objects) refl low in omega (arith, high))
  zero_typed (suc k) (shape.named n) sound low = one (found n types.enums) refl (zero_typed k)
    where
      one : (e : Maybe EnumDefinition) → found n types.enums ≡ e → ((u : Shape) → IsSoundType types u → at (height_up_to graph (suc k)) (mentioned types.objects u) ≤ k → HasType types u (zero_within types k u))
          → HasType types (shape.named n) (zero_named e (object_zero types (suc k) n))
      one (Some e) is below = variant_zero n e (object_zero types (suc k) n) is
      one None is below =
          let o = known_object n sound is (found n types.objects) refl in
          let low_o = low_parts types (suc k) n o.0 o.1 (place n types.objects) refl low in
          let fs = o.0.fields in
          let done = initial_typed k (height_up_to graph (suc k)) below fs (sound_fields types table n o.0 o.1) (omega (arith, low_o)) in
          to_object types (found n types.enums) (found n types.objects) (λ gs. AreFields types gs (entries_of (initial (zero_within types k) types (fields_of (found n types.objects))))) o.0 is o.1
          (subst (λ (d : Maybe ObjectDefinition). AreFields types fs (entries_of (initial (zero_within types k) types (fields_of d)))) (sym o.1) done)

  -- the zeros of a grounded table
  pub zeros_typed : ((i : ℕ) → i < length types.objects → height_up_to graph 33 i ≤ 32) → HasZeros types
  zeros_typed low t sound = zero_typed 32 t sound (all_low (mention t))
    where
      all_low : (m : Maybe (Seq ℕ)) → at (height_up_to graph 33) (option_and_then (λ n. place n types.objects) m) ≤ 32
      all_low None = omega arith
      all_low (Some n) = at_place types low n (place n types.objects) refl

-- ---- what grounded says

none_above : {T : Type 0} (limit : ℕ) (h : ℕ → ℕ) (i j : ℕ) (os : Seq (Seq ℕ × T)) → first_above limit h i os ≡ None → j < length os → h (i + j) ≤ limit
none_above limit h i j [] e less = absurd (omega arith)
none_above limit h i j (o ∷ os) e less = step (nat_lt limit (h i)) refl e j less (λ d m. none_above limit h (suc i) m os d)
  where
    step : (b : Bool) → nat_lt limit (h i) ≡ b → (if b then Some o.0 else first_above limit h (suc i) os) ≡ None → (j : ℕ) → j < suc (length os) → (first_above limit h (suc i) os ≡ None → (m : ℕ) → m < length os → h (suc i + m) ≤ limit) → h (i + j) ≤ limit
    step true high e j less rest = absurd cc
    step false high e zero less rest = let same : i + 0 ≡ i = omega arith in subst (λ m. h m ≤ limit) (sym same) (ltb-false limit (h i) high)
    step false high e (suc j) less rest = let same : suc i + j ≡ i + suc j = omega arith in subst (λ m. h m ≤ limit) same (rest e j (omega arith))

no_fault : (e l : Maybe (Seq ℕ)) → verdict e l ≡ Ok tt → e ≡ None
no_fault (Some name) l h = absurd cc
no_fault None l h = refl

pub low_objects : (types : TypeTable) → IsGrounded types → (i : ℕ) → i < length types.objects → height_up_to (graph_of types.objects) 33 i ≤ 32
unfolding grounding
low_objects types grounded i less =
    let same : 0 + i ≡ i = omega arith in
    subst (λ m. height_up_to (graph_of types.objects) 33 m ≤ 32) same (none_above 32 (height_up_to (graph_of types.objects) 33) 0 i types.objects (no_fault (endless types.objects) (too_large types.objects) grounded) less)
