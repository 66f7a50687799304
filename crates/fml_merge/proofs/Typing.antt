-- What is laid over a value of a type has the type.
use Rattle.std.proofs.Common.{◌≡◌, ℕ, Bool, true, false, List as Seq, [], ◌∷◌, Option as Maybe, Some, None, option_map, refl, sym, ap, ◌∙◌, subst}
use Rattle.std.specs.Prelude.{ℤ, not, IsTrue, IsUtf8, ◌&&◌, ◌||◌, bytes_eq, unwrap_or, if◌then◌else◌}
use Rattle.std.specs.Option.{option_or}
use Rattle.std.specs.Cmp.Lexicographic.{slice_cmp, bytes_decides}
use Rattle.std.specs.Ordering.{nat_cmp}
use Rattle.std.specs.declared.cmp.Ordering.TheVariants.{Less, Equal, Greater}
use Rattle.std.proofs.lemmas.Bool.{and_parts}
use Rattle.json_tree.specs.Json as json
use Rattle.json_tree.specs.Json.{Json, IsSound, AreSoundItems, AreSoundMembers}
use Rattle.fml_types.specs.Named.{found, has_name, IsBelow, AreRising}
use Rattle.fml_types.specs.Shape as shape
use Rattle.fml_types.specs.Shape.{Shape}
use Rattle.fml_types.specs.Shapes.{shape_of}
use Rattle.fml_types.specs.declared.manifest.EnumDefinition.{EnumDefinition}
use Rattle.fml_types.specs.declared.manifest.Field.{Field}
use Rattle.fml_types.specs.declared.manifest.ObjectDefinition.{ObjectDefinition}
use Rattle.fml_types.specs.declared.manifest.TypeTable.{TypeTable}
use Rattle.fml_value.specs.Entries.{beside, with_entry, replaced}
use Rattle.fml_value.specs.Fits.{is_option, type_of_entry, type_of_field}
use Rattle.fml_value.specs.HasType as having
use Rattle.fml_value.specs.HasType.{HasType, HaveType, AreKeys, AreEntries, AreFields, OfObject}
use Rattle.fml_value.specs.Kinds.{is_null, is_key, is_variant_of}
use Rattle.fml_value.specs.Takes.{takes, takes_named, all_items}
use Rattle.fml_value.specs.Typed.{TypedValue, truth, whole, absent, present, list, map, variant, object, TypedEntries, no_entries, entry, entries_of}
use Rattle.fml_types.specs.Sound.{IsSoundTable, IsSoundType, IsSoundField, AreSoundFields, unknown_key, unknown_name}
use Rattle.fml_value.proofs.OneValue.{all_found}
use Rattle.fml_value.proofs.Taken.{of-object}
use Rattle.fml_merge.specs.Overlay.{pairs_of, pairs_in, fields_of, held, inside, text_value, item_type, type_under, value_with, put, with_member, laid, items_laid, members_laid, overlay_with}
use Rattle.fml_merge.proofs.Merge.{put_rising}

-- ---- small facts

or_false : (b c : Bool) → b ≡ false → (b || c) ≡ true → c ≡ true
or_false true c e h = absurd cc
or_false false c e h = h

pub entries_kept : (es : TypedEntries) → entries_of (pairs_of es) ≡ es
entries_kept no_entries = refl
entries_kept (entry name v es) = ap (entry name v) (entries_kept es)

-- ---- entries that keep what each of them has

abbrev Each : (Seq ℕ → TypedValue → Type 0) → Seq (Seq ℕ × TypedValue) → Type 0
Each Q [] = Unit {0}
Each Q (e ∷ es) = Q e.0 e.1 × Each Q es

each_replaced : (Q : Seq ℕ → TypedValue → Type 0) (name : Seq ℕ) (v : TypedValue) (es : Seq (Seq ℕ × TypedValue)) → Q name v → Each Q es → Each Q (replaced name v es)
each_replaced Q name v [] q h = tt
each_replaced Q name v (e ∷ es) q h = elim (bytes_eq e.0 name) as (λ b. Each Q (if b then (name, v) ∷ es else e ∷ replaced name v es)) [ true ↦ (q, h.1) | false ↦ (h.0, each_replaced Q name v es q h.1) ]

each_with : (Q : Seq ℕ → TypedValue → Type 0) (name : Seq ℕ) (v : TypedValue) (es : Seq (Seq ℕ × TypedValue)) → Q name v → Each Q es → Each Q (with_entry name v es)
each_with Q name v [] q h = (q, tt)
each_with Q name v (e ∷ es) q h =
    elim (slice_cmp nat_cmp name e.0) as (λ o. Each Q (beside o (name, v) e es (with_entry name v es))) [ Less ↦ (q, h) | Equal ↦ (q, h.1) | Greater ↦ (h.0, each_with Q name v es q h.1) ]

each_put : (Q : Seq ℕ → TypedValue → Type 0) (name : Seq ℕ) (v : TypedValue) (es : Seq (Seq ℕ × TypedValue)) → Q name v → Each Q es → Each Q (put name v es)
each_put Q name v es q h = elim (has_name name es) as (λ b. Each Q (if b then replaced name v es else with_entry name v es)) [ true ↦ each_replaced Q name v es q h | false ↦ each_with Q name v es q h ]

each_found : (Q : Seq ℕ → TypedValue → Type 0) (R : TypedValue → Type 0) → ((n : Seq ℕ) (v : TypedValue) → Q n v → R v) → (name : Seq ℕ) (es : Seq (Seq ℕ × TypedValue)) (v : TypedValue) → Each Q es → found name es ≡ Some v → R v
each_found Q R gives name [] v h e = absurd cc
each_found Q R gives name (n ∷ es) v h e = one (bytes_eq n.0 name) e (each_found Q R gives name es v h.1)
  where
    one : (b : Bool) → (if b then Some n.1 else found name es) ≡ Some v → (found name es ≡ Some v → R v) → R v
    one true same rest = let here : n.1 ≡ v = cc in subst R here (gives n.0 n.1 h.0)
    one false same rest = rest same

-- ---- the entries of a map

abbrev Utf8 : Seq ℕ → TypedValue → Type 0
Utf8 n v = IsUtf8 n

below_keys : (k : Seq ℕ) (es : Seq (Seq ℕ × TypedValue)) → IsBelow k es → having.IsBelow k (entries_of es)
below_keys k [] h = tt
below_keys k (e ∷ es) h = (h.0, below_keys k es h.1)

keys_below : (k : Seq ℕ) (es : Seq (Seq ℕ × TypedValue)) → having.IsBelow k (entries_of es) → IsBelow k es
keys_below k [] h = tt
keys_below k (e ∷ es) h = (h.0, keys_below k es h.1)

keys_of : (es : Seq (Seq ℕ × TypedValue)) → Each Utf8 es → AreRising es → AreKeys (entries_of es)
keys_of [] u r = tt
keys_of (e ∷ es) u r = (u.0, below_keys e.0 es r.0, keys_of es u.1 r.1)

of_keys : (es : Seq (Seq ℕ × TypedValue)) → AreKeys (entries_of es) → Each Utf8 es × AreRising es
of_keys [] h = (tt, tt)
of_keys (e ∷ es) h = let rest = of_keys es h.2 in ((h.0, rest.0), (keys_below e.0 es h.1, rest.1))

keys_put : (name : Seq ℕ) (v : TypedValue) (es : Seq (Seq ℕ × TypedValue)) → IsUtf8 name → AreKeys (entries_of es) → AreKeys (entries_of (put name v es))
keys_put name v es u h = let parts = of_keys es h in keys_of (put name v es) (each_put Utf8 name v es u parts.0) (put_rising name v es parts.1)

-- what the names of a value are
pub data Kind : Type 0 where
  of_map : Maybe (Seq ℕ) → Shape → Kind
  of_fields : Seq (Seq ℕ × Field) → Kind

module _ (types : TypeTable) where
  abbrev EntryOf : Maybe (Seq ℕ) → Shape → Seq ℕ → TypedValue → Type 0
  EntryOf key t n v = IsTrue (is_key types key n) × HasType types t v

  entries_each : (key : Maybe (Seq ℕ)) (t : Shape) (es : Seq (Seq ℕ × TypedValue)) → AreEntries types key t (entries_of es) → Each (EntryOf key t) es
  entries_each key t [] h = tt
  entries_each key t (e ∷ es) h = ((h.0, h.1), entries_each key t es h.2)

  each_entries : (key : Maybe (Seq ℕ)) (t : Shape) (es : Seq (Seq ℕ × TypedValue)) → Each (EntryOf key t) es → AreEntries types key t (entries_of es)
  each_entries key t [] h = tt
  each_entries key t (e ∷ es) h = (h.0.0, h.0.1, each_entries key t es h.1)

  -- ---- the fields of an object

  fields_replaced : (name : Seq ℕ) (u : Shape) (v : TypedValue) (fs : Seq (Seq ℕ × Field)) (es : Seq (Seq ℕ × TypedValue)) → AreFields types fs (entries_of es) → type_of_field fs name ≡ Some u → HasType types u v
      → AreFields types fs (entries_of (replaced name v es)) × (has_name name es ≡ true)
  fields_replaced name u v [] es h e typed = absurd cc
  fields_replaced name u v (f ∷ fs) [] h e typed = absurd h
  fields_replaced name u v (f ∷ fs) (n ∷ es) h e typed =
      one (bytes_eq n.0 name) refl (ap (λ k. option_map (λ (g : Field). shape_of g.field_type) (if bytes_eq k name then Some f.1 else found name fs)) h.0 ∙ e) (fields_replaced name u v fs es h.2)
    where
      one : (b : Bool) → bytes_eq n.0 name ≡ b → option_map (λ (g : Field). shape_of g.field_type) (if bytes_eq n.0 name then Some f.1 else found name fs) ≡ Some u
          → (type_of_field fs name ≡ Some u → HasType types u v → AreFields types fs (entries_of (replaced name v es)) × (has_name name es ≡ true))
          → AreFields types (f ∷ fs) (entries_of (if b then (name, v) ∷ es else n ∷ replaced name v es)) × ((b || has_name name es) ≡ true)
      one true same typed_as rest =
          let here : shape_of f.1.field_type ≡ u = (let whole = ap (λ b. option_map (λ (g : Field). shape_of g.field_type) (if b then Some f.1 else found name fs)) (sym same) ∙ typed_as in cc) in
          ((sym ((bytes_decides n.0 name).0 same) ∙ h.0, subst (λ s. HasType types s v) (sym here) typed, h.2), refl)
      one false other typed_as rest =
          let later = rest (ap (λ b. option_map (λ (g : Field). shape_of g.field_type) (if b then Some f.1 else found name fs)) (sym other) ∙ typed_as) typed in
          ((h.0, h.1, later.0), later.1)

  fields_put : (name : Seq ℕ) (u : Shape) (v : TypedValue) (fs : Seq (Seq ℕ × Field)) (es : Seq (Seq ℕ × TypedValue)) → AreFields types fs (entries_of es) → type_of_field fs name ≡ Some u → HasType types u v → AreFields types fs (entries_of (put name v es))
  fields_put name u v fs es h e typed =
      let done = fields_replaced name u v fs es h e typed in
      subst (λ b. AreFields types fs (entries_of (if b then replaced name v es else with_entry name v es))) (sym done.1) done.0

  fields_at : (name : Seq ℕ) (u : Shape) (v : TypedValue) (fs : Seq (Seq ℕ × Field)) (es : Seq (Seq ℕ × TypedValue)) → AreFields types fs (entries_of es) → type_of_field fs name ≡ Some u → found name es ≡ Some v → HasType types u v
  fields_at name u v [] es h e is = absurd cc
  fields_at name u v (f ∷ fs) [] h e is = absurd h
  fields_at name u v (f ∷ fs) (n ∷ es) h e is =
      one (bytes_eq n.0 name) (ap (λ k. option_map (λ (g : Field). shape_of g.field_type) (if bytes_eq k name then Some f.1 else found name fs)) h.0 ∙ e) is (fields_at name u v fs es h.2)
    where
      one : (b : Bool) → option_map (λ (g : Field). shape_of g.field_type) (if b then Some f.1 else found name fs) ≡ Some u → (if b then Some n.1 else found name es) ≡ Some v
          → (type_of_field fs name ≡ Some u → found name es ≡ Some v → HasType types u v) → HasType types u v
      one true typed_as here rest =
          let s : shape_of f.1.field_type ≡ u = cc in
          let w : n.1 ≡ v = cc in
          subst (λ x. HasType types u x) w (subst (λ x. HasType types x n.1) s h.1)
      one false typed_as here rest = rest typed_as here

  -- ---- which types are in question

  -- the types that are in question, with those inside them
  pub record IsScope (P : Shape → Type 0) : Type 0 where
    pub inner : (t : Shape) → P (shape.option t) → P t
    pub items : (t : Shape) → P (shape.list t) → P t
    pub entries : (k : Maybe (Seq ℕ)) (t : Shape) → P (shape.map k t) → P t
    pub fields : (n : Seq ℕ) (o : ObjectDefinition) (name : Seq ℕ) (f : Field) → P (shape.named n) → found n types.objects ≡ Some o → found name o.fields ≡ Some f → P (shape_of f.field_type)

  none_boolean : (e : Maybe EnumDefinition) (o : Maybe ObjectDefinition) (b : Bool) → takes_named e o (json.truth b) ≡ true → ⊥
  none_boolean None None b h = cc
  none_boolean None (Some o) b h = cc
  none_boolean (Some e) o b h = cc

  none_list : (e : Maybe EnumDefinition) (o : Maybe ObjectDefinition) (xs : json.Items) → takes_named e o (json.list xs) ≡ true → ⊥
  none_list None None xs h = cc
  none_list None (Some o) xs h = cc
  none_list (Some e) o xs h = cc

  variant_typed : (e : Maybe EnumDefinition) (o : Maybe ObjectDefinition) (s : Seq ℕ) → takes_named e o (json.text s) ≡ true → is_variant_of e s ≡ true
  variant_typed None None s h = absurd cc
  variant_typed None (Some o) s h = absurd cc
  variant_typed (Some e) o s h = h

  no_enum : (e : Maybe EnumDefinition) (o : Maybe ObjectDefinition) (ms : json.Members) → takes_named e o (json.object ms) ≡ true → e ≡ None
  no_enum None o ms h = refl
  no_enum (Some e) o ms h = absurd cc

  pub to_object : (e : Maybe EnumDefinition) (o : Maybe ObjectDefinition) (Has : Seq (Seq ℕ × Field) → Type 0) (d : ObjectDefinition) → e ≡ None → o ≡ Some d → Has d.fields → OfObject e o Has
  to_object e o Has d none some h = subst (λ x. OfObject x o Has) (sym none) (subst (λ y. OfObject None y Has) (sym some) h)

  module _ (zeros : Shape → TypedValue) (P : Shape → Type 0) (scope : IsScope P) (zero_typed : (t : Shape) → P t → HasType types t (zeros t)) where
    held_typed : (t : Shape) (base : TypedValue) → P (shape.option t) → HasType types (shape.option t) base → HasType types t (held base (zeros t))
    held_typed t absent p h = zero_typed t (scope.inner t p)
    held_typed t (present v) p h = h
    held_typed t v p h = absurd h

    inside_typed : (x : Json) (lay : Shape → TypedValue → TypedValue) → is_null x ≡ false → ((u : Shape) (v : TypedValue) → P u → HasType types u v → takes types u x ≡ true → is_option u ≡ false → HasType types u (lay u v))
        → (t : Shape) (base : TypedValue) → P t → HasType types t base → takes types t x ≡ true → HasType types t (inside zeros lay t base)
    inside_typed x lay there k (shape.option t) base p h taken = inside_typed x lay there k t (held base (zeros t)) (scope.inner t p) (held_typed t base p h) (or_false (is_null x) (takes types t x) there taken)
    inside_typed x lay there k shape.boolean base p h taken = k shape.boolean base p h taken refl
    inside_typed x lay there k shape.int base p h taken = k shape.int base p h taken refl
    inside_typed x lay there k shape.string base p h taken = k shape.string base p h taken refl
    inside_typed x lay there k shape.text base p h taken = k shape.text base p h taken refl
    inside_typed x lay there k shape.image base p h taken = k shape.image base p h taken refl
    inside_typed x lay there k (shape.list t) base p h taken = k (shape.list t) base p h taken refl
    inside_typed x lay there k (shape.map key t) base p h taken = k (shape.map key t) base p h taken refl
    inside_typed x lay there k (shape.named n) base p h taken = k (shape.named n) base p h taken refl

    null_typed : (t : Shape) → takes types t json.null ≡ true → HasType types t absent
    null_typed (shape.option t) taken = tt
    null_typed shape.boolean taken = absurd cc
    null_typed shape.int taken = absurd cc
    null_typed shape.string taken = absurd cc
    null_typed shape.text taken = absurd cc
    null_typed shape.image taken = absurd cc
    null_typed (shape.list t) taken = absurd cc
    null_typed (shape.map key t) taken = absurd cc
    null_typed (shape.named n) taken = absurd (none (found n types.enums) (found n types.objects) taken)
      where
        none : (e : Maybe EnumDefinition) (o : Maybe ObjectDefinition) → takes_named e o json.null ≡ true → ⊥
        none None None h = cc
        none None (Some o) h = cc
        none (Some e) o h = cc

    odd_taken : (t : Shape) → takes types t json.odd ≡ true → ⊥
    odd_taken (shape.option t) taken = odd_taken t taken
    odd_taken shape.boolean taken = cc
    odd_taken shape.int taken = cc
    odd_taken shape.string taken = cc
    odd_taken shape.text taken = cc
    odd_taken shape.image taken = cc
    odd_taken (shape.list t) taken = cc
    odd_taken (shape.map key t) taken = cc
    odd_taken (shape.named n) taken = none (found n types.enums) (found n types.objects) taken
      where
        none : (e : Maybe EnumDefinition) (o : Maybe ObjectDefinition) → takes_named e o json.odd ≡ true → ⊥
        none None None h = cc
        none None (Some o) h = cc
        none (Some e) o h = cc

    truth_typed : (b : Bool) (u : Shape) → takes types u (json.truth b) ≡ true → is_option u ≡ false → HasType types u (truth b)
    truth_typed b shape.boolean taken other = tt
    truth_typed b shape.int taken other = absurd cc
    truth_typed b shape.string taken other = absurd cc
    truth_typed b shape.text taken other = absurd cc
    truth_typed b shape.image taken other = absurd cc
    truth_typed b (shape.option t) taken other = absurd cc
    truth_typed b (shape.list t) taken other = absurd cc
    truth_typed b (shape.map key t) taken other = absurd cc
    truth_typed b (shape.named n) taken other = absurd (none_boolean (found n types.enums) (found n types.objects) b taken)

    whole_typed : (m : ℤ) (u : Shape) → IsSound (json.whole m) → takes types u (json.whole m) ≡ true → is_option u ≡ false → HasType types u (whole m)
    whole_typed m shape.int sound taken other = sound
    whole_typed m shape.boolean sound taken other = absurd cc
    whole_typed m shape.string sound taken other = absurd cc
    whole_typed m shape.text sound taken other = absurd cc
    whole_typed m shape.image sound taken other = absurd cc
    whole_typed m (shape.option t) sound taken other = absurd cc
    whole_typed m (shape.list t) sound taken other = absurd cc
    whole_typed m (shape.map key t) sound taken other = absurd cc
    whole_typed m (shape.named n) sound taken other = absurd (none (found n types.enums) (found n types.objects) taken)
      where
        none : (e : Maybe EnumDefinition) (o : Maybe ObjectDefinition) → takes_named e o (json.whole m) ≡ true → ⊥
        none None None h = cc
        none None (Some o) h = cc
        none (Some e) o h = cc

    text_typed : (s : Seq ℕ) (u : Shape) → IsUtf8 s → takes types u (json.text s) ≡ true → is_option u ≡ false → HasType types u (text_value u s)
    text_typed s shape.string sound taken other = sound
    text_typed s shape.text sound taken other = sound
    text_typed s shape.image sound taken other = sound
    text_typed s (shape.named n) sound taken other = variant_typed (found n types.enums) (found n types.objects) s taken
    text_typed s shape.boolean sound taken other = absurd cc
    text_typed s shape.int sound taken other = absurd cc
    text_typed s (shape.option t) sound taken other = absurd cc
    text_typed s (shape.list t) sound taken other = absurd cc
    text_typed s (shape.map key t) sound taken other = absurd cc

    -- what stands in a map or an object, while members are laid over it
    record Keeps (type_of : Seq ℕ → Maybe Shape) (K : Seq (Seq ℕ × TypedValue) → Type 0) : Type 0 where
      scoped : (name : Seq ℕ) (u : Shape) → type_of name ≡ Some u → P u
      at : (name : Seq ℕ) (u : Shape) (v : TypedValue) (es : Seq (Seq ℕ × TypedValue)) → K es → type_of name ≡ Some u → found name es ≡ Some v → HasType types u v
      puts : (name : Seq ℕ) (u : Shape) (v : TypedValue) (es : Seq (Seq ℕ × TypedValue)) → K es → type_of name ≡ Some u → IsUtf8 name → HasType types u v → K (put name v es)

    key_kind : (t u : Shape) (b : Bool) → (if b then Some t else None) ≡ Some u → (b ≡ true) × (t ≡ u)
    key_kind t u true h = (refl, (let same : t ≡ u = cc in same))
    key_kind t u false h = absurd cc

    map_keeps : (key : Maybe (Seq ℕ)) (t : Shape) → P (shape.map key t) → Keeps (type_of_entry types key t) (λ es. AreKeys (entries_of es) × AreEntries types key t (entries_of es))
    map_keeps key t p = record {
      scoped = λ name u e. subst P (kind name u e).1 (scope.entries key t p);
      at = λ name u v es k e is. subst (λ s. HasType types s v) (kind name u e).1 (each_found (EntryOf key t) (HasType types t) (λ n w q. q.1) name es v (entries_each key t es k.1) is);
      puts = λ name u v es k e utf8 typed. (keys_put name v es utf8 k.0, each_entries key t (put name v es) (each_put (EntryOf key t) name v es ((kind name u e).0, subst (λ s. HasType types s v) (sym (kind name u e).1) typed) (entries_each key t es k.1)));
    }
      where
        kind : (name : Seq ℕ) (u : Shape) → type_of_entry types key t name ≡ Some u → (is_key types key name ≡ true) × (t ≡ u)
        kind name u e = key_kind t u (is_key types key name) e

    fields_keep : (fs : Seq (Seq ℕ × Field)) → ((name : Seq ℕ) (f : Field) → found name fs ≡ Some f → P (shape_of f.field_type)) → Keeps (type_of_field fs) (λ es. AreFields types fs (entries_of es))
    fields_keep fs in_scope = record {
      scoped = λ name u e. one name u (found name fs) refl e;
      at = λ name u v es k e is. fields_at name u v fs es k e is;
      puts = λ name u v es k e utf8 typed. fields_put name u v fs es k e typed;
    }
      where
        one : (name : Seq ℕ) (u : Shape) (o : Maybe Field) → found name fs ≡ o → option_map (λ (f : Field). shape_of f.field_type) o ≡ Some u → P u
        one name u None is e = absurd cc
        one name u (Some f) is e = (let same : shape_of f.field_type ≡ u = cc in subst P same (in_scope name f is))

    abbrev type_of_kind : Kind → Seq ℕ → Maybe Shape
    type_of_kind (of_map key t) = type_of_entry types key t
    type_of_kind (of_fields fs) = type_of_field fs

    abbrev Has : Kind → Seq (Seq ℕ × TypedValue) → Type 0
    Has (of_map key t) es = AreKeys (entries_of es) × AreEntries types key t (entries_of es)
    Has (of_fields fs) es = AreFields types fs (entries_of es)

    abbrev Scoped : Kind → Type 0
    Scoped (of_map key t) = P (shape.map key t)
    Scoped (of_fields fs) = (name : Seq ℕ) (f : Field) → found name fs ≡ Some f → P (shape_of f.field_type)

    keeps_of : (kind : Kind) → Scoped kind → Keeps (type_of_kind kind) (Has kind)
    keeps_of (of_map key t) p = map_keeps key t p
    keeps_of (of_fields fs) p = fields_keep fs p

    value_typed : (u : Shape) (v : TypedValue) (ms : json.Members) → P u → HasType types u v → takes types u (json.object ms) ≡ true → is_option u ≡ false
        → ((kind : Kind) → Scoped kind → (es : Seq (Seq ℕ × TypedValue)) → Has kind es → Has kind (members_laid zeros types (type_of_kind kind) es ms))
        → HasType types u (value_with u (members_laid zeros types (type_under types u) (pairs_in v) ms))
    value_typed (shape.map key t) (map es) ms p h taken other keep =
        keep (of_map key t) p (pairs_of es) (subst (λ fs. AreKeys fs × AreEntries types key t fs) (sym (entries_kept es)) h)
    value_typed (shape.named n) (object es) ms p h taken other keep =
        let none = no_enum (found n types.enums) (found n types.objects) ms taken in
        let o = of-object (found n types.enums) (found n types.objects) _ h in
        let fs = o.0.fields in
        let done = keep (of_fields fs) (λ name f is. scope.fields n o.0 name f p o.1 is) (pairs_of es) (subst (AreFields types fs) (sym (entries_kept es)) o.2) in
        to_object (found n types.enums) (found n types.objects) (λ gs. AreFields types gs (entries_of (members_laid zeros types (type_under types (shape.named n)) (pairs_of es) ms))) o.0 none o.1
        (subst (λ d. AreFields types fs (entries_of (members_laid zeros types (type_of_field (fields_of d)) (pairs_of es) ms))) (sym o.1) done)
    value_typed (shape.named n) (variant s) ms p h taken other keep =
        let none = no_enum (found n types.enums) (found n types.objects) ms taken in
        absurd (no_variant (found n types.enums) none h)
      where
        no_variant : (e : Maybe EnumDefinition) → e ≡ None → is_variant_of e s ≡ true → ⊥
        no_variant None none has = cc
        no_variant (Some e) none has = cc
    value_typed shape.boolean v ms p h taken other keep = absurd cc
    value_typed shape.int v ms p h taken other keep = absurd cc
    value_typed shape.string v ms p h taken other keep = absurd cc
    value_typed shape.text v ms p h taken other keep = absurd cc
    value_typed shape.image v ms p h taken other keep = absurd cc
    value_typed (shape.option t) v ms p h taken other keep = absurd cc
    value_typed (shape.list t) v ms p h taken other keep = absurd cc
    value_typed (shape.map key t) v ms p h taken other keep = absurd h
    value_typed (shape.named n) v ms p h taken other keep = absurd h

    list_typed : (u : Shape) (xs : json.Items) → P u → takes types u (json.list xs) ≡ true → is_option u ≡ false → ((s : Shape) → P s → all_items (takes types s) xs ≡ true → HaveType types s (items_laid zeros types s xs)) → HasType types u (list (items_laid zeros types (item_type u) xs))
    list_typed (shape.list t) xs p taken other each = each t (scope.items t p) taken
    list_typed shape.boolean xs p taken other each = absurd cc
    list_typed shape.int xs p taken other each = absurd cc
    list_typed shape.string xs p taken other each = absurd cc
    list_typed shape.text xs p taken other each = absurd cc
    list_typed shape.image xs p taken other each = absurd cc
    list_typed (shape.option t) xs p taken other each = absurd cc
    list_typed (shape.map key t) xs p taken other each = absurd cc
    list_typed (shape.named n) xs p taken other each = absurd (none_list (found n types.enums) (found n types.objects) xs taken)

    member_typed : (type_of : Seq ℕ → Maybe Shape) (K : Seq (Seq ℕ × TypedValue) → Type 0) → Keeps type_of K → (k : Seq ℕ) (x : Json) (es : Seq (Seq ℕ × TypedValue)) → K es → IsUtf8 k
        → ((u : Shape) (base : TypedValue) → P u → HasType types u base → takes types u x ≡ true → HasType types u (laid zeros types u base x))
        → (o : Maybe Shape) → type_of k ≡ o → K (with_member zeros (λ t. takes types t x) (λ t v. laid zeros types t v x) k o es)
    member_typed type_of K keeps k x es has utf8 lay None is = has
    member_typed type_of K keeps k x es has utf8 lay (Some u) is =
        elim (takes types u x) as (λ b. takes types u x ≡ b → K (if b then put k (laid zeros types u (unwrap_or (found k es) (zeros u)) x) es else es)) [
          | true ↦ λ taken. keeps.puts k u _ es has is utf8 (lay u _ (keeps.scoped k u is) (there (found k es) refl) taken)
          | false ↦ λ taken. has
        ] refl
      where
        there : (o : Maybe TypedValue) → found k es ≡ o → HasType types u (unwrap_or o (zeros u))
        there None e = zero_typed u (keeps.scoped k u is)
        there (Some v) e = keeps.at k u v es has is e

    mutual
      pub laid_typed : (x : Json) (t : Shape) (base : TypedValue) → P t → HasType types t base → IsSound x → takes types t x ≡ true → HasType types t (laid zeros types t base x)
      laid_typed json.null t base p h sound taken = null_typed t taken
      laid_typed (json.truth b) t base p h sound taken = inside_typed (json.truth b) (λ u v. truth b) refl (λ u v q k tk other. truth_typed b u tk other) t base p h taken
      laid_typed (json.whole m) t base p h sound taken = inside_typed (json.whole m) (λ u v. whole m) refl (λ u v q k tk other. whole_typed m u sound tk other) t base p h taken
      laid_typed json.odd t base p h sound taken = absurd (odd_taken t taken)
      laid_typed (json.text s) t base p h sound taken = inside_typed (json.text s) (λ u v. text_value u s) refl (λ u v q k tk other. text_typed s u sound tk other) t base p h taken
      laid_typed (json.list xs) t base p h sound taken =
          inside_typed (json.list xs) (λ u v. list (items_laid zeros types (item_type u) xs)) refl (λ u v q k tk other. list_typed u xs q tk other (λ s r all. items_typed xs s r sound all)) t base p h taken
      laid_typed (json.object ms) t base p h sound taken =
          inside_typed (json.object ms) (λ u v. value_with u (members_laid zeros types (type_under types u) (pairs_in v) ms)) refl (λ u v q k tk other. value_typed u v ms q k tk other (λ kind scoped es has. members_typed ms kind scoped es has sound)) t base p h taken

      items_typed : (xs : json.Items) (t : Shape) → P t → AreSoundItems xs → all_items (takes types t) xs ≡ true → HaveType types t (items_laid zeros types t xs)
      items_typed json.no_items t p sound taken = tt
      items_typed (json.item x xs) t p sound taken =
          let each = and_parts (takes types t x) (all_items (takes types t) xs) taken in
          (laid_typed x t (zeros t) p (zero_typed t p) sound.0 each.0, items_typed xs t p sound.1 each.1)

      pub members_typed : (ms : json.Members) (kind : Kind) → Scoped kind → (es : Seq (Seq ℕ × TypedValue)) → Has kind es → AreSoundMembers ms → Has kind (members_laid zeros types (type_of_kind kind) es ms)
      members_typed json.no_members kind scoped es has sound = has
      members_typed (json.member k x ms) kind scoped es has sound =
          members_typed ms kind scoped (with_member zeros (λ t. takes types t x) (λ t v. laid zeros types t v x) k (type_of_kind kind k) es)
          (member_typed (type_of_kind kind) (Has kind) (keeps_of kind scoped) k x es has sound.0 (λ u base p h taken. laid_typed x u base p h sound.2 taken) (type_of_kind kind k) refl) sound.3

    pub over_typed : (t : Shape) (base : TypedValue) (x : Json) → P t → HasType types t base → IsSound x → HasType types t (overlay_with zeros types t base x)
    over_typed t base x p h sound =
        elim (takes types t x) as (λ b. takes types t x ≡ b → HasType types t (if b then laid zeros types t base x else base)) [ true ↦ λ taken. laid_typed x t base p h sound taken | false ↦ λ taken. h ] refl

    pub fields_typed : (fs : Seq (Seq ℕ × Field)) (base : TypedEntries) (ms : json.Members) → ((name : Seq ℕ) (f : Field) → found name fs ≡ Some f → P (shape_of f.field_type)) → AreFields types fs base → AreSoundMembers ms
        → AreFields types fs (entries_of (members_laid zeros types (type_of_field fs) (pairs_of base) ms))
    fields_typed fs base ms scoped h sound = members_typed ms (of_fields fs) scoped (pairs_of base) (subst (AreFields types fs) (sym (entries_kept base)) h) sound

-- ---- the types of a sound table

unknown_first : (a b : Maybe (Seq ℕ)) → option_or a b ≡ None → b ≡ None
unknown_first None b h = h
unknown_first (Some a) b h = absurd cc

single : (b c : Bool) → (not b && c) ≡ true → c ≡ true
single true c h = absurd cc
single false c h = h

pub sound_fields : (types : TypeTable) → IsSoundTable types → (n : Seq ℕ) (o : ObjectDefinition) → found n types.objects ≡ Some o → AreSoundFields types o.fields
sound_fields types table n o is = all_found (λ (d : ObjectDefinition). AreSoundFields types d.fields) n types.objects o table.fields is

pub sound_field : (types : TypeTable) (fs : Seq (Seq ℕ × Field)) (name : Seq ℕ) (f : Field) → AreSoundFields types fs → found name fs ≡ Some f → IsSoundType types (shape_of f.field_type)
sound_field types fs name f sound is = let field = all_found (IsSoundField types) name fs f sound is in field.of_type

pub sound_scope : (types : TypeTable) → IsSoundTable types → IsScope types (IsSoundType types)
sound_scope types table = record {
  inner = λ t p. record { known = p.known; options = single _ _ p.options };
  items = λ t p. record { known = p.known; options = p.options };
  entries = λ k t p. record { known = unknown_first (unknown_key types k) (unknown_name types t) p.known; options = p.options };
  fields = λ n o name f p is there. sound_field types o.fields name f (sound_fields types table n o is) there;
}
