-- Members laid over fields, each of which gets what the members have under its name.
use Rattle.std.proofs.Common.{◌≡◌, ℕ, zero, suc, ◌+◌, ◌<◌, ◌≤◌, ◌-◌, Bool, true, false, List as Seq, [], ◌∷◌, ◌++◌, length, map as over, get_or, take, Option as Maybe, Some, None, option_map, is_some, refl, sym, ap, ap₂, ◌∙◌, subst, arith}
use Rattle.std.proofs.lemmas.List.{take_more}
use Rattle.std.specs.Prelude.{◌||◌, bytes_eq, unwrap_or, if◌then◌else◌}
use Rattle.std.specs.Cmp.Lexicographic.{texts_ties, bytes_decides}
use Rattle.std.specs.Ordering.{is_eq}
use Rattle.json_tree.specs.Json as json
use Rattle.json_tree.specs.Json.{Json, Members, no_members, member, members_depth, get_member, AreSoundMembers}
use Rattle.json_tree.specs.declared.tree.Tree.{Tree}
use Rattle.fml_types.specs.Named.{IsBelow, AreRising, found, has_name}
use Rattle.fml_types.specs.Shape as shape
use Rattle.fml_types.specs.Shape.{Shape}
use Rattle.fml_types.specs.Shapes.{shape_of}
use Rattle.fml_types.specs.declared.manifest.EnumDefinition.{EnumDefinition}
use Rattle.fml_types.specs.declared.manifest.Field.{Field}
use Rattle.fml_types.specs.declared.manifest.ObjectDefinition.{ObjectDefinition}
use Rattle.fml_types.specs.declared.manifest.TypeTable.{TypeTable}
use Rattle.fml_value.specs.Entries.{with_entry, replaced}
use Rattle.fml_value.specs.Fits.{type_of_field}
use Rattle.fml_value.specs.Kinds.{is_object}
use Rattle.fml_value.specs.Takes.{takes}
use Rattle.fml_value.specs.Typed.{TypedValue, truth, whole, list, present, object, no_entries, entries_of}
pub use Rattle.fml_merge.specs.Layers.{depth_of}
use Rattle.fml_merge.specs.Overlay.{fields_of, held, inside, laid, items_laid, item_type, members_laid, overlay_with, pairs_in, put, text_value, type_under, with_member}
use Rattle.fml_merge.specs.Zero.{initial, with_default, zero_named, zero_within}
use Rattle.fml_merge.specs.Merging.{field_laid, object_fields, zero_fields}
use Rattle.fml_merge.specs.Highest.{highest, highest_type}
use Rattle.fml_merge.proofs.Measures.{fields_weight, level, object_highest, object_level}
use Rattle.fml_merge.proofs.Merge.{put_at}
use Rattle.fml_merge.proofs.Pieces.{pairs_kept}

-- each field's name with a value
abbrev pub with_values : (Seq ℕ × Field → TypedValue) → Seq (Seq ℕ × Field) → Seq (Seq ℕ × TypedValue)
with_values v fs = over (λ f. (f.0, v f)) fs

over_join : {A B : Type 0} (g : A → B) (xs ys : Seq A) → over g (xs ++ ys) ≡ over g xs ++ over g ys
over_join g [] ys = refl
over_join g (x ∷ xs) ys = ap (λ l. g x ∷ l) (over_join g xs ys)

pub one_value_more : (v : Seq ℕ × Field → TypedValue) (fs : Seq (Seq ℕ × Field)) (i : ℕ) (f : Seq ℕ × Field) → i < length fs → f ≡ get_or fs i f → with_values v (take i fs) ++ (f.0, v f) ∷ [] ≡ with_values v (take (i + 1) fs)
one_value_more v fs i f h is =
    ap (λ (g : Seq ℕ × Field). with_values v (take i fs) ++ (g.0, v g) ∷ []) is ∙ sym (over_join (λ g. (g.0, v g)) (take i fs) (get_or fs i f ∷ [])) ∙ sym (ap (with_values v) (take_more fs i f h))

-- ---- what the members have under a name

other_way : (a b : Seq ℕ) → bytes_eq a b ≡ false → bytes_eq b a ≡ false
other_way a b other = elim (bytes_eq b a) as (λ c. bytes_eq b a ≡ c → c ≡ false) [
  | true ↦ λ same. (let back = (bytes_decides a b).1 (sym ((bytes_decides b a).0 same)) in absurd cc)
  | false ↦ λ h. refl
] refl

none_under : (k : Seq ℕ) (ms : Members) → json.IsBelow k ms → get_member k ms ≡ None
none_under k no_members below = refl
none_under k (member l x ms) below =
    let other : bytes_eq l k ≡ false = other_way k l (texts_ties k l ∙ ap is_eq below.0) in
    ap (λ b. if b then Some x else get_member k ms) other ∙ none_under k ms below.1

pub depth_under : (k : Seq ℕ) (ms : Members) → depth_of (get_member k ms) ≤ members_depth ms
depth_under k no_members = omega arith
depth_under k (member l x ms) =
    elim (bytes_eq l k) as (λ b. depth_of (if b then Some x else get_member k ms) ≤ members_depth (member l x ms)) [
      | true ↦ omega arith
      | false ↦ omega (arith, depth_under k ms)
    ]

-- ---- a member whose name is another's

has_past : (k : Seq ℕ) (e : Seq ℕ × TypedValue) (es : Seq (Seq ℕ × TypedValue)) (w : TypedValue) → bytes_eq e.0 k ≡ false → has_name k es ≡ true → put k w (e ∷ es) ≡ e ∷ put k w es
has_past k e es w other has =
    ap (λ b. if (b || has_name k es) then (if b then (k, w) ∷ es else e ∷ replaced k w es) else with_entry k w (e ∷ es)) other
    ∙ ap (λ c. if c then e ∷ replaced k w es else with_entry k w (e ∷ es)) has
    ∙ sym (ap (λ c. e ∷ (if c then replaced k w es else with_entry k w es)) has)

has_value : (v : Seq ℕ × Field → TypedValue) (k : Seq ℕ) (fs : Seq (Seq ℕ × Field)) (g : Field) → found k fs ≡ Some g → has_name k (with_values v fs) ≡ true
has_value v k [] g e = absurd cc
has_value v k (f ∷ fs) g e = one (bytes_eq f.0 k) e (has_value v k fs g)
  where
    one : (b : Bool) → (if b then Some f.1 else found k fs) ≡ Some g → (found k fs ≡ Some g → has_name k (over (λ h. (h.0, v h)) fs) ≡ true) → (b || has_name k (over (λ h. (h.0, v h)) fs)) ≡ true
    one true h rest = refl
    one false h rest = rest h

over_same : {A B : Type 0} (g h : A → B) → ((a : A) → g a ≡ h a) → (xs : Seq A) → over g xs ≡ over h xs
over_same g h same [] = refl
over_same g h same (x ∷ xs) = ap₂ (λ a l. a ∷ l) (same x) (over_same g h same xs)

module _ (zeros : Shape → TypedValue) (types : TypeTable) where
  abbrev type_in : Seq ℕ × Field → Shape
  type_in f = shape_of f.1.field_type

  -- ---- one member

  module _ (k : Seq ℕ) (x : Json) where
    -- the member over a field's value, where it has the field's name
    abbrev over_field : Seq ℕ × Field → TypedValue → TypedValue
    over_field f w = if bytes_eq f.0 k then overlay_with zeros types (type_in f) w x else w

    abbrev taken : Shape → Bool
    taken t = takes types t x

    abbrev lay : Shape → TypedValue → TypedValue
    lay t w = laid zeros types t w x

    over_others : (v : Seq ℕ × Field → TypedValue) (fs : Seq (Seq ℕ × Field)) → IsBelow k fs → with_values v fs ≡ with_values (λ f. over_field f (v f)) fs
    over_others v [] below = refl
    over_others v (f ∷ fs) below =
        let other : bytes_eq f.0 k ≡ false = other_way k f.0 (texts_ties k f.0 ∙ ap is_eq below.0) in
        ap₂ (λ (w : TypedValue) (l : Seq (Seq ℕ × TypedValue)). (f.0, w) ∷ l) (sym (ap (λ b. if b then overlay_with zeros types (type_in f) (v f) x else v f) other)) (over_others v fs below.1)

    past_other : (v : Seq ℕ × Field → TypedValue) (e : Seq ℕ × TypedValue) (fs : Seq (Seq ℕ × Field)) → bytes_eq e.0 k ≡ false → (q : Maybe Field) → found k fs ≡ q
        → with_member zeros taken lay k (option_map (λ (g : Field). shape_of g.field_type) q) (e ∷ with_values v fs) ≡ e ∷ with_member zeros taken lay k (option_map (λ (g : Field). shape_of g.field_type) q) (with_values v fs)
    past_other v e fs other None is = refl
    past_other v e fs other (Some g) is =
        let es = with_values v fs in
        let t = shape_of g.field_type in
        let later : found k (e ∷ es) ≡ found k es = ap (λ b. if b then Some e.1 else found k es) other in
        elim (taken t) as (λ b. (if b then put k (lay t (unwrap_or (found k (e ∷ es)) (zeros t))) (e ∷ es) else e ∷ es) ≡ e ∷ (if b then put k (lay t (unwrap_or (found k es) (zeros t))) es else es)) [
          | true ↦ ap (λ o. put k (lay t (unwrap_or o (zeros t))) (e ∷ es)) later ∙ has_past k e es (lay t (unwrap_or (found k es) (zeros t))) other (has_value v k fs g is)
          | false ↦ refl
        ]

    at_field : (v : Seq ℕ × Field → TypedValue) (f : Seq ℕ × Field) (es others : Seq (Seq ℕ × TypedValue)) → bytes_eq f.0 k ≡ true → es ≡ others → with_member zeros taken lay k (Some (type_in f)) ((f.0, v f) ∷ es) ≡ (f.0, overlay_with zeros types (type_in f) (v f) x) ∷ others
    at_field v f es others same rest =
        let t = type_in f in
        let e : Seq ℕ × TypedValue = (f.0, v f) in
        let here : found k (e ∷ es) ≡ Some (v f) = ap (λ b. if b then Some (v f) else found k es) same in
        let name : f.0 ≡ k = (bytes_decides f.0 k).0 same in
        elim (taken t) as (λ b. (if b then put k (lay t (unwrap_or (found k (e ∷ es)) (zeros t))) (e ∷ es) else e ∷ es) ≡ (f.0, if b then lay t (v f) else v f) ∷ others) [
          | true ↦ ap (λ o. put k (lay t (unwrap_or o (zeros t))) (e ∷ es)) here ∙ put_at k (lay t (v f)) e es same ∙ ap₂ (λ n l. (n, lay t (v f)) ∷ l) (sym name) rest
          | false ↦ ap (λ l. e ∷ l) rest
        ]

    one_over_fields : (v : Seq ℕ × Field → TypedValue) (fs : Seq (Seq ℕ × Field)) → AreRising fs → with_member zeros taken lay k (type_of_field fs k) (with_values v fs) ≡ with_values (λ f. over_field f (v f)) fs
    one_over_fields v [] rising = refl
    one_over_fields v (f ∷ fs) rising = one (bytes_eq f.0 k) refl (one_over_fields v fs rising.1)
      where
        one : (b : Bool) → bytes_eq f.0 k ≡ b → with_member zeros taken lay k (type_of_field fs k) (with_values v fs) ≡ with_values (λ g. over_field g (v g)) fs
            → with_member zeros taken lay k (option_map (λ (g : Field). shape_of g.field_type) (if b then Some f.1 else found k fs)) ((f.0, v f) ∷ with_values v fs)
            ≡ (f.0, if b then overlay_with zeros types (type_in f) (v f) x else v f) ∷ with_values (λ g. over_field g (v g)) fs
        one true same rest = at_field v f (with_values v fs) (with_values (λ g. over_field g (v g)) fs) same (over_others v fs (subst (λ n. IsBelow n fs) ((bytes_decides f.0 k).0 same) rising.0))
        one false other rest = past_other v (f.0, v f) fs other (found k fs) refl ∙ ap (λ l. (f.0, v f) ∷ l) rest

  -- ---- all members

  abbrev pub each_laid : (Seq ℕ × Field → TypedValue) → Members → Seq (Seq ℕ × Field) → Seq (Seq ℕ × TypedValue)
  each_laid v ms fs = with_values (λ f. field_laid zeros types (type_in f) (v f) (get_member f.0 ms)) fs

  first_then : (k : Seq ℕ) (x : Json) (ms : Members) → json.IsBelow k ms → (f : Seq ℕ × Field) (w : TypedValue) → field_laid zeros types (type_in f) (over_field k x f w) (get_member f.0 ms) ≡ field_laid zeros types (type_in f) w (get_member f.0 (member k x ms))
  first_then k x ms below f w = one (bytes_eq k f.0) refl
    where
      one : (b : Bool) → bytes_eq k f.0 ≡ b → field_laid zeros types (type_in f) (over_field k x f w) (get_member f.0 ms) ≡ field_laid zeros types (type_in f) w (if b then Some x else get_member f.0 ms)
      one true same =
          let name : k ≡ f.0 = (bytes_decides k f.0).0 same in
          let back : bytes_eq f.0 k ≡ true = (bytes_decides f.0 k).1 (sym name) in
          let none : get_member f.0 ms ≡ None = subst (λ n. get_member n ms ≡ None) name (none_under k ms below) in
          ap (field_laid zeros types (type_in f) (over_field k x f w)) none ∙ ap (λ b. if b then overlay_with zeros types (type_in f) w x else w) back
      one false other = ap (λ b. field_laid zeros types (type_in f) (if b then overlay_with zeros types (type_in f) w x else w) (get_member f.0 ms)) (other_way k f.0 other)

  pub fields_laid : (ms : Members) (v : Seq ℕ × Field → TypedValue) (fs : Seq (Seq ℕ × Field)) → AreRising fs → AreSoundMembers ms → members_laid zeros types (type_of_field fs) (with_values v fs) ms ≡ each_laid v ms fs
  fields_laid no_members v fs rising sound = refl
  fields_laid (member k x ms) v fs rising sound =
      ap (λ es. members_laid zeros types (type_of_field fs) es ms) (one_over_fields k x v fs rising)
      ∙ fields_laid ms (λ f. over_field k x f (v f)) fs rising sound.3
      ∙ over_same _ _ (λ f. ap (λ (w : TypedValue). (f.0, w)) (first_then k x ms sound.1 f (v f))) fs

  -- ---- what doesn't depend on what is under it

  inside_same : (c : Shape → TypedValue) (t : Shape) (a b : TypedValue) → inside zeros (λ u v. c u) t a ≡ inside zeros (λ u v. c u) t b
  inside_same c (shape.option t) a b = ap present (inside_same c t (held a (zeros t)) (held b (zeros t)))
  inside_same c shape.boolean a b = refl
  inside_same c shape.int a b = refl
  inside_same c shape.string a b = refl
  inside_same c shape.text a b = refl
  inside_same c shape.image a b = refl
  inside_same c (shape.list t) a b = refl
  inside_same c (shape.map k t) a b = refl
  inside_same c (shape.named n) a b = refl

  -- a tree that is no object leaves nothing of what it is laid over
  pub replaces : (t : Shape) (x : Json) (a b : TypedValue) → is_object x ≡ false → laid zeros types t a x ≡ laid zeros types t b x
  replaces t json.null a b h = refl
  replaces t (json.truth c) a b h = inside_same (λ u. truth c) t a b
  replaces t (json.whole n) a b h = inside_same (λ u. whole n) t a b
  replaces t json.odd a b h = refl
  replaces t (json.text s) a b h = inside_same (λ u. text_value u s) t a b
  replaces t (json.list xs) a b h = inside_same (λ u. list (items_laid zeros types (item_type u) xs)) t a b
  replaces t (json.object ms) a b h = absurd cc

pub no_default : (zeros : Shape → TypedValue) (types : TypeTable) (t : Shape) (d : Maybe Tree) → is_some d ≡ false → with_default zeros types t d ≡ zeros t
no_default zeros types t None h = refl
no_default zeros types t (Some tree) h = absurd cc

-- ---- the fields that a zero has

pub zero_has : (types : TypeTable) (t : Shape) (levels : ℕ) (fs : Seq (Seq ℕ × Field)) → zero_fields types t levels ≡ Some fs
    → (0 < levels) × (type_under types t ≡ type_of_field fs) × (pairs_in (zero_within types levels t) ≡ initial (zero_within types (levels - 1)) types fs)
zero_has types (shape.named n) zero fs e = absurd cc
zero_has types (shape.named n) (suc l) fs e = one (found n types.enums) refl (found n types.objects) refl e
  where
    one : (d : Maybe EnumDefinition) → found n types.enums ≡ d → (o : Maybe ObjectDefinition) → found n types.objects ≡ o → object_fields d o ≡ Some fs
        → (0 < suc l) × (type_of_field (fields_of o) ≡ type_of_field fs) × (pairs_in (zero_named d (object (entries_of (initial (zero_within types l) types (fields_of o))))) ≡ initial (zero_within types (suc l - 1)) types fs)
    one (Some d) de o oe h = absurd cc
    one None de None oe h = absurd cc
    one None de (Some o) oe h =
        let same : o.fields ≡ fs = cc in
        let less : suc l - 1 ≡ l = omega arith in
        (omega arith, ap type_of_field same, pairs_kept (initial (zero_within types l) types o.fields) ∙ ap₂ (λ m gs. initial (zero_within types m) types gs) (sym less) same)
zero_has types shape.boolean levels fs e = absurd cc
zero_has types shape.int levels fs e = absurd cc
zero_has types shape.string levels fs e = absurd cc
zero_has types shape.text levels fs e = absurd cc
zero_has types shape.image levels fs e = absurd cc
zero_has types (shape.option t) levels fs e = absurd cc
zero_has types (shape.list t) levels fs e = absurd cc
zero_has types (shape.map k t) levels fs e = absurd cc

pub zero_none : (types : TypeTable) (t : Shape) (levels : ℕ) → zero_fields types t levels ≡ None → pairs_in (zero_within types levels t) ≡ []
zero_none types (shape.named n) zero e = one (found n types.enums)
  where
    one : (d : Maybe EnumDefinition) → pairs_in (zero_named d (object no_entries)) ≡ []
    one None = refl
    one (Some d) = refl
zero_none types (shape.named n) (suc l) e = one (found n types.enums) (found n types.objects) e
  where
    one : (d : Maybe EnumDefinition) (o : Maybe ObjectDefinition) → object_fields d o ≡ None → pairs_in (zero_named d (object (entries_of (initial (zero_within types l) types (fields_of o))))) ≡ []
    one (Some d) o h = refl
    one None None h = refl
    one None (Some o) h = absurd cc
zero_none types shape.boolean levels e = refl
zero_none types shape.int levels e = refl
zero_none types shape.string levels e = refl
zero_none types shape.text levels e = refl
zero_none types shape.image levels e = refl
zero_none types (shape.option t) levels e = refl
zero_none types (shape.list t) levels e = refl
zero_none types (shape.map k t) levels e = refl

-- ---- bounds

-- the fields of a zero are an object's
pub zero_object : (types : TypeTable) (t : Shape) (levels : ℕ) (fs : Seq (Seq ℕ × Field)) → zero_fields types t levels ≡ Some fs → (highest_type fs ≤ highest types) × (fields_weight types fs + 4 ≤ level types)
zero_object types (shape.named n) zero fs e = absurd cc
zero_object types (shape.named n) (suc l) fs e = one (found n types.enums) (found n types.objects) refl e
  where
    one : (d : Maybe EnumDefinition) (o : Maybe ObjectDefinition) → found n types.objects ≡ o → object_fields d o ≡ Some fs → (highest_type fs ≤ highest types) × (fields_weight types fs + 4 ≤ level types)
    one (Some d) o is h = absurd cc
    one None None is h = absurd cc
    one None (Some o) is h =
        let same : o.fields ≡ fs = cc in
        subst (λ gs. (highest_type gs ≤ highest types) × (fields_weight types gs + 4 ≤ level types)) same (object_highest types n o is, object_level types n o is)
zero_object types shape.boolean levels fs e = absurd cc
zero_object types shape.int levels fs e = absurd cc
zero_object types shape.string levels fs e = absurd cc
zero_object types shape.text levels fs e = absurd cc
zero_object types shape.image levels fs e = absurd cc
zero_object types (shape.option t) levels fs e = absurd cc
zero_object types (shape.list t) levels fs e = absurd cc
zero_object types (shape.map k t) levels fs e = absurd cc
