-- Walks that look for the values whose trees these are.
use Rattle.std.proofs.Common.{◌≡◌, ◌≢◌, ℕ, zero, suc, ◌+◌, ◌<◌, ◌≤◌, Bool, true, false, List, [], ◌∷◌, ◌++◌, length, map as over, get_or, take, take_all, Option, Some, None, option_map, refl, sym, ap, ap₂, ◌∙◌, subst, arith, add-one}
use Rattle.std.specs.Prelude.{IsTrue}
use Rattle.json_tree.specs.Json as json
use Rattle.json_tree.specs.Json.{Json, AreSoundMembers}
use Rattle.json_tree.specs.Tree.{json_of, member_of}
use Rattle.json_tree.specs.declared.tree.Tree.{Tree}
use Rattle.json_tree.proofs.Growing.{map-push}
use Rattle.fml_types.specs.Named.{IsAbove}
use Rattle.fml_types.specs.Shape as shape
use Rattle.fml_types.specs.Shape.{Shape}
use Rattle.fml_types.specs.Shapes.{shape_of}
use Rattle.fml_types.specs.declared.manifest.Field.{Field}
use Rattle.fml_types.specs.declared.manifest.TypeTable.{TypeTable}
use Rattle.fml_value.specs.Checks.{Finds, AreItemsOf, AreEntriesOf, AreFieldsOf, wrapped}
use Rattle.fml_value.specs.Fits.{bare}
use Rattle.fml_value.specs.HasType.{HasType, HaveType, AreEntries, AreFields, AreKeys, IsBelow}
use Rattle.fml_value.specs.Kinds.{is_key, is_null}
use Rattle.fml_value.specs.Trees.{tree_of, trees_of, members_of, IsValueOf}
use Rattle.fml_value.specs.Typed.{TypedValue, absent, present, TypedItems, no_items, item, TypedEntries, no_entries, entry, items_of, entries_of}
use Rattle.fml_value.proofs.Trees.{typed_entry_tree, trees-map, members-map}

pub none_found : {V A : Type 0} (f : V → A) (P : A → Type 0) (o : Option V) → o ≡ None → Finds P (option_map f o) → (a : A) → P a → ⊥
none_found f P o is h = subst (λ p. Finds P (option_map f p)) is h

pub some_found : {V A : Type 0} (f : V → A) (P : A → Type 0) (o : Option V) (v : V) → o ≡ Some v → Finds P (option_map f o) → P (f v)
some_found f P o v is h = subst (λ p. Finds P (option_map f p)) is h

take_suc : {A : Type 0} (xs : List A) (i : ℕ) (d : A) → i < length xs → take (suc i) xs ≡ take i xs ++ get_or xs i d ∷ []
take_suc [] i d h = absurd (omega arith)
take_suc (x ∷ xs) zero d h = refl
take_suc (x ∷ xs) (suc i) d h = ap (λ l. x ∷ l) (take_suc xs i d (omega arith))

take_next : {A : Type 0} (xs : List A) (i : ℕ) (x : A) → i < length xs → x ≡ get_or xs i x → take (i + 1) xs ≡ take i xs ++ x ∷ []
take_next xs i x h is = ap (λ n. take n xs) (add-one i) ∙ take_suc xs i x h ∙ ap (λ y. take i xs ++ y ∷ []) (sym is)

grown_trees : {V T J : Type 0} (f : V → J) (g : T → J) (vs grown : List V) (v : V) (ts : List T) (i : ℕ) (t : T) → i < length ts → t ≡ get_or ts i t → grown ≡ vs ++ v ∷ [] → f v ≡ g t → over f vs ≡ over g (take i ts)
    → over f grown ≡ over g (take (i + 1) ts)
grown_trees f g vs grown v ts i t h is grows same before =
    map-push f vs grown v grows ∙ ap₂ (λ l x. l ++ x ∷ []) before same ∙ sym (map-push g (take i ts) (take (i + 1) ts) t (take_next ts i t h is))

-- ---- items

values_grow : (types : TypeTable) (t : Shape) (vs : List TypedValue) (v : TypedValue) → HaveType types t (items_of vs) → HasType types t v → HaveType types t (items_of (vs ++ v ∷ []))
values_grow types t [] v h k = (k, tt)
values_grow types t (w ∷ vs) v h k = (h.0, values_grow types t vs v h.1 k)

pub values_turn : (types : TypeTable) (t : Shape) (ts : List Tree) (i : ℕ) (x : Tree) (vs grown : List TypedValue) (v : TypedValue) → i < length ts → x ≡ get_or ts i x → grown ≡ vs ++ v ∷ []
    → HaveType types t (items_of vs) × (over tree_of vs ≡ over json_of (take i ts)) → IsValueOf types t (json_of x) v → HaveType types t (items_of grown) × (over tree_of grown ≡ over json_of (take (i + 1) ts))
values_turn types t ts i x vs grown v h is grows before found =
    (subst (λ l. HaveType types t (items_of l)) (sym grows) (values_grow types t vs v before.0 found.0), grown_trees tree_of json_of vs grown v ts i x h is grows found.1 before.1)

pub values_end : (types : TypeTable) (t : Shape) (ts : List Tree) (xs : List Json) (i : ℕ) (vs : List TypedValue) → over json_of ts ≡ xs → length ts ≤ i
    → HaveType types t (items_of vs) × (over tree_of vs ≡ over json_of (take i ts)) → AreItemsOf types t (json.items_of xs) (items_of vs)
values_end types t ts xs i vs same h before = (before.0, trees-map vs ∙ ap json.items_of (before.1 ∙ ap (over json_of) (take_all i ts h) ∙ same))

none_at : (types : TypeTable) (t : Shape) (ts : List Tree) (i : ℕ) (d : Tree) → i < length ts → ((v : TypedValue) → IsValueOf types t (json_of (get_or ts i d)) v → ⊥)
    → (vs : TypedItems) → HaveType types t vs → trees_of vs ≡ json.items_of (over json_of ts) → ⊥
none_at types t [] i d h none vs has same = absurd (omega arith)
none_at types t (x ∷ ts) i d h none no_items has same = cc
none_at types t (x ∷ ts) zero d h none (item v vs) has same = let here : tree_of v ≡ json_of x = cc in none v (has.0, here)
none_at types t (x ∷ ts) (suc i) d h none (item v vs) has same = let rest : trees_of vs ≡ json.items_of (over json_of ts) = cc in none_at types t ts i d (omega arith) none vs has.1 rest

pub values_none : (types : TypeTable) (t : Shape) (ts : List Tree) (xs : List Json) (i : ℕ) (x : Tree) → over json_of ts ≡ xs → i < length ts → x ≡ get_or ts i x → ((v : TypedValue) → IsValueOf types t (json_of x) v → ⊥)
    → (vs : TypedItems) → AreItemsOf types t (json.items_of xs) vs → ⊥
values_none types t ts xs i x same h is none vs are =
    none_at types t ts i x h (subst (λ y. (v : TypedValue) → IsValueOf types t (json_of y) v → ⊥) is none) vs are.0 (are.1 ∙ ap json.items_of (sym same))

-- ---- entries of a map

entries_grow : (types : TypeTable) (key : Option (List ℕ)) (t : Shape) (es : List (List ℕ × TypedValue)) (e : List ℕ × TypedValue) → AreEntries types key t (entries_of es) → IsTrue (is_key types key e.0) → HasType types t e.1
    → AreEntries types key t (entries_of (es ++ e ∷ []))
entries_grow types key t [] e h k v = (k, v, tt)
entries_grow types key t (n ∷ es) e h k v = (h.0, h.1, entries_grow types key t es e h.2 k v)

pub entries_turn : (types : TypeTable) (key : Option (List ℕ)) (t : Shape) (ms : List (List ℕ × Tree)) (i : ℕ) (m : List ℕ × Tree) (es grown : List (List ℕ × TypedValue)) (name : List ℕ) (v : TypedValue)
    → i < length ms → m ≡ get_or ms i m → grown ≡ es ++ (name, v) ∷ [] → name ≡ m.0 → IsTrue (is_key types key m.0)
    → AreEntries types key t (entries_of es) × (over typed_entry_tree es ≡ over member_of (take i ms)) → IsValueOf types t (json_of m.1) v
    → AreEntries types key t (entries_of grown) × (over typed_entry_tree grown ≡ over member_of (take (i + 1) ms))
entries_turn types key t ms i m es grown name v h is grows named keyed before found =
    let e : List ℕ × TypedValue = (name, v) in
    let same : typed_entry_tree e ≡ member_of m = ap₂ (λ n x. (n, x)) named found.1 in (
      subst (λ l. AreEntries types key t (entries_of l)) (sym grows) (entries_grow types key t es e before.0 (subst (λ n. IsTrue (is_key types key n)) (sym named) keyed) found.0),
      grown_trees typed_entry_tree member_of es grown e ms i m h is grows same before.1,
    )

pub entries_end : (types : TypeTable) (key : Option (List ℕ)) (t : Shape) (ms : List (List ℕ × Tree)) (ns : List (List ℕ × Json)) (i : ℕ) (es : List (List ℕ × TypedValue)) → over member_of ms ≡ ns → length ms ≤ i
    → AreEntries types key t (entries_of es) × (over typed_entry_tree es ≡ over member_of (take i ms)) → AreEntriesOf types key t (json.members_of ns) (entries_of es)
entries_end types key t ms ns i es same h before = (before.0, members-map es ∙ ap json.members_of (before.1 ∙ ap (over member_of) (take_all i ms h) ∙ same))

no_entry_at : (types : TypeTable) (key : Option (List ℕ)) (t : Shape) (ms : List (List ℕ × Tree)) (i : ℕ) (d : List ℕ × Tree) → i < length ms
    → ((v : TypedValue) → IsTrue (is_key types key (get_or ms i d).0) → IsValueOf types t (json_of (get_or ms i d).1) v → ⊥)
    → (es : TypedEntries) → AreEntries types key t es → members_of es ≡ json.members_of (over member_of ms) → ⊥
no_entry_at types key t [] i d h none es has same = absurd (omega arith)
no_entry_at types key t (m ∷ ms) i d h none no_entries has same = cc
no_entry_at types key t (m ∷ ms) zero d h none (entry name v es) has same =
    let named : name ≡ m.0 = cc in
    let here : tree_of v ≡ json_of m.1 = cc in
    none v (subst (λ n. IsTrue (is_key types key n)) named has.0) (has.1, here)
no_entry_at types key t (m ∷ ms) (suc i) d h none (entry name v es) has same =
    let rest : members_of es ≡ json.members_of (over member_of ms) = cc in
    no_entry_at types key t ms i d (omega arith) none es has.2 rest

pub entries_none : (types : TypeTable) (key : Option (List ℕ)) (t : Shape) (ms : List (List ℕ × Tree)) (ns : List (List ℕ × Json)) (i : ℕ) (m : List ℕ × Tree) → over member_of ms ≡ ns → i < length ms → m ≡ get_or ms i m
    → ((v : TypedValue) → IsTrue (is_key types key m.0) → IsValueOf types t (json_of m.1) v → ⊥) → (es : TypedEntries) → AreEntriesOf types key t (json.members_of ns) es → ⊥
entries_none types key t ms ns i m same h is none es are =
    no_entry_at types key t ms i m h (subst (λ (n : List ℕ × Tree). (v : TypedValue) → IsTrue (is_key types key n.0) → IsValueOf types t (json_of n.1) v → ⊥) is none) es are.0 (are.1 ∙ ap json.members_of (sym same))

pub no_key_there : (types : TypeTable) (key : Option (List ℕ)) (b : Bool) (name text : List ℕ) → text ≡ name → b ≡ is_key types key text → b ≡ false → IsTrue (is_key types key name) → ⊥
no_key_there types key b name text same is gone keyed = other (sym gone ∙ is ∙ ap (is_key types key) same ∙ keyed)
  where
    other : false ≡ true → ⊥
    other e = cc

-- ---- fields of an object

fields_grow : (types : TypeTable) (fs : List (List ℕ × Field)) (f : List ℕ × Field) (es : List (List ℕ × TypedValue)) (e : List ℕ × TypedValue) → AreFields types fs (entries_of es) → e.0 ≡ f.0 → HasType types (shape_of f.1.field_type) e.1
    → AreFields types (fs ++ f ∷ []) (entries_of (es ++ e ∷ []))
fields_grow types [] f [] e h named v = (named, v, tt)
fields_grow types [] f (n ∷ es) e h named v = absurd h
fields_grow types (g ∷ fs) f [] e h named v = absurd h
fields_grow types (g ∷ fs) f (n ∷ es) e h named v = (h.0, h.1, fields_grow types fs f es e h.2 named v)

pub fields_turn : (types : TypeTable) (fs : List (List ℕ × Field)) (f : List ℕ × Field) (ms : List (List ℕ × Tree)) (i : ℕ) (m : List ℕ × Tree) (es grown : List (List ℕ × TypedValue)) (name : List ℕ) (v : TypedValue)
    → i < length fs → i < length ms → f ≡ get_or fs i f → m ≡ get_or ms i m → grown ≡ es ++ (name, v) ∷ [] → name ≡ m.0 → m.0 ≡ f.0
    → AreFields types (take i fs) (entries_of es) × (over typed_entry_tree es ≡ over member_of (take i ms)) → IsValueOf types (shape_of f.1.field_type) (json_of m.1) v
    → AreFields types (take (i + 1) fs) (entries_of grown) × (over typed_entry_tree grown ≡ over member_of (take (i + 1) ms))
fields_turn types fs f ms i m es grown name v below h here is grows named fielded before found =
    let e : List ℕ × TypedValue = (name, v) in
    let same : typed_entry_tree e ≡ member_of m = ap₂ (λ n x. (n, x)) named found.1 in
    let more = fields_grow types (take i fs) f es e before.0 (named ∙ fielded) found.0 in (
      subst (λ l. AreFields types (take (i + 1) fs) (entries_of l)) (sym grows) (subst (λ l. AreFields types l (entries_of (es ++ e ∷ []))) (sym (take_next fs i f below here)) more),
      grown_trees typed_entry_tree member_of es grown e ms i m h is grows same before.1,
    )

pub fields_end : (types : TypeTable) (fs gs : List (List ℕ × Field)) (ms : List (List ℕ × Tree)) (ns : List (List ℕ × Json)) (i : ℕ) (es : List (List ℕ × TypedValue)) → fs ≡ gs → over member_of ms ≡ ns → length fs ≤ i → length ms ≤ i
    → AreFields types (take i fs) (entries_of es) × (over typed_entry_tree es ≡ over member_of (take i ms)) → AreFieldsOf types gs (json.members_of ns) (entries_of es)
fields_end types fs gs ms ns i es fielded same h k before =
    (subst (λ l. AreFields types l (entries_of es)) (take_all i fs h ∙ fielded) before.0, members-map es ∙ ap json.members_of (before.1 ∙ ap (over member_of) (take_all i ms k) ∙ same))

no_field_at : (types : TypeTable) (fs : List (List ℕ × Field)) (ms : List (List ℕ × Tree)) (i : ℕ) (f : List ℕ × Field) (d : List ℕ × Tree) → i < length fs → i < length ms
    → ((v : TypedValue) → (get_or ms i d).0 ≡ (get_or fs i f).0 → IsValueOf types (shape_of (get_or fs i f).1.field_type) (json_of (get_or ms i d).1) v → ⊥)
    → (es : TypedEntries) → AreFields types fs es → members_of es ≡ json.members_of (over member_of ms) → ⊥
no_field_at types [] ms i f d h k none es has same = absurd (omega arith)
no_field_at types (g ∷ fs) [] i f d h k none es has same = absurd (omega arith)
no_field_at types (g ∷ fs) (m ∷ ms) i f d h k none no_entries has same = has
no_field_at types (g ∷ fs) (m ∷ ms) zero f d h k none (entry name v es) has same =
    let named : name ≡ m.0 = cc in
    let here : tree_of v ≡ json_of m.1 = cc in
    none v (sym named ∙ has.0) (has.1, here)
no_field_at types (g ∷ fs) (m ∷ ms) (suc i) f d h k none (entry name v es) has same =
    let rest : members_of es ≡ json.members_of (over member_of ms) = cc in
    no_field_at types fs ms i f d (omega arith) (omega arith) none es has.2 rest

pub fields_none : (types : TypeTable) (fs gs : List (List ℕ × Field)) (ms : List (List ℕ × Tree)) (ns : List (List ℕ × Json)) (i : ℕ) (f : List ℕ × Field) (m : List ℕ × Tree) → fs ≡ gs → over member_of ms ≡ ns
    → i < length fs → i < length ms → f ≡ get_or fs i f → m ≡ get_or ms i m → ((v : TypedValue) → (m.0 ≡ f.0) × IsValueOf types (shape_of f.1.field_type) (json_of m.1) v → ⊥)
    → (es : TypedEntries) → AreFieldsOf types gs (json.members_of ns) es → ⊥
fields_none types fs gs ms ns i f m fielded same h k here is none es are =
    no_field_at types fs ms i f m h k
    (subst (λ (g : List ℕ × Field). (v : TypedValue) → (get_or ms i m).0 ≡ g.0 → IsValueOf types (shape_of g.1.field_type) (json_of (get_or ms i m).1) v → ⊥) here
    (subst (λ (n : List ℕ × Tree). (v : TypedValue) → n.0 ≡ f.0 → IsValueOf types (shape_of f.1.field_type) (json_of n.1) v → ⊥) is (λ v named found. none v (named, found))))
    es (subst (λ l. AreFields types l es) (sym fielded) are.0) (are.1 ∙ ap json.members_of (sym same))

as_many : (types : TypeTable) (fs : List (List ℕ × Field)) (ms : List (List ℕ × Tree)) (es : TypedEntries) → AreFields types fs es → members_of es ≡ json.members_of (over member_of ms) → length fs ≡ length ms
as_many types [] [] no_entries has same = refl
as_many types [] (m ∷ ms) no_entries has same = absurd cc
as_many types [] ms (entry name v es) has same = absurd has
as_many types (f ∷ fs) ms no_entries has same = absurd has
as_many types (f ∷ fs) [] (entry name v es) has same = absurd cc
as_many types (f ∷ fs) (m ∷ ms) (entry name v es) has same =
    let rest : members_of es ≡ json.members_of (over member_of ms) = cc in
    ap suc (as_many types fs ms es has.2 rest)

pub fields_apart : (types : TypeTable) (fs gs : List (List ℕ × Field)) (ms : List (List ℕ × Tree)) (ns : List (List ℕ × Json)) → fs ≡ gs → over member_of ms ≡ ns → (length fs ≢ length ms)
    → (es : TypedEntries) → AreFieldsOf types gs (json.members_of ns) es → ⊥
fields_apart types fs gs ms ns fielded same other es are =
    other (as_many types fs ms es (subst (λ l. AreFields types l es) (sym fielded) are.0) (are.1 ∙ ap json.members_of (sym same)))

-- ---- names that rise

pub above_typed : (k : List ℕ) (es : List (List ℕ × TypedValue)) → json.IsAbove k (over typed_entry_tree es) → IsAbove k es
above_typed k [] h = tt
above_typed k (e ∷ es) h = (h.0, above_typed k es h.1)

below_typed : (k : List ℕ) (es : TypedEntries) → json.IsBelow k (members_of es) → IsBelow k es
below_typed k no_entries h = tt
below_typed k (entry name v es) h = (h.0, below_typed k es h.1)

pub keys_sound : (es : TypedEntries) → AreSoundMembers (members_of es) → AreKeys es
keys_sound no_entries h = tt
keys_sound (entry name v es) h = (h.0, below_typed name es h.1, keys_sound es h.3)

-- ---- options

pub none_inside : (types : TypeTable) (t : Shape) (x : Json) → is_null x ≡ false → ((v : TypedValue) → IsValueOf types (bare t) x v → ⊥) → (v : TypedValue) → IsValueOf types t x v → ⊥
none_inside types (shape.option t) x there none absent h = null_there (ap is_null h.1 ∙ there)
  where
    null_there : true ≡ false → ⊥
    null_there e = cc
none_inside types (shape.option t) x there none (present v) h = none_inside types t x there none v h
none_inside types (shape.option t) x there none v h = h.0
none_inside types t x there none v h = none v h

pub inside_wrapped : (types : TypeTable) (t : Shape) (x : Json) (v : TypedValue) → IsValueOf types (bare t) x v → IsValueOf types t x (wrapped t v)
inside_wrapped types (shape.option t) x v h = inside_wrapped types t x v h
inside_wrapped types t x v h = h
