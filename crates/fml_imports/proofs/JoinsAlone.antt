-- A file that says what a manifest has gives the manifest, where it stands alone.
use Rattle.std.proofs.Common.{Ordering, ◌≡◌, ℕ, get_or, Bool, true, false, List, [], ◌∷◌, ◌++◌, map, Option as Maybe, None, Result, Ok, Err, Less, refl, sym, ap, ◌∙◌, subst, append_assoc, append-nil}
use Rattle.std.specs.Prelude.{◌||◌, All, ⊤, bytes_eq, if◌then◌else◌}
use Rattle.std.specs.Option.{option_or}
use Rattle.std.specs.Cmp.Lexicographic.{slice_cmp}
use Rattle.std.specs.Ordering.{nat_cmp, is_eq, is_lt}
use Rattle.std.proofs.lemmas.Bool.{or_parts, or_from}
use Rattle.sequences.proofs.Texts.{is_eq-turned, bytes_same, turned_up}
use Rattle.fml_types.specs.Ground.{grounding}
use Rattle.fml_types.specs.Named.{IsAbove, IsBelow, AreRising, has_name, with_name}
use Rattle.fml_types.specs.Shapes.{shape_of}
use Rattle.fml_types.specs.Sound.{unknown_name, AreSoundFields, IsSoundManifest}
use Rattle.fml_types.specs.declared.manifest.DefaultEntry.{DefaultEntry}
use Rattle.fml_types.specs.declared.manifest.EnumDefinition.{EnumDefinition}
use Rattle.fml_types.specs.declared.manifest.FeatureDefinition.{FeatureDefinition}
use Rattle.fml_types.specs.declared.manifest.Field.{Field}
use Rattle.fml_types.specs.declared.manifest.Manifest.{Manifest}
use Rattle.fml_types.specs.declared.manifest.ObjectDefinition.{ObjectDefinition}
use Rattle.fml_types.specs.declared.manifest.TypeTable.{TypeTable}
use Rattle.fml_imports.specs.Channels.{kept_entries}
use Rattle.fml_imports.specs.Imports.{first_found}
use Rattle.fml_imports.specs.Joining.{unknown_in, unknown_of, all_known, all_grounded, manifest_with, checked, made_of, joined}
use Rattle.fml_imports.specs.Outcome.{◌>>=◌, each}
use Rattle.fml_imports.specs.Overrides.{overridden}
use Rattle.fml_imports.specs.Tables.{Tables, no_tables, with_enum, with_object, with_feature, with_module, tables_of, feature_for, module_for}
use Rattle.fml_imports.specs.WellFormed.{IsWellFormed}
use Rattle.fml_imports.specs.declared.fault.JoinRefusal.{JoinRefusal}
use Rattle.fml_imports.specs.declared.fault.JoinRefusal.TheVariants.{DuplicateName}
use Rattle.fml_imports.specs.declared.joining.Linked.{Linked}
use Rattle.fml_imports.proofs.Alls.{all_nil, all_cons, all_head, all_tail, all_map}
use Rattle.fml_imports.proofs.Names.{turned}
use Rattle.fml_imports.proofs.ReadsAgain.{alone}

abbrev done : {A : Type 0} → A → Result A JoinRefusal
done x = Ok x

bind_known : {A B : Type 0} (r : Result A JoinRefusal) (a : A) (f : A → Result B JoinRefusal) → r ≡ done a → (r >>= f) ≡ f a
bind_known {A = A} r a f h = ap (λ (x : Result A JoinRefusal). x >>= f) h

-- ---- names that rise are added at the end

at_end : {T : Type 0} (p : List ℕ × T) (ps : List (List ℕ × T)) → IsAbove p.0 ps → with_name p ps ≡ ps ++ p ∷ []
at_end p [] above = refl
at_end p (q ∷ qs) above =
    ap (λ (o : Ordering). if is_lt o then p ∷ q ∷ qs else q ∷ with_name p qs) (turned_up q.0 p.0 above.0) ∙ ap (λ l. q ∷ l) (at_end p qs above.1)

is_new : {T : Type 0} (name : List ℕ) (ps : List (List ℕ × T)) → IsAbove name ps → has_name name ps ≡ false
is_new name [] above = refl
is_new name (q ∷ qs) above =
    let apart : bytes_eq q.0 name ≡ false = sym (is_eq-turned name q.0) ∙ ap is_eq (turned_up q.0 name above.0) in
    ap (λ b. b || has_name name qs) apart ∙ is_new name qs above.1

below_here : {T : Type 0} (name : List ℕ) (ps : List (List ℕ × T)) (p : List ℕ × T) (rest : List (List ℕ × T)) → IsBelow name (ps ++ p ∷ rest) → slice_cmp nat_cmp name p.0 ≡ Less
below_here name [] p rest below = below.0
below_here name (q ∷ qs) p rest below = below_here name qs p rest below.1

above_before : {T : Type 0} (ps : List (List ℕ × T)) (p : List ℕ × T) (rest : List (List ℕ × T)) → AreRising (ps ++ p ∷ rest) → IsAbove p.0 ps
above_before [] p rest rising = tt
above_before (q ∷ qs) p rest rising = (below_here q.0 qs p rest rising.0, above_before qs p rest rising.1)

-- names that rise are added to the tables, one after the other
each_added : {T : Type 0} (P : List ℕ × T → Type 0) (add : Tables → List ℕ × T → Result Tables JoinRefusal) (with : List (List ℕ × T) → Tables)
    → ((ps : List (List ℕ × T)) (p : List ℕ × T) → P p → has_name p.0 ps ≡ false → add (with ps) p ≡ done (with (with_name p ps)))
    → (ps rest : List (List ℕ × T)) → All P rest → AreRising (ps ++ rest) → each add (with ps) rest ≡ done (with (ps ++ rest))
each_added P add with step ps [] all rising = ap (λ l. done (with l)) (sym (append-nil ps))
each_added P add with step ps (p ∷ rest) all rising =
    let above = above_before ps p rest rising in
    let joins = append_assoc ps (p ∷ []) rest in
    bind_known (add (with ps) p) (with (ps ++ p ∷ [])) (λ u. each add u rest) (step ps p (all_head P p rest all) (is_new p.0 ps above) ∙ ap (λ l. done (with l)) (at_end p ps above))
    ∙ each_added P add with step (ps ++ p ∷ []) rest (all_tail P p rest all) (subst AreRising (sym joins) rising)
    ∙ ap (λ l. done (with l)) joins

not_taken : {A : Type 0} (b : Bool) (e : JoinRefusal) (t : A) → b ≡ false → (if b then Err e else done t) ≡ done t
not_taken b e t h = ap (λ (c : Bool). if c then Err e else done t) h

enum_added : (es : List (List ℕ × EnumDefinition)) (e : List ℕ × EnumDefinition) → has_name e.0 es ≡ false → with_enum (record { enums = es; objects = []; features = [] }) e ≡ done (record { enums = with_name e es; objects = []; features = [] })
enum_added es e new = not_taken (has_name e.0 es || false) (DuplicateName e.0) (record { enums = with_name e es; objects = []; features = [] }) (or_from (has_name e.0 es) false new refl)

object_added : (es : List (List ℕ × EnumDefinition)) (os : List (List ℕ × ObjectDefinition)) (o : List ℕ × ObjectDefinition) → has_name o.0 es ≡ false → has_name o.0 os ≡ false
    → with_object (record { enums = es; objects = os; features = [] }) o ≡ done (record { enums = es; objects = with_name o os; features = [] })
object_added es os o apart new = not_taken (has_name o.0 es || has_name o.0 os) (DuplicateName o.0) (record { enums = es; objects = with_name o os; features = [] }) (or_from (has_name o.0 es) (has_name o.0 os) apart new)

feature_added : (es : List (List ℕ × EnumDefinition)) (os : List (List ℕ × ObjectDefinition)) (fs : List (List ℕ × FeatureDefinition)) (f : List ℕ × FeatureDefinition) → has_name f.0 fs ≡ false
    → with_feature (record { enums = es; objects = os; features = fs }) f ≡ done (record { enums = es; objects = os; features = with_name f fs })
feature_added es os fs f new = not_taken (has_name f.0 fs) (DuplicateName f.0) (record { enums = es; objects = os; features = with_name f fs }) new

-- ---- no object has the name of an enum

apart_from : (o : List ℕ × ObjectDefinition) (os : List (List ℕ × ObjectDefinition)) (es : List (List ℕ × EnumDefinition)) → All (λ (e : List ℕ × EnumDefinition). has_name e.0 (o ∷ os) ≡ false) es → has_name o.0 es ≡ false
apart_from o os [] apart = refl
apart_from o os (e ∷ es) apart =
    let here = all_head (λ (x : List ℕ × EnumDefinition). has_name x.0 (o ∷ os) ≡ false) e es apart in
    or_from (bytes_eq e.0 o.0) (has_name o.0 es) (turned e.0 o.0 ∙ (or_parts (bytes_eq o.0 e.0) (has_name e.0 os) here).0)
    (apart_from o os es (all_tail (λ (x : List ℕ × EnumDefinition). has_name x.0 (o ∷ os) ≡ false) e es apart))

all_apart : (es : List (List ℕ × EnumDefinition)) (os : List (List ℕ × ObjectDefinition)) → All (λ (e : List ℕ × EnumDefinition). has_name e.0 os ≡ false) es → All (λ (o : List ℕ × ObjectDefinition). has_name o.0 es ≡ false) os
all_apart es [] apart = all_nil (λ (o : List ℕ × ObjectDefinition). has_name o.0 es ≡ false)
all_apart es (o ∷ os) apart =
    all_cons (λ (x : List ℕ × ObjectDefinition). has_name x.0 es ≡ false) o os (apart_from o os es apart)
    (all_apart es os (all_map (λ (e : List ℕ × EnumDefinition). has_name e.0 (o ∷ os) ≡ false) (λ (e : List ℕ × EnumDefinition). has_name e.0 os ≡ false) es (λ e h. (or_parts (bytes_eq o.0 e.0) (has_name e.0 os) h).1) apart))

-- ---- the tables

tables_alone : (m : Manifest) → IsWellFormed m → with_module no_tables (alone m) ≡ done (record { enums = m.types.enums; objects = m.types.objects; features = m.features })
unfolding with_module
tables_alone m formed =
    let es = m.types.enums in
    let os = m.types.objects in
    let all_enums : All (λ (e : List ℕ × EnumDefinition). ⊤) es = λ k d h. tt in
    let all_features : All (λ (f : List ℕ × FeatureDefinition). ⊤) m.features = λ k d h. tt in
    bind_known (each with_enum no_tables es) (record { enums = es; objects = []; features = [] }) (λ a. each with_object a os >>= λ c. each with_feature c m.features)
    (each_added (λ (e : List ℕ × EnumDefinition). ⊤) with_enum (λ (ps : List (List ℕ × EnumDefinition)). record { enums = ps; objects = []; features = [] }) (λ ps p u new. enum_added ps p new) [] es all_enums formed.enums_rise)
    ∙ bind_known (each with_object (record { enums = es; objects = []; features = [] }) os) (record { enums = es; objects = os; features = [] }) (λ c. each with_feature c m.features)
    (each_added (λ (o : List ℕ × ObjectDefinition). has_name o.0 es ≡ false) with_object (λ (ps : List (List ℕ × ObjectDefinition)). record { enums = es; objects = ps; features = [] }) (λ ps p apart new. object_added es ps p apart new) [] os (all_apart es os formed.sound.types.apart) formed.objects_rise)
    ∙ each_added (λ (f : List ℕ × FeatureDefinition). ⊤) with_feature (λ (ps : List (List ℕ × FeatureDefinition)). record { enums = es; objects = os; features = ps }) (λ ps p u new. feature_added es os ps p new) [] m.features all_features formed.features_rise

-- ---- what stays the same

map_same : {A : Type 0} (f : A → A) → ((x : A) → f x ≡ x) → (xs : List A) → map f xs ≡ xs
map_same f same [] = refl
map_same f same (x ∷ xs) = λ i. same x i ∷ map_same f same xs i

feature_stays : (channel : List ℕ) (f : List ℕ × FeatureDefinition) → feature_for channel channel f ≡ f
feature_stays channel f = ap (λ (c : Bool). (f.0, record f.1 { defaults = if c then f.1.defaults else kept_entries channel f.1.defaults })) (bytes_same channel)

nothing_over : (f : List ℕ × FeatureDefinition) → overridden [] f ≡ f
nothing_over f = ap (λ (es : List DefaultEntry). (f.0, record f.1 { defaults = es })) (append-nil f.1.defaults)

module_stays : (m : Manifest) (name : List ℕ) → module_for m.channel (record { name = name; channel = m.channel; «module» = alone m }) ≡ alone m
module_stays m name = ap (λ (fs : List (List ℕ × FeatureDefinition)). record (alone m) { features = fs }) (map_same (feature_for m.channel m.channel) (feature_stays m.channel) m.features)

-- ---- each name is known

abbrev FindsNone : {A : Type 0} → (A → Maybe (List ℕ)) → A → Type 0
FindsNone find x = find x ≡ None

none_found : {A : Type 0} (find : A → Maybe (List ℕ)) (xs : List A) → All (FindsNone find) xs → first_found find xs ≡ None
none_found find [] none = refl
none_found find (x ∷ xs) none = ap (λ o. option_or o (first_found find xs)) (all_head (FindsNone find) x xs none) ∙ none_found find xs (all_tail (FindsNone find) x xs none)

fields_known : (types : TypeTable) (fields : List (List ℕ × Field)) → AreSoundFields types fields → unknown_in types fields ≡ None
fields_known types fields sound = none_found (λ (f : List ℕ × Field). unknown_name types (shape_of f.1.field_type)) fields (λ k d h. (sound k d h).of_type.known)

manifest_known : (m : Manifest) → IsSoundManifest m → unknown_of m ≡ None
manifest_known m sound =
    ap (λ o. option_or o (first_found (λ (f : List ℕ × FeatureDefinition). unknown_in m.types f.1.variables) m.features))
    (none_found (λ (o : List ℕ × ObjectDefinition). unknown_in m.types o.1.fields) m.types.objects (λ k d h. fields_known m.types (get_or m.types.objects k d).1.fields (sound.types.fields k d h)))
    ∙ none_found (λ (f : List ℕ × FeatureDefinition). unknown_in m.types f.1.variables) m.features (λ k d h. fields_known m.types (get_or m.features k d).1.variables (sound.variables k d h))

sound_checked : (m : Manifest) → IsSoundManifest m → checked m true None None ≡ done m
unfolding checked
sound_checked m sound =
    bind_known (all_known (unknown_of m)) tt (λ k. all_grounded (grounding m.types) >>= λ g. done m) (ap all_known (manifest_known m sound))
    ∙ bind_known (all_grounded (grounding m.types)) tt (λ g. done m) (ap all_grounded sound.grounded)

-- ---- the file alone

same_manifest : (m : Manifest) → manifest_with (record { enums = m.types.enums; objects = m.types.objects; features = m.features }) [] m.channel ≡ m
same_manifest m = ap (λ (fs : List (List ℕ × FeatureDefinition)). record m { features = fs }) (map_same (overridden []) nothing_over m.features)

pub joined_alone : (m : Manifest) → IsWellFormed m → (name : List ℕ) → joined (record { name = name; channel = m.channel; «module» = alone m } ∷ []) m.channel ≡ done m
unfolding joined
joined_alone m formed name =
    let file : Linked = record { name = name; channel = m.channel; «module» = alone m } in
    let t : Tables = record { enums = m.types.enums; objects = m.types.objects; features = m.features } in
    bind_known (tables_of (module_for m.channel file ∷ [])) t (λ u. made_of u [] (file ∷ []) m.channel)
    (bind_known (with_module no_tables (module_for m.channel file)) t (λ u. done u) (ap (with_module no_tables) (module_stays m name) ∙ tables_alone m formed))
    ∙ ap (λ (b : Bool). checked (manifest_with t [] m.channel) (b || false) None None) (bytes_same m.channel)
    ∙ ap (λ (n : Manifest). checked n true None None) (same_manifest m)
    ∙ sound_checked m formed.sound
