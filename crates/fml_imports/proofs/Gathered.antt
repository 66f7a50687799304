-- Names that are added to one table are added to all tables.
use Rattle.std.proofs.Common.{◌≡◌, ℕ, Bool, true, false, List, [], ◌∷◌, Result, Ok, Err, refl, sym, ap, ◌∙◌, subst}
use Rattle.std.specs.Prelude.{◌||◌, if◌then◌else◌}
use Rattle.std.proofs.Math.Bool.{or_comm, or-false}
use Rattle.fml_types.specs.Named.{has_name, with_name}
use Rattle.fml_types.specs.declared.manifest.EnumDefinition.{EnumDefinition}
use Rattle.fml_types.specs.declared.manifest.FeatureDefinition.{FeatureDefinition}
use Rattle.fml_types.specs.declared.manifest.ObjectDefinition.{ObjectDefinition}
use Rattle.fml_imports.specs.Merging.{with_new}
use Rattle.fml_imports.specs.Outcome.{◌>>=◌, each, Leaves}
use Rattle.fml_imports.specs.Tables.{Tables, with_enum, with_object, with_feature}
use Rattle.fml_imports.specs.declared.fault.JoinFault.{JoinFault}
use Rattle.fml_imports.specs.declared.fault.JoinFault.TheVariants as faults
use Rattle.fml_imports.specs.declared.fault.JoinRefusal.{JoinRefusal}
use Rattle.fml_imports.specs.declared.fault.JoinRefusal.TheVariants.{DuplicateName}

-- one name, and then the others
module _ {T : Type 0} (tables : List (List ℕ × T) → Tables) (add : Tables → List ℕ × T → Result Tables JoinRefusal) (put : List (List ℕ × T) → List ℕ × T → Result (List (List ℕ × T)) JoinRefusal) where
  abbrev all : Result (List (List ℕ × T)) JoinRefusal → Result Tables JoinRefusal
  all r = r >>= λ l. Ok (tables l)

  one_added : (met : Bool) (d : JoinRefusal) (next : List (List ℕ × T)) (ps : List (List ℕ × T)) → each add (tables next) ps ≡ all (each put next ps)
      → ((if met then Err d else Ok (tables next)) >>= λ u. each add u ps) ≡ all ((if met then Err d else Ok next) >>= λ l. each put l ps)
  one_added true d next ps later = refl
  one_added false d next ps later = later

enums_added : (t : Tables) (es : List (List ℕ × EnumDefinition)) (there : List (List ℕ × EnumDefinition)) → each with_enum (record t { enums = there }) es ≡ (each (with_new t.objects) there es >>= λ l. Ok (record t { enums = l }))
enums_added t [] there = refl
enums_added t (e ∷ es) there =
    one_added (λ l. record t { enums = l }) with_enum (with_new t.objects) (has_name e.0 there || has_name e.0 t.objects) (DuplicateName e.0) (with_name e there) es (enums_added t es (with_name e there))

objects_added : (t : Tables) (os : List (List ℕ × ObjectDefinition)) (there : List (List ℕ × ObjectDefinition)) → each with_object (record t { objects = there }) os ≡ (each (with_new t.enums) there os >>= λ l. Ok (record t { objects = l }))
objects_added t [] there = refl
objects_added t (o ∷ os) there =
    ap (λ (b : Bool). (if b then Err (DuplicateName o.0) else Ok (record t { objects = with_name o there })) >>= λ u. each with_object u os) (or_comm (has_name o.0 t.enums) (has_name o.0 there))
    ∙ one_added (λ l. record t { objects = l }) with_object (with_new t.enums) (has_name o.0 there || has_name o.0 t.enums) (DuplicateName o.0) (with_name o there) os (objects_added t os (with_name o there))

features_added : (t : Tables) (fs : List (List ℕ × FeatureDefinition)) (there none : List (List ℕ × FeatureDefinition)) → none ≡ [] → each with_feature (record t { features = there }) fs ≡ (each (with_new none) there fs >>= λ l. Ok (record t { features = l }))
features_added t [] there none is = refl
features_added t (f ∷ fs) there none is =
    ap (λ (b : Bool). (if b then Err (DuplicateName f.0) else Ok (record t { features = with_name f there })) >>= λ u. each with_feature u fs) (sym (or-false (has_name f.0 there)) ∙ ap (λ l. has_name f.0 there || has_name f.0 l) (sym is))
    ∙ one_added (λ l. record t { features = l }) with_feature (with_new none) (has_name f.0 there || has_name f.0 none) (DuplicateName f.0) (with_name f there) fs (features_added t fs (with_name f there) none is)

-- ---- what is left in one table is left in all

in_tables : {T : Type 0} (tables : List (List ℕ × T) → Tables) (left : List (List ℕ × T)) (r : Result (Unit {0}) JoinFault) (added : Result (List (List ℕ × T)) JoinRefusal) → Leaves left r added → Leaves (tables left) r (added >>= λ l. Ok (tables l))
in_tables {T = T} tables left (Ok u) added h = ap (λ (a : Result (List (List ℕ × T)) JoinRefusal). a >>= λ l. Ok (tables l)) h
in_tables {T = T} tables left (Err (faults.Refused refusal)) added h = ap (λ (a : Result (List (List ℕ × T)) JoinRefusal). a >>= λ l. Ok (tables l)) h
in_tables tables left (Err faults.OutOfMemory) added h = tt

pub enums_left : (t : Tables) (es left : List (List ℕ × EnumDefinition)) (r : Result (Unit {0}) JoinFault) → Leaves left r (each (with_new t.objects) t.enums es) → Leaves (record t { enums = left }) r (each with_enum t es)
enums_left t es left r h = subst (Leaves (record t { enums = left }) r) (sym (enums_added t es t.enums)) (in_tables (λ l. record t { enums = l }) left r (each (with_new t.objects) t.enums es) h)

pub objects_left : (t : Tables) (os left : List (List ℕ × ObjectDefinition)) (r : Result (Unit {0}) JoinFault) → Leaves left r (each (with_new t.enums) t.objects os) → Leaves (record t { objects = left }) r (each with_object t os)
objects_left t os left r h = subst (Leaves (record t { objects = left }) r) (sym (objects_added t os t.objects)) (in_tables (λ l. record t { objects = l }) left r (each (with_new t.enums) t.objects os) h)

pub features_left : (t : Tables) (fs left none : List (List ℕ × FeatureDefinition)) (r : Result (Unit {0}) JoinFault) → none ≡ [] → Leaves left r (each (with_new none) t.features fs) → Leaves (record t { features = left }) r (each with_feature t fs)
features_left t fs left none r is h = subst (Leaves (record t { features = left }) r) (sym (features_added t fs t.features none is)) (in_tables (λ l. record t { features = l }) left r (each (with_new none) t.features fs) h)
