-- What is asked of one member of a map or an object.
use Rattle.std.proofs.Common.{◌≡◌, ℕ, Bool, true, false, List, Option, Some, None, option_map, Bor, refl, sym, ap, ◌∙◌}
use Rattle.std.specs.Prelude.{if◌then◌else◌}
use Rattle.json_tree.specs.Json.{Json}
use Rattle.fml_types.specs.Named.{found}
use Rattle.fml_types.specs.Shape.{Shape}
use Rattle.fml_types.specs.Shapes.{shape_of}
use Rattle.fml_types.specs.declared.manifest.Field.{Field}
use Rattle.fml_types.specs.declared.manifest.TypeTable.{TypeTable}
use Rattle.fml_value.specs.Kinds.{is_key}
use Rattle.fml_value.specs.Fits.{fits, of_member, type_of_entry, type_of_field}

none_there : {A : Type 0} (o : Option A) → ((a : A) → o ≡ Some a → ⊥) → o ≡ None
none_there None h = refl
none_there (Some a) h = absurd (h a refl)

-- an entry of a map
abbrev pub entry_fits : TypeTable → Option (List ℕ) → Shape → List ℕ → Json → Bool
entry_fits types k s name x = of_member (type_of_entry types k s name) (λ u. fits types u x)

pub no_key : (types : TypeTable) (k : Option (List ℕ)) (s : Shape) (name text : List ℕ) (x : Json) (b : Bool) → text ≡ name → b ≡ is_key types k text → b ≡ false → entry_fits types k s name x ≡ false
no_key types k s name text x b same e absent = ap (λ c. of_member (if c then Some s else None) (λ u. fits types u x)) (ap (is_key types k) (sym same) ∙ sym e ∙ absent)

pub key_there : (types : TypeTable) (k : Option (List ℕ)) (s t : Shape) (name text : List ℕ) (x : Json) (b d : Bool) → text ≡ name → b ≡ is_key types k text → b ≡ true → t ≡ s → d ≡ fits types t x → entry_fits types k s name x ≡ d
key_there types k s t name text x b d same e present shape fit =
    ap (λ c. of_member (if c then Some s else None) (λ u. fits types u x)) (ap (is_key types k) (sym same) ∙ sym e ∙ present) ∙ ap (λ u. fits types u x) (sym shape) ∙ sym fit

-- a field of an object
abbrev pub field_fits : TypeTable → List (List ℕ × Field) → List ℕ → Json → Bool
field_fits types fields name x = of_member (type_of_field fields name) (λ u. fits types u x)

pub no_field : (types : TypeTable) (fields : List (List ℕ × Field)) (name text : List ℕ) (x : Json) (got : Option (Bor Field)) → text ≡ name → option_map (λ (v : Bor Field). v.now) got ≡ found text fields
    → ((v : Bor Field) → got ≡ Some v → ⊥) → field_fits types fields name x ≡ false
no_field types fields name text x got same e absent =
    ap (λ o. of_member (option_map (λ (f : Field). shape_of f.field_type) o) (λ u. fits types u x)) (ap (λ n. found n fields) (sym same) ∙ sym e ∙ ap (option_map (λ (v : Bor Field). v.now)) (none_there got absent))

pub field_there : (types : TypeTable) (fields : List (List ℕ × Field)) (name text : List ℕ) (x : Json) (got : Option (Bor Field)) (v : Bor Field) (d : Bool) → text ≡ name → option_map (λ (v : Bor Field). v.now) got ≡ found text fields
    → got ≡ Some v → d ≡ fits types (shape_of v.now.field_type) x → field_fits types fields name x ≡ d
field_there types fields name text x got v d same e is fit =
    ap (λ o. of_member (option_map (λ (f : Field). shape_of f.field_type) o) (λ u. fits types u x)) (ap (λ n. found n fields) (sym same) ∙ sym e ∙ ap (option_map (λ (v : Bor Field). v.now)) is) ∙ sym fit
