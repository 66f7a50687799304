-- The names of the features that several experiments may have at once: names, and in order.
use Rattle.std.proofs.Common.{◌≡◌, ℕ, Bool, true, false, List, [], ◌∷◌, Less, Result, Ok, Err, IfOk, sym, subst}
use Rattle.std.specs.Prelude.{All, IsTrue, if◌then◌else◌}
use Rattle.std.specs.List.{AllByRecursion}
use Rattle.std.specs.List.Sorted.{IsStrictlySortedBy}
use Rattle.std.proofs.lemmas.List.Elements.{All-nil, All-cons, All-head, All-tail}
use Rattle.plain_text.specs.Names.{is_name}
use Rattle.recipe_reader.specs.Payloads.{slug_cmp}
use Rattle.enrol_states.specs.Order.{Rise}
use Rattle.fml_types.specs.Coenrolling.{coenrolling}
use Rattle.fml_types.specs.Named.{IsBelow, AreRising}
use Rattle.fml_types.specs.declared.manifest.FeatureDefinition.{FeatureDefinition}
use Rattle.fml_types.specs.declared.manifest.Manifest.{Manifest}
use Rattle.client_steps.specs.Manifests.{IsLinked}

abbrev IsName : List ℕ → Type 0
IsName name = IsTrue (is_name name)

names_at : (f : List ℕ × FeatureDefinition) (later : List (List ℕ)) (shared : Bool) → IsName f.0 → All IsName later → All IsName (if shared then f.0 ∷ later else later)
names_at f later true first rest = All-cons IsName f.0 later first rest
names_at f later false first rest = rest

pub coenrolling_names : (fs : List (List ℕ × FeatureDefinition)) → All (λ f. IsTrue (is_name f.0)) fs → All (λ name. IsTrue (is_name name)) (coenrolling fs)
coenrolling_names [] all = All-nil IsName
coenrolling_names (f ∷ fs) all =
    names_at f (coenrolling fs) f.1.allows_coenrollment (All-head (λ (g : List ℕ × FeatureDefinition). IsName g.0) f fs all) (coenrolling_names fs (All-tail (λ (g : List ℕ × FeatureDefinition). IsName g.0) f fs all))

abbrev AreBelow : List ℕ → List (List ℕ) → Type 0
AreBelow name names = AllByRecursion (λ other. slug_cmp name other ≡ Less) names

below_at : (name : List ℕ) (f : List ℕ × FeatureDefinition) (later : List (List ℕ)) (shared : Bool) → slug_cmp name f.0 ≡ Less → AreBelow name later → AreBelow name (if shared then f.0 ∷ later else later)
below_at name f later true first rest = (first, rest)
below_at name f later false first rest = rest

below : (name : List ℕ) (fs : List (List ℕ × FeatureDefinition)) → IsBelow name fs → AreBelow name (coenrolling fs)
below name [] all = tt
below name (f ∷ fs) all = below_at name f (coenrolling fs) f.1.allows_coenrollment all.0 (below name fs all.1)

rise_at : (f : List ℕ × FeatureDefinition) (later : List (List ℕ)) (shared : Bool) → AreBelow f.0 later → Rise later → Rise (if shared then f.0 ∷ later else later)
unfolding IsStrictlySortedBy
rise_at f later true first rest = (first, rest)
rise_at f later false first rest = rest

pub coenrolling_rise : (fs : List (List ℕ × FeatureDefinition)) → AreRising fs → Rise (coenrolling fs)
unfolding IsStrictlySortedBy
coenrolling_rise [] rising = tt
coenrolling_rise (f ∷ fs) rising = rise_at f (coenrolling fs) f.1.allows_coenrollment (below f.0 fs rising.0) (coenrolling_rise fs rising.1)

-- ---- where they are gathered

module _ {E : Type 0} (m : Manifest) (linked : IsLinked m) where
  pub gathered_names : (gathered : Result (List (List ℕ)) E) → IfOk gathered (λ names. names ≡ coenrolling m.features) → IfOk gathered (λ names. All (λ name. IsTrue (is_name name)) names)
  gathered_names (Ok names) is = subst (λ (ns : List (List ℕ)). All IsName ns) (sym is) (coenrolling_names m.features linked.sound.names)
  gathered_names (Err fault) is = tt

  pub gathered_rise : (gathered : Result (List (List ℕ)) E) → IfOk gathered (λ names. names ≡ coenrolling m.features) → IfOk gathered Rise
  gathered_rise (Ok names) is = subst Rise (sym is) (coenrolling_rise m.features linked.order)
  gathered_rise (Err fault) is = tt
