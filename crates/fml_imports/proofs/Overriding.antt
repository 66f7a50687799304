-- Overrides, as they are laid over features one after the other.
use Rattle.std.proofs.Common.{◌≡◌, ℕ, zero, suc, Bool, true, false, List, [], ◌∷◌, ◌++◌, ◌<◌, length, get_or, set, map, Option, Some, None, refl, sym, ap, ◌∙◌, subst, append_assoc, arith}
use Rattle.std.specs.Prelude.{bytes_eq, is_some, option_map, if◌then◌else◌}
use Rattle.std.specs.Cmp.Lexicographic.{bytes_decides}
use Rattle.std.proofs.lemmas.List.{append-nil}
use Rattle.std.proofs.lemmas.Bool.{or_parts}
use Rattle.fml_types.specs.Named.{IsBelow, AreRising, has_name, place}
use Rattle.fml_types.specs.declared.manifest.DefaultEntry.{DefaultEntry}
use Rattle.fml_types.specs.declared.manifest.FeatureDefinition.{FeatureDefinition}
use Rattle.fml_types.proofs.Places.{place_within}
use Rattle.fml_imports.specs.Overrides.{entries_over, overridden, laid_at}
use Rattle.fml_imports.specs.Tables.{feature_for}
use Rattle.fml_imports.proofs.Names.{turned, placed}
use Rattle.fml_imports.proofs.Rising.{absent_below, rising_same}

abbrev Overrides : Type 0
Overrides = List (List ℕ × List DefaultEntry)

abbrev Features : Type 0
Features = List (List ℕ × FeatureDefinition)

-- a feature of another name is as without the override
over_other : (rest : Overrides) (name : List ℕ) (es : List DefaultEntry) (f : List ℕ × FeatureDefinition) → bytes_eq name f.0 ≡ false → overridden ((name, es) ∷ rest) f ≡ overridden rest f
over_other rest name es f other = ap (λ b. (f.0, record f.1 { defaults = f.1.defaults ++ (if b then es ++ entries_over f.0 rest else entries_over f.0 rest) })) other

-- and so are all features where none has the name
none_over : (rest : Overrides) (name : List ℕ) (es : List DefaultEntry) (fs : Features) → has_name name fs ≡ false → map (overridden ((name, es) ∷ rest)) fs ≡ map (overridden rest) fs
none_over rest name es [] h = refl
none_over rest name es (f ∷ fs) h =
    let other : bytes_eq name f.0 ≡ false = turned name f.0 ∙ (or_parts (bytes_eq f.0 name) (has_name name fs) h).0 in
    ap (λ g. g ∷ map (overridden ((name, es) ∷ rest)) fs) (over_other rest name es f other) ∙ ap (λ gs. overridden rest f ∷ gs) (none_over rest name es fs (or_parts (bytes_eq f.0 name) (has_name name fs) h).1)

-- the entries are put after those of the feature of the name
over_this : (rest : Overrides) (name : List ℕ) (es : List DefaultEntry) (k : List ℕ) (f : FeatureDefinition) → bytes_eq name k ≡ true → overridden rest (k, record f { defaults = f.defaults ++ es }) ≡ overridden ((name, es) ∷ rest) (k, f)
over_this rest name es k f same =
    ap (λ (ds : List DefaultEntry). (k, record f { defaults = ds })) (append_assoc f.defaults es (entries_over k rest))
    ∙ ap (λ b. (k, record f { defaults = f.defaults ++ (if b then es ++ entries_over k rest else entries_over k rest) })) (sym same)

-- the name is that of the first feature, or stands among the others
at-first : (rest : Overrides) (name : List ℕ) (es : List DefaultEntry) (f : List ℕ × FeatureDefinition) (fs : Features) (b : Bool) (o : Option ℕ) (i : ℕ) → bytes_eq f.0 name ≡ b → IsBelow f.0 fs → (if b then Some 0 else option_map suc o) ≡ Some i
    → ((j : ℕ) → o ≡ Some j → map (overridden rest) (laid_at j es fs) ≡ map (overridden ((name, es) ∷ rest)) fs) → map (overridden rest) (laid_at i es (f ∷ fs)) ≡ map (overridden ((name, es) ∷ rest)) (f ∷ fs)
at-first rest name es f fs true o zero is below h later =
    let same : f.0 ≡ name = (bytes_decides f.0 name).0 is in
    let absent : has_name name fs ≡ false = subst (λ n. has_name n fs ≡ false) same (absent_below f.0 fs below) in
    ap (λ (g : List ℕ × FeatureDefinition). g ∷ map (overridden rest) fs) (over_this rest name es f.0 f.1 (turned name f.0 ∙ is)) ∙ ap (λ (gs : Features). overridden ((name, es) ∷ rest) f ∷ gs) (sym (none_over rest name es fs absent))
at-first rest name es f fs true o (suc i) is below h later = absurd cc
at-first rest name es f fs false None i is below h later = absurd cc
at-first rest name es f fs false (Some j) zero is below h later = absurd cc
at-first rest name es f fs false (Some j) (suc i) is below h later =
    let same : j ≡ i = cc in
    ap (λ (g : List ℕ × FeatureDefinition). g ∷ map (overridden rest) (laid_at i es fs)) (sym (over_other rest name es f (turned name f.0 ∙ is))) ∙ ap (λ (gs : Features). overridden ((name, es) ∷ rest) f ∷ gs) (later i (ap (λ n. Some n) same))

-- a feature that is there takes the entries
pub laid_over : (rest : Overrides) (name : List ℕ) (es : List DefaultEntry) (fs : Features) (i : ℕ) → AreRising fs → place name fs ≡ Some i → map (overridden rest) (laid_at i es fs) ≡ map (overridden ((name, es) ∷ rest)) fs
laid_over rest name es [] i rising h = absurd cc
laid_over rest name es (f ∷ fs) i rising h = at-first rest name es f fs (bytes_eq f.0 name) (place name fs) i refl rising.0 h (λ j at_j. laid_over rest name es fs j rising.1 at_j)

-- where it isn't there nothing changes
pub laid_none : (rest : Overrides) (name : List ℕ) (es : List DefaultEntry) (fs : Features) → place name fs ≡ None → map (overridden rest) fs ≡ map (overridden ((name, es) ∷ rest)) fs
laid_none rest name es fs h = sym (none_over rest name es fs (sym (placed name fs) ∙ ap is_some h))

-- the names stay
laid_below : (i : ℕ) (es : List DefaultEntry) (a : List ℕ) (fs : Features) → IsBelow a fs → IsBelow a (laid_at i es fs)
laid_below i es a [] below = tt
laid_below zero es a (f ∷ fs) below = below
laid_below (suc i) es a (f ∷ fs) below = (below.0, laid_below i es a fs below.1)

pub laid_rises : (i : ℕ) (es : List DefaultEntry) (fs : Features) → AreRising fs → AreRising (laid_at i es fs)
laid_rises i es [] rising = tt
laid_rises zero es (f ∷ fs) rising = rising
laid_rises (suc i) es (f ∷ fs) rising = (laid_below i es f.0 fs rising.0, laid_rises i es fs rising.1)

pub laid_set : (fs : Features) (i : ℕ) (es : List DefaultEntry) (f : List ℕ × FeatureDefinition) (ds : List DefaultEntry) → i < length fs → f ≡ get_or fs i f → ds ≡ f.1.defaults ++ es → set fs i (f.0, record f.1 { defaults = ds }) ≡ laid_at i es fs
laid_set [] i es f ds within is more = absurd (omega (arith, within))
laid_set (g ∷ gs) zero es f ds within is more =
    ap (λ (d : List DefaultEntry). (f.0, record f.1 { defaults = d }) ∷ gs) more ∙ ap (λ (h : List ℕ × FeatureDefinition). (h.0, record h.1 { defaults = h.1.defaults ++ es }) ∷ gs) is
laid_set (g ∷ gs) (suc i) es f ds within is more = ap (λ (hs : Features). g ∷ hs) (laid_set gs i es f ds (omega (arith, within)) is more)

pub place_there : {T : Type 0} (name : List ℕ) (ps qs : List (List ℕ × T)) (i : ℕ) → Some i ≡ place name ps → qs ≡ ps → i < length qs
place_there name ps qs i at_i same = subst (λ l. i < length l) (sym same) (place_within name ps i (sym at_i))

pub laid_all_rise : (fs laid : Features) (i : ℕ) (es : List DefaultEntry) → laid ≡ laid_at i es fs → AreRising fs → AreRising laid
laid_all_rise fs laid i es is rising = subst AreRising (sym is) (laid_rises i es fs rising)

pub laid_turn : (rest : Overrides) (name : List ℕ) (es : List DefaultEntry) (fs pairs laid new : Features) (i : ℕ) → Some i ≡ place name fs → pairs ≡ fs → AreRising pairs → laid ≡ laid_at i es pairs → new ≡ laid
    → map (overridden rest) new ≡ map (overridden ((name, es) ∷ rest)) fs
laid_turn rest name es fs pairs laid new i at_i same rising is put =
    ap (map (overridden rest)) (put ∙ is ∙ ap (laid_at i es) same) ∙ laid_over rest name es fs i (subst AreRising same rising) (sym at_i)

-- the features of a file, as they count for a channel, rise as they did
pub counted_rise : (asked channel : List ℕ) (fs all : Features) → all ≡ map (feature_for asked channel) fs → AreRising fs → AreRising all
counted_rise asked channel fs all is rising = subst AreRising (sym is) (rising_same (feature_for asked channel) (λ f. refl) fs rising)

-- without overrides features stay as they are
pub over_nothing : (fs : Features) → map (overridden []) fs ≡ fs
over_nothing [] = refl
over_nothing (f ∷ fs) = ap (λ (ds : List DefaultEntry). (f.0, record f.1 { defaults = ds }) ∷ map (overridden []) fs) (append-nil f.1.defaults) ∙ ap (λ (gs : Features). f ∷ gs) (over_nothing fs)
