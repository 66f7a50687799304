-- What is served of a feature has its type.
use Rattle.std.proofs.Common.{◌≡◌, ℕ, Bool, true, false, List, [], ◌∷◌, Option, Some, None, refl, sym, ap, ◌∙◌, subst, IfSome}
use Rattle.std.specs.Prelude.{All, find, option_map, option_and_then, bytes_eq, if◌then◌else◌}
use Rattle.fml_types.specs.Named.{found}
use Rattle.fml_types.specs.Sound.{IsSoundManifest, HasSoundTypes, AreSoundEntries, AreSoundFields}
use Rattle.fml_types.proofs.SoundTypes.{sound_types}
use Rattle.fml_value.specs.Typed.{TypedValue}
use Rattle.fml_merge.specs.Features.{default_of, overlay_feature, IsOfFeature}
use Rattle.fml_merge.proofs.Variables.{default_typed, overlay_typed}
use Rattle.feature_serving.specs.Serving.{layers_laid, served_of, served, HasFeatureType}
use Rattle.feature_serving.proofs.Finding.{found_all}
use Rattle.std.specs.List.{AllByRecursion, filter_map, cons_option}
use Rattle.std.proofs.lemmas.List.Elements.{All-head, All-tail}
use Rattle.json_tree.specs.Json.{Json, IsSound}
use Rattle.json_tree.specs.Tree.{json_of}
use Rattle.json_tree.specs.declared.tree.Tree.{Tree}
use Rattle.recipe_reader.specs.Payloads.{recipe_with}
use Rattle.recipe_reader.specs.declared.recipe.Branch.{Branch}
use Rattle.recipe_reader.specs.declared.recipe.FeatureValue.{FeatureValue}
use Rattle.recipe_reader.specs.declared.recipe.Recipe.{Recipe}
use Rattle.enrol_states.specs.Statuses.{enrolled_branch}
use Rattle.enrol_states.specs.declared.state.Row.{Row}
use Rattle.enrol_states.specs.declared.state.State.{State}
use Rattle.fml_types.specs.declared.manifest.FeatureDefinition.{FeatureDefinition}
use Rattle.fml_types.specs.declared.manifest.Manifest.{Manifest}
use Rattle.feature_serving.specs.Laws.{HasSoundValues}
use Rattle.feature_serving.specs.Layers.{Layer, branch_with, set_by, layer_in, layer_of, laid_by_rows, layers}
use Rattle.feature_serving.proofs.Orders.{all_ordered}

-- ---- what holds of each item holds of the one that is found

module _ {X : Type 0} (P : X → Type 0) where
  one_at : (x y : X) (o : Option X) (b : Bool) → P x → (o ≡ Some y → P y) → (if b then Some x else o) ≡ Some y → P y
  one_at x y o true one rest e = let same : x ≡ y = cc in subst P same one
  one_at x y o false one rest e = rest e

  find_all : (test : X → Bool) (xs : List X) (y : X) → All P xs → find test xs ≡ Some y → P y
  find_all test [] y all e = absurd (cc)
  find_all test (x ∷ xs) y all e = one_at x y (find test xs) (test x) (All-head P x xs all) (find_all test xs y (All-tail P x xs all)) e

recipe_all : (P : Recipe → Type 0) (slug : List ℕ) (rs : List Recipe) (r : Recipe) → All P rs → recipe_with slug rs ≡ Some r → P r
recipe_all P slug [] r all e = absurd (cc)
recipe_all P slug (q ∷ qs) r all e = one_at P q r (recipe_with slug qs) (bytes_eq q.slug slug) (All-head P q qs all) (recipe_all P slug qs r (All-tail P q qs all)) e

-- ---- each layer's value is sound

some_then : {A B : Type 0} (f : A → Option B) (P : B → Type 0) (o : Option A) → ((a : A) → o ≡ Some a → IfSome (f a) P) → IfSome (option_and_then f o) P
some_then f P None all = tt
some_then f P (Some a) all = all a refl

some_mapped : {A B : Type 0} (f : A → B) (P : B → Type 0) (o : Option A) → ((a : A) → o ≡ Some a → P (f a)) → IfSome (option_map f o) P
some_mapped f P None all = tt
some_mapped f P (Some a) all = all a refl

abbrev IsSoundLayer : Layer → Type 0
IsSoundLayer l = IsSound l.value

sound_set : (feature : List ℕ) (vs : List FeatureValue) (o : Option FeatureValue) (tree : Tree) → All (λ (v : FeatureValue). IsSound (json_of v.value)) vs → find (λ (v : FeatureValue). bytes_eq v.feature feature) vs ≡ o → option_map (λ (v : FeatureValue). v.value) o ≡ Some tree → IsSound (json_of tree)
sound_set feature vs None tree all e h = absurd (cc)
sound_set feature vs (Some v) tree all e h = let same : v.value ≡ tree = cc in subst (λ t. IsSound (json_of t)) same (find_all (λ (v : FeatureValue). IsSound (json_of v.value)) (λ (v : FeatureValue). bytes_eq v.feature feature) vs v all e)

sound_value : (feature branch : List ℕ) (r : Recipe) → HasSoundValues r → (o : Option Branch) (tree : Tree) → branch_with branch r ≡ o → option_and_then (set_by feature) o ≡ Some tree → IsSound (json_of tree)
sound_value feature branch r all None tree e h = absurd (cc)
sound_value feature branch r all (Some b) tree e h =
    sound_set feature b.features (find (λ (v : FeatureValue). bytes_eq v.feature feature) b.features) tree (find_all (λ (b : Branch). All (λ (v : FeatureValue). IsSound (json_of v.value)) b.features) (λ (b : Branch). bytes_eq b.slug branch) r.branches b all e) refl h

sound_row : (live : List Recipe) (feature : List ℕ) (row : Row) → All HasSoundValues live → IfSome (layer_of live feature row) IsSoundLayer
sound_row live feature row all =
    some_then (λ branch. option_and_then (λ r. layer_in feature row.slug r branch) (recipe_with row.slug live)) IsSoundLayer (enrolled_branch row.status)
    (λ branch _. some_then (λ r. layer_in feature row.slug r branch) IsSoundLayer (recipe_with row.slug live)
    (λ r e. some_mapped _ IsSoundLayer (option_and_then (set_by feature) (branch_with branch r)) (λ tree h. sound_value feature branch r (recipe_all HasSoundValues row.slug live r all e) (branch_with branch r) tree refl h)))

sound_more : (o : Option Layer) (ls : List Layer) → IfSome o IsSoundLayer → AllByRecursion IsSoundLayer ls → AllByRecursion IsSoundLayer (cons_option o ls)
sound_more None ls one all = all
sound_more (Some l) ls one all = (one, all)

sound_laid : (live : List Recipe) (feature : List ℕ) (rows : List Row) → All HasSoundValues live → AllByRecursion IsSoundLayer (filter_map (layer_of live feature) rows)
sound_laid live feature [] all = tt
sound_laid live feature (q ∷ qs) all = sound_more (layer_of live feature q) (filter_map (layer_of live feature) qs) (sound_row live feature q all) (sound_laid live feature qs all)

sound_layers : (s : State) (feature : List ℕ) → All HasSoundValues s.live → AllByRecursion IsSoundLayer (layers s feature)
sound_layers s feature all = all_ordered IsSoundLayer (laid_by_rows s feature) (sound_laid s.live feature s.rows all)

-- ---- the value of a feature

module _ (m : Manifest) (f : FeatureDefinition) (keeps : (v : TypedValue) (x : Json) → IsOfFeature m f v → IsSound x → IsOfFeature m f (overlay_feature m f v x)) where
  typed_laid : (ls : List Layer) (v : TypedValue) → IsOfFeature m f v → AllByRecursion IsSoundLayer ls → IsOfFeature m f (layers_laid m f v ls)
  typed_laid [] v typed all = typed
  typed_laid (l ∷ ls) v typed all = typed_laid ls (overlay_feature m f v l.value) (keeps v l.value typed all.0) all.1

  -- under the manifest's name
  typed_served : (s : State) (name : List ℕ) (v : TypedValue) → IsOfFeature m f (default_of m f) → All HasSoundValues s.live → found name m.features ≡ Some f → served m s name ≡ Some v → IsOfFeature m f v
  unfolding served
  typed_served s name v typed all is e =
      let same : served_of m s name f ≡ v = (let h : Some (served_of m s name f) ≡ Some v = sym (ap (option_map (served_of m s name)) is) ∙ e in cc) in
      subst (λ w. IsOfFeature m f w) same (typed_laid (layers s name) (default_of m f) typed (sound_layers s name all))

-- ---- the served value

defined : (m : Manifest) (s : State) (name : List ℕ) (v : TypedValue) (o : Option FeatureDefinition) → found name m.features ≡ o → served m s name ≡ Some v → HasSoundTypes m → All (λ f. AreSoundEntries f.1.defaults) m.features → All HasSoundValues s.live → HasFeatureType m name v
unfolding served
defined m s name v None is e sound defaults all = absurd (let none : Some v ≡ None = sym e ∙ ap (option_map (served_of m s name)) is in cc)
defined m s name v (Some f) is e sound defaults all =
    let fields = found_all (λ (f : FeatureDefinition). AreSoundFields m.types f.variables) name m.features f sound.variables is in
    let entries = found_all (λ (f : FeatureDefinition). AreSoundEntries f.defaults) name m.features f defaults is in
    record {
      feature = f;
      defined = is;
      typed = typed_served m f (overlay_typed m f sound.types sound.grounded fields) s name v (default_typed m f sound.types sound.grounded fields entries) all is e;
    }

pub typed_by_types : (m : Manifest) (s : State) (name : List ℕ) (v : TypedValue) → HasSoundTypes m → All (λ f. AreSoundEntries f.1.defaults) m.features → All HasSoundValues s.live → served m s name ≡ Some v → HasFeatureType m name v
typed_by_types m s name v sound defaults all e = defined m s name v (found name m.features) refl e sound defaults all

-- in particular where the whole manifest is sound
pub served_typed : (m : Manifest) (s : State) (name : List ℕ) (v : TypedValue) → IsSoundManifest m → All HasSoundValues s.live → served m s name ≡ Some v → HasFeatureType m name v
served_typed m s name v sound all e = typed_by_types m s name v (sound_types m sound) sound.defaults all e
