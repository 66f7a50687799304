-- Patches laid over values of a feature, one after the other.
use Rattle.std.proofs.Common.{◌≡◌, ℕ, ◌+◌, ◌<◌, true, false, List as Seq, [], ◌∷◌, ◌++◌, length, map as over, get_or, take, fold, refl, sym, ap, ◌∙◌, subst, arith}
use Rattle.std.proofs.lemmas.List.{take_more, length-map}
use Rattle.std.specs.Prelude.{if◌then◌else◌}
use Rattle.json_tree.specs.Json as json
use Rattle.json_tree.specs.Json.{Json, IsSound}
use Rattle.json_tree.specs.Tree.{json_of}
use Rattle.json_tree.specs.declared.tree.Tree.{Tree}
use Rattle.json_tree.specs.declared.tree.Tree.TheVariants as trees
use Rattle.fml_types.specs.Sound.{IsSoundTable, IsGrounded, AreSoundFields}
use Rattle.fml_types.specs.declared.manifest.DefaultEntry.{DefaultEntry}
use Rattle.fml_types.specs.declared.manifest.FeatureDefinition.{FeatureDefinition}
use Rattle.fml_types.specs.declared.manifest.Manifest.{Manifest}
use Rattle.fml_value.specs.Fits.{type_of_field}
use Rattle.fml_value.specs.Typed.{TypedValue, object, entries_of}
use Rattle.fml_merge.specs.Features.{IsOfFeature, AreSound, overlay_feature, overlay_each, objects_among, patches_for, entries_laid, is_for}
use Rattle.fml_merge.specs.Layers.{layers_laid}
use Rattle.fml_merge.specs.Overlay.{pairs_in}
use Rattle.fml_merge.specs.Zero.{zero_of}
use Rattle.fml_merge.proofs.Layered.{each_over, over_more}
use Rattle.fml_merge.proofs.Pieces.{pairs_kept}
use Rattle.fml_merge.proofs.Variables.{overlay_typed}

module _ (m : Manifest) (f : FeatureDefinition) where
  -- only the objects among patches are laid
  objects_alone : (v : TypedValue) (xs : Seq Json) → overlay_each m f v xs ≡ fold (λ w ms. overlay_feature m f w (json.object ms)) v (objects_among xs)
  objects_alone v [] = refl
  objects_alone v (json.object ms ∷ xs) = objects_alone (overlay_feature m f v (json.object ms)) xs
  objects_alone v (json.null ∷ xs) = objects_alone v xs
  objects_alone v (json.truth b ∷ xs) = objects_alone v xs
  objects_alone v (json.whole n ∷ xs) = objects_alone v xs
  objects_alone v (json.odd ∷ xs) = objects_alone v xs
  objects_alone v (json.text s ∷ xs) = objects_alone v xs
  objects_alone v (json.list ys ∷ xs) = objects_alone v xs

  some_over : (v : TypedValue) (mss : Seq json.Members) → 0 < length mss
      → fold (λ w ms. overlay_feature m f w (json.object ms)) v mss ≡ object (entries_of (layers_laid (zero_of m.types) m.types (type_of_field f.variables) (pairs_in v) mss))
  some_over v [] some = absurd (omega (arith, some))
  some_over v (ms ∷ mss) some = each_over (zero_of m.types) m.types (type_of_field f.variables) (λ es. object (entries_of es)) pairs_kept (λ w ns. overlay_feature m f w (json.object ns)) (λ w ns. refl) v ms mss

  layers_over : (v : TypedValue) (xs : Seq Json) (mss : Seq json.Members) → mss ≡ objects_among xs → 0 < length mss
      → object (entries_of (layers_laid (zero_of m.types) m.types (type_of_field f.variables) (pairs_in v) mss)) ≡ overlay_each m f v xs
  layers_over v xs mss is some = sym (some_over v mss some) ∙ ap (fold (λ w ms. overlay_feature m f w (json.object ms)) v) is ∙ sym (objects_alone v xs)

  -- what the layers leave of the value's entries
  pub each_is : {T : Type 0} (v : TypedValue) (xs : Seq Json) (members : T → json.Members) (ls : Seq T) (base es : Seq (Seq ℕ × TypedValue)) → over members ls ≡ objects_among xs → 0 < length ls → base ≡ pairs_in v
      → es ≡ layers_laid (zero_of m.types) m.types (type_of_field f.variables) base (over members ls) → object (entries_of es) ≡ overlay_each m f v xs
  each_is v xs members ls base es is some from lays =
      ap (λ fs. object (entries_of fs)) (lays ∙ ap (λ fs. layers_laid (zero_of m.types) m.types (type_of_field f.variables) fs (over members ls)) from)
      ∙ layers_over v xs (over members ls) is (subst (λ n. 0 < n) (sym (length-map ls members)) some)

  pub none_over : (v : TypedValue) (xs : Seq Json) → objects_among xs ≡ [] → v ≡ overlay_each m f v xs
  none_over v xs none = sym (objects_alone v xs ∙ ap (fold (λ w ms. overlay_feature m f w (json.object ms)) v) none)

  pub patches_laid : (v : TypedValue) (es : Seq DefaultEntry) → overlay_each m f v (patches_for m.channel es) ≡ entries_laid m f v es
  patches_laid v [] = refl
  patches_laid v (e ∷ es) =
      elim (is_for m.channel e.channels) as (λ b. overlay_each m f v (if b then json_of e.value ∷ patches_for m.channel es else patches_for m.channel es) ≡ entries_laid m f (if b then overlay_feature m f v (json_of e.value) else v) es) [
        | true ↦ patches_laid (overlay_feature m f v (json_of e.value)) es
        | false ↦ patches_laid v es
      ]

  pub each_typed : IsSoundTable m.types → IsGrounded m.types → AreSoundFields m.types f.variables → (v : TypedValue) (xs : Seq Json) → IsOfFeature m f v → AreSound xs → IsOfFeature m f (overlay_each m f v xs)
  each_typed table grounded fields v [] h sound = h
  each_typed table grounded fields v (x ∷ xs) h sound = each_typed table grounded fields (overlay_feature m f v x) xs (overlay_typed m f table grounded fields v x h sound.0) sound.1

-- ---- one patch more

objects_join : (xs ys : Seq Json) → objects_among (xs ++ ys) ≡ objects_among xs ++ objects_among ys
objects_join [] ys = refl
objects_join (json.object ms ∷ xs) ys = ap (λ l. ms ∷ l) (objects_join xs ys)
objects_join (json.null ∷ xs) ys = objects_join xs ys
objects_join (json.truth b ∷ xs) ys = objects_join xs ys
objects_join (json.whole n ∷ xs) ys = objects_join xs ys
objects_join (json.odd ∷ xs) ys = objects_join xs ys
objects_join (json.text s ∷ xs) ys = objects_join xs ys
objects_join (json.list zs ∷ xs) ys = objects_join xs ys

sound_join : (xs ys : Seq Json) → AreSound xs → AreSound ys → AreSound (xs ++ ys)
sound_join [] ys h i = i
sound_join (x ∷ xs) ys h i = (h.0, sound_join xs ys h.1 i)

module _ {A : Type 0} (g : A → Json) (xs : Seq A) (i : ℕ) (x : A) (h : i < length xs) (is : x ≡ get_or xs i x) where
  pub objects_more : (mss : Seq json.Members) → mss ≡ objects_among (over g (take i xs)) → mss ++ objects_among (g x ∷ []) ≡ objects_among (over g (take (i + 1) xs))
  objects_more mss so_far = ap (λ l. l ++ objects_among (g x ∷ [])) so_far ∙ sym (objects_join (over g (take i xs)) (g x ∷ [])) ∙ sym (ap objects_among (over_more g xs i x h is))

  pub sound_more : AreSound (over g (take i xs)) → IsSound (g x) → AreSound (over g (take (i + 1) xs))
  sound_more so_far one = subst AreSound (sym (over_more g xs i x h is)) (sound_join (over g (take i xs)) (g x ∷ []) so_far (one, tt))

patches_join : (channel : Seq ℕ) (es fs : Seq DefaultEntry) → patches_for channel (es ++ fs) ≡ patches_for channel es ++ patches_for channel fs
patches_join channel [] fs = refl
patches_join channel (e ∷ es) fs =
    elim (is_for channel e.channels) as (λ b. (if b then json_of e.value ∷ patches_for channel (es ++ fs) else patches_for channel (es ++ fs)) ≡ (if b then json_of e.value ∷ patches_for channel es else patches_for channel es) ++ patches_for channel fs) [
      | true ↦ ap (λ l. json_of e.value ∷ l) (patches_join channel es fs)
      | false ↦ patches_join channel es fs
    ]

pub patches_more : (channel : Seq ℕ) (es : Seq DefaultEntry) (i : ℕ) (e : DefaultEntry) (xs : Seq Json) → i < length es → e ≡ get_or es i e → xs ≡ patches_for channel (take i es) → xs ++ patches_for channel (e ∷ []) ≡ patches_for channel (take (i + 1) es)
patches_more channel es i e xs h is so_far =
    ap (λ l. l ++ patches_for channel (e ∷ [])) so_far ∙ sym (patches_join channel (take i es) (e ∷ [])) ∙ ap (λ d. patches_for channel (take i es ++ d ∷ [])) is ∙ sym (ap (patches_for channel) (take_more es i e h))

pub not_among : (u : Tree) → ((ms : Seq (Seq ℕ × Json)) → u ≡ trees.Object ms → ⊥) → objects_among (json_of u ∷ []) ≡ []
not_among trees.Null other = refl
not_among (trees.Truth b) other = refl
not_among (trees.Whole n) other = refl
not_among trees.Odd other = refl
not_among (trees.Text s) other = refl
not_among (trees.List xs) other = refl
not_among (trees.Object ms) other = absurd (other ms refl)
