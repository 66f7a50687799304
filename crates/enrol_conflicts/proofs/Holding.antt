-- What the features that are held say, and how they follow the granted.
use Rattle.std.proofs.Common.{◌≡◌, ◌+◌, ◌<◌, ℕ, zero, suc, List, [], ◌∷◌, length, get_or, set, take, replicate, slice_get, Some, is_none, unwrap_or, Bool, true, false, not, ◌&&◌, ◌||◌, bytes_eq, Bor, refl, sym, ap, ap₂, ◌∙◌, arith, true≢false}
use Rattle.std.specs.List.{list_any}
use Rattle.std.proofs.lemmas.List.Folds.{list_any_more}
use Rattle.std.specs.BTreeSet.{BTreeSet}
use Rattle.std.proofs.Math.Bool.{or_assoc, or-false}
use Rattle.recipe_reader.specs.Kinds.{kind_eq}
use Rattle.recipe_reader.specs.declared.kinds.Kind.{Kind}
use Rattle.recipe_reader.specs.declared.kinds.Kind.TheVariants.{Experiment, Rollout}
use Rattle.enrol_states.specs.Order.{is_in}
use Rattle.enrol_states.specs.TextSets.{has_text}
use Rattle.enrol_states.proofs.Sets.{one_more}
use Rattle.enrol_conflicts.specs.declared.candidate.Candidate.{Candidate}
use Rattle.enrol_conflicts.specs.declared.held.HeldFeatures.{HeldFeatures}
use Rattle.enrol_conflicts.specs.Settlement.{clashes, any_granted}
use Rattle.enrol_conflicts.specs.Held.{is_held, is_taken}

-- ---- the loop that puts the features in

pub add_more : (was now h n : Bool) (f : List ℕ) (fs : List (List ℕ)) (i : ℕ) (g : List ℕ) → i < length fs → g ≡ get_or fs i g → was ≡ (h || (is_in (take i fs) f && n)) → now ≡ (was || (bytes_eq g f && n)) → now ≡ (h || (is_in (take (i + 1) fs) f && n))
add_more was now h n f fs i g l e a b =
    let m : is_in (take (i + 1) fs) f ≡ (is_in (take i fs) f || bytes_eq (get_or fs i g) f) = list_any_more (λ x. bytes_eq x f) fs i g l in
    b ∙ ap (λ x. x || (bytes_eq g f && n)) a ∙ one_more h (is_in (take i fs) f) (bytes_eq g f) n ∙ ap (λ x. h || ((is_in (take i fs) f || bytes_eq x f) && n)) e ∙ ap (λ x. h || (x && n)) (sym m)

-- what is put in for one kind leaves the other as it was
pub add_either : (held next : HeldFeatures) (wish : Kind) (fs : List (List ℕ)) (shared : BTreeSet (Bor (List ℕ))) → ((f : List ℕ) → is_held next wish f ≡ (is_held held wish f || (is_in fs f && not (has_text shared f)))) → ((kind : Kind) → kind_eq wish kind ≡ false → (f : List ℕ) → is_held next kind f ≡ is_held held kind f)
    → (kind : Kind) (f : List ℕ) → is_held next kind f ≡ (is_held held kind f || (kind_eq wish kind && (is_in fs f && not (has_text shared f))))
add_either held next Experiment fs shared own other Experiment f = own f
add_either held next Experiment fs shared own other Rollout f = other Rollout refl f ∙ sym (or-false (is_held held Rollout f))
add_either held next Rollout fs shared own other Experiment f = other Experiment refl f ∙ sym (or-false (is_held held Experiment f))
add_either held next Rollout fs shared own other Rollout f = own f

-- ---- to ask what is held is to ask the granted

pair_up : (a r n s t : Bool) → (((a || r) && n) || (s || t)) ≡ (((a && n) || s) || ((r && n) || t))
pair_up true true true s t = refl
pair_up true true false s t = refl
pair_up true false true s t = or_true s t where
  or_true : (s t : Bool) → true ≡ true
  or_true s t = refl
pair_up true false false s t = refl
pair_up false true true s t = true_in s t where
  true_in : (s t : Bool) → true ≡ (s || true)
  true_in true t = refl
  true_in false t = refl
pair_up false true false s t = refl
pair_up false false true s t = refl
pair_up false false false s t = refl

module _ {F : Type 0} (m r n : F → Bool) where
  here : (b : Bool) (fs : List F) → list_any (λ f. ((b && m f) || r f) && n f) fs ≡ ((b && list_any (λ f. m f && n f) fs) || list_any (λ f. r f && n f) fs)
  here true [] = refl
  here true (f ∷ fs) = ap (λ x. ((m f || r f) && n f) || x) (here true fs) ∙ pair_up (m f) (r f) (n f) (list_any (λ f. m f && n f) fs) (list_any (λ f. r f && n f) fs)
  here false fs = refl

and_and : (g k m : Bool) → (g && (k && m)) ≡ ((g && k) && m)
and_and true k m = refl
and_and false k m = refl

none_in : {F : Type 0} (n : F → Bool) (fs : List F) → list_any (λ f. false && n f) fs ≡ false
none_in n [] = refl
none_in n (f ∷ fs) = none_in n fs

any_ext : {F : Type 0} (p q : F → Bool) → ((f : F) → p f ≡ q f) → (fs : List F) → list_any p fs ≡ list_any q fs
any_ext p q h [] = refl
any_ext p q h (f ∷ fs) = ap₂ (λ a b. a || b) (h f) (any_ext p q h fs)

-- the granted ones of the kind that have the feature
abbrev pub holds : Kind → List ℕ → Candidate → Bool
holds kind f v = kind_eq v.kind kind && is_in v.features f

turned : (coenrolling : List (List ℕ)) (w : Candidate) (ws : List Candidate) (gs : List Bool) → list_any (λ f. any_granted (holds w.kind f) ws gs && not (is_in coenrolling f)) w.features ≡ any_granted (λ v. clashes coenrolling v w) ws gs
turned coenrolling w [] gs = none_in (λ f. not (is_in coenrolling f)) w.features
turned coenrolling w (v ∷ ws) [] = none_in (λ f. not (is_in coenrolling f)) w.features
turned coenrolling w (v ∷ ws) (g ∷ gs) =
    any_ext (λ f. ((g && holds w.kind f v) || any_granted (holds w.kind f) ws gs) && not (is_in coenrolling f)) (λ f. (((g && kind_eq v.kind w.kind) && is_in v.features f) || any_granted (holds w.kind f) ws gs) && not (is_in coenrolling f)) (λ f. ap (λ x. (x || any_granted (holds w.kind f) ws gs) && not (is_in coenrolling f)) (and_and g (kind_eq v.kind w.kind) (is_in v.features f))) w.features
    ∙ here (λ f. is_in v.features f) (λ f. any_granted (holds w.kind f) ws gs) (λ f. not (is_in coenrolling f)) (g && kind_eq v.kind w.kind) w.features
    ∙ ap₂ (λ a b. a || b) (sym (and_and g (kind_eq v.kind w.kind) (list_any (λ f. is_in v.features f && not (is_in coenrolling f)) w.features))) (turned coenrolling w ws gs)

-- what is held is what the granted have, but for what may be shared
abbrev pub Holds : List (List ℕ) → List Candidate → List Bool → HeldFeatures → Type 0
Holds coenrolling ws gs held = (kind : Kind) (f : List ℕ) → is_held held kind f ≡ (any_granted (holds kind f) ws gs && not (is_in coenrolling f))

pub taken : (coenrolling : List (List ℕ)) (ws : List Candidate) (gs : List Bool) (held : HeldFeatures) → Holds coenrolling ws gs held → (w : Candidate) → is_taken held w ≡ any_granted (λ v. clashes coenrolling v w) ws gs
taken coenrolling ws gs held h w = any_ext (λ f. is_held held w.kind f) (λ f. any_granted (holds w.kind f) ws gs && not (is_in coenrolling f)) (λ f. h w.kind f) w.features ∙ turned coenrolling w ws gs

none_yet : {X : Type 0} (p : X → Bool) (xs : List X) (n : ℕ) → any_granted p xs (replicate n false) ≡ false
none_yet p [] n = refl
none_yet p (x ∷ xs) zero = refl
none_yet p (x ∷ xs) (suc n) = none_yet p xs n

pub holds_none : (coenrolling : List (List ℕ)) (ws : List Candidate) (gs : List Bool) (held : HeldFeatures) (n : ℕ) → gs ≡ replicate n false → ((kind : Kind) (f : List ℕ) → is_held held kind f ≡ false) → Holds coenrolling ws gs held
holds_none coenrolling ws gs held n g e kind f = e kind f ∙ sym (ap (λ b. b && not (is_in coenrolling f)) (ap (any_granted (holds kind f) ws) g ∙ none_yet (holds kind f) ws n))

swap_or : (b p r : Bool) → ((b && p) || r) ≡ (r || (b && p))
swap_or true true true = refl
swap_or true true false = refl
swap_or true false true = refl
swap_or true false false = refl
swap_or false p true = refl
swap_or false p false = refl

set_more : {X : Type 0} (p : X → Bool) (xs : List X) (gs : List Bool) (r : ℕ) (b : Bool) (w : X) → length gs ≡ length xs → slice_get xs r ≡ Some w → get_or gs r false ≡ false → any_granted p xs (set gs r b) ≡ (any_granted p xs gs || (b && p w))
set_more p [] gs r b w l h e = absurd (true≢false (ap is_none h))
set_more p (x ∷ xs) [] r b w l h e = absurd (none l) where
  none : 0 ≡ suc (length xs) → ⊥
  none l = omega (arith, l)
set_more p (x ∷ xs) (g ∷ gs) zero b w l h e =
    swap_or b (p x) (any_granted p xs gs) ∙ ap (λ y. any_granted p xs gs || (b && p y)) (ap (λ o. unwrap_or o x) h) ∙ ap (λ y. ((y && p x) || any_granted p xs gs) || (b && p w)) (sym e)
set_more p (x ∷ xs) (g ∷ gs) (suc r) b w l h e =
    ap (λ y. (g && p x) || y) (set_more p xs gs r b w (omega (arith, l)) h e) ∙ sym (or_assoc (g && p x) (any_granted p xs gs) (b && p w))

joined : (a n b k i : Bool) → ((a && n) || (b && (k && (i && n)))) ≡ ((a || (b && (k && i))) && n)
joined true true b k i = refl
joined true false true true true = refl
joined true false true true false = refl
joined true false true false i = refl
joined true false false k i = refl
joined false n true true i = refl
joined false n true false i = refl
joined false n false k i = refl

pub holds_more : (coenrolling : List (List ℕ)) (shared : BTreeSet (Bor (List ℕ))) → ((f : List ℕ) → has_text shared f ≡ is_in coenrolling f) → (ws : List Candidate) (gs : List Bool) (m n : HeldFeatures) (r : ℕ) (b : Bool) (w : Candidate)
    → Holds coenrolling ws gs m → length gs ≡ length ws → slice_get ws r ≡ Some w → get_or gs r false ≡ false → ((kind : Kind) (f : List ℕ) → is_held n kind f ≡ (is_held m kind f || (b && (kind_eq w.kind kind && (is_in w.features f && not (has_text shared f)))))) → Holds coenrolling ws (set gs r b) n
holds_more coenrolling shared s ws gs m n r b w h l a e u kind f =
    u kind f
    ∙ ap₂ (λ x y. x || (b && (kind_eq w.kind kind && (is_in w.features f && not y)))) (h kind f) (s f)
    ∙ joined (any_granted (holds kind f) ws gs) (not (is_in coenrolling f)) b (kind_eq w.kind kind) (is_in w.features f)
    ∙ ap (λ x. x && not (is_in coenrolling f)) (sym (set_more (holds kind f) ws gs r b w l a e))
