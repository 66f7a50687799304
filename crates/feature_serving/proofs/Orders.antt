-- The layers of rows whose slugs rise, put in order.
use Rattle.std.proofs.Common.{◌≡◌, ℕ, Bool, true, false, List, [], ◌∷◌, Option, Some, None, refl, sym, subst, true≢false, Ordering, Less, Equal, Greater, is_lt, is_eq, IfSome, IsPermutation, IsSorted}
use Rattle.std.specs.Prelude.{option_map, option_and_then, if◌then◌else◌}
use Rattle.std.specs.List.{AllByRecursion, filter_map, cons_option}
use Rattle.std.specs.List.Sorted.{IsStrictlySortedBy}
use Rattle.std.proofs.lemmas.List.Sorted.{IsPermutation-refl, IsPermutation-cons, IsPermutation-trans, IsPermutation-sym, IsPermutation-middle}
use Rattle.recipe_reader.specs.Payloads.{slug_cmp, recipe_with}
use Rattle.recipe_reader.specs.declared.recipe.Recipe.{Recipe}
use Rattle.enrol_states.specs.Order.{Rise, AreAbove}
use Rattle.enrol_states.specs.State.{slugs_of}
use Rattle.enrol_states.specs.Statuses.{enrolled_branch}
use Rattle.enrol_states.specs.declared.state.Row.{Row}
use Rattle.enrol_states.specs.declared.state.State.{State}
use Rattle.feature_serving.specs.Layers.{Layer, layer_in, layer_of, laid_by_rows, layer_cmp, with_layer, in_order, layers}
use Rattle.feature_serving.proofs.Members.{same_in_order}
use Rattle.feature_serving.proofs.Ranks.{layer_cmp_total, tied_slug, behind, sorted_is}

-- ---- the slugs of layers

-- each layer's slug is above this one
abbrev pub Above : List ℕ → List Layer → Type 0
Above s ls = AllByRecursion (λ l. slug_cmp s l.slug ≡ Less) ls

abbrev pub Climb : List Layer → Type 0
Climb [] = Unit {0}
Climb (l ∷ ls) = Above l.slug ls × Climb ls

some_mapped : {A B : Type 0} (f : A → B) (P : B → Type 0) → ((a : A) → P (f a)) → (o : Option A) → IfSome (option_map f o) P
some_mapped f P all None = tt
some_mapped f P all (Some a) = all a

some_then : {A B : Type 0} (f : A → Option B) (P : B → Type 0) → ((a : A) → IfSome (f a) P) → (o : Option A) → IfSome (option_and_then f o) P
some_then f P all None = tt
some_then f P all (Some a) = all a

own_slug : (live : List Recipe) (feature : List ℕ) (row : Row) → IfSome (layer_of live feature row) (λ l. l.slug ≡ row.slug)
own_slug live feature row =
    some_then (λ branch. option_and_then (λ r. layer_in feature row.slug r branch) (recipe_with row.slug live)) (λ l. l.slug ≡ row.slug)
    (λ branch. some_then (λ r. layer_in feature row.slug r branch) (λ l. l.slug ≡ row.slug) (λ r. some_mapped _ (λ l. l.slug ≡ row.slug) (λ tree. refl) _) (recipe_with row.slug live))
    (enrolled_branch row.status)

above_one : (s slug : List ℕ) (o : Option Layer) (ls : List Layer) → IfSome o (λ l. l.slug ≡ slug) → slug_cmp s slug ≡ Less → Above s ls → Above s (cons_option o ls)
above_one s slug None ls own less above = above
above_one s slug (Some l) ls own less above = (subst (λ t. slug_cmp s t ≡ Less) (sym own) less, above)

above_laid : (live : List Recipe) (feature s : List ℕ) (rows : List Row) → AreAbove s (slugs_of rows) → Above s (filter_map (layer_of live feature) rows)
above_laid live feature s [] above = tt
above_laid live feature s (q ∷ qs) above = above_one s q.slug (layer_of live feature q) (filter_map (layer_of live feature) qs) (own_slug live feature q) above.0 (above_laid live feature s qs above.1)

climb_one : (slug : List ℕ) (o : Option Layer) (ls : List Layer) → IfSome o (λ l. l.slug ≡ slug) → Above slug ls → Climb ls → Climb (cons_option o ls)
climb_one slug None ls own above climb = climb
climb_one slug (Some l) ls own above climb = (subst (λ t. Above t ls) (sym own) above, climb)

climb_laid : (live : List Recipe) (feature : List ℕ) (rows : List Row) → Rise (slugs_of rows) → Climb (filter_map (layer_of live feature) rows)
unfolding IsStrictlySortedBy
climb_laid live feature [] rise = tt
climb_laid live feature (q ∷ qs) rise = climb_one q.slug (layer_of live feature q) (filter_map (layer_of live feature) qs) (own_slug live feature q) (above_laid live feature q.slug qs rise.0) (climb_laid live feature qs rise.1)

-- ---- a layer at its place

all_with : (P : Layer → Type 0) (l : Layer) (ms : List Layer) → P l → AllByRecursion P ms → AllByRecursion P (with_layer l ms)
all_with P l [] one all = (one, tt)
all_with P l (m ∷ ms) one all =
    elim (is_lt (layer_cmp l m)) as (λ b. AllByRecursion P (if b then l ∷ m ∷ ms else m ∷ with_layer l ms)) [ true ↦ (one, all) | false ↦ (all.0, all_with P l ms one all.1) ]

pub all_ordered : (P : Layer → Type 0) (ls : List Layer) → AllByRecursion P ls → AllByRecursion P (in_order ls)
all_ordered P [] all = tt
all_ordered P (l ∷ ls) all = all_with P l (in_order ls) all.0 (all_ordered P ls all.1)

below_all : (l m : Layer) (ms : List Layer) → layer_cmp l m ≡ Less → AllByRecursion (λ n. layer_cmp m n ≡ Less) ms → AllByRecursion (λ n. layer_cmp l n ≡ Less) ms
below_all l m [] less all = tt
below_all l m (n ∷ ms) less all = (layer_cmp_total.trans l m n less all.0, below_all l m ms less all.1)

is_less : (o : Ordering) → is_lt o ≡ true → o ≡ Less
is_less Less h = refl
is_less Equal h = absurd (true≢false (sym h))
is_less Greater h = absurd (true≢false (sym h))

untied : (l m : Layer) → slug_cmp l.slug m.slug ≡ Less → is_eq (layer_cmp l m) ≡ false
untied l m less = at (layer_cmp l m) refl where
  at : (o : Ordering) → layer_cmp l m ≡ o → is_eq o ≡ false
  at Less e = refl
  at Equal e = absurd (let t : slug_cmp l.slug m.slug ≡ Equal = tied_slug l m e in cc)
  at Greater e = refl

ordered_at : (l m : Layer) (ms : List Layer) (b : Bool) → is_lt (layer_cmp l m) ≡ b → Above l.slug (m ∷ ms) → IsStrictlySortedBy layer_cmp (m ∷ ms) → IsStrictlySortedBy layer_cmp (with_layer l ms)
    → IsStrictlySortedBy layer_cmp (if b then l ∷ m ∷ ms else m ∷ with_layer l ms)
unfolding IsStrictlySortedBy
ordered_at l m ms true e above ordered rest = let less = is_less (layer_cmp l m) e in ((less, below_all l m ms less ordered.0), ordered)
ordered_at l m ms false e above ordered rest = (all_with (λ n. layer_cmp m n ≡ Less) l ms (behind layer_cmp_total l m e (untied l m above.0)) ordered.0, rest)

ordered_with : (l : Layer) (ms : List Layer) → Above l.slug ms → IsStrictlySortedBy layer_cmp ms → IsStrictlySortedBy layer_cmp (with_layer l ms)
unfolding IsStrictlySortedBy
ordered_with l [] above ordered = (tt, tt)
ordered_with l (m ∷ ms) above ordered = ordered_at l m ms (is_lt (layer_cmp l m)) refl above ordered (ordered_with l ms above.1 ordered.1)

pub ordered : (ls : List Layer) → Climb ls → IsStrictlySortedBy layer_cmp (in_order ls)
unfolding IsStrictlySortedBy
ordered [] climb = tt
ordered (l ∷ ls) climb = ordered_with l (in_order ls) (all_ordered (λ m. slug_cmp l.slug m.slug ≡ Less) ls climb.0) (ordered ls climb.1)

moved_with : (l : Layer) (ms : List Layer) → IsPermutation (l ∷ ms) (with_layer l ms)
moved_with l [] = IsPermutation-refl (l ∷ [])
moved_with l (m ∷ ms) =
    elim (is_lt (layer_cmp l m)) as (λ b. IsPermutation (l ∷ m ∷ ms) (if b then l ∷ m ∷ ms else m ∷ with_layer l ms)) [
      | true ↦ IsPermutation-refl (l ∷ m ∷ ms)
      | false ↦ IsPermutation-trans (l ∷ m ∷ ms) (m ∷ l ∷ ms) (m ∷ with_layer l ms) (IsPermutation-middle (l ∷ []) m ms) (IsPermutation-cons m (l ∷ ms) (with_layer l ms) (moved_with l ms))
    ]

pub moved : (ls : List Layer) → IsPermutation ls (in_order ls)
moved [] = IsPermutation-refl []
moved (l ∷ ls) = IsPermutation-trans (l ∷ ls) (l ∷ in_order ls) (with_layer l (in_order ls)) (IsPermutation-cons l ls (in_order ls) (moved ls)) (moved_with l (in_order ls))

-- ---- the layers of a feature

pub layers_rise : (s : State) (feature : List ℕ) → Rise (slugs_of s.rows) → IsStrictlySortedBy layer_cmp (layers s feature)
layers_rise s feature rise = ordered (laid_by_rows s feature) (climb_laid s.live feature s.rows rise)

pub layers_moved : (s : State) (feature : List ℕ) → IsPermutation (laid_by_rows s feature) (layers s feature)
layers_moved s feature = moved (laid_by_rows s feature)

-- the layers of the rows, sorted
pub sorted_layers : (s : State) (feature : List ℕ) (ls ms : List Layer) → Rise (slugs_of s.rows) → ls ≡ laid_by_rows s feature → IsPermutation ls ms → IsSorted layer_cmp ms → ms ≡ layers s feature
sorted_layers s feature ls ms rise all perm sorted =
    sorted_is layer_cmp_total (layers s feature) ms (layers_rise s feature rise)
    (IsPermutation-trans (layers s feature) (laid_by_rows s feature) ms (IsPermutation-sym (laid_by_rows s feature) (layers s feature) (layers_moved s feature)) (subst (λ xs. IsPermutation xs ms) all perm))
    sorted

-- and no other list is in order
pub one_order : (s : State) (feature : List ℕ) (ls : List Layer) → Rise (slugs_of s.rows) → IsPermutation (laid_by_rows s feature) ls → IsStrictlySortedBy layer_cmp ls → ls ≡ layers s feature
one_order s feature ls rise perm strict =
    same_in_order layer_cmp_total ls (layers s feature) strict (layers_rise s feature rise)
    (IsPermutation-trans ls (laid_by_rows s feature) (layers s feature) (IsPermutation-sym (laid_by_rows s feature) ls perm) (layers_moved s feature))
