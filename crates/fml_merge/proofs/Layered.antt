-- Layers laid over entries and over values, one after the other.
use Rattle.std.proofs.Common.{◌≡◌, ℕ, zero, suc, ◌+◌, ◌<◌, ◌≤◌, true, false, List as Seq, [], ◌∷◌, ◌++◌, length, map as over, get_or, take, drop, fold, Option as Maybe, refl, sym, ap, ap₂, ◌∙◌, subst, append_assoc, arith}
use Rattle.std.proofs.lemmas.List.{take_more}
use Rattle.std.specs.Prelude.{if◌then◌else◌}
use Rattle.std.specs.List.{list_any}
use Rattle.json_tree.specs.Json as json
use Rattle.json_tree.specs.Json.{Json, depth, members_depth, members_of}
use Rattle.json_tree.specs.Tree.{json_of}
use Rattle.json_tree.specs.declared.tree.Tree.{Tree}
use Rattle.json_tree.specs.declared.tree.Tree.TheVariants as trees
use Rattle.fml_types.specs.Named.{AreRising}
use Rattle.fml_types.specs.Shape as shape
use Rattle.fml_types.specs.Shape.{Shape}
use Rattle.fml_types.specs.Shapes.{shape_of}
use Rattle.fml_types.specs.declared.field_type.FieldType.{FieldType}
use Rattle.fml_types.specs.declared.field_type.FieldType.TheVariants as types_of
use Rattle.fml_types.specs.declared.manifest.TypeTable.{TypeTable}
use Rattle.fml_value.specs.Kinds.{is_object}
use Rattle.fml_value.specs.Takes.{takes}
use Rattle.fml_value.specs.Typed.{TypedValue, present}
use Rattle.fml_merge.specs.Overlay.{pairs_in, held, laid, members_laid, type_under, value_with, overlay_with}
use Rattle.fml_merge.specs.Layers.{trees_laid, objects_laid, layers_laid, run_laid, run_length, AreClimbing, trees_depth, layers_depth, objects_depth}
use Rattle.fml_merge.specs.Merging.{lower, upper, named, unnamed}
use Rattle.fml_merge.proofs.Fields.{replaces}
use Rattle.fml_merge.proofs.Merge.{one_run}
use Rattle.fml_merge.proofs.Pieces.{pairs_kept}
use Rattle.fml_merge.proofs.Sorted.{run_named, first_run_past}
use Rattle.fml_merge.proofs.Under.{laid_join, run_is}

parts : {A : Type 0} (n : ℕ) (xs : Seq A) → xs ≡ take n xs ++ drop n xs
parts zero xs = refl
parts (suc n) [] = refl
parts (suc n) (x ∷ xs) = ap (λ l. x ∷ l) (parts n xs)

module _ (zeros : Shape → TypedValue) (types : TypeTable) where
  -- ---- a turn of the walk over entries and members by name

  module _ (type_of : Seq ℕ → Maybe Shape) where
    -- the run of the first name, and what follows it
    run_parts : (k : Seq ℕ) (p : Seq ℕ × Json) (ps : Seq (Seq ℕ × Json)) (es : Seq (Seq ℕ × TypedValue)) → k ≡ p.0 → AreClimbing (p ∷ ps) → AreRising es
        → members_laid zeros types type_of es (members_of (p ∷ ps))
        ≡ (lower k es ++ run_laid zeros types type_of k (over (λ q. q.1) (take (run_length k (p ∷ ps)) (p ∷ ps))) (named k (upper k es))) ++ members_laid zeros types type_of (unnamed k (upper k es)) (members_of (drop (run_length k (p ∷ ps)) (p ∷ ps)))
    run_parts k p ps es is climb rising =
        let n = run_length k (p ∷ ps) in
        let run = take n (p ∷ ps) in
        let later = drop n (p ∷ ps) in
        let xs = over (λ (q : Seq ℕ × Json). q.1) run in
        ap (λ l. members_laid zeros types type_of es (members_of l)) (parts n (p ∷ ps)) ∙ laid_join zeros types type_of es run later
        ∙ ap (λ fs. members_laid zeros types type_of fs (members_of later)) (run_is zeros types type_of k run es (run_named k (p ∷ ps)) rising)
        ∙ one_run zeros types type_of k (λ t. list_any (takes types t) xs) (λ t w. trees_laid zeros types t w xs) es (members_of later) rising (first_run_past k p ps is climb)

    pub run_turn : (k : Seq ℕ) (p : Seq ℕ × Json) (ps left later : Seq (Seq ℕ × Json)) (front grown es after : Seq (Seq ℕ × TypedValue)) (xs : Seq Json) (all : Seq (Seq ℕ × TypedValue)) → left ≡ p ∷ ps → k ≡ p.0 → AreClimbing left → AreRising es
        → xs ≡ over (λ q. q.1) (take (run_length k left) left) → later ≡ drop (run_length k left) left
        → grown ≡ (front ++ lower k es) ++ run_laid zeros types type_of k xs (named k (upper k es)) → after ≡ unnamed k (upper k es)
        → front ++ members_laid zeros types type_of es (members_of left) ≡ all
        → grown ++ members_laid zeros types type_of after (members_of later) ≡ all
    run_turn k p ps left later front grown es after xs all here is climb rising run_is_xs later_is grows goes so_far =
        let n = run_length k (p ∷ ps) in
        let ys = over (λ (q : Seq ℕ × Json). q.1) (take n (p ∷ ps)) in
        let mid = run_laid zeros types type_of k ys (named k (upper k es)) in
        let next = unnamed k (upper k es) in
        let ms = members_of (drop n (p ∷ ps)) in
        let xs_is : xs ≡ ys = run_is_xs ∙ ap (λ l. over (λ (q : Seq ℕ × Json). q.1) (take (run_length k l) l)) here in
        let grown_is : grown ≡ front ++ (lower k es ++ mid) =
        grows ∙ ap (λ zs. (front ++ lower k es) ++ run_laid zeros types type_of k zs (named k (upper k es))) xs_is ∙ append_assoc front (lower k es) mid in
        let left_is : members_of later ≡ ms = ap members_of (later_is ∙ ap (λ l. drop (run_length k l) l) here) in
        ap₂ (λ f l. f ++ members_laid zeros types type_of l (members_of later)) grown_is goes
        ∙ ap (λ m. (front ++ (lower k es ++ mid)) ++ members_laid zeros types type_of next m) left_is
        ∙ append_assoc front (lower k es ++ mid) (members_laid zeros types type_of next ms)
        ∙ ap (λ l. front ++ l) (sym (run_parts k p ps es is (subst AreClimbing here climb) rising))
        ∙ ap (λ l. front ++ members_laid zeros types type_of es (members_of l)) (sym here) ∙ so_far

  -- ---- objects laid over a value

  -- what lays members over a map, an object or the variables of a feature
  module _ (type_of : Seq ℕ → Maybe Shape) (wrap : Seq (Seq ℕ × TypedValue) → TypedValue) (kept : (es : Seq (Seq ℕ × TypedValue)) → pairs_in (wrap es) ≡ es) (lay : TypedValue → json.Members → TypedValue)
      (one : (v : TypedValue) (ms : json.Members) → lay v ms ≡ wrap (members_laid zeros types type_of (pairs_in v) ms)) where
    each_from : (es : Seq (Seq ℕ × TypedValue)) (mss : Seq json.Members) → fold lay (wrap es) mss ≡ wrap (layers_laid zeros types type_of es mss)
    each_from es [] = refl
    each_from es (ms ∷ mss) = ap (λ v. fold lay v mss) (one (wrap es) ms ∙ ap (λ fs. wrap (members_laid zeros types type_of fs ms)) (kept es)) ∙ each_from (members_laid zeros types type_of es ms) mss

    pub each_over : (v : TypedValue) (ms : json.Members) (mss : Seq json.Members) → fold lay v (ms ∷ mss) ≡ wrap (layers_laid zeros types type_of (pairs_in v) (ms ∷ mss))
    each_over v ms mss = ap (λ w. fold lay w mss) (one v ms) ∙ each_from (members_laid zeros types type_of (pairs_in v) ms) mss

  objects_fold : (t : Shape) (v : TypedValue) (mss : Seq json.Members) → objects_laid zeros types t v mss ≡ fold (λ w ms. laid zeros types t w (json.object ms)) v mss
  objects_fold t v [] = refl
  objects_fold t v (ms ∷ mss) = objects_fold t (laid zeros types t v (json.object ms)) mss

  objects_over : (t : Shape) → ((es : Seq (Seq ℕ × TypedValue)) → pairs_in (value_with t es) ≡ es)
      → ((v : TypedValue) (ms : json.Members) → laid zeros types t v (json.object ms) ≡ value_with t (members_laid zeros types (type_under types t) (pairs_in v) ms))
      → (v : TypedValue) (mss : Seq json.Members) → 0 < length mss → objects_laid zeros types t v mss ≡ value_with t (layers_laid zeros types (type_under types t) (pairs_in v) mss)
  objects_over t kept one v [] some = absurd (omega (arith, some))
  objects_over t kept one v (ms ∷ mss) some = objects_fold t v (ms ∷ mss) ∙ each_over (type_under types t) (value_with t) kept (λ w ns. laid zeros types t w (json.object ns)) one v ms mss

  pub no_option : (of : FieldType) → ((t : Shape) → of ≡ types_of.Option t → ⊥) → (v : TypedValue) (mss : Seq json.Members) → 0 < length mss
      → objects_laid zeros types (shape_of of) v mss ≡ value_with (shape_of of) (layers_laid zeros types (type_under types (shape_of of)) (pairs_in v) mss)
  no_option types_of.Boolean none v mss = objects_over shape.boolean pairs_kept (λ w ms. refl) v mss
  no_option types_of.Int none v mss = objects_over shape.int pairs_kept (λ w ms. refl) v mss
  no_option types_of.String none v mss = objects_over shape.string pairs_kept (λ w ms. refl) v mss
  no_option types_of.Text none v mss = objects_over shape.text pairs_kept (λ w ms. refl) v mss
  no_option types_of.Image none v mss = objects_over shape.image pairs_kept (λ w ms. refl) v mss
  no_option (types_of.Option t) none v mss = absurd (none t refl)
  no_option (types_of.List t) none v mss = objects_over (shape.list t) pairs_kept (λ w ms. refl) v mss
  no_option (types_of.Map k t) none v mss = objects_over (shape_of (types_of.Map k t)) pairs_kept (λ w ms. refl) v mss
  no_option (types_of.Named n) none v mss = objects_over (shape.named n) pairs_kept (λ w ms. refl) v mss

  -- under an Option the objects are laid over what it holds
  present_objects : (t : Shape) (v : TypedValue) (mss : Seq json.Members) → objects_laid zeros types (shape.option t) (present v) mss ≡ present (objects_laid zeros types t v mss)
  present_objects t v [] = refl
  present_objects t v (ms ∷ mss) = present_objects t (laid zeros types t v (json.object ms)) mss

  pub option_objects : (t : Shape) (v : TypedValue) (mss : Seq json.Members) → 0 < length mss → present (objects_laid zeros types t (held v (zeros t)) mss) ≡ objects_laid zeros types (shape.option t) v mss
  option_objects t v [] some = absurd (omega (arith, some))
  option_objects t v (ms ∷ mss) some = sym (present_objects t (laid zeros types t (held v (zeros t)) (json.object ms)) mss)

  -- ---- trees laid over a value

  trees_join : (t : Shape) (v : TypedValue) (xs ys : Seq Json) → trees_laid zeros types t v (xs ++ ys) ≡ trees_laid zeros types t (trees_laid zeros types t v xs) ys
  trees_join t v [] ys = refl
  trees_join t v (x ∷ xs) ys = trees_join t (overlay_with zeros types t v x) xs ys

  objects_join : (t : Shape) (v : TypedValue) (mss nss : Seq json.Members) → objects_laid zeros types t v (mss ++ nss) ≡ objects_laid zeros types t (objects_laid zeros types t v mss) nss
  objects_join t v [] nss = refl
  objects_join t v (ms ∷ mss) nss = objects_join t (laid zeros types t v (json.object ms)) mss nss

  module _ (t : Shape) (base under : TypedValue) (mss : Seq json.Members) (xs ys : Seq Json) (x : Json) (more : ys ≡ xs ++ x ∷ []) (so_far : objects_laid zeros types t under mss ≡ trees_laid zeros types t base xs) where
    next : trees_laid zeros types t base ys ≡ overlay_with zeros types t (trees_laid zeros types t base xs) x
    next = ap (trees_laid zeros types t base) more ∙ trees_join t base xs (x ∷ [])

    pub untaken_more : takes types t x ≡ false → objects_laid zeros types t under mss ≡ trees_laid zeros types t base ys
    untaken_more h = so_far ∙ sym (next ∙ ap (λ b. if b then laid zeros types t (trees_laid zeros types t base xs) x else trees_laid zeros types t base xs) h)

    taken_next : takes types t x ≡ true → trees_laid zeros types t base ys ≡ laid zeros types t (trees_laid zeros types t base xs) x
    taken_next h = next ∙ ap (λ b. if b then laid zeros types t (trees_laid zeros types t base xs) x else trees_laid zeros types t base xs) h

    pub object_more : (ms : json.Members) (nss : Seq json.Members) → takes types t x ≡ true → x ≡ json.object ms → nss ≡ mss ++ ms ∷ [] → objects_laid zeros types t under nss ≡ trees_laid zeros types t base ys
    object_more ms nss h is grows =
        ap (objects_laid zeros types t under) grows ∙ objects_join t under mss (ms ∷ []) ∙ ap₂ (λ v y. laid zeros types t v y) so_far (sym is) ∙ sym (taken_next h)

    pub other_more : (value : TypedValue) → takes types t x ≡ true → is_object x ≡ false → value ≡ laid zeros types t under x → value ≡ trees_laid zeros types t base ys
    other_more value h other is = is ∙ replaces zeros types t x under (trees_laid zeros types t base xs) other ∙ sym (taken_next h)

pub no_items : {A : Type 0} (xs : Seq A) → length xs ≡ 0 → xs ≡ []
no_items [] h = refl
no_items (x ∷ xs) h = absurd (omega (arith, h))

pub over_join : {A B : Type 0} (g : A → B) (ys : Seq A) (y : A) → over g (ys ++ y ∷ []) ≡ over g ys ++ g y ∷ []
over_join g [] y = refl
over_join g (z ∷ ys) y = ap (λ l. g z ∷ l) (over_join g ys y)

pub not_object : (u : Tree) → ((ms : Seq (Seq ℕ × Json)) → u ≡ trees.Object ms → ⊥) → is_object (json_of u) ≡ false
not_object trees.Null other = refl
not_object (trees.Truth b) other = refl
not_object (trees.Whole n) other = refl
not_object trees.Odd other = refl
not_object (trees.Text s) other = refl
not_object (trees.List xs) other = refl
not_object (trees.Object ms) other = absurd (other ms refl)

pub first_rest : {A B : Type 0} (f : A → B) (ls : Seq A) (x : A) → 0 < length ls → x ≡ get_or ls 0 x → over f ls ≡ f x ∷ over f (drop 1 ls)
first_rest f [] x some is = absurd (omega (arith, some))
first_rest f (y ∷ ls) x some is = ap (λ z. f z ∷ over f ls) (sym is)

pub over_more : {A B : Type 0} (g : A → B) (xs : Seq A) (i : ℕ) (x : A) → i < length xs → x ≡ get_or xs i x → over g (take (i + 1) xs) ≡ over g (take i xs) ++ g x ∷ []
over_more g xs i x h is = ap (over g) (take_more xs i x h) ∙ over_join g (take i xs) (get_or xs i x) ∙ ap (λ y. over g (take i xs) ++ g y ∷ []) (sym is)

-- ---- depths

pub one_object : (ms : json.Members) → objects_depth (ms ∷ []) ≡ suc (members_depth ms)
one_object ms = omega arith

pub objects_deep : (mss : Seq json.Members) → 0 < length mss → objects_depth mss ≡ suc (layers_depth mss)
objects_deep [] some = absurd (omega (arith, some))
objects_deep (ms ∷ mss) some = refl

layers_more : (mss : Seq json.Members) (ms : json.Members) (n : ℕ) → layers_depth mss ≤ n → members_depth ms ≤ n → layers_depth (mss ++ ms ∷ []) ≤ n
layers_more [] ms n h i = omega (arith, i)
layers_more (l ∷ mss) ms n h i = omega (arith, h, layers_more mss ms n (omega (arith, h)) i)

-- one object more is within the trees
pub deeper : (mss : Seq json.Members) (ms : json.Members) (n : ℕ) → objects_depth mss ≤ n → suc (members_depth ms) ≤ n → objects_depth (mss ++ ms ∷ []) ≤ n
deeper [] ms n h i = omega (arith, i)
deeper (l ∷ mss) ms zero h i = absurd (omega (arith, h))
deeper (l ∷ mss) ms (suc n) h i = omega (arith, h, layers_more mss ms n (omega (arith, h)) (omega (arith, i)))

pub tree_deep : {A : Type 0} (f : A → Json) (xs : Seq A) (i : ℕ) (d : A) → i < length xs → depth (f (get_or xs i d)) ≤ trees_depth (over f xs)
tree_deep f [] i d h = absurd (omega (arith, h))
tree_deep f (x ∷ xs) zero d h = omega arith
tree_deep f (x ∷ xs) (suc i) d h = omega (arith, tree_deep f xs i d (omega (arith, h)))
