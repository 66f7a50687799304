-- What entries have under each name once members are laid over them, in whatever order those of other names come.
use Rattle.std.proofs.Common.{◌≡◌, ℕ, Bool, true, false, List as Seq, [], ◌∷◌, ◌++◌, map as over, Option as Maybe, Some, None, Less, Equal, Greater, refl, sym, ap, ap₂, ◌∙◌, subst}
use Rattle.std.specs.Prelude.{◌||◌, bytes_eq, unwrap_or, if◌then◌else◌}
use Rattle.std.specs.List.{list_any}
use Rattle.std.specs.Cmp.Lexicographic.{slice_cmp, nat_list_cmp_total, texts_ties, bytes_decides}
use Rattle.std.specs.Ordering.{nat_cmp, ordering_reverse, is_eq}
use Rattle.std.specs.declared.cmp.Ordering.{Ordering}
use Rattle.json_tree.specs.Json.{Json, members_of}
use Rattle.fml_types.specs.Named.{IsBelow, AreRising, found, has_name}
use Rattle.fml_types.specs.Shape.{Shape}
use Rattle.fml_types.specs.declared.manifest.TypeTable.{TypeTable}
use Rattle.fml_value.specs.Entries.{beside, with_entry, replaced}
use Rattle.fml_value.specs.Takes.{takes}
use Rattle.fml_value.specs.Typed.{TypedValue}
use Rattle.fml_merge.specs.Overlay.{laid, members_laid, put, with_member}
use Rattle.fml_merge.specs.Merging.{member_laid}
use Rattle.fml_merge.specs.Layers.{trees_laid, layers_laid, run_laid, pieces, trees_under}
use Rattle.fml_merge.proofs.Merge.{found_below, below_through, laid_rising, with_member_rising}

abbrev Pairs : Type 0
Pairs = Seq (Seq ℕ × TypedValue)

-- ---- entries that rise are told by what they have under each name

at_first : (e : Seq ℕ × TypedValue) (es : Pairs) → found e.0 (e ∷ es) ≡ Some e.1
at_first e es = ap (λ b. if b then Some e.1 else found e.0 es) ((bytes_decides e.0 e.0).1 refl)

not_there : (e : Seq ℕ × TypedValue) (es fs : Pairs) → IsBelow e.0 fs → found e.0 (e ∷ es) ≡ found e.0 fs → ⊥
not_there e es fs below same = let wrong : Some e.1 ≡ None = sym (at_first e es) ∙ same ∙ found_below e.0 fs below in absurd cc

same_rest : (e f : Seq ℕ × TypedValue) (es fs : Pairs) → e.0 ≡ f.0 → AreRising (e ∷ es) → AreRising (f ∷ fs) → (k : Seq ℕ) → found k (e ∷ es) ≡ found k (f ∷ fs) → found k es ≡ found k fs
same_rest e f es fs name r s k same =
    elim (bytes_eq e.0 k) as (λ b. bytes_eq e.0 k ≡ b → found k es ≡ found k fs) [
      | true ↦ λ h. (let is : e.0 ≡ k = (bytes_decides e.0 k).0 h in subst (λ n. found n es ≡ None) is (found_below e.0 es r.0) ∙ sym (subst (λ n. found n fs ≡ None) (sym name ∙ is) (found_below f.0 fs s.0)))
      | false ↦ λ h. sym (ap (λ b. if b then Some e.1 else found k es) h) ∙ same ∙ ap (λ b. if b then Some f.1 else found k fs) (ap (λ n. bytes_eq n k) (sym name) ∙ h)
    ] refl

pub same_names : (es fs : Pairs) → AreRising es → AreRising fs → ((k : Seq ℕ) → found k es ≡ found k fs) → es ≡ fs
same_names [] [] r s same = refl
same_names [] (f ∷ fs) r s same = absurd (not_there f fs [] tt (sym (same f.0)))
same_names (e ∷ es) [] r s same = absurd (not_there e es [] tt (same e.0))
same_names (e ∷ es) (f ∷ fs) r s same = by_order (slice_cmp nat_cmp e.0 f.0) refl (λ h. same_names es fs r.1 s.1 h)
  where
    by_order : (o : Ordering) → slice_cmp nat_cmp e.0 f.0 ≡ o → (((k : Seq ℕ) → found k es ≡ found k fs) → es ≡ fs) → e ∷ es ≡ f ∷ fs
    by_order Less h rest = absurd (not_there e es (f ∷ fs) (h, below_through e.0 f.0 fs h s.0) (same e.0))
    by_order Greater h rest =
        let less : slice_cmp nat_cmp f.0 e.0 ≡ Less = nat_list_cmp_total.antisymm f.0 e.0 ∙ ap ordering_reverse h in
        absurd (not_there f fs (e ∷ es) (less, below_through f.0 e.0 es less r.0) (sym (same f.0)))
    by_order Equal h rest =
        let name : e.0 ≡ f.0 = (bytes_decides e.0 f.0).0 (texts_ties e.0 f.0 ∙ ap is_eq h) in
        let values : Some e.1 ≡ Some f.1 = sym (at_first e es) ∙ same e.0 ∙ ap (λ n. found n (f ∷ fs)) name ∙ at_first f fs in
        let value : e.1 ≡ f.1 = cc in
        ap₂ (λ n v. (n, v) ∷ es) name value ∙ ap (λ l. f ∷ l) (rest (λ k. same_rest e f es fs name r s k (same k)))

-- ---- an entry that is put

module _ (n k : Seq ℕ) (v : TypedValue) where
  abbrev then_found : Pairs → Maybe TypedValue
  then_found es = if bytes_eq n k then Some v else found k es

  found_at : (e : Seq ℕ × TypedValue) (es : Pairs) → e.0 ≡ n → then_found es ≡ then_found (e ∷ es)
  found_at e es name =
      elim (bytes_eq n k) as (λ b. bytes_eq n k ≡ b → (if b then Some v else found k es) ≡ (if b then Some v else found k (e ∷ es))) [
        | true ↦ λ h. refl
        | false ↦ λ h. sym (ap (λ c. if c then Some e.1 else found k es) (ap (λ m. bytes_eq m k) name ∙ h))
      ] refl

  found_past : (e : Seq ℕ × TypedValue) (es grown : Pairs) → bytes_eq e.0 n ≡ false → found k grown ≡ then_found es → found k (e ∷ grown) ≡ then_found (e ∷ es)
  found_past e es grown other is =
      elim (bytes_eq n k) as (λ b. bytes_eq n k ≡ b → found k grown ≡ (if b then Some v else found k es) → found k (e ∷ grown) ≡ (if b then Some v else found k (e ∷ es))) [
        | true ↦ λ h i. ap (λ c. if c then Some e.1 else found k grown) (sym (ap (λ m. bytes_eq e.0 m) ((bytes_decides n k).0 h)) ∙ other) ∙ i
        | false ↦ λ h i. ap (λ o. if bytes_eq e.0 k then Some e.1 else o) i
      ] refl is

  found_replaced : (es : Pairs) → has_name n es ≡ true → found k (replaced n v es) ≡ then_found es
  found_replaced [] there = absurd cc
  found_replaced (e ∷ es) there =
      elim (bytes_eq e.0 n) as (λ b. bytes_eq e.0 n ≡ b → (b || has_name n es) ≡ true → found k (if b then (n, v) ∷ es else e ∷ replaced n v es) ≡ then_found (e ∷ es)) [
        | true ↦ λ h i. found_at e es ((bytes_decides e.0 n).0 h)
        | false ↦ λ h i. found_past e es (replaced n v es) h (found_replaced es i)
      ] refl there

  found_with : (es : Pairs) → found k (with_entry n v es) ≡ then_found es
  found_with [] = refl
  found_with (e ∷ es) =
      elim (slice_cmp nat_cmp n e.0) as (λ o. slice_cmp nat_cmp n e.0 ≡ o → found k (beside o (n, v) e es (with_entry n v es)) ≡ then_found (e ∷ es)) [
        | Less ↦ λ h. refl
        | Equal ↦ λ h. found_at e es (sym ((bytes_decides n e.0).0 (texts_ties n e.0 ∙ ap is_eq h)))
        | Greater ↦ λ h. found_past e es (with_entry n v es) (texts_ties e.0 n ∙ ap is_eq (nat_list_cmp_total.antisymm e.0 n ∙ ap ordering_reverse h)) (found_with es)
      ] refl

  found_put : (es : Pairs) → found k (put n v es) ≡ then_found es
  found_put es =
      elim (has_name n es) as (λ b. has_name n es ≡ b → found k (if b then replaced n v es else with_entry n v es) ≡ then_found es) [
        | true ↦ λ h. found_replaced es h
        | false ↦ λ h. found_with es
      ] refl

-- ---- members that are laid

-- what a name has once trees are laid over what it had
abbrev one_under : (Shape → TypedValue) → (Shape → Bool) → (Shape → TypedValue → TypedValue) → Maybe Shape → Maybe TypedValue → Maybe TypedValue
one_under zeros taken lay None v = v
one_under zeros taken lay (Some t) v = if taken t then Some (lay t (unwrap_or v (zeros t))) else v

either_way : {A : Type 0} (b : Bool) (a : A) → a ≡ (if b then a else a)
either_way true a = refl
either_way false a = refl

-- members of one name, and their trees
abbrev pub AllNamed : Seq ℕ → Seq (Seq ℕ × Json) → Type 0
AllNamed k [] = Unit {0}
AllNamed k (p ∷ ps) = (p.0 ≡ k) × AllNamed k ps

trees_named : (k : Seq ℕ) (ps : Seq (Seq ℕ × Json)) → AllNamed k ps → (j : Seq ℕ) → trees_under j ps ≡ (if bytes_eq k j then over (λ p. p.1) ps else [])
trees_named k [] named j = either_way (bytes_eq k j) []
trees_named k (p ∷ ps) named j =
    ap₂ (λ n l. if bytes_eq n j then p.1 ∷ l else l) named.0 (trees_named k ps named.1 j)
    ∙ elim (bytes_eq k j) as (λ b. (if b then p.1 ∷ (if b then over (λ q. q.1) ps else []) else (if b then over (λ q. q.1) ps else [])) ≡ (if b then p.1 ∷ over (λ q. q.1) ps else [])) [ true ↦ refl | false ↦ refl ]

module _ (zeros : Shape → TypedValue) (types : TypeTable) (type_of : Seq ℕ → Maybe Shape) where
  module _ (taken : Shape → Bool) (lay : Shape → TypedValue → TypedValue) (n k : Seq ℕ) where
    found_laid : (o : Maybe Shape) (es : Pairs) → found k (with_member zeros taken lay n o es) ≡ (if bytes_eq n k then one_under zeros taken lay o (found k es) else found k es)
    found_laid None es = either_way (bytes_eq n k) (found k es)
    found_laid (Some t) es =
        elim (taken t) as (λ c. found k (if c then put n (lay t (unwrap_or (found n es) (zeros t))) es else es) ≡ (if bytes_eq n k then (if c then Some (lay t (unwrap_or (found k es) (zeros t))) else found k es) else found k es)) [
          | true ↦ found_put n k (lay t (unwrap_or (found n es) (zeros t))) es
              ∙ elim (bytes_eq n k) as (λ b. bytes_eq n k ≡ b → (if b then Some (lay t (unwrap_or (found n es) (zeros t))) else found k es) ≡ (if b then Some (lay t (unwrap_or (found k es) (zeros t))) else found k es)) [
                | true ↦ λ h. ap (λ m. Some (lay t (unwrap_or (found m es) (zeros t)))) ((bytes_decides n k).0 h)
                | false ↦ λ h. refl
              ] refl
          | false ↦ either_way (bytes_eq n k) (found k es)
        ]

  -- trees laid one after the other over what a name has
  abbrev tree_under : Maybe Shape → Maybe TypedValue → Json → Maybe TypedValue
  tree_under o v x = one_under zeros (λ t. takes types t x) (λ t w. laid zeros types t w x) o v

  abbrev all_under : Maybe Shape → Maybe TypedValue → Seq Json → Maybe TypedValue
  all_under o v [] = v
  all_under o v (x ∷ xs) = all_under o (tree_under o v x) xs

  found_members : (k : Seq ℕ) (ps : Seq (Seq ℕ × Json)) (es : Pairs) → found k (members_laid zeros types type_of es (members_of ps)) ≡ all_under (type_of k) (found k es) (trees_under k ps)
  found_members k [] es = refl
  found_members k (p ∷ ps) es =
      let grown = member_laid zeros types type_of p.0 p.1 es in
      found_members k ps grown ∙ ap (λ v. all_under (type_of k) v (trees_under k ps)) (found_laid (λ t. takes types t p.1) (λ t w. laid zeros types t w p.1) p.0 k (type_of p.0) es)
      ∙ elim (bytes_eq p.0 k) as (λ b. bytes_eq p.0 k ≡ b
      → all_under (type_of k) (if b then tree_under (type_of p.0) (found k es) p.1 else found k es) (trees_under k ps) ≡ all_under (type_of k) (found k es) (if b then p.1 ∷ trees_under k ps else trees_under k ps)) [
        | true ↦ λ h. ap (λ n. all_under (type_of k) (tree_under (type_of n) (found k es) p.1) (trees_under k ps)) ((bytes_decides p.0 k).0 h)
        | false ↦ λ h. refl
      ] refl

  -- members that have the same trees under each name leave the same
  pub same_laid : (es : Pairs) (ps qs : Seq (Seq ℕ × Json)) → AreRising es → ((k : Seq ℕ) → trees_under k ps ≡ trees_under k qs) → members_laid zeros types type_of es (members_of ps) ≡ members_laid zeros types type_of es (members_of qs)
  same_laid es ps qs rising same =
      same_names _ _ (laid_rising zeros types type_of es (members_of ps) rising) (laid_rising zeros types type_of es (members_of qs) rising)
      (λ k. found_members k ps es ∙ ap (all_under (type_of k) (found k es)) (same k) ∙ sym (found_members k qs es))

  pub laid_join : (es : Pairs) (ps qs : Seq (Seq ℕ × Json)) → members_laid zeros types type_of es (members_of (ps ++ qs)) ≡ members_laid zeros types type_of (members_laid zeros types type_of es (members_of ps)) (members_of qs)
  laid_join es [] qs = refl
  laid_join es (p ∷ ps) qs = laid_join (member_laid zeros types type_of p.0 p.1 es) ps qs

  pub layers_joined : {T : Type 0} (pairs : T → Seq (Seq ℕ × Json)) (ls : Seq T) (es : Pairs) → members_laid zeros types type_of es (members_of (pieces (over pairs ls))) ≡ layers_laid zeros types type_of es (over (λ l. members_of (pairs l)) ls)
  layers_joined pairs [] es = refl
  layers_joined pairs (l ∷ ls) es = laid_join es (pairs l) (pieces (over pairs ls)) ∙ layers_joined pairs ls (members_laid zeros types type_of es (members_of (pairs l)))

  -- ---- trees of one name

  none_taken : (t : Shape) (v : TypedValue) (xs : Seq Json) → list_any (takes types t) xs ≡ false → trees_laid zeros types t v xs ≡ v
  none_taken t v [] none = refl
  none_taken t v (x ∷ xs) none =
      elim (takes types t x) as (λ b. (b || list_any (takes types t) xs) ≡ false → trees_laid zeros types t (if b then laid zeros types t v x else v) xs ≡ v) [
        | true ↦ λ h. absurd cc
        | false ↦ λ h. none_taken t v xs h
      ] none

  trees_under_one : (t : Shape) (v : Maybe TypedValue) (xs : Seq Json) → all_under (Some t) v xs ≡ (if list_any (takes types t) xs then Some (trees_laid zeros types t (unwrap_or v (zeros t)) xs) else v)
  trees_under_one t v [] = refl
  trees_under_one t v (x ∷ xs) =
      let w = laid zeros types t (unwrap_or v (zeros t)) x in
      elim (takes types t x) as (λ b. all_under (Some t) (if b then Some w else v) xs ≡ (if (b || list_any (takes types t) xs) then Some (trees_laid zeros types t (if b then w else unwrap_or v (zeros t)) xs) else v)) [
        | true ↦ trees_under_one t (Some w) xs
            ∙ elim (list_any (takes types t) xs) as (λ c. list_any (takes types t) xs ≡ c → (if c then Some (trees_laid zeros types t w xs) else Some w) ≡ Some (trees_laid zeros types t w xs)) [
              | true ↦ λ h. refl
              | false ↦ λ h. ap Some (sym (none_taken t w xs h))
            ] refl
        | false ↦ trees_under_one t v xs
      ]

  no_type : (v : Maybe TypedValue) (xs : Seq Json) → all_under None v xs ≡ v
  no_type v [] = refl
  no_type v (x ∷ xs) = no_type v xs

  run_under : (o : Maybe Shape) (v : Maybe TypedValue) (xs : Seq Json) → all_under o v xs ≡ one_under zeros (λ t. list_any (takes types t) xs) (λ t w. trees_laid zeros types t w xs) o v
  run_under None v xs = no_type v xs
  run_under (Some t) v xs = trees_under_one t v xs

  pub run_is : (k : Seq ℕ) (ps : Seq (Seq ℕ × Json)) (es : Pairs) → AllNamed k ps → AreRising es → members_laid zeros types type_of es (members_of ps) ≡ run_laid zeros types type_of k (over (λ p. p.1) ps) es
  run_is k ps es named rising =
      let xs = over (λ (p : Seq ℕ × Json). p.1) ps in
      let taken : Shape → Bool = λ t. list_any (takes types t) xs in
      let lay : Shape → TypedValue → TypedValue = λ t w. trees_laid zeros types t w xs in
      same_names _ _ (laid_rising zeros types type_of es (members_of ps) rising) (with_member_rising zeros types type_of k taken lay (type_of k) es rising)
      (λ j. found_members j ps es ∙ ap (all_under (type_of j) (found j es)) (trees_named k ps named j)
      ∙ elim (bytes_eq k j) as (λ b. bytes_eq k j ≡ b → all_under (type_of j) (found j es) (if b then xs else []) ≡ (if b then one_under zeros taken lay (type_of k) (found j es) else found j es)) [
        | true ↦ λ h. run_under (type_of j) (found j es) xs ∙ ap (λ n. one_under zeros taken lay (type_of n) (found j es)) (sym ((bytes_decides k j).0 h))
        | false ↦ λ h. refl
      ] refl
      ∙ sym (found_laid taken lay k j (type_of k) es))
