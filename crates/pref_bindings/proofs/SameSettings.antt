-- What a branch sets is the same in whatever order the bindings of its features are looked up.
use Rattle.std.proofs.Common.{Ordering, ◌≡◌, ◌⊎◌, inl, inr, ℕ, Bool, true, false, cond, List, [], ◌∷◌, ◌++◌, Option, Some, None, Less, Equal, Greater, refl, sym, ap, ◌∙◌, subst}
use Rattle.std.specs.Prelude.{bytes_eq, find, fold, option_and_then, option_map}
use Rattle.std.specs.BTreeMap.{insert_entry, is_at}
use Rattle.std.specs.BTreeSet.{insert_key}
use Rattle.std.specs.Cmp.Lexicographic.{nat_list_cmp_total, bytes_decides}
use Rattle.std.specs.List.{cons_option, filter, filter_map, flat_map}
use Rattle.std.specs.List.Sorted.{IsStrictlySortedBy}
use Rattle.std.specs.Map.{lookup}
use Rattle.std.specs.Ordering.{is_eq, match_ordering}
use Rattle.std.proofs.lemmas.Cmp.{tied_itself}
use Rattle.std.proofs.lemmas.Map.Entries.{lookup_head, lookup_tail}
use Rattle.std.proofs.lemmas.Bool.{or_right, or_left}
use Rattle.sequences.proofs.Texts.{is_Equal}
use Rattle.sequences.proofs.Rising.{rest_rises, first_above}
use Rattle.json_tree.specs.declared.tree.Tree.{Tree}
use Rattle.fml_types.specs.declared.manifest.Manifest.{Manifest}
use Rattle.recipe_reader.specs.Payloads.{slug_cmp}
use Rattle.recipe_reader.specs.declared.recipe.Branch.{Branch}
use Rattle.recipe_reader.specs.declared.recipe.FeatureValue.{FeatureValue}
use Rattle.enrol_states.specs.Order.{Rise, AreAbove, is_in}
use Rattle.enrol_states.proofs.Ordered.{same_texts, turned_down}
use Rattle.enrol_states.proofs.OptOuts.{rise-insert}
use Rattle.pref_bindings.specs.declared.bindings.Binding.{Binding}
use Rattle.pref_bindings.specs.Bindings.{Differ, of_feature, preferences_of}
use Rattle.pref_bindings.specs.Bound.{bound_value, in_order, setting_of, value_for, variable_of, with_setting}
use Rattle.pref_bindings.specs.Changes.{Setting}
use Rattle.pref_bindings.proofs.Joins.{settings_names}

-- ---- one of a list

abbrev IsAmong : {X : Type 0} → X → List X → Type 0
IsAmong x [] = ⊥
IsAmong x (y ∷ ys) = (x ≡ y) ⊎ IsAmong x ys

module _ {X : Type 0} where
  among_front : (x : X) (xs ys : List X) → IsAmong x xs → IsAmong x (xs ++ ys)
  among_front x [] ys is = absurd is
  among_front x (z ∷ xs) ys is =
      elim is [
        | inl here ↦ inl here
        | inr behind ↦ inr (among_front x xs ys behind)
      ]

  among_back : (x : X) (xs ys : List X) → IsAmong x ys → IsAmong x (xs ++ ys)
  among_back x [] ys is = is
  among_back x (z ∷ xs) ys is = inr (among_back x xs ys is)

  among_either : (x : X) (xs ys : List X) → IsAmong x (xs ++ ys) → IsAmong x xs ⊎ IsAmong x ys
  among_either x [] ys is = inr is
  among_either x (z ∷ xs) ys is =
      elim is [
        | inl here ↦ inl (inl here)
        | inr behind ↦
            elim (among_either x xs ys behind) [
              | inl front ↦ inl (inr front)
              | inr back ↦ inr back
            ]
      ]

  module _ (p : X → Bool) where
    among_if : (b : Bool) (x y : X) (xs : List X) → (IsAmong x (filter p xs) → IsAmong x xs) → IsAmong x (cond b (y ∷ filter p xs) (filter p xs)) → IsAmong x (y ∷ xs)
    among_if true x y xs rest is =
        elim is [
          | inl here ↦ inl here
          | inr behind ↦ inr (rest behind)
        ]
    among_if false x y xs rest is = inr (rest is)

    among_filtered : (x : X) (xs : List X) → IsAmong x (filter p xs) → IsAmong x xs
    among_filtered x [] is = is
    among_filtered x (y ∷ xs) is = among_if (p y) x y xs (among_filtered x xs) is

    kept_if : (b : Bool) (x y : X) (xs : List X) → IsAmong x (filter p xs) → IsAmong x (cond b (y ∷ filter p xs) (filter p xs))
    kept_if true x y xs there = inr there
    kept_if false x y xs there = there

    filtered_among : (x : X) (xs : List X) → p x ≡ true → IsAmong x xs → IsAmong x (filter p xs)
    filtered_among x [] passes is = is
    filtered_among x (y ∷ xs) passes is =
        elim is [
          | inl here ↦ subst (λ c. IsAmong x (cond c (y ∷ filter p xs) (filter p xs))) (sym (ap p (sym here) ∙ passes)) (inl here)
          | inr behind ↦ kept_if (p y) x y xs (filtered_among x xs passes behind)
        ]

module _ {X Y : Type 0} where
  flat_among : (g : X → List Y) (x : X) (y : Y) (xs : List X) → IsAmong x xs → IsAmong y (g x) → IsAmong y (flat_map g xs)
  flat_among g x y [] is given = absurd is
  flat_among g x y (z ∷ xs) is given =
      elim is [
        | inl here ↦ among_front y (g z) (flat_map g xs) (subst (λ w. IsAmong y (g w)) here given)
        | inr behind ↦ among_back y (g z) (flat_map g xs) (flat_among g x y xs behind given)
      ]

  among_flat : (P : Y → Type 0) (g : X → List Y) → ((x : X) (y : Y) → IsAmong y (g x) → P y) → (y : Y) (xs : List X) → IsAmong y (flat_map g xs) → P y
  among_flat P g each y [] is = absurd is
  among_flat P g each y (x ∷ xs) is =
      elim (among_either y (g x) (flat_map g xs) is) [
        | inl here ↦ each x y here
        | inr behind ↦ among_flat P g each y xs behind
      ]

  module _ (h : X → Option Y) where
    more_if : (o : Option Y) (y : Y) (ys : List Y) → IsAmong y ys → IsAmong y (cons_option o ys)
    more_if None y ys there = there
    more_if (Some w) y ys there = inr there

    mapped_among : (x : X) (y : Y) (xs : List X) → h x ≡ Some y → IsAmong x xs → IsAmong y (filter_map h xs)
    mapped_among x y [] given is = absurd is
    mapped_among x y (z ∷ xs) given is =
        elim is [
          | inl here ↦ subst (λ o. IsAmong y (cons_option o (filter_map h xs))) (sym (ap h (sym here) ∙ given)) (inl refl)
          | inr behind ↦ more_if (h z) y (filter_map h xs) (mapped_among x y xs given behind)
        ]

    abbrev IsGiven : Y → List X → Type 0
    IsGiven y xs = (x : X) × IsAmong x xs × (h x ≡ Some y)

    given_if : (o : Option Y) (y : Y) (x : X) (xs : List X) → h x ≡ o → (IsAmong y (filter_map h xs) → IsGiven y (x ∷ xs)) → IsAmong y (cons_option o (filter_map h xs)) → IsGiven y (x ∷ xs)
    given_if None y x xs e rest is = rest is
    given_if (Some w) y x xs e rest is =
        elim is [
          | inl here ↦ (x, inl refl, e ∙ ap Some (sym here))
          | inr behind ↦ rest behind
        ]

    among_mapped : (y : Y) (xs : List X) → IsAmong y (filter_map h xs) → IsGiven y xs
    among_mapped y [] is = absurd is
    among_mapped y (x ∷ xs) is = given_if (h x) y x xs refl (λ behind. let one = among_mapped y xs behind in (one.0, inr one.1, one.2)) is

-- ---- the value of a name among settings

abbrev value_at : List ℕ → List Setting → Option Tree
value_at q vs = lookup (is_at (slug_cmp q)) vs

one_name : (q k : List ℕ) → is_eq (slug_cmp q k) ≡ true → q ≡ k
one_name q k e = same_texts q k (is_Equal (slug_cmp q k) e)

own_name : (q k : List ℕ) → q ≡ k → is_eq (slug_cmp q k) ≡ true
own_name q k e = subst (λ n. is_eq (slug_cmp q n) ≡ true) e (ap is_eq (tied_itself nat_list_cmp_total q))

doubled : (c : Bool) (v e r : Option Tree) → cond c v r ≡ cond c v (cond c e r)
doubled true v e r = refl
doubled false v e r = refl

turned : (c d : Bool) (v e r : Option Tree) → (c ≡ true → d ≡ true → ⊥) → cond c e (cond d v r) ≡ cond d v (cond c e r)
turned true true v e r apart = absurd (apart refl refl)
turned true false v e r apart = refl
turned false true v e r apart = refl
turned false false v e r apart = refl

put_at : (o : Ordering) (q k : List ℕ) (v : Tree) (e : Setting) (es put : List Setting) → slug_cmp k e.0 ≡ o → value_at q put ≡ cond (is_eq (slug_cmp q k)) (Some v) (value_at q es)
    → value_at q (match_ordering o ((k, v) ∷ e ∷ es) ((e.0, v) ∷ es) (e ∷ put)) ≡ cond (is_eq (slug_cmp q k)) (Some v) (value_at q (e ∷ es))
put_at Less q k v e es put is rest = refl
put_at Equal q k v e es put is rest =
    subst (λ n. cond (is_eq (slug_cmp q e.0)) (Some v) (value_at q es) ≡ cond (is_eq (slug_cmp q n)) (Some v) (value_at q (e ∷ es))) (sym (same_texts k e.0 is)) (doubled (is_eq (slug_cmp q e.0)) (Some v) (Some e.1) (value_at q es))
put_at Greater q k v e es put is rest =
    ap (cond (is_eq (slug_cmp q e.0)) (Some e.1)) rest
    ∙ turned (is_eq (slug_cmp q e.0)) (is_eq (slug_cmp q k)) (Some v) (Some e.1) (value_at q es) (λ c d.
    let even : is_eq (slug_cmp k e.0) ≡ true = own_name k e.0 (sym (one_name q k d) ∙ one_name q e.0 c) in
    let two : false ≡ true = sym (ap is_eq is) ∙ even in
    cc)

-- with one more setting
put_value : (q k : List ℕ) (v : Tree) (es : List Setting) → value_at q (insert_entry slug_cmp es k v) ≡ cond (is_eq (slug_cmp q k)) (Some v) (value_at q es)
put_value q k v [] = refl
put_value q k v (e ∷ es) = put_at (slug_cmp k e.0) q k v e es (insert_entry slug_cmp es k v) refl (put_value q k v es)

-- ---- settings in order that give each name one value are the same

names_put : (k : List ℕ) (v : Tree) (es : List Setting) → settings_names (insert_entry slug_cmp es k v) ≡ insert_key slug_cmp (settings_names es) k
names_put k v [] = refl
names_put k v (e ∷ es) =
    elim (slug_cmp k e.0) as (λ o. settings_names (match_ordering o ((k, v) ∷ e ∷ es) ((e.0, v) ∷ es) (e ∷ insert_entry slug_cmp es k v)) ≡ match_ordering o (k ∷ e.0 ∷ settings_names es) (e.0 ∷ settings_names es) (e.0 ∷ insert_key slug_cmp (settings_names es) k)) [
      | Less ↦ refl
      | Equal ↦ refl
      | Greater ↦ ap (λ ks. e.0 ∷ ks) (names_put k v es)
    ]

rise_all : (es vs : List Setting) → Rise (settings_names es) → Rise (settings_names (fold with_setting es vs))
rise_all es [] rise = rise
rise_all es (v ∷ vs) rise = rise_all (with_setting es v) vs (subst Rise (sym (names_put v.0 v.1 es)) (rise-insert v.0 (settings_names es) rise))

rise_none : Rise (settings_names [])
unfolding IsStrictlySortedBy
rise_none = tt

above_none : (q : List ℕ) (vs : List Setting) → AreAbove q (settings_names vs) → value_at q vs ≡ None
above_none q [] above = refl
above_none q (v ∷ vs) above = lookup_tail (is_at (slug_cmp q)) v vs (ap is_eq above.0) ∙ above_none q vs above.1

first_value : (v : Setting) (vs : List Setting) → value_at v.0 (v ∷ vs) ≡ Some v.1
first_value v vs = lookup_head (is_at (slug_cmp v.0)) v vs (ap is_eq (tied_itself nat_list_cmp_total v.0))

behind_none : (v : Setting) (vs : List Setting) → Rise (settings_names (v ∷ vs)) → value_at v.0 vs ≡ None
unfolding IsStrictlySortedBy
behind_none v vs rise = above_none v.0 vs rise.0

no_value : (v : Tree) (o : Option Tree) → o ≡ Some v → o ≡ None → ⊥
no_value v o some none = let two : Some v ≡ None = sym some ∙ none in cc

module _ (v w : Setting) (vs ws : List Setting) (v_rise : Rise (settings_names (v ∷ vs))) (w_rise : Rise (settings_names (w ∷ ws))) (one : (q : List ℕ) → value_at q (v ∷ vs) ≡ value_at q (w ∷ ws)) where
  name_by : (o : Ordering) → slug_cmp v.0 w.0 ≡ o → v.0 ≡ w.0
  name_by Less e = absurd (no_value v.1 (value_at v.0 (w ∷ ws)) (sym (one v.0) ∙ first_value v vs) (above_none v.0 (w ∷ ws) (first_above (λ (u : Setting). u.0) v.0 w ws e w_rise)))
  name_by Equal e = same_texts v.0 w.0 e
  name_by Greater e =
      absurd (no_value w.1 (value_at w.0 (v ∷ vs)) (one w.0 ∙ first_value w ws) (above_none w.0 (v ∷ vs) (first_above (λ (u : Setting). u.0) w.0 v vs (turned_down v.0 w.0 e) v_rise)))

  name : v.0 ≡ w.0
  name = name_by (slug_cmp v.0 w.0) refl

  value : v.1 ≡ w.1
  value = let two : Some v.1 ≡ Some w.1 = sym (first_value v vs) ∙ one v.0 ∙ ap (λ q. value_at q (w ∷ ws)) name ∙ first_value w ws in cc

  others : (q : List ℕ) → value_at q vs ≡ value_at q ws
  others q = at (is_eq (slug_cmp q v.0)) refl where
    at : (b : Bool) → is_eq (slug_cmp q v.0) ≡ b → value_at q vs ≡ value_at q ws
    at true e =
        ap (λ n. value_at n vs) (one_name q v.0 e) ∙ behind_none v vs v_rise ∙ sym (behind_none w ws w_rise)
        ∙ ap (λ n. value_at n ws) (sym name ∙ sym (one_name q v.0 e))
    at false e = sym (lookup_tail (is_at (slug_cmp q)) v vs e) ∙ one q ∙ lookup_tail (is_at (slug_cmp q)) w ws (ap (λ n. is_eq (slug_cmp q n)) (sym name) ∙ e)

same_settings : (vs ws : List Setting) → Rise (settings_names vs) → Rise (settings_names ws) → ((q : List ℕ) → value_at q vs ≡ value_at q ws) → vs ≡ ws
same_settings [] [] v_rise w_rise one = refl
same_settings [] (w ∷ ws) v_rise w_rise one = absurd (no_value w.1 (value_at w.0 []) (one w.0 ∙ first_value w ws) refl)
same_settings (v ∷ vs) [] v_rise w_rise one = absurd (no_value v.1 (value_at v.0 []) (sym (one v.0) ∙ first_value v vs) refl)
same_settings (v ∷ vs) (w ∷ ws) v_rise w_rise one =
    let rest = same_settings vs ws (rest_rises (λ (v : Setting). v.0) v vs v_rise) (rest_rises (λ (v : Setting). v.0) w ws w_rise) (others v w vs ws v_rise w_rise one) in
    (λ i. (name v w vs ws v_rise w_rise one i, value v w vs ws v_rise w_rise one i) ∷ rest i)

-- ---- settings of which no two give one name different values, in whatever order

found_among : (q : List ℕ) (v : Tree) (es vs : List Setting) → value_at q (fold with_setting es vs) ≡ Some v → (value_at q es ≡ Some v) ⊎ IsAmong (q, v) vs
found_among q v es [] is = inl is
found_among q v es (w ∷ vs) is =
    elim (found_among q v (with_setting es w) vs is) [
      | inl put ↦ at (is_eq (slug_cmp q w.0)) refl (sym (put_value q w.0 w.1 es) ∙ put)
      | inr behind ↦ inr (inr behind)
    ] where
      at : (b : Bool) → is_eq (slug_cmp q w.0) ≡ b → cond (is_eq (slug_cmp q w.0)) (Some w.1) (value_at q es) ≡ Some v → (value_at q es ≡ Some v) ⊎ IsAmong (q, v) (w ∷ vs)
      at true e there =
          let one : Some w.1 ≡ Some v = subst (λ c. cond c (Some w.1) (value_at q es) ≡ Some v) e there in
          let same : v ≡ w.1 = cc in
          let key : q ≡ w.0 = one_name q w.0 e in
          inr (inl (λ i. (key i, same i)))
      at false e there = inl (subst (λ c. cond c (Some w.1) (value_at q es) ≡ Some v) e there)

among_found : (q : List ℕ) (v : Tree) (es vs : List Setting) → ((w : Tree) → IsAmong (q, w) vs → w ≡ v) → (value_at q es ≡ Some v) ⊎ IsAmong (q, v) vs → value_at q (fold with_setting es vs) ≡ Some v
among_found q v es [] one is =
    elim is [
      | inl there ↦ there
      | inr none ↦ absurd none
    ]
among_found q v es (w ∷ vs) one is = among_found q v (with_setting es w) vs (λ u behind. one u (inr behind)) (at (is_eq (slug_cmp q w.0)) refl) where
  put : (b : Bool) → is_eq (slug_cmp q w.0) ≡ b → value_at q (with_setting es w) ≡ cond b (Some w.1) (value_at q es)
  put b e = put_value q w.0 w.1 es ∙ ap (λ c. cond c (Some w.1) (value_at q es)) e

  at : (b : Bool) → is_eq (slug_cmp q w.0) ≡ b → (value_at q (with_setting es w) ≡ Some v) ⊎ IsAmong (q, v) vs
  at true e =
      let key : q ≡ w.0 = one_name q w.0 e in
      inl (put true e ∙ ap Some (one w.1 (inl (λ i. (key i, w.1)))))
  at false e =
      elim is [
        | inl there ↦ inl (put false e ∙ there)
        | inr among ↦
            elim among [
              | inl here ↦ let two : false ≡ true = sym e ∙ own_name q w.0 (ap (λ (s : Setting). s.0) here) in absurd cc
              | inr behind ↦ inr behind
            ]
      ]

record AreSame (vs ws : List Setting) : Type 0 where
  to : (v : Setting) → IsAmong v vs → IsAmong v ws
  back : (v : Setting) → IsAmong v ws → IsAmong v vs
  one : (q : List ℕ) (v w : Tree) → IsAmong (q, v) ws → IsAmong (q, w) ws → v ≡ w

given : (q : List ℕ) (v : Tree) (vs : List Setting) → value_at q (in_order vs) ≡ Some v → IsAmong (q, v) vs
given q v vs is =
    elim (found_among q v [] vs is) [
      | inl none ↦ absurd (no_value v (value_at q []) none refl)
      | inr among ↦ among
    ]

same_order : (vs ws : List Setting) → AreSame vs ws → in_order vs ≡ in_order ws
same_order vs ws same = same_settings (in_order vs) (in_order ws) (rise_all [] vs rise_none) (rise_all [] ws rise_none) (λ q. at q (value_at q (in_order vs)) (value_at q (in_order ws)) refl refl) where
  at : (q : List ℕ) (o p : Option Tree) → value_at q (in_order vs) ≡ o → value_at q (in_order ws) ≡ p → value_at q (in_order vs) ≡ value_at q (in_order ws)
  at q (Some v) p e f =
      let there = same.to (q, v) (given q v vs e) in
      e ∙ sym (among_found q v [] ws (λ w is. same.one q w v is there) (inr there))
  at q None None e f = e ∙ sym f
  at q None (Some w) e f =
      let there = given q w ws f in
      absurd (no_value w (value_at q (in_order vs)) (among_found q w [] vs (λ u is. same.one q u w (same.to (q, u) is) there) (inr (same.back (q, w) there))) e)

-- ---- the bindings of the branch's features

in_those : (b : Binding) (bs : List Binding) → IsAmong b bs → is_in (preferences_of bs) b.preference ≡ true
in_those b [] is = absurd is
in_those b (c ∷ bs) is =
    elim is [
      | inl here ↦ or_left (bytes_eq c.preference b.preference) (is_in (preferences_of bs) b.preference) ((bytes_decides c.preference b.preference).1 (ap (λ (d : Binding). d.preference) (sym here)))
      | inr behind ↦ or_right (bytes_eq c.preference b.preference) (is_in (preferences_of bs) b.preference) (in_those b bs behind)
    ]

apart : (b c : Binding) (bs : List Binding) → is_in (preferences_of bs) b.preference ≡ false → IsAmong c bs → b.preference ≡ c.preference → ⊥
apart b c bs new is same = let two : false ≡ true = sym new ∙ ap (is_in (preferences_of bs)) same ∙ in_those c bs is in cc

one_binding : (b c : Binding) (bs : List Binding) → Differ (preferences_of bs) → IsAmong b bs → IsAmong c bs → b.preference ≡ c.preference → b ≡ c
one_binding b c [] differ b_is c_is same = absurd b_is
one_binding b c (d ∷ bs) differ b_is c_is same =
    elim b_is [
      | inl b_here ↦
          elim c_is [
            | inl c_here ↦ b_here ∙ sym c_here
            | inr c_behind ↦ absurd (apart d c bs differ.0 c_behind (ap (λ (e : Binding). e.preference) (sym b_here) ∙ same))
          ]
      | inr b_behind ↦
          elim c_is [
            | inl c_here ↦ absurd (apart d b bs differ.0 b_behind (ap (λ (e : Binding). e.preference) (sym c_here) ∙ sym same))
            | inr c_behind ↦ one_binding b c bs differ.1 b_behind c_behind same
          ]
    ]

abbrev IsFound : List ℕ → FeatureValue → List FeatureValue → Type 0
IsFound feature f fs = IsAmong f fs × (bytes_eq f.feature feature ≡ true)

found_if : (b : Bool) (feature : List ℕ) (f g : FeatureValue) (fs : List FeatureValue) → bytes_eq g.feature feature ≡ b → (find (λ h. bytes_eq h.feature feature) fs ≡ Some f → IsFound feature f fs)
    → cond b (Some g) (find (λ h. bytes_eq h.feature feature) fs) ≡ Some f → IsFound feature f (g ∷ fs)
found_if true feature f g fs e rest is =
    let same : f ≡ g = cc in
    (inl same, ap (λ (h : FeatureValue). bytes_eq h.feature feature) same ∙ e)
found_if false feature f g fs e rest is = let behind = rest is in (inr behind.0, behind.1)

found_feature : (feature : List ℕ) (f : FeatureValue) (fs : List FeatureValue) → find (λ g. bytes_eq g.feature feature) fs ≡ Some f → IsFound feature f fs
found_feature feature f [] is = absurd cc
found_feature feature f (g ∷ fs) is = found_if (bytes_eq g.feature feature) feature f g fs refl (found_feature feature f fs) is

module _ (m : Manifest) (branch : Branch) where
  abbrev bound_by : Binding → Option Tree → Option Setting
  bound_by b o = option_map (λ v. (b.preference, v)) (option_and_then (λ value. option_and_then (λ field. value_for m field b.variable value) (variable_of b.feature b.variable m)) o)

  -- a binding that is set is one of a feature of the branch
  set_feature : (b : Binding) (v : Setting) → setting_of m branch b ≡ Some v → (f : FeatureValue) × IsAmong f branch.features × (bytes_eq f.feature b.feature ≡ true)
  set_feature b v is = at (find (λ f. bytes_eq f.feature b.feature) branch.features) refl where
    at : (o : Option FeatureValue) → find (λ f. bytes_eq f.feature b.feature) branch.features ≡ o → (f : FeatureValue) × IsAmong f branch.features × (bytes_eq f.feature b.feature ≡ true)
    at None e = let none : None ≡ Some v = sym (ap (λ o. bound_by b (option_map (λ (f : FeatureValue). f.value) o)) e) ∙ is in absurd cc
    at (Some f) e = let there = found_feature b.feature f branch.features e in (f, there.0, there.1)

  own_preference : (b : Binding) (o : Option Tree) (v : Setting) → option_map (λ x. (b.preference, x)) o ≡ Some v → b.preference ≡ v.0
  own_preference b None v is = absurd cc
  own_preference b (Some x) v is = let same : (b.preference, x) ≡ v = cc in ap (λ (s : Setting). s.0) same

  abbrev own : List Binding → FeatureValue → List Binding
  own bs f = of_feature f.feature bs

  one_value : (bs : List Binding) → Differ (preferences_of bs) → (q : List ℕ) (v w : Tree) → IsAmong (q, v) (filter_map (setting_of m branch) bs) → IsAmong (q, w) (filter_map (setting_of m branch) bs) → v ≡ w
  one_value bs differ q v w v_is w_is =
      let b = among_mapped (setting_of m branch) (q, v) bs v_is in
      let c = among_mapped (setting_of m branch) (q, w) bs w_is in
      let same : b.0 ≡ c.0 = one_binding b.0 c.0 bs differ b.1 c.1 (own_preference b.0 (bound_value m branch b.0) (q, v) b.2 ∙ sym (own_preference c.0 (bound_value m branch c.0) (q, w) c.2)) in
      let two : Some (q, v) ≡ Some (q, w) = sym b.2 ∙ ap (setting_of m branch) same ∙ c.2 in
      let both : (q, v) ≡ (q, w) = cc in
      ap (λ (s : Setting). s.1) both

  pub all_looked_up : (bs : List Binding) → Differ (preferences_of bs) → in_order (filter_map (setting_of m branch) (flat_map (own bs) branch.features)) ≡ in_order (filter_map (setting_of m branch) bs)
  all_looked_up bs differ =
      same_order (filter_map (setting_of m branch) (flat_map (own bs) branch.features)) (filter_map (setting_of m branch) bs) (record {
        to = λ v is.
            let b = among_mapped (setting_of m branch) v (flat_map (own bs) branch.features) is in
            mapped_among (setting_of m branch) b.0 v bs b.2 (among_flat (λ c. IsAmong c bs) (own bs) (λ f c there. among_filtered (λ d. bytes_eq d.feature f.feature) c bs there) b.0 branch.features b.1);
        back = λ v is.
            let b = among_mapped (setting_of m branch) v bs is in
            let f = set_feature b.0 v b.2 in
            mapped_among (setting_of m branch) b.0 v (flat_map (own bs) branch.features) b.2
            (flat_among (own bs) f.0 b.0 branch.features f.1 (filtered_among (λ d. bytes_eq d.feature f.0.feature) b.0 bs ((bytes_decides b.0.feature f.0.feature).1 (sym ((bytes_decides f.0.feature b.0.feature).0 f.2))) b.1));
        one = one_value bs differ;
      })
