-- Members laid over entries, one after the other, while both rise.
use Rattle.std.proofs.Common.{◌≡◌, ℕ, Bool, true, false, List, [], ◌∷◌, ◌++◌, map, Option, Some, None, Less, Equal, Greater, refl, sym, ap, ◌∙◌, subst, append_assoc}
use Rattle.std.proofs.lemmas.List.{append-nil}
use Rattle.std.specs.Prelude.{◌||◌, bytes_eq, unwrap_or, if◌then◌else◌}
use Rattle.std.specs.Cmp.Lexicographic.{slice_cmp, nat_list_cmp_total, texts_ties, bytes_decides}
use Rattle.std.specs.Ordering.{nat_cmp, ordering_reverse, is_eq, is_lt}
use Rattle.std.specs.declared.cmp.Ordering.{Ordering}
use Rattle.sequences.proofs.Texts.{is_Less, lesser_texts}
use Rattle.json_tree.specs.Json.{Json, Members, no_members, member, members_of, AreSoundMembers}
use Rattle.json_tree.specs.Json as json
use Rattle.fml_types.specs.Named.{IsBelow, AreRising, found, has_name}
use Rattle.fml_types.specs.Shape.{Shape}
use Rattle.fml_types.specs.declared.manifest.TypeTable.{TypeTable}
use Rattle.fml_value.specs.Entries.{beside, with_entry, replaced}
use Rattle.fml_value.specs.Takes.{takes}
use Rattle.fml_value.specs.Typed.{TypedValue}
use Rattle.fml_value.specs.TypedOf.{entry_of}
use Rattle.fml_value.specs.declared.value.Value.{Value}
use Rattle.fml_value.proofs.Ordered.{rising_with, replaced_rising}
use Rattle.fml_merge.specs.Overlay.{laid, members_laid, put, with_member}
use Rattle.fml_merge.specs.Merging.{member_laid, is_below, lower, upper, named, unnamed}

-- ---- how names compare

above_of : (a b : List ℕ) → slice_cmp nat_cmp a b ≡ Less → slice_cmp nat_cmp b a ≡ Greater
above_of a b less = nat_list_cmp_total.antisymm b a ∙ ap ordering_reverse less

not_less : (a b : List ℕ) (o : Ordering) → slice_cmp nat_cmp a b ≡ o → is_lt o ≡ false → is_eq o ≡ false → slice_cmp nat_cmp b a ≡ Less
not_less a b Less e l q = absurd cc
not_less a b Equal e l q = absurd cc
not_less a b Greater e l q = nat_list_cmp_total.antisymm b a ∙ ap ordering_reverse e

-- ---- an entry past which a name goes

with_past : (k : List ℕ) (v : TypedValue) (e : List ℕ × TypedValue) (es : List (List ℕ × TypedValue)) → slice_cmp nat_cmp e.0 k ≡ Less → with_entry k v (e ∷ es) ≡ e ∷ with_entry k v es
with_past k v e es less = ap (λ o. beside o (k, v) e es (with_entry k v es)) (above_of e.0 k less)

found_past : {T : Type 0} (k : List ℕ) (e : List ℕ × T) (es : List (List ℕ × T)) → slice_cmp nat_cmp e.0 k ≡ Less → found k (e ∷ es) ≡ found k es
found_past k e es less = ap (λ b. if b then Some e.1 else found k es) (lesser_texts e.0 k less)

pub found_below : {T : Type 0} (k : List ℕ) (es : List (List ℕ × T)) → IsBelow k es → found k es ≡ None
found_below k [] below = refl
found_below k (e ∷ es) below =
    let other : bytes_eq e.0 k ≡ false = texts_ties e.0 k ∙ ap is_eq (above_of k e.0 below.0) in
    ap (λ b. if b then Some e.1 else found k es) other ∙ found_below k es below.1

with_below : (k : List ℕ) (v : TypedValue) (es : List (List ℕ × TypedValue)) → IsBelow k es → with_entry k v es ≡ (k, v) ∷ es
with_below k v [] below = refl
with_below k v (e ∷ es) below = ap (λ o. beside o (k, v) e es (with_entry k v es)) below.0

pub below_through : {T : Type 0} (a b : List ℕ) (es : List (List ℕ × T)) → slice_cmp nat_cmp a b ≡ Less → IsBelow b es → IsBelow a es
below_through a b [] less below = tt
below_through a b (e ∷ es) less below = (nat_list_cmp_total.trans a b e.0 less below.0, below_through a b es less below.1)

has_past : {T : Type 0} (k : List ℕ) (e : List ℕ × T) (es : List (List ℕ × T)) → bytes_eq e.0 k ≡ false → has_name k (e ∷ es) ≡ has_name k es
has_past k e es other = ap (λ b. b || has_name k es) other

none_below : {T : Type 0} (k : List ℕ) (es : List (List ℕ × T)) → IsBelow k es → has_name k es ≡ false
none_below k [] below = refl
none_below k (e ∷ es) below = has_past k e es (texts_ties e.0 k ∙ ap is_eq (above_of k e.0 below.0)) ∙ none_below k es below.1

put_past : (k : List ℕ) (v : TypedValue) (e : List ℕ × TypedValue) (es : List (List ℕ × TypedValue)) → slice_cmp nat_cmp e.0 k ≡ Less → put k v (e ∷ es) ≡ e ∷ put k v es
put_past k v e es less =
    ap (λ b. if b then replaced k v (e ∷ es) else with_entry k v (e ∷ es)) (has_past k e es (lesser_texts e.0 k less))
    ∙ elim (has_name k es) as (λ b. (if b then replaced k v (e ∷ es) else with_entry k v (e ∷ es)) ≡ e ∷ (if b then replaced k v es else with_entry k v es)) [
      | true ↦ ap (λ b. if b then (k, v) ∷ es else e ∷ replaced k v es) (lesser_texts e.0 k less)
      | false ↦ with_past k v e es less
    ]

pub put_at : (k : List ℕ) (v : TypedValue) (e : List ℕ × TypedValue) (es : List (List ℕ × TypedValue)) → bytes_eq e.0 k ≡ true → put k v (e ∷ es) ≡ (k, v) ∷ es
put_at k v e es same = ap (λ b. if (b || has_name k es) then (if b then (k, v) ∷ es else e ∷ replaced k v es) else with_entry k v (e ∷ es)) same

put_below : (k : List ℕ) (v : TypedValue) (es : List (List ℕ × TypedValue)) → IsBelow k es → put k v es ≡ (k, v) ∷ es
put_below k v es below = ap (λ b. if b then replaced k v es else with_entry k v es) (none_below k es below) ∙ with_below k v es below

pub put_rising : (k : List ℕ) (v : TypedValue) (es : List (List ℕ × TypedValue)) → AreRising es → AreRising (put k v es)
put_rising k v es rising = elim (has_name k es) as (λ b. AreRising (if b then replaced k v es else with_entry k v es)) [ true ↦ replaced_rising k v es rising | false ↦ rising_with k v es rising ]

-- names that all are one, or below another
abbrev AllAre : List ℕ → List (List ℕ × TypedValue) → Type 0
AllAre k [] = Unit {0}
AllAre k (e ∷ es) = (e.0 ≡ k) × AllAre k es

abbrev AllBelow : List (List ℕ × TypedValue) → Members → Type 0
AllBelow [] ms = Unit {0}
AllBelow (e ∷ es) ms = json.IsBelow e.0 ms × AllBelow es ms

below_members : (a k : List ℕ) (ms : Members) → slice_cmp nat_cmp a k ≡ Less → json.IsBelow k ms → json.IsBelow a ms
below_members a k no_members less below = tt
below_members a k (member l x ms) less below = (nat_list_cmp_total.trans a k l less below.0, below_members a k ms less below.1)

lower_below : (k : List ℕ) (es : List (List ℕ × TypedValue)) (ms : Members) → json.IsBelow k ms → AllBelow (lower k es) ms
lower_below k [] ms below = tt
lower_below k (e ∷ es) ms below =
    elim (is_lt (slice_cmp nat_cmp e.0 k)) as (λ b. is_lt (slice_cmp nat_cmp e.0 k) ≡ b → AllBelow (if b then e ∷ lower k es else []) ms) [
      | true ↦ λ less. (below_members e.0 k ms (is_Less _ less) below, lower_below k es ms below)
      | false ↦ λ less. tt
    ] refl

all_below : (k : List ℕ) (es : List (List ℕ × TypedValue)) (ms : Members) → AllAre k es → json.IsBelow k ms → AllBelow es ms
all_below k [] ms same below = tt
all_below k (e ∷ es) ms same below = (subst (λ n. json.IsBelow n ms) (sym same.0) below, all_below k es ms same.1 below)

both_below : (es fs : List (List ℕ × TypedValue)) (ms : Members) → AllBelow es ms → AllBelow fs ms → AllBelow (es ++ fs) ms
both_below [] fs ms h i = i
both_below (e ∷ es) fs ms h i = (h.0, both_below es fs ms h.1 i)

module _ (zeros : Shape → TypedValue) (types : TypeTable) (type_of : List ℕ → Option Shape) where
  -- ---- one member

  module _ (k : List ℕ) (taken : Shape → Bool) (lay : Shape → TypedValue → TypedValue) where
    with_member_past : (o : Option Shape) (e : List ℕ × TypedValue) (es : List (List ℕ × TypedValue)) → slice_cmp nat_cmp e.0 k ≡ Less → with_member zeros taken lay k o (e ∷ es) ≡ e ∷ with_member zeros taken lay k o es
    with_member_past None e es less = refl
    with_member_past (Some t) e es less =
        elim (taken t) as (λ b. (if b then put k (lay t (unwrap_or (found k (e ∷ es)) (zeros t))) (e ∷ es) else e ∷ es) ≡ e ∷ (if b then put k (lay t (unwrap_or (found k es) (zeros t))) es else es)) [
          | true ↦ ap (λ o. put k (lay t (unwrap_or o (zeros t))) (e ∷ es)) (found_past k e es less) ∙ put_past k (lay t (unwrap_or (found k es) (zeros t))) e es less
          | false ↦ refl
        ]

    with_member_lower : (o : Option Shape) (es : List (List ℕ × TypedValue)) → with_member zeros taken lay k o es ≡ lower k es ++ with_member zeros taken lay k o (upper k es)
    with_member_lower o [] = refl
    with_member_lower o (e ∷ es) =
        elim (is_lt (slice_cmp nat_cmp e.0 k)) as (λ b. is_lt (slice_cmp nat_cmp e.0 k) ≡ b → with_member zeros taken lay k o (e ∷ es) ≡ (if b then e ∷ lower k es else []) ++ with_member zeros taken lay k o (if b then upper k es else e ∷ es)) [
          | true ↦ λ less. with_member_past o e es (is_Less _ less) ∙ ap (λ l. e ∷ l) (with_member_lower o es)
          | false ↦ λ less. refl
        ] refl

    -- at the entry of the name
    with_member_at : (o : Option Shape) (e : List ℕ × TypedValue) (es : List (List ℕ × TypedValue)) → bytes_eq e.0 k ≡ true → with_member zeros taken lay k o (e ∷ es) ≡ with_member zeros taken lay k o (e ∷ []) ++ es
    with_member_at None e es same = refl
    with_member_at (Some t) e es same =
        let here : (fs : List (List ℕ × TypedValue)) → found k (e ∷ fs) ≡ Some e.1 = λ fs. ap (λ b. if b then Some e.1 else found k fs) same in
        let value : (fs : List (List ℕ × TypedValue)) → put k (lay t (unwrap_or (found k (e ∷ fs)) (zeros t))) (e ∷ fs) ≡ (k, lay t e.1) ∷ fs = λ fs. ap (λ o. put k (lay t (unwrap_or o (zeros t))) (e ∷ fs)) (here fs) ∙ put_at k (lay t e.1) e fs same in
        elim (taken t) as (λ b. (if b then put k (lay t (unwrap_or (found k (e ∷ es)) (zeros t))) (e ∷ es) else e ∷ es) ≡ (if b then put k (lay t (unwrap_or (found k (e ∷ [])) (zeros t))) (e ∷ []) else e ∷ []) ++ es) [
          | true ↦ value es ∙ sym (ap (λ l. l ++ es) (value []))
          | false ↦ refl
        ]

    -- before all entries
    with_member_before : (o : Option Shape) (es : List (List ℕ × TypedValue)) → IsBelow k es → with_member zeros taken lay k o es ≡ with_member zeros taken lay k o [] ++ es
    with_member_before None es below = refl
    with_member_before (Some t) es below =
        elim (taken t) as (λ b. (if b then put k (lay t (unwrap_or (found k es) (zeros t))) es else es) ≡ (if b then put k (lay t (unwrap_or (found k []) (zeros t))) [] else []) ++ es) [
          | true ↦ ap (λ o. put k (lay t (unwrap_or o (zeros t))) es) (found_below k es below) ∙ put_below k (lay t (zeros t)) es below
          | false ↦ refl
        ]

    with_member_named : (o : Option Shape) (es : List (List ℕ × TypedValue)) → AreRising es → is_below k es ≡ false → with_member zeros taken lay k o es ≡ with_member zeros taken lay k o (named k es) ++ unnamed k es
    with_member_named o [] rising off = sym (append-nil (with_member zeros taken lay k o []))
    with_member_named o (e ∷ es) rising off =
        elim (bytes_eq e.0 k) as (λ b. bytes_eq e.0 k ≡ b → with_member zeros taken lay k o (e ∷ es) ≡ with_member zeros taken lay k o (if b then e ∷ [] else []) ++ (if b then es else e ∷ es)) [
          | true ↦ λ same. with_member_at o e es same
          | false ↦ λ other. (let less = not_less e.0 k _ refl off (sym (texts_ties e.0 k) ∙ other) in with_member_before o (e ∷ es) (less, below_through k e.0 es less rising.0))
        ] refl

    -- what has the name keeps it
    with_member_same : (o : Option Shape) (es : List (List ℕ × TypedValue)) → AllAre k (with_member zeros taken lay k o (named k es))
    with_member_same o [] = none o
      where
        none : (o : Option Shape) → AllAre k (with_member zeros taken lay k o [])
        none None = tt
        none (Some t) = elim (taken t) as (λ b. AllAre k (if b then put k (lay t (zeros t)) [] else [])) [ true ↦ (refl, tt) | false ↦ tt ]
    with_member_same o (e ∷ es) = one (bytes_eq e.0 k) refl o
      where
        at_name : bytes_eq e.0 k ≡ true → (v : TypedValue) → AllAre k (put k v (e ∷ []))
        at_name same v = subst (AllAre k) (sym (put_at k v e [] same)) (refl, tt)

        one : (b : Bool) → bytes_eq e.0 k ≡ b → (o : Option Shape) → AllAre k (with_member zeros taken lay k o (if b then e ∷ [] else []))
        one true same None = ((bytes_decides e.0 k).0 same, tt)
        one true same (Some t) = elim (taken t) as (λ b. AllAre k (if b then put k (lay t (unwrap_or (found k (e ∷ [])) (zeros t))) (e ∷ []) else e ∷ [])) [ true ↦ at_name same (lay t (unwrap_or (found k (e ∷ [])) (zeros t))) | false ↦ ((bytes_decides e.0 k).0 same, tt) ]
        one false other None = tt
        one false other (Some t) = elim (taken t) as (λ b. AllAre k (if b then put k (lay t (zeros t)) [] else [])) [ true ↦ (refl, tt) | false ↦ tt ]

    pub with_member_rising : (o : Option Shape) (es : List (List ℕ × TypedValue)) → AreRising es → AreRising (with_member zeros taken lay k o es)
    with_member_rising None es rising = rising
    with_member_rising (Some t) es rising =
        elim (taken t) as (λ b. AreRising (if b then put k (lay t (unwrap_or (found k es) (zeros t))) es else es)) [ true ↦ put_rising k (lay t (unwrap_or (found k es) (zeros t))) es rising | false ↦ rising ]

  -- ---- all members

  laid_past : (e : List ℕ × TypedValue) (es : List (List ℕ × TypedValue)) (ms : Members) → json.IsBelow e.0 ms → members_laid zeros types type_of (e ∷ es) ms ≡ e ∷ members_laid zeros types type_of es ms
  laid_past e es no_members below = refl
  laid_past e es (member k x ms) below =
      ap (λ fs. members_laid zeros types type_of fs ms) (with_member_past k (λ t. takes types t x) (λ t v. laid zeros types t v x) (type_of k) e es below.0)
      ∙ laid_past e (member_laid zeros types type_of k x es) ms below.1

  laid_after : (front es : List (List ℕ × TypedValue)) (ms : Members) → AllBelow front ms → members_laid zeros types type_of (front ++ es) ms ≡ front ++ members_laid zeros types type_of es ms
  laid_after [] es ms below = refl
  laid_after (e ∷ front) es ms below = laid_past e (front ++ es) ms below.0 ∙ ap (λ l. e ∷ l) (laid_after front es ms below.1)

  not_below_upper : (k : List ℕ) (es : List (List ℕ × TypedValue)) → is_below k (upper k es) ≡ false
  not_below_upper k [] = refl
  not_below_upper k (e ∷ es) =
      elim (is_lt (slice_cmp nat_cmp e.0 k)) as (λ b. is_lt (slice_cmp nat_cmp e.0 k) ≡ b → is_below k (if b then upper k es else e ∷ es) ≡ false) [
        | true ↦ λ less. not_below_upper k es
        | false ↦ λ less. less
      ] refl

  upper_rising : (k : List ℕ) (es : List (List ℕ × TypedValue)) → AreRising es → AreRising (upper k es)
  upper_rising k [] rising = tt
  upper_rising k (e ∷ es) rising =
      elim (is_lt (slice_cmp nat_cmp e.0 k)) as (λ b. AreRising (if b then upper k es else e ∷ es)) [ true ↦ upper_rising k es rising.1 | false ↦ rising ]

  unnamed_rising : (k : List ℕ) (es : List (List ℕ × TypedValue)) → AreRising es → AreRising (unnamed k es)
  unnamed_rising k [] rising = tt
  unnamed_rising k (e ∷ es) rising = elim (bytes_eq e.0 k) as (λ b. AreRising (if b then es else e ∷ es)) [ true ↦ rising.1 | false ↦ rising ]

  -- the entries below a name, what is laid over the entry of the name, and the others
  pub one_run : (k : List ℕ) (taken : Shape → Bool) (lay : Shape → TypedValue → TypedValue) (es : List (List ℕ × TypedValue)) (ms : Members) → AreRising es → json.IsBelow k ms
      → members_laid zeros types type_of (with_member zeros taken lay k (type_of k) es) ms ≡ (lower k es ++ with_member zeros taken lay k (type_of k) (named k (upper k es))) ++ members_laid zeros types type_of (unnamed k (upper k es)) ms
  one_run k taken lay es ms rising below =
      let up = upper k es in
      let laid_over = with_member zeros taken lay k (type_of k) in
      let parts : laid_over es ≡ (lower k es ++ laid_over (named k up)) ++ unnamed k up =
      with_member_lower k taken lay (type_of k) es ∙ ap (λ l. lower k es ++ l) (with_member_named k taken lay (type_of k) up (upper_rising k es rising) (not_below_upper k es))
      ∙ sym (append_assoc (lower k es) (laid_over (named k up)) (unnamed k up)) in
      ap (λ fs. members_laid zeros types type_of fs ms) parts
      ∙ laid_after (lower k es ++ laid_over (named k up)) (unnamed k up) ms (both_below (lower k es) (laid_over (named k up)) ms (lower_below k es ms below) (all_below k _ ms (with_member_same k taken lay (type_of k) up) below))

  pub laid_rising : (es : List (List ℕ × TypedValue)) (ms : Members) → AreRising es → AreRising (members_laid zeros types type_of es ms)
  laid_rising es no_members rising = rising
  laid_rising es (member k x ms) rising = laid_rising (member_laid zeros types type_of k x es) ms (with_member_rising k (λ t. takes types t x) (λ t v. laid zeros types t v x) (type_of k) es rising)

  pub left_rising : (k : List ℕ) (es : List (List ℕ × TypedValue)) → AreRising es → AreRising (unnamed k (upper k es))
  left_rising k es rising = unnamed_rising k (upper k es) (upper_rising k es rising)

-- ---- values of the program

pub lower-map : (k : List ℕ) (ps : List (List ℕ × Value)) → map entry_of (lower k ps) ≡ lower k (map entry_of ps)
lower-map k [] = refl
lower-map k (p ∷ ps) = elim (is_lt (slice_cmp nat_cmp p.0 k)) as (λ b. map entry_of (if b then p ∷ lower k ps else []) ≡ (if b then entry_of p ∷ lower k (map entry_of ps) else [])) [ true ↦ ap (λ l. entry_of p ∷ l) (lower-map k ps) | false ↦ refl ]

pub upper-map : (k : List ℕ) (ps : List (List ℕ × Value)) → map entry_of (upper k ps) ≡ upper k (map entry_of ps)
upper-map k [] = refl
upper-map k (p ∷ ps) = elim (is_lt (slice_cmp nat_cmp p.0 k)) as (λ b. map entry_of (if b then upper k ps else p ∷ ps) ≡ (if b then upper k (map entry_of ps) else entry_of p ∷ map entry_of ps)) [ true ↦ upper-map k ps | false ↦ refl ]

pub named-map : (k : List ℕ) (ps : List (List ℕ × Value)) → map entry_of (named k ps) ≡ named k (map entry_of ps)
named-map k [] = refl
named-map k (p ∷ ps) = elim (bytes_eq p.0 k) as (λ b. map entry_of (if b then p ∷ [] else []) ≡ (if b then entry_of p ∷ [] else [])) [ true ↦ refl | false ↦ refl ]

pub unnamed-map : (k : List ℕ) (ps : List (List ℕ × Value)) → map entry_of (unnamed k ps) ≡ unnamed k (map entry_of ps)
unnamed-map k [] = refl
unnamed-map k (p ∷ ps) = elim (bytes_eq p.0 k) as (λ b. map entry_of (if b then ps else p ∷ ps) ≡ (if b then map entry_of ps else entry_of p ∷ map entry_of ps)) [ true ↦ refl | false ↦ refl ]

pub map_join : (xs ys : List (List ℕ × Value)) → map entry_of (xs ++ ys) ≡ map entry_of xs ++ map entry_of ys
map_join [] ys = refl
map_join (x ∷ xs) ys = ap (λ l. entry_of x ∷ l) (map_join xs ys)
