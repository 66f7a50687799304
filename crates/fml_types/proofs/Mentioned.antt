-- The lists of the objects that mention each object, one object more at a time.
use Rattle.std.proofs.Common.{◌≡◌, ℕ, zero, suc, ◌+◌, ◌<◌, ◌≤◌, List, [], ◌∷◌, ◌++◌, length, get_or, Option, Some, None, inl, inr, refl, sym, ap, ◌∙◌, subst, arith}
use Rattle.std.proofs.lemmas.Bool.{cases_lt, cases_eq}
use Rattle.std.proofs.lemmas.List.{length-set, get_or-set_same, get_or-set_other}
use Rattle.std.proofs.lemmas.List.Elements.{Contains-append_left, Contains-push, Contains-push_cases}
use Rattle.std.specs.List.{Contains}
use Rattle.std.specs.Prelude.{◌⊎◌}
use Rattle.fml_types.specs.Ground.{parts_at}
use Rattle.fml_types.specs.Reach.{Mentions, row, added, entered_one, entered}
use Rattle.fml_types.specs.declared.graph.Part.{Part}
use Rattle.fml_types.proofs.Reaching.{mentions_now, mentions_later, mentions_cases}
use Rattle.fml_types.proofs.Rounds.{parts_past}

row_past : (rows : List (List ℕ)) (j : ℕ) → length rows ≤ j → row rows j ≡ []
row_past [] j h = refl
row_past (r ∷ rs) zero h = absurd (omega arith)
row_past (r ∷ rs) (suc j) h = row_past rs j (omega arith)

none_past : (rows : List (List ℕ)) (j x : ℕ) → length rows ≤ j → Contains (row rows j) x → ⊥
none_past rows j x h c =
    let here : Contains [] x = subst (λ (l : List ℕ). Contains l x) (row_past rows j h) c in
    omega (arith, here.1)

added_kept : (rows : List (List ℕ)) (j i k x : ℕ) → Contains (row rows k) x → Contains (row (added rows j i) k) x
added_kept rows j i k x c =
    elim (cases_eq k j) [
      | inl same ↦ elim (cases_lt k (length rows)) [
        | inl within ↦
            let grown : Contains (row rows k ++ i ∷ []) x = Contains-append_left (row rows k) (i ∷ []) x c in
            subst (λ (m : ℕ). Contains (row (added rows m i) k) x) same (subst (λ (l : List ℕ). Contains l x) (sym (get_or-set_same rows k (row rows k ++ i ∷ []) [] within)) grown)
        | inr beyond ↦ absurd (none_past rows k x beyond c)
      ]
      | inr other ↦ subst (λ (l : List ℕ). Contains l x) (sym (get_or-set_other rows j k (row rows j ++ i ∷ []) [] other)) c
    ]

added_there : (rows : List (List ℕ)) (j i : ℕ) → j < length rows → Contains (row (added rows j i) j) i
added_there rows j i within = subst (λ (l : List ℕ). Contains l i) (sym (get_or-set_same rows j (row rows j ++ i ∷ []) [] within)) (Contains-push (row rows j) i)

added_only : (rows : List (List ℕ)) (j i k x : ℕ) → Contains (row (added rows j i) k) x → Contains (row rows k) x ⊎ ((x ≡ i) × (j ≡ k))
added_only rows j i k x c =
    elim (cases_eq k j) [
      | inl same ↦ elim (cases_lt k (length rows)) [
        | inl within ↦
            let moved : Contains (row (added rows k i) k) x = subst (λ (m : ℕ). Contains (row (added rows m i) k) x) (sym same) c in
            let grown : Contains (row rows k ++ i ∷ []) x = subst (λ (l : List ℕ). Contains l x) (get_or-set_same rows k (row rows k ++ i ∷ []) [] within) moved in
            elim (Contains-push_cases (row rows k) i x grown) [ inl old ↦ inl old | inr new ↦ inr (sym new, sym same) ]
        | inr beyond ↦ absurd (none_past (added rows j i) k x (let e = length-set rows j (row rows j ++ i ∷ []) in omega (arith, e, beyond)) c)
      ]
      | inr other ↦ inl (subst (λ (l : List ℕ). Contains l x) (get_or-set_other rows j k (row rows j ++ i ∷ []) [] other) c)
    ]

one_length : (o : Option ℕ) (i : ℕ) (rows : List (List ℕ)) → length (entered_one o i rows) ≡ length rows
one_length None i rows = refl
one_length (Some j) i rows = length-set rows j (row rows j ++ i ∷ [])

one_kept : (o : Option ℕ) (i : ℕ) (rows : List (List ℕ)) (k x : ℕ) → Contains (row rows k) x → Contains (row (entered_one o i rows) k) x
one_kept None i rows k x c = c
one_kept (Some j) i rows k x c = added_kept rows j i k x c

one_there : (o : Option ℕ) (i : ℕ) (rows : List (List ℕ)) (j : ℕ) → o ≡ Some j → j < length rows → Contains (row (entered_one o i rows) j) i
one_there o i rows j e within = subst (λ (m : Option ℕ). Contains (row (entered_one m i rows) j) i) (sym e) (added_there rows j i within)

one_only : (o : Option ℕ) (i : ℕ) (rows : List (List ℕ)) (k x : ℕ) → Contains (row (entered_one o i rows) k) x → Contains (row rows k) x ⊎ ((x ≡ i) × (o ≡ Some k))
one_only None i rows k x c = inl c
one_only (Some j) i rows k x c = elim (added_only rows j i k x c) [ inl old ↦ inl old | inr new ↦ inr (new.0, ap Some new.1) ]

pub entered_length : (ps : List Part) (i : ℕ) (rows : List (List ℕ)) → length (entered ps i rows) ≡ length rows
entered_length [] i rows = refl
entered_length (p ∷ ps) i rows = entered_length ps i (entered_one p.mentions i rows) ∙ one_length p.mentions i rows

entered_kept : (ps : List Part) (i : ℕ) (rows : List (List ℕ)) (k x : ℕ) → Contains (row rows k) x → Contains (row (entered ps i rows) k) x
entered_kept [] i rows k x c = c
entered_kept (p ∷ ps) i rows k x c = entered_kept ps i (entered_one p.mentions i rows) k x (one_kept p.mentions i rows k x c)

entered_all : (ps : List Part) (i : ℕ) (rows : List (List ℕ)) (j : ℕ) → j < length rows → Mentions ps j → Contains (row (entered ps i rows) j) i
entered_all [] i rows j within m = absurd (omega (arith, m.1))
entered_all (p ∷ ps) i rows j within m =
    elim (mentions_cases p ps j m) [
      | inl now ↦ entered_kept ps i (entered_one p.mentions i rows) j i (one_there p.mentions i rows j now within)
      | inr later ↦ entered_all ps i (entered_one p.mentions i rows) j (let e = one_length p.mentions i rows in omega (arith, e, within)) later
    ]

entered_only : (ps : List Part) (i : ℕ) (rows : List (List ℕ)) (k x : ℕ) → Contains (row (entered ps i rows) k) x → Contains (row rows k) x ⊎ ((x ≡ i) × Mentions ps k)
entered_only [] i rows k x c = inl c
entered_only (p ∷ ps) i rows k x c =
    elim (entered_only ps i (entered_one p.mentions i rows) k x c) [
      | inl before ↦ elim (one_only p.mentions i rows k x before) [
        | inl old ↦ inl old
        | inr new ↦ inr (new.0, mentions_now p ps k new.1)
      ]
      | inr later ↦ inr (later.0, mentions_later p ps k later.1)
    ]

-- ---- the loop over the objects

parts_are : (g : List (List Part)) (i : ℕ) (d : List Part) → i < length g → get_or g i d ≡ parts_at g i
parts_are [] i d h = absurd (omega arith)
parts_are (p ∷ ps) zero d h = refl
parts_are (p ∷ ps) (suc i) d h = parts_are ps i d (omega arith)

pub only_next : (g : List (List Part)) (i : ℕ) (d : List Part) (old new : List (List ℕ)) → i < length g → d ≡ get_or g i d → new ≡ entered d i old → ((j k : ℕ) → Contains (row old j) k → Mentions (parts_at g k) j)
    → (j k : ℕ) → Contains (row new j) k → Mentions (parts_at g k) j
only_next g i d old new within is made so_far j k c =
    elim (entered_only d i old j k (subst (λ (rows : List (List ℕ)). Contains (row rows j) k) made c)) [
      | inl before ↦ so_far j k before
      | inr now ↦ subst (λ (m : ℕ). Mentions (parts_at g m) j) (sym now.0) (subst (λ (ps : List Part). Mentions ps j) (is ∙ parts_are g i d within) now.1)
    ]

pub all_next : (g : List (List Part)) (i : ℕ) (d : List Part) (old new : List (List ℕ)) → i < length g → d ≡ get_or g i d → new ≡ entered d i old → length old ≡ length g → ((j k : ℕ) → k < i → j < length g → Mentions (parts_at g k) j → Contains (row old j) k)
    → (j k : ℕ) → k < i + 1 → j < length g → Mentions (parts_at g k) j → Contains (row new j) k
all_next g i d old new within is made count so_far j k low inside m =
    subst (λ (rows : List (List ℕ)). Contains (row rows j) k) (sym made) (elim (cases_lt k i) [
      | inl before ↦ entered_kept d i old j k (so_far j k before inside m)
      | inr last ↦
          let same : i ≡ k = omega arith in
          let here : Mentions d j = subst (λ (ps : List Part). Mentions ps j) (sym (is ∙ parts_are g i d within)) (subst (λ (n : ℕ). Mentions (parts_at g n) j) (sym same) m) in
          subst (λ (n : ℕ). Contains (row (entered d i old) j) n) same (entered_all d i old j (omega (arith, count, inside)) here)
    ])

pub mention_within : (g : List (List Part)) (i j : ℕ) → Mentions (parts_at g i) j → i < length g
mention_within g i j m =
    elim (cases_lt i (length g)) [
      | inl within ↦ within
      | inr beyond ↦ let none : Mentions [] j = subst (λ (ps : List Part). Mentions ps j) (parts_past g i beyond) m in absurd (omega (arith, none.1))
    ]
