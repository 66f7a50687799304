-- Rows that are those of changes are read as these.
use Rattle.std.proofs.Common.{◌≡◌, ℕ, zero, suc, ◌+◌, ◌^◌, ◌<◌, ◌≤◌, ◌-◌, Err, List, [], ◌∷◌, ◌++◌, map, length, get_or, take, drop, refl, sym, ap, ap₂, ◌∙◌, subst, arith}
use Rattle.std.specs.Prelude.{IsErrOf}
use Rattle.std.proofs.lemmas.List.{length-map, length-take-le, take_all, take_more}
use Rattle.row_batches.specs.declared.store_row.StoreRow.{StoreRow}
use Rattle.change_outbox.specs.declared.change.Change.{Change}
use Rattle.change_outbox.specs.declared.change.ChangeKind.{ChangeKind}
use Rattle.enrol_states.specs.Statuses.{IsSlug}
use Rattle.change_outbox.specs.Contents.{Contents, AreNumberedFrom, IsSound, HasSlugs, HaveSlugs, last_number}
use Rattle.change_outbox.specs.Rows.{number_text, change_row, change_text, next_row, rows_of}
use Rattle.change_outbox.proofs.ByteOrder.{same_numbers}
use Rattle.change_outbox.proofs.Numbers.{numbered_append}
use Rattle.change_outbox.proofs.OneList.{same_text, same_next, begins}

-- an error that is another's
pub err_of : {A B E : Type 0} (x y : E) → IsErrOf {T = A} {E = E} (Err x) y → IsErrOf {T = B} {E = E} (Err x) y
err_of x y is = let same : x ≡ y = cc in ap (λ z. Err z) same

found_at : (first : ℕ) (cs : List Change) (i : ℕ) (row : StoreRow) → i < length cs → row ≡ get_or (map change_row cs) i row → AreNumberedFrom first cs → HaveSlugs cs
    → ((c : Change) → c.number ≡ first + i → HasSlugs c → row ≡ change_row c → ⊥) → ⊥
found_at first [] i row within is numbers slugs none = omega arith
found_at first (c ∷ cs) zero row within is numbers slugs none = none c (numbers.0 ∙ omega arith) slugs.0 is
found_at first (c ∷ cs) (suc i) row within is numbers slugs none = found_at (first + 1) cs i row (omega arith) is numbers.1 slugs.1 (λ d n s r. none d (n ∙ omega arith) s r)

-- a row that is no change's is none of these
pub none_at : (first number : ℕ) (cs : List Change) (rows : List StoreRow) (i : ℕ) (row : StoreRow) → i < length rows → row ≡ get_or rows i row → number ≡ first + i
    → ((c : Change) → c.number ≡ number → HasSlugs c → row ≡ change_row c → ⊥) → AreNumberedFrom first cs → HaveSlugs cs → rows ≡ map change_row cs → ⊥
none_at first number cs rows i row within is at none numbers slugs same =
    let count : length rows ≡ length cs = ap length same ∙ length-map cs change_row in
    found_at first cs i row (omega (arith, count)) (is ∙ ap (λ (l : List StoreRow). get_or l i row) same) numbers slugs (λ c n s r. none c (n ∙ sym at) s r)

-- ---- one change more

slugs_append : (cs : List Change) (c : Change) → HaveSlugs cs → HasSlugs c → HaveSlugs (cs ++ c ∷ [])
slugs_append [] c slugs has = (has, tt)
slugs_append (d ∷ cs) c slugs has = (slugs.0, slugs_append cs c slugs.1 has)

rows_append : (cs : List Change) (c : Change) → map change_row (cs ++ c ∷ []) ≡ map change_row cs ++ change_row c ∷ []
rows_append [] c = refl
rows_append (d ∷ cs) c = ap (λ (l : List StoreRow). change_row d ∷ l) (rows_append cs c)

module _ (rows : List StoreRow) (i : ℕ) (row : StoreRow) (before after : List Change) (c : Change) (within : i < length rows) (so_far : map change_row before ≡ take i rows) (grows : after ≡ before ++ c ∷ []) where
  pub rows_more : row ≡ get_or rows i row → row ≡ change_row c → map change_row after ≡ take (i + 1) rows
  rows_more is row_is = ap (map change_row) grows ∙ rows_append before c ∙ ap₂ (λ (l : List StoreRow) (r : StoreRow). l ++ r ∷ []) so_far (sym row_is ∙ is) ∙ sym (take_more rows i row within)

  pub numbers_more : (first number : ℕ) → number ≡ first + i → AreNumberedFrom first before → c.number ≡ number → AreNumberedFrom first after
  numbers_more first number at numbers is =
      let count : length before ≡ i = sym (length-map before change_row) ∙ ap length so_far ∙ length-take-le i rows (omega arith) in
      let next : c.number ≡ first + length before = is ∙ at ∙ ap (λ n. first + n) (sym count) in
      subst (λ (cs : List Change). AreNumberedFrom first cs) (sym grows) (numbered_append first before (c ∷ []) numbers (next, tt))

  pub slugs_more : HaveSlugs before → HasSlugs c → HaveSlugs after
  slugs_more slugs has = subst (λ (cs : List Change). HaveSlugs cs) (sym grows) (slugs_append before c slugs has)

-- the parts of the value of a change's row are the change's
pub parts_have_slugs : (bytes : List ℕ) (row : StoreRow) (kind : ChangeKind) (slug branch : List ℕ) (c : Change) → bytes ≡ row.value → bytes ≡ change_text kind slug branch → HasSlugs c → row ≡ change_row c
    → IsSlug slug × IsSlug branch
parts_have_slugs bytes row kind slug branch c value text has is =
    let same = same_text kind c.kind slug c.slug branch c.branch (sym text ∙ value ∙ ap (λ (r : StoreRow). r.value) is) in
    (subst IsSlug (sym same.slug_is) has.slug, subst IsSlug (sym same.branch_is) has.branch)

-- the number of the next row is the one that it encodes
pub read_next : (bytes : List ℕ) (row : StoreRow) (number next : ℕ) → bytes ≡ row.value → bytes ≡ number_text number → number < 2 ^ 64 → next ≤ last_number → row ≡ next_row next → number ≡ next
read_next bytes row number next value text fits most is = same_numbers number next fits (omega (arith, most)) (sym text ∙ value ∙ ap (λ (r : StoreRow). r.value) is)

-- rows that begin with a next number are no outbox's where the rest aren't the changes up to it
pub no_entries : (rows : List StoreRow) (first : StoreRow) (next : ℕ) (o : Contents) → 0 < length rows → first ≡ get_or rows 0 first → first ≡ next_row next → next ≤ last_number
    → ((changes : List Change) → length changes < next → AreNumberedFrom (next - length changes) changes → HaveSlugs changes → take (length rows - 1) (drop 1 rows) ≡ map change_row changes → ⊥)
    → IsSound o → rows ≡ rows_of o → ⊥
no_entries [] first next o some is first_is most none sound same = omega arith
no_entries (r ∷ rs) first next o some is first_is most none sound same =
    let found = begins o r rs sound.numbered same in
    let next_is : o.next ≡ next = same_next o.next next sound.numbered.last most (sym found.first_is ∙ sym is ∙ first_is) in
    let rest : take (suc (length rs) - 1) rs ≡ rs = take_all (suc (length rs) - 1) rs (omega arith) in
    none o.entries (subst (λ n. length o.entries < n) next_is sound.numbered.first) (subst (λ n. AreNumberedFrom (n - length o.entries) o.entries) next_is sound.numbered.numbers) sound.slugs
    (rest ∙ found.rest_is)
