-- Outboxes that have one list of rows are one.
use Rattle.std.proofs.Common.{◌≡◌, ℕ, ◌+◌, ◌-◌, ◌<◌, ◌≤◌, Bool, true, false, List, [], ◌∷◌, ◌++◌, map, length, refl, sym, ap, ap₂, ◌∙◌, arith}
use Rattle.std.specs.Prelude.{nat_lt, if◌then◌else◌}
use Rattle.std.proofs.lemmas.Bool.{ltb-true, ltb-false}
use Rattle.std.proofs.lemmas.List.{length-map}
use Rattle.row_batches.specs.declared.store_row.StoreRow.{StoreRow}
use Rattle.row_batches.proofs.Fields.{front_same, rest_same}
use Rattle.change_outbox.specs.declared.change.Change.{Change}
use Rattle.change_outbox.specs.declared.change.ChangeKind.{ChangeKind}
use Rattle.change_outbox.specs.declared.change.ChangeKind.TheVariants.{Join, Leave}
use Rattle.change_outbox.specs.Contents.{Contents, AreNumberedFrom, IsNumbered, last_number}
use Rattle.change_outbox.specs.Rows.{kind_letter, change_text, change_row, next_row, rows_of}
use Rattle.change_outbox.specs.Laws.{HasOneListOfRows}
use Rattle.change_outbox.proofs.ByteOrder.{same_numbers}
use Rattle.change_outbox.proofs.Numbers.{from}

-- ---- the value of a change's row

same_kind : (k l : ChangeKind) → kind_letter k ≡ kind_letter l → k ≡ l
same_kind Join Join same = refl
same_kind Join Leave same = absurd (omega (arith, same))
same_kind Leave Join same = absurd (omega (arith, same))
same_kind Leave Leave same = refl

pub record IsSameText (k l : ChangeKind) (slug other_slug branch other_branch : List ℕ) : Type 0 where
  pub kind : k ≡ l
  pub slug_is : slug ≡ other_slug
  pub branch_is : branch ≡ other_branch

pub same_text : (k l : ChangeKind) (s t a b : List ℕ) → change_text k s a ≡ change_text l t b → IsSameText k l s t a b
same_text k l s t a b same =
    let kinds : kind_letter k ≡ kind_letter l = cc in
    let lens : length s ≡ length t = cc in
    let texts : s ++ a ≡ t ++ b = cc in
    record { kind = same_kind k l kinds; slug_is = front_same s t a b lens texts; branch_is = rest_same s t a b lens texts }

pub text_of_parts : (k l : ChangeKind) (s t a b : List ℕ) → k ≡ l → s ≡ t → a ≡ b → change_text k s a ≡ change_text l t b
text_of_parts k l s t a b kinds slugs branches = λ i. change_text (kinds i) (slugs i) (branches i)

same_change : (c d : Change) → c.number ≡ d.number → change_row c ≡ change_row d → c ≡ d
same_change c d numbers rows =
    let same = same_text c.kind d.kind c.slug d.slug c.branch d.branch (ap (λ (r : StoreRow). r.value) rows) in
    (λ i. record { number = numbers i; slug = same.slug_is i; kind = same.kind i; branch = same.branch_is i })

same_changes : (n : ℕ) (xs ys : List Change) → AreNumberedFrom n xs → AreNumberedFrom n ys → map change_row xs ≡ map change_row ys → xs ≡ ys
same_changes n [] [] xs_are ys_are same = refl
same_changes n [] (y ∷ ys) xs_are ys_are same = absurd cc
same_changes n (x ∷ xs) [] xs_are ys_are same = absurd cc
same_changes n (x ∷ xs) (y ∷ ys) xs_are ys_are same =
    let first : change_row x ≡ change_row y = cc in
    let rest : map change_row xs ≡ map change_row ys = cc in
    ap₂ (λ (c : Change) (cs : List Change). c ∷ cs) (same_change x y (xs_are.0 ∙ sym ys_are.0) first) (same_changes (n + 1) xs ys xs_are.1 ys_are.1 rest)

-- ---- all rows

no_items : {A : Type 0} (xs : List A) → length xs < 1 → xs ≡ []
no_items [] less = refl
no_items (x ∷ xs) less = absurd (omega arith)

abbrev rows_at : Bool → Contents → List StoreRow
rows_at b o = (if b then next_row o.next ∷ [] else []) ++ map change_row o.entries

-- an outbox whose next number has no row is new
no_rows : (o : Contents) → IsNumbered o → nat_lt 1 o.next ≡ false → o ≡ record { next = 1; entries = [] }
no_rows o is none =
    let most : o.next ≤ 1 = ltb-false 1 o.next none in
    let least : length o.entries < o.next = is.first in
    let next : o.next ≡ 1 = omega (arith, most, least) in
    let entries : o.entries ≡ [] = no_items o.entries (omega (arith, most, least)) in
    (λ i. record { next = next i; entries = entries i })

pub record BeginsWithNext (o : Contents) (first : StoreRow) (rest : List StoreRow) : Type 0 where
  pub above_one : 1 < o.next
  pub first_is : first ≡ next_row o.next
  pub rest_is : rest ≡ map change_row o.entries

begins_at : (b : Bool) (o : Contents) (r : StoreRow) (rs : List StoreRow) → nat_lt 1 o.next ≡ b → IsNumbered o → r ∷ rs ≡ rows_at b o → BeginsWithNext o r rs
begins_at true o r rs e is same =
    let first : r ≡ next_row o.next = cc in
    let rest : rs ≡ map change_row o.entries = cc in
    record { above_one = ltb-true 1 o.next e; first_is = first; rest_is = rest }
begins_at false o r rs e is same =
    let none : map change_row o.entries ≡ [] = ap (λ (p : Contents). map change_row p.entries) (no_rows o is e) in
    absurd cc

-- the first row is that of the next number
pub begins : (o : Contents) (r : StoreRow) (rs : List StoreRow) → IsNumbered o → r ∷ rs ≡ rows_of o → BeginsWithNext o r rs
begins o r rs is same = begins_at (nat_lt 1 o.next) o r rs refl is same

pub same_next : (a b : ℕ) → a ≤ last_number → b ≤ last_number → next_row a ≡ next_row b → a ≡ b
same_next a b a_most b_most same = same_numbers a b (omega (arith, a_most)) (omega (arith, b_most)) (ap (λ (r : StoreRow). r.value) same)

one_at : (b : Bool) (o p : Contents) → nat_lt 1 o.next ≡ b → IsNumbered o → IsNumbered p → rows_at b o ≡ rows_of p → o ≡ p
one_at true o p e o_is p_is same =
    let found = begins p (next_row o.next) (map change_row o.entries) p_is same in
    let next : o.next ≡ p.next = same_next o.next p.next o_is.last p_is.last found.first_is in
    let count : length o.entries ≡ length p.entries = sym (length-map o.entries change_row) ∙ ap length found.rest_is ∙ length-map p.entries change_row in
    let entries = same_changes (o.next - length o.entries) o.entries p.entries o_is.numbers (from (p.next - length p.entries) (o.next - length o.entries) p.entries (sym (ap₂ (λ (m n : ℕ). m - n) next count)) p_is.numbers) found.rest_is in
    (λ i. record { next = next i; entries = entries i })
one_at false o p e o_is p_is same =
    let none = no_rows o o_is e in
    let rows : rows_of p ≡ [] = sym same ∙ ap (λ (q : Contents). map change_row q.entries) none in
    none ∙ sym (new_at (nat_lt 1 p.next) p refl p_is rows)
  where
    new_at : (b : Bool) (q : Contents) → nat_lt 1 q.next ≡ b → IsNumbered q → rows_at b q ≡ [] → q ≡ record { next = 1; entries = [] }
    new_at true q e is rows = absurd cc
    new_at false q e is rows = no_rows q is e

pub one_list : HasOneListOfRows
one_list o p o_is p_is same = one_at (nat_lt 1 o.next) o p refl o_is.numbered p_is.numbered same
