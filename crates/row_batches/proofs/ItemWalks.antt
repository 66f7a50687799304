-- The rows of items, and the steps of a walk over two lists of them.
use Rattle.std.proofs.Common.{Less, Equal, Greater, ◌≡◌, ◌≢◌, ◌+◌, ◌<◌, ◌≤◌, ◌++◌, ◌∷◌, [], List, ℕ, Bool, true, false, All, map, length, get_or, take, refl, sym, ap, ap₂, ◌∙◌, append_assoc}
use Rattle.std.specs.Prelude.{if◌then◌else◌}
use Rattle.std.specs.List.{AllByRecursion}
use Rattle.std.specs.Cmp.Lexicographic.{bytes_decides}
use Rattle.std.proofs.lemmas.List.{map-append, take_all, take_more}
use Rattle.std.proofs.lemmas.List.Elements.{All-cons, All-from_recursion, All-nil}
use Rattle.sequences.proofs.Texts.{other_bytes}
use Rattle.row_batches.specs.Between.{changes_between}
use Rattle.row_batches.specs.ItemRows.{IsFirst, item_row, item_rows}
use Rattle.row_batches.specs.Rows.{key_cmp}
use Rattle.row_batches.specs.declared.change.RowChange.{RowChange}
use Rattle.row_batches.specs.declared.change.RowChange.TheVariants.{Put, Delete}
use Rattle.row_batches.specs.declared.store_row.StoreRow.{StoreRow}
use Rattle.row_batches.proofs.Turns as turns

-- ---- the rows of items

module _ {A : Type 0} (has : A → Bool) (key value : A → List ℕ) where
  abbrev pub rows : List A → List StoreRow
  rows xs = item_rows has key value xs

  abbrev pub row : A → StoreRow
  row x = item_row key value x

  either_row : (b : Bool) (x : A) (rest others : List StoreRow) → (if b then row x ∷ (rest ++ others) else rest ++ others) ≡ (if b then row x ∷ rest else rest) ++ others
  either_row true x rest others = refl
  either_row false x rest others = refl

  pub rows-append : (xs ys : List A) → rows (xs ++ ys) ≡ rows xs ++ rows ys
  rows-append [] ys = refl
  rows-append (x ∷ xs) ys = ap (λ (l : List StoreRow). if has x then row x ∷ l else l) (rows-append xs ys) ∙ either_row (has x) x (rows xs) (rows ys)

  -- one item more
  pub rows_more : (xs : List A) (i : ℕ) (x : A) → i < length xs → x ≡ get_or xs i x → rows (take (i + 1) xs) ≡ rows (take i xs) ++ rows (x ∷ [])
  rows_more xs i x within is =
      ap rows (take_more xs i x within) ∙ rows-append (take i xs) (get_or xs i x ∷ []) ∙ ap (λ (y : A). rows (take i xs) ++ rows (y ∷ [])) (sym is)

  pub more_rows : (xs : List A) (i : ℕ) (x : A) (old before after : List StoreRow) → i < length xs → x ≡ get_or xs i x
      → before ≡ old ++ rows (take i xs) → after ≡ before ++ rows (x ∷ []) → after ≡ old ++ rows (take (i + 1) xs)
  more_rows xs i x old before after within is so_far grows =
      grows ∙ ap (λ (l : List StoreRow). l ++ rows (x ∷ [])) so_far ∙ append_assoc old (rows (take i xs)) (rows (x ∷ [])) ∙ ap (λ (l : List StoreRow). old ++ l) (sym (rows_more xs i x within is))

  pub all_rows_so_far : (xs : List A) (i : ℕ) (old after : List StoreRow) → length xs ≤ i → after ≡ old ++ rows (take i xs) → after ≡ old ++ rows xs
  all_rows_so_far xs i old after past so_far = so_far ∙ ap (λ (l : List A). old ++ rows l) (take_all i xs past)

  -- what is made of each row in turn
  module _ {B : Type 0} (made : List StoreRow → List B) (made-append : (rs ss : List StoreRow) → made (rs ++ ss) ≡ made rs ++ made ss) where
    pub more_made : (xs : List A) (i : ℕ) (x : A) (old before after : List B) → i < length xs → x ≡ get_or xs i x
        → before ≡ old ++ made (rows (take i xs)) → after ≡ before ++ made (rows (x ∷ [])) → after ≡ old ++ made (rows (take (i + 1) xs))
    more_made xs i x old before after within is so_far grows =
        grows ∙ ap (λ (l : List B). l ++ made (rows (x ∷ []))) so_far ∙ append_assoc old (made (rows (take i xs))) (made (rows (x ∷ [])))
        ∙ ap (λ (l : List B). old ++ l) (sym (ap made (rows_more xs i x within is) ∙ made-append (rows (take i xs)) (rows (x ∷ []))))

    pub all_made : (xs : List A) (i : ℕ) (old after : List B) → length xs ≤ i → after ≡ old ++ made (rows (take i xs)) → after ≡ old ++ made (rows xs)
    all_made xs i old after past so_far = so_far ∙ ap (λ (l : List A). old ++ made (rows l)) (take_all i xs past)

-- rows that have none of no items, and those of each item in turn
pub as_items : {A : Type 0} (has : A → Bool) (key value : A → List ℕ) (listed : List A → List StoreRow) → listed [] ≡ []
    → ((x : A) (xs : List A) → listed (x ∷ xs) ≡ (if has x then item_row key value x ∷ listed xs else listed xs)) → (xs : List A) → listed xs ≡ item_rows has key value xs
as_items has key value listed none each [] = none
as_items has key value listed none each (x ∷ xs) =
    each x xs ∙ ap (λ (l : List StoreRow). if has x then item_row key value x ∷ l else l) (as_items has key value listed none each xs)

-- ---- changes

-- all old rows are gone
all_gone : (rs : List StoreRow) → changes_between rs [] ≡ map (λ (r : StoreRow). Delete r.key) rs
all_gone [] = refl
all_gone (r ∷ rs) = ap (λ (cs : List RowChange). Delete r.key ∷ cs) (all_gone rs)

pub gone-append : (rs ss : List StoreRow) → changes_between (rs ++ ss) [] ≡ changes_between rs [] ++ changes_between ss []
gone-append rs ss =
    all_gone (rs ++ ss) ∙ map-append (λ (r : StoreRow). Delete r.key) rs ss ∙ ap₂ (λ (a b : List RowChange). a ++ b) (sym (all_gone rs)) (sym (all_gone ss))

pub added-append : (rs ss : List StoreRow) → changes_between [] (rs ++ ss) ≡ changes_between [] rs ++ changes_between [] ss
added-append rs ss = map-append Put rs ss

-- one change was added, and what is left follows it
pub walked : (whole front after all rest : List RowChange) (c d : RowChange) → front ++ all ≡ whole → all ≡ c ∷ rest → after ≡ front ++ d ∷ [] → d ≡ c → after ++ rest ≡ whole
walked whole front after all rest c d so_far split grows is =
    ap (λ (cs : List RowChange). cs ++ rest) (grows ∙ ap (λ (e : RowChange). front ++ e ∷ []) is)
    ∙ append_assoc front (c ∷ []) rest
    ∙ ap (λ (cs : List RowChange). front ++ cs) (sym split) ∙ so_far

-- two lists of rows that begin with these
module _ (r s : StoreRow) (rs ss olds news : List StoreRow) (old_is : olds ≡ r ∷ rs) (new_is : news ≡ s ∷ ss) where
  both : changes_between olds news ≡ changes_between (r ∷ rs) (s ∷ ss)
  both = ap₂ changes_between old_is new_is

  gone_at : key_cmp r.key s.key ≡ Less → changes_between olds news ≡ Delete r.key ∷ changes_between rs news
  gone_at less = both ∙ (turns.gone r s rs ss less).split ∙ ap (λ (l : List StoreRow). Delete r.key ∷ changes_between rs l) (sym new_is)

  added_at : key_cmp r.key s.key ≡ Greater → changes_between olds news ≡ Put s ∷ changes_between olds ss
  added_at more = both ∙ (turns.added r s rs ss more).split ∙ ap (λ (l : List StoreRow). Put s ∷ changes_between l ss) (sym old_is)

  differs_at : (key_cmp r.key s.key ≡ Equal) × (r.value ≢ s.value) → changes_between olds news ≡ Put s ∷ changes_between rs ss
  differs_at step = both ∙ (turns.differs r s rs ss (other_bytes r.value s.value step.1) step.0).split

  same_at : (key_cmp r.key s.key ≡ Equal) × (r.value ≡ s.value) → changes_between olds news ≡ changes_between rs ss
  same_at step = both ∙ (turns.same r s rs ss ((bytes_decides r.value s.value).1 step.1) step.0).split

-- two lists of items by their first ones
module _ {A : Type 0} {has : A → Bool} {key value : A → List ℕ} {Fits : A → Type 0} {olds news : List A} {x y : A} {xs ys : List A}
    (old : IsFirst has key value Fits olds x xs) (new : IsFirst has key value Fits news y ys) where
  pub gone : key_cmp (key x) (key y) ≡ Less
      → changes_between (item_rows has key value olds) (item_rows has key value news) ≡ Delete (key x) ∷ changes_between (item_rows has key value xs) (item_rows has key value news)
  gone less = gone_at (item_row key value x) (item_row key value y) (item_rows has key value xs) (item_rows has key value ys) (item_rows has key value olds) (item_rows has key value news) old.rows new.rows less

  pub added : key_cmp (key x) (key y) ≡ Greater
      → changes_between (item_rows has key value olds) (item_rows has key value news) ≡ Put (item_row key value y) ∷ changes_between (item_rows has key value olds) (item_rows has key value ys)
  added more = added_at (item_row key value x) (item_row key value y) (item_rows has key value xs) (item_rows has key value ys) (item_rows has key value olds) (item_rows has key value news) old.rows new.rows more

  pub differs : (key_cmp (key x) (key y) ≡ Equal) × (value x ≢ value y)
      → changes_between (item_rows has key value olds) (item_rows has key value news) ≡ Put (item_row key value y) ∷ changes_between (item_rows has key value xs) (item_rows has key value ys)
  differs step = differs_at (item_row key value x) (item_row key value y) (item_rows has key value xs) (item_rows has key value ys) (item_rows has key value olds) (item_rows has key value news) old.rows new.rows step

  pub same : (key_cmp (key x) (key y) ≡ Equal) × (value x ≡ value y)
      → changes_between (item_rows has key value olds) (item_rows has key value news) ≡ changes_between (item_rows has key value xs) (item_rows has key value ys)
  same step = same_at (item_row key value x) (item_row key value y) (item_rows has key value xs) (item_rows has key value ys) (item_rows has key value olds) (item_rows has key value news) old.rows new.rows step

-- what holds of each item
pub all_are : {A : Type 0} (P : A → Type 0) (xs : List A) → AllByRecursion P xs → All P xs
all_are P xs each = All-from_recursion P xs each

pub all_fit : {A : Type 0} (P : A → Type 0) (xs : List A) → ((x : A) → P x) → All P xs
all_fit P [] each = All-nil P
all_fit P (x ∷ xs) each = All-cons P x xs (each x) (all_fit P xs each)
