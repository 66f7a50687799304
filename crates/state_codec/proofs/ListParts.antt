-- Lists that are the same but for a part: their rows change where those of the part do, and are longer by as much.
use Rattle.std.proofs.Common.{◌≡◌, ◌+◌, ◌-◌, ◌≤◌, ◌++◌, ◌∷◌, [], List, ℕ, All, map, length, take, drop, sym, ap, ap₂, ◌∙◌, subst, arith}
use Rattle.std.specs.List.Sorted.{IsStrictlySortedBy}
use Rattle.std.proofs.lemmas.List.{append-nil, map-append, take-append-drop}
use Rattle.std.proofs.lemmas.List.Elements.{All-drop, All-take}
use Rattle.std.proofs.lemmas.List.Folds.{drop_split}
use Rattle.row_batches.proofs.Joining.{Precede, between-append}
use Rattle.row_batches.proofs.Sizes.{puts_size-append}
use Rattle.row_batches.specs.Batch.{puts_text}
use Rattle.row_batches.specs.Between.{changes_between}
use Rattle.row_batches.specs.Rows.{AreRows, key_of}
use Rattle.row_batches.specs.declared.change.RowChange.{RowChange}
use Rattle.row_batches.specs.declared.store_row.StoreRow.{StoreRow}
use Rattle.sequences.specs.ListParts.{IsPart, part_of_old, part_of_new}
use Rattle.sequences.specs.declared.list_part.ListPart.{ListPart}
use Rattle.sequences.proofs.Rising.{behind_rises, above_behind}
use Rattle.state_codec.proofs.Joined.{between_itself}

-- what holds of all items holds of those of a part
pub part_of_all : {A : Type 0} (P : A → Type 0) (xs : List A) (i n : ℕ) → All P xs → All P (take n (drop i xs))
part_of_all P xs i n all = All-take P n (drop i xs) (All-drop P i xs all)

module _ {A : Type 0} (part : ListPart) (old new : List A) (is : IsPart part old new) where
  abbrev pub front : List A
  front = take part.start old

  abbrev pub behind : List A
  behind = drop (part.start + part.removed) old

  pub old_split : old ≡ front ++ (part_of_old part old ++ behind)
  old_split = sym (take-append-drop part.start old) ∙ ap (λ (l : List A). front ++ l) (drop_split old part.start (part.start + part.removed) (omega arith))

  pub new_split : new ≡ front ++ (part_of_new part new ++ behind)
  new_split =
      sym (take-append-drop part.start new)
      ∙ ap₂ (λ (l m : List A). l ++ m) (sym is.front) (drop_split new part.start (part.start + part.added) (omega arith) ∙ ap (λ (l : List A). part_of_new part new ++ l) (sym is.behind))

-- ---- rows that are joined

precede : (rs ss : List StoreRow) → AreRows (rs ++ ss) → Precede rs ss
unfolding IsStrictlySortedBy
precede [] ss rise = tt
precede (r ∷ rs) ss rise = (above_behind key_of r.key rs ss rise.0, precede rs ss rise.1)

pub middle_alone : (front olds news behind : List StoreRow) → AreRows (front ++ (olds ++ behind)) → AreRows (front ++ (news ++ behind))
    → changes_between (front ++ (olds ++ behind)) (front ++ (news ++ behind)) ≡ changes_between olds news
middle_alone front olds news behind old_rise new_rise =
    let old_behind = behind_rises key_of front (olds ++ behind) old_rise in
    let new_behind = behind_rises key_of front (news ++ behind) new_rise in
    between-append (olds ++ behind) (news ++ behind) front front (precede front (news ++ behind) new_rise) (precede front (olds ++ behind) old_rise)
    ∙ ap (λ (cs : List RowChange). cs ++ changes_between (olds ++ behind) (news ++ behind)) (between_itself front)
    ∙ between-append behind behind olds news (precede olds behind old_behind) (precede news behind new_behind)
    ∙ ap (λ (cs : List RowChange). changes_between olds news ++ cs) (between_itself behind)
    ∙ append-nil (changes_between olds news)

-- ---- the rows of items

module _ {A : Type 0} (f : A → StoreRow) (part : ListPart) (old new : List A) (is : IsPart part old new) where
  abbrev f_front : List StoreRow
  f_front = map f (take part.start old)

  abbrev f_behind : List StoreRow
  f_behind = map f (drop (part.start + part.removed) old)

  three : (xs ys zs : List A) → map f (xs ++ (ys ++ zs)) ≡ map f xs ++ (map f ys ++ map f zs)
  three xs ys zs = map-append f xs (ys ++ zs) ∙ ap (λ (l : List StoreRow). map f xs ++ l) (map-append f ys zs)

  old_rows : map f old ≡ f_front ++ (map f (part_of_old part old) ++ f_behind)
  old_rows = ap (λ (l : List A). map f l) (old_split part old new is) ∙ three (take part.start old) (part_of_old part old) (drop (part.start + part.removed) old)

  new_rows : map f new ≡ f_front ++ (map f (part_of_new part new) ++ f_behind)
  new_rows = ap (λ (l : List A). map f l) (new_split part old new is) ∙ three (take part.start old) (part_of_new part new) (drop (part.start + part.removed) old)

  pub part_alone : AreRows (map f old) → AreRows (map f new) → changes_between (map f (part_of_old part old)) (map f (part_of_new part new)) ≡ changes_between (map f old) (map f new)
  part_alone old_rise new_rise =
      sym (ap₂ changes_between old_rows new_rows ∙ middle_alone f_front (map f (part_of_old part old)) (map f (part_of_new part new)) f_behind (subst AreRows old_rows old_rise) (subst AreRows new_rows new_rise))

  size_of_three : (rs ss ts : List StoreRow) → length (puts_text (rs ++ (ss ++ ts))) ≡ length (puts_text rs) + length (puts_text ss) + length (puts_text ts)
  size_of_three rs ss ts = omega (arith, puts_size-append rs (ss ++ ts), puts_size-append ss ts)

  old_size : length (puts_text (map f old)) ≡ length (puts_text f_front) + length (puts_text (map f (part_of_old part old))) + length (puts_text f_behind)
  old_size = ap (λ (rs : List StoreRow). length (puts_text rs)) old_rows ∙ size_of_three f_front (map f (part_of_old part old)) f_behind

  new_size : length (puts_text (map f new)) ≡ length (puts_text f_front) + length (puts_text (map f (part_of_new part new))) + length (puts_text f_behind)
  new_size = ap (λ (rs : List StoreRow). length (puts_text rs)) new_rows ∙ size_of_three f_front (map f (part_of_new part new)) f_behind

  part_short : length (puts_text (map f (part_of_old part old))) ≤ length (puts_text (map f old))
  part_short = omega (arith, old_size)

  part_size : length (puts_text (map f new)) + length (puts_text (map f (part_of_old part old))) ≡ length (puts_text (map f old)) + length (puts_text (map f (part_of_new part new)))
  part_size = omega (arith, old_size, new_size)

  -- by the sizes of the old rows, and of the part's old and new ones
  module _ (before removed : ℕ) (before_is : before ≡ length (puts_text (map f old))) (removed_is : removed ≡ length (puts_text (map f (part_of_old part old)))) where
    pub removed_short : removed ≤ before
    removed_short = omega (arith, part_short, before_is, removed_is)

    pub size_after : (added : ℕ) → added ≡ length (puts_text (map f (part_of_new part new))) → before - removed + added ≡ length (puts_text (map f new))
    size_after added added_is = omega (arith, part_short, part_size, before_is, removed_is, added_is)
