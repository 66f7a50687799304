-- Changes are read in one way alone.
use Rattle.std.proofs.Common.{◌≡◌, ◌+◌, ◌<◌, ◌≤◌, ◌++◌, ◌∷◌, [], List, ℕ, length, get_or, take, drop, ◌∙◌, ap, sym, refl, append_assoc, length-append, arith}
use Rattle.std.proofs.lemmas.List.{append-nil, take_all, take_more}
use Rattle.std.specs.List.{AllByRecursion}
use Rattle.row_batches.specs.Batch.{ChangeList, FitsFields, change_text, changes_text}
use Rattle.row_batches.specs.BatchParts.{HasNoChange, HasChange}
use Rattle.row_batches.specs.declared.change.RowChange.{RowChange}
use Rattle.row_batches.specs.declared.change.RowChange.TheVariants.{Put, Delete}
use Rattle.row_batches.proofs.RowFields.{same_row, same_short}

pub not_empty : (c : RowChange) (rest : List ℕ) → change_text c ++ rest ≡ [] → ⊥
not_empty (Put r) rest same = cc
not_empty (Delete key) rest same = cc

-- the first byte of bytes that begin with a change
abbrev first : List ℕ → ℕ
first bytes = get_or bytes 0 0

one_two : (x y : ℕ) → x ≡ 1 → y ≡ 2 → x ≡ y → ⊥
one_two x y one two same = omega arith

same_change : (c d : RowChange) (x y : List ℕ) → FitsFields c → FitsFields d → change_text c ++ x ≡ change_text d ++ y → (c ≡ d) × (x ≡ y)
same_change (Put r) (Put s) x y c_in d_in same = let both = same_row r s x y c_in d_in (ap (drop 1) same) in (ap Put both.0, both.1)
same_change (Put r) (Delete key) x y c_in d_in same = absurd (one_two 1 2 refl refl (ap first same))
same_change (Delete key) (Put s) x y c_in d_in same = absurd (one_two 1 2 refl refl (sym (ap first same)))
same_change (Delete key) (Delete other) x y c_in d_in same = let both = same_short key other x y c_in d_in (ap (drop 1) same) in (ap Delete both.0, both.1)

-- what was read is the front of each reading
pub record Longer (taken all : List RowChange) (left : List ℕ) : Type 0 where
  pub more : List RowChange
  pub all_are : all ≡ taken ++ more
  pub left_is : left ≡ changes_text more
  pub room : AllByRecursion FitsFields more

pub changes_longer : (taken all : List RowChange) (left : List ℕ) → AllByRecursion FitsFields taken → AllByRecursion FitsFields all → changes_text taken ++ left ≡ changes_text all → Longer taken all left
changes_longer [] all left room rooms same = record { more = all; all_are = refl; left_is = same; room = rooms }
changes_longer (c ∷ taken) [] left room rooms same = absurd (not_empty c (changes_text taken ++ left) (sym (append_assoc (change_text c) (changes_text taken) left) ∙ same))
changes_longer (c ∷ taken) (d ∷ all) left room rooms same =
    let parts : change_text c ++ (changes_text taken ++ left) ≡ change_text d ++ changes_text all = sym (append_assoc (change_text c) (changes_text taken) left) ∙ same in
    let both = same_change c d (changes_text taken ++ left) (changes_text all) room.0 rooms.0 parts in
    let longer = changes_longer taken all left room.1 rooms.1 both.1 in
    record {
      more = longer.more;
      all_are = ap (λ (q : RowChange). q ∷ all) (sym both.0) ∙ ap (λ (l : List RowChange). c ∷ l) longer.all_are;
      left_is = longer.left_is;
      room = longer.room;
    }

-- changes that have the same bytes are the same
pub same_changes : (cs ds : List RowChange) → AllByRecursion FitsFields cs → AllByRecursion FitsFields ds → changes_text cs ≡ changes_text ds → cs ≡ ds
same_changes [] [] c_in d_in same = refl
same_changes [] (d ∷ ds) c_in d_in same = absurd (not_empty d (changes_text ds) (sym same))
same_changes (c ∷ cs) [] c_in d_in same = absurd (not_empty c (changes_text cs) same)
same_changes (c ∷ cs) (d ∷ ds) c_in d_in same =
    let both = same_change c d (changes_text cs) (changes_text ds) c_in.0 d_in.0 same in
    ap (λ (q : RowChange). q ∷ cs) both.0 ∙ ap (λ (l : List RowChange). d ∷ l) (same_changes cs ds c_in.1 d_in.1 both.1)

-- behind what was read no change stands
pub no_more : (taken : List RowChange) (left bytes : List ℕ) → bytes ≡ changes_text taken ++ left → AllByRecursion FitsFields taken → HasNoChange left → (all : List RowChange) → AllByRecursion FitsFields all → bytes ≡ changes_text all → ⊥
no_more taken left bytes split room none all rooms same = by_more longer.more longer.left_is longer.room
  where
    longer : Longer taken all left
    longer = changes_longer taken all left room rooms (sym split ∙ same)

    by_more : (more : List RowChange) → left ≡ changes_text more → AllByRecursion FitsFields more → ⊥
    by_more [] is fits = none.more is
    by_more (c ∷ rest) is fits = none.none c (changes_text rest) fits.0 is

-- the change that is read next is the next one of each reading
pub record Next (taken all : List RowChange) (c : RowChange) : Type 0 where
  pub more : List RowChange
  pub all_are : all ≡ taken ++ c ∷ more

pub next_read : (taken : List RowChange) (c : RowChange) (left rest bytes : List ℕ) → bytes ≡ changes_text taken ++ left → AllByRecursion FitsFields taken → HasChange c rest left
    → (all : List RowChange) → AllByRecursion FitsFields all → bytes ≡ changes_text all → Next taken all c
next_read taken c left rest bytes split room here all rooms same = by_more longer.more longer.all_are longer.left_is longer.room
  where
    longer : Longer taken all left
    longer = changes_longer taken all left room rooms (sym split ∙ same)

    by_more : (more : List RowChange) → all ≡ taken ++ more → left ≡ changes_text more → AllByRecursion FitsFields more → Next taken all c
    by_more [] are is fits = absurd (not_empty c rest (sym here.split ∙ is))
    by_more (d ∷ others) are is fits =
        let both = same_change c d rest (changes_text others) here.room fits.0 (sym here.split ∙ is) in
        record { more = others; all_are = are ∙ ap (λ (q : RowChange). taken ++ q ∷ others) (sym both.0) }

-- ---- one change more

pub changes_text-append : (cs ds : List RowChange) → changes_text (cs ++ ds) ≡ changes_text cs ++ changes_text ds
changes_text-append [] ds = refl
changes_text-append (c ∷ cs) ds = ap (λ (l : List ℕ). change_text c ++ l) (changes_text-append cs ds) ∙ sym (append_assoc (change_text c) (changes_text cs) (changes_text ds))

pub one_more : (cs : List RowChange) (c : RowChange) (left behind bytes : List ℕ) → bytes ≡ changes_text cs ++ left → left ≡ change_text c ++ behind → bytes ≡ changes_text (cs ++ c ∷ []) ++ behind
one_more cs c left behind bytes split is =
    split ∙ ap (λ (l : List ℕ). changes_text cs ++ l) is
    ∙ sym (append_assoc (changes_text cs) (change_text c) behind)
    ∙ ap (λ (l : List ℕ). (changes_text cs ++ l) ++ behind) (sym (append-nil (change_text c)))
    ∙ ap (λ (l : List ℕ). l ++ behind) (sym (changes_text-append cs (c ∷ [])))

-- the first changes of a list, and one more
pub text_more : (cs : List RowChange) (i : ℕ) (c : RowChange) → i < length cs → c ≡ get_or cs i c → changes_text (take (i + 1) cs) ≡ changes_text (take i cs) ++ change_text c
text_more cs i c within is =
    ap changes_text (take_more cs i c within)
    ∙ changes_text-append (take i cs) (get_or cs i c ∷ [])
    ∙ ap (λ (l : List ℕ). changes_text (take i cs) ++ l) (append-nil (change_text (get_or cs i c)))
    ∙ ap (λ (d : RowChange). changes_text (take i cs) ++ change_text d) (sym is)

pub put_more : (cs : List RowChange) (i : ℕ) (c : RowChange) (front before : List ℕ) {after : List ℕ} → i < length cs → c ≡ get_or cs i c → before ≡ front ++ changes_text (take i cs) → after ≡ before ++ change_text c
    → after ≡ front ++ changes_text (take (i + 1) cs)
put_more cs i c front before {after} within is so_far grows =
    grows ∙ ap (λ (l : List ℕ). l ++ change_text c) so_far ∙ append_assoc front (changes_text (take i cs)) (change_text c) ∙ ap (λ (l : List ℕ). front ++ l) (sym (text_more cs i c within is))

pub put_all : (cs : List RowChange) (i : ℕ) (front : List ℕ) {after : List ℕ} → length cs ≤ i → after ≡ front ++ changes_text (take i cs) → after ≡ front ++ changes_text cs
put_all cs i front past so_far = so_far ∙ ap (λ l. front ++ changes_text l) (take_all i cs past)

pub size_more : (cs : List RowChange) (i : ℕ) (c : RowChange) → i < length cs → c ≡ get_or cs i c → length (changes_text (take (i + 1) cs)) ≡ length (changes_text (take i cs)) + length (change_text c)
size_more cs i c within is = ap length (text_more cs i c within is) ∙ length-append (changes_text (take i cs)) (change_text c)

-- what was read with the change that was pushed
pub read_on : (batch after : ChangeList) (change pushed : RowChange) (left behind bytes : List ℕ) → after ≡ record batch { changes = batch.changes ++ pushed ∷ [] } → pushed ≡ change
    → bytes ≡ changes_text batch.changes ++ left → HasChange change behind left → bytes ≡ changes_text after.changes ++ behind
read_on batch after change pushed left behind bytes grows is split here =
    let changes : after.changes ≡ batch.changes ++ change ∷ [] = ap (λ (b : ChangeList). b.changes) grows ∙ ap (λ (c : RowChange). batch.changes ++ c ∷ []) is in
    one_more batch.changes change left behind bytes split here.split ∙ ap (λ (cs : List RowChange). changes_text cs ++ behind) (sym changes)
