-- Changes that keep the rules of a batch.
use Rattle.std.proofs.Common.{Less, ◌≡◌, ℕ, zero, suc, ◌<◌, Bool, IsTrue, List, [], ◌∷◌, ◌++◌, map, length, get_or, sym, subst, arith}
use Rattle.std.specs.List.{AllByRecursion}
use Rattle.std.specs.List.Sorted.{IsStrictlySortedBy}
use Rattle.row_batches.specs.Batch.{ChangeList, IsBatch, ComesNext, FitsFields, IsPut}
use Rattle.row_batches.specs.Places.{AreAbove}
use Rattle.row_batches.specs.Rows.{Rise, key_cmp, key_in}
use Rattle.row_batches.specs.declared.change.RowChange.{RowChange}
use Rattle.sequences.proofs.Texts.{less_trans}
use Rattle.sequences.proofs.Alls.{all_push}

pub none_rule : (clear : Bool) (changes : List RowChange) → changes ≡ [] → IsBatch (record { clear = clear; changes = changes })
unfolding IsStrictlySortedBy
none_rule clear changes none = subst (λ cs. IsBatch (record { clear = clear; changes = cs })) (sym none) (record { rise = tt; room = tt; puts = λ _. tt })

above_push : (key : List ℕ) (changes : List RowChange) (change : RowChange) → AreAbove key (map key_in changes) → key_cmp key (key_in change) ≡ Less → AreAbove key (map key_in (changes ++ change ∷ []))
above_push key [] change above less = (less, tt)
above_push key (c ∷ cs) change above less = (above.0, above_push key cs change above.1 less)

rise_push : (changes : List RowChange) (change : RowChange) → Rise (map key_in changes) → ComesNext (key_in change) changes → Rise (map key_in (changes ++ change ∷ []))
unfolding IsStrictlySortedBy
rise_push [] change rise next = (tt, tt)
rise_push (c ∷ cs) change rise next = (above_push (key_in c) cs change rise.0 next.0, rise_push cs change rise.1 next.1)

pub one_more_rule : (clear : Bool) (changes : List RowChange) (change : RowChange) → IsBatch (record { clear = clear; changes = changes }) → ComesNext (key_in change) changes → FitsFields change
    → (IsTrue clear → IsPut change) → IsBatch (record { clear = clear; changes = changes ++ change ∷ [] })
one_more_rule clear changes change rules next room puts =
    record {
      rise = rise_push changes change rules.rise next;
      room = all_push FitsFields changes change rules.room room;
      puts = λ is. all_push IsPut changes change (rules.puts is) (puts is);
    }

-- a key that is above the last one is above all
in_above : (key : List ℕ) (changes : List RowChange) (i : ℕ) (d : RowChange) → i < length changes → AreAbove key (map key_in changes) → key_cmp key (key_in (get_or changes i d)) ≡ Less
in_above key [] i d within above = absurd (omega arith)
in_above key (c ∷ cs) zero d within above = above.0
in_above key (c ∷ cs) (suc i) d within above = in_above key cs i d (omega arith) above.1

pub next_where : (changes : List RowChange) (i : ℕ) (d : RowChange) (key : List ℕ) → length changes ≡ suc i → Rise (map key_in changes) → key_cmp (key_in (get_or changes i d)) key ≡ Less → ComesNext key changes
unfolding IsStrictlySortedBy
next_where [] i d key last rise less = tt
next_where (c ∷ []) zero d key last rise less = (less, tt)
next_where (c ∷ []) (suc i) d key last rise less = absurd (omega arith)
next_where (c ∷ e ∷ cs) zero d key last rise less = absurd (omega arith)
next_where (c ∷ e ∷ cs) (suc i) d key last rise less =
    (less_trans (key_in c) (key_in (get_or (e ∷ cs) i d)) key (in_above (key_in c) (e ∷ cs) i d (omega arith) rise.0) less, next_where (e ∷ cs) i d key (omega arith) rise.1 less)

pub next_only : (changes : List RowChange) (i : ℕ) (d : RowChange) (key : List ℕ) → i < length changes → ComesNext key changes → key_cmp (key_in (get_or changes i d)) key ≡ Less
next_only [] i d key within next = absurd (omega arith)
next_only (c ∷ cs) zero d key within next = next.0
next_only (c ∷ cs) (suc i) d key within next = next_only cs i d key (omega arith) next.1

-- ---- a part of a batch

before_here : (front : List RowChange) (c : RowChange) (more : List RowChange) → Rise (map key_in (front ++ c ∷ more)) → ComesNext (key_in c) front
unfolding IsStrictlySortedBy
before_here [] c more rise = tt
before_here (f ∷ front) c more rise = (at_end front rise.0, before_here front c more rise.1)
  where
    at_end : (cs : List RowChange) → AreAbove (key_in f) (map key_in (cs ++ c ∷ more)) → key_cmp (key_in f) (key_in c) ≡ Less
    at_end [] above = above.0
    at_end (e ∷ cs) above = at_end cs above.1

pub holds_here : {X : Type 0} (P : X → Type 0) (front : List X) (x : X) (more : List X) → AllByRecursion P (front ++ x ∷ more) → P x
holds_here P [] x more all = all.0
holds_here P (f ∷ front) x more all = holds_here P front x more all.1

pub next_in : (batch : ChangeList) (front : List RowChange) (c : RowChange) (more : List RowChange) → IsBatch batch → batch.changes ≡ front ++ c ∷ more → ComesNext (key_in c) front
next_in batch front c more rules is = before_here front c more (subst (λ cs. Rise (map key_in cs)) is rules.rise)

pub put_in : (batch : ChangeList) (front : List RowChange) (c : RowChange) (more : List RowChange) → IsBatch batch → batch.changes ≡ front ++ c ∷ more → IsTrue batch.clear → IsPut c
put_in batch front c more rules is clear = holds_here IsPut front c more (subst (AllByRecursion IsPut) is (rules.puts clear))
