-- The least of texts that pass a test.
use Rattle.std.proofs.Common.{Ordering, ◌≡◌, ℕ, ◌+◌, ◌<◌, ◌≤◌, length, get_or, take, Bool, true, false, List, Option, Some, None, Less, Equal, Greater, ◌&&◌, ◌||◌, refl, sym, ap, ◌∙◌, subst}
use Rattle.std.specs.Prelude.{IsTrue, bytes_eq, if◌then◌else◌}
use Rattle.std.specs.Cmp.{alike_right, second_so}
use Rattle.std.specs.Cmp.Lexicographic.{nat_list_cmp_total, texts_ties, bytes_decides}
use Rattle.std.specs.BTreeMap.Comparable.{le_lt_trans}
use Rattle.std.specs.Ordering.{is_le, is_lt, ordering_reverse}
use Rattle.std.specs.List.{list_any}
use Rattle.std.proofs.lemmas.List.Folds.{list_any_more}
use Rattle.std.proofs.lemmas.List.{take_all}
use Rattle.std.proofs.lemmas.Bool.{or_right, or_left}
use Rattle.sequences.proofs.Texts.{is_Equal}
use Rattle.recipe_reader.specs.Payloads.{slug_cmp}
use Rattle.enrol_states.specs.Least.{IsLeast, lesser_of}
use Rattle.enrol_states.proofs.Ordered.{turned_down}
use Rattle.enrol_states.proofs.Sets.{and_none, and_or}

le_at : (a b c : List ℕ) (o : Ordering) → slug_cmp b c ≡ o → IsTrue (is_le (slug_cmp a b)) → IsTrue (is_le o) → IsTrue (is_le (slug_cmp a c))
le_at a b c Less e first second = ap is_le (le_lt_trans nat_list_cmp_total a b c first e)
le_at a b c Equal e first second = ap is_le (sym (alike_right nat_list_cmp_total b c a e)) ∙ first
le_at a b c Greater e first second = absurd cc

pub le_trans : (a b c : List ℕ) → IsTrue (is_le (slug_cmp a b)) → IsTrue (is_le (slug_cmp b c)) → IsTrue (is_le (slug_cmp a c))
le_trans a b c first second = le_at a b c (slug_cmp b c) refl first second

pub le_itself : (a b : List ℕ) → a ≡ b → IsTrue (is_le (slug_cmp a b))
le_itself a b same = ap is_le (is_Equal (slug_cmp a b) (sym (texts_ties a b) ∙ (bytes_decides a b).1 same))

pub le_Less : (a b : List ℕ) → slug_cmp a b ≡ Less → IsTrue (is_le (slug_cmp a b))
le_Less a b e = ap is_le e

pub IsLeast-same : (P Q : List ℕ → Bool) (r : Option (List ℕ)) → ((t : List ℕ) → P t ≡ Q t) → IsLeast P r → IsLeast Q r
IsLeast-same P Q None same least = λ t. sym (same t) ∙ least t
IsLeast-same P Q (Some s) same least = (sym (same s) ∙ least.0, λ t passes. least.1 t (same t ∙ passes))

-- what one of two tests says, where the first or the second passes
either_so : {A : Type 0} (a b : Bool) → (a || b) ≡ true → (a ≡ true → A) → (b ≡ true → A) → A
either_so true b h f g = f refl
either_so false b h f g = g h

lesser_at : (P Q : List ℕ → Bool) (a b : List ℕ) (o : Ordering) → slug_cmp b a ≡ o → IsLeast P (Some a) → IsLeast Q (Some b) → IsLeast (λ t. P t || Q t) (if is_lt o then Some b else Some a)
lesser_at P Q a b Less e first second =
    (or_right (P b) (Q b) second.0, λ t passes. either_so (P t) (Q t) passes (λ p. le_trans b a t (le_Less b a e) (first.1 t p)) (λ q. second.1 t q))
lesser_at P Q a b Equal e first second =
    (or_left (P a) (Q a) first.0, λ t passes. either_so (P t) (Q t) passes (λ p. first.1 t p) (λ q. le_trans a b t (ap is_le (nat_list_cmp_total.antisymm a b ∙ ap ordering_reverse e)) (second.1 t q)))
lesser_at P Q a b Greater e first second =
    (or_left (P a) (Q a) first.0, λ t passes. either_so (P t) (Q t) passes (λ p. first.1 t p) (λ q. le_trans a b t (le_Less a b (turned_down b a e)) (second.1 t q)))

pub IsLeast-lesser : (P Q : List ℕ → Bool) (a b : Option (List ℕ)) → IsLeast P a → IsLeast Q b → IsLeast (λ t. P t || Q t) (lesser_of a b)
IsLeast-lesser P Q None None first second = λ t. ap (λ c. c || Q t) (first t) ∙ second t
IsLeast-lesser P Q None (Some b) first second = (or_right (P b) (Q b) second.0, λ t passes. second.1 t (sym (ap (λ c. c || Q t) (first t)) ∙ passes))
IsLeast-lesser P Q (Some a) None first second = (or_left (P a) (Q a) first.0, λ t passes. either_so (P t) (Q t) passes (λ p. first.1 t p) (λ q. let none = second t in absurd cc))
IsLeast-lesser P Q (Some a) (Some b) first second = lesser_at P Q a b (slug_cmp b a) refl first second

none_at : (test : List ℕ → Bool) (s t : List ℕ) → test s ≡ false → (b : Bool) → bytes_eq s t ≡ b → (test t && b) ≡ false
none_at test s t e true same = ap (λ c. c && true) (subst (λ u. test u ≡ false) ((bytes_decides s t).0 same) e)
none_at test s t e false other = and_none (test t)

one_at : (test : List ℕ → Bool) (s : List ℕ) (b : Bool) → test s ≡ b → IsLeast (λ t. test t && bytes_eq s t) (if b then Some s else None)
one_at test s true e = (
  ap (λ c. c && bytes_eq s s) e ∙ (bytes_decides s s).1 refl,
  λ t passes. le_itself s t ((bytes_decides s t).0 (second_so (test t) (bytes_eq s t) passes)),
)
one_at test s false e = λ t. none_at test s t e (bytes_eq s t) refl

-- the one text that is equal to this one
pub IsLeast-one : (test : List ℕ → Bool) (s : List ℕ) → IsLeast (λ t. test t && bytes_eq s t) (if test s then Some s else None)
IsLeast-one test s = one_at test s (test s) refl

-- ---- over the items of a list, each with texts of its own

-- one more item, whose least text is known
pub IsLeast-more : {X : Type 0} (test : List ℕ → Bool) (has : X → List ℕ → Bool) (xs : List X) (i : ℕ) (x : X) (least one next : Option (List ℕ)) → i < length xs → x ≡ get_or xs i x
    → IsLeast (λ t. test t && list_any (λ y. has y t) (take i xs)) least → IsLeast (λ t. test t && has x t) one → next ≡ lesser_of least one → IsLeast (λ t. test t && list_any (λ y. has y t) (take (i + 1) xs)) next
IsLeast-more test has xs i x least one next within here before now joined =
    let both = IsLeast-lesser (λ t. test t && list_any (λ y. has y t) (take i xs)) (λ t. test t && has x t) least one before now in
    subst (IsLeast (λ t. test t && list_any (λ y. has y t) (take (i + 1) xs))) (sym joined)
    (IsLeast-same (λ t. (test t && list_any (λ y. has y t) (take i xs)) || (test t && has x t)) (λ t. test t && list_any (λ y. has y t) (take (i + 1) xs)) (lesser_of least one)
    (λ t.
    and_or (test t) (list_any (λ y. has y t) (take i xs)) (has x t)
    ∙ ap (λ b. test t && b) (ap (λ y. list_any (λ z. has z t) (take i xs) || has y t) here ∙ sym (list_any_more (λ y. has y t) xs i x within))) both)

-- all items
pub IsLeast-all : {X : Type 0} (test : List ℕ → Bool) (has : X → List ℕ → Bool) (xs ys : List X) (i : ℕ) (least : Option (List ℕ)) → length xs ≤ i → xs ≡ ys
    → IsLeast (λ t. test t && list_any (λ y. has y t) (take i xs)) least → IsLeast (λ t. test t && list_any (λ y. has y t) ys) least
IsLeast-all test has xs ys i least all same h = subst (λ zs. IsLeast (λ t. test t && list_any (λ y. has y t) zs) least) (take_all i xs all ∙ same) h
