-- How texts compare.
use Rattle.std.proofs.Common.{Ordering, ◌≡◌, ◌≢◌, ℕ, true, false, List, [], ◌∷◌, Less, Equal, Greater, refl, sym, ap, ◌∙◌}
use Rattle.std.specs.Prelude.{bytes_eq}
use Rattle.std.specs.Cmp.Lexicographic.{nat_list_cmp_total, nat_list_eq_equiv, texts_ties, bytes_decides}
use Rattle.std.specs.Ordering.{ordering_reverse, is_eq, is_lt}
use Rattle.std.proofs.lemmas.Bool.{false_from_ne_true}
use Rattle.sequences.specs.Order.{text_cmp, AreAbove}

-- ---- answers of comparisons

pub is_Less : (o : Ordering) → is_lt o ≡ true → o ≡ Less
is_Less Less e = refl
is_Less Equal e = absurd cc
is_Less Greater e = absurd cc

pub is_Equal : (o : Ordering) → is_eq o ≡ true → o ≡ Equal
is_Equal Less e = absurd cc
is_Equal Equal e = refl
is_Equal Greater e = absurd cc

pub is_eq-reverse : (o : Ordering) → is_eq (ordering_reverse o) ≡ is_eq o
is_eq-reverse Less = refl
is_eq-reverse Equal = refl
is_eq-reverse Greater = refl

-- ---- texts

pub equal_texts : (a b : List ℕ) → text_cmp a b ≡ Equal → bytes_eq a b ≡ true
equal_texts a b e = texts_ties a b ∙ ap is_eq e

pub same_texts : (a b : List ℕ) → text_cmp a b ≡ Equal → a ≡ b
same_texts a b e = (bytes_decides a b).0 (equal_texts a b e)

pub lesser_texts : (a b : List ℕ) → text_cmp a b ≡ Less → bytes_eq a b ≡ false
lesser_texts a b e = texts_ties a b ∙ ap is_eq e

pub greater_texts : (a b : List ℕ) → text_cmp a b ≡ Greater → bytes_eq a b ≡ false
greater_texts a b e = texts_ties a b ∙ ap is_eq e

pub other_texts : (a b : List ℕ) → (text_cmp a b ≢ Equal) → bytes_eq a b ≡ false
other_texts a b other = false_from_ne_true (bytes_eq a b) (λ same. other (is_Equal _ (sym (texts_ties a b) ∙ same)))

pub turned_up : (a b : List ℕ) → text_cmp a b ≡ Less → text_cmp b a ≡ Greater
turned_up a b h = nat_list_cmp_total.antisymm b a ∙ ap ordering_reverse h

pub turned_down : (a b : List ℕ) → text_cmp a b ≡ Greater → text_cmp b a ≡ Less
turned_down a b h = nat_list_cmp_total.antisymm b a ∙ ap ordering_reverse h

pub turned_even : (a b : List ℕ) → text_cmp a b ≡ Equal → text_cmp b a ≡ Equal
turned_even a b h = nat_list_cmp_total.antisymm b a ∙ ap ordering_reverse h

pub less_trans : (a b c : List ℕ) → text_cmp a b ≡ Less → text_cmp b c ≡ Less → text_cmp a c ≡ Less
less_trans a b c h k = nat_list_cmp_total.trans a b c h k

pub bytes_same : (a : List ℕ) → bytes_eq a a ≡ true
bytes_same a = (bytes_decides a a).1 refl

pub other_bytes : (a b : List ℕ) → (a ≢ b) → bytes_eq a b ≡ false
other_bytes a b other = false_from_ne_true (bytes_eq a b) (λ same. other ((bytes_decides a b).0 same))

pub bytes_turned : (a b : List ℕ) → bytes_eq a b ≡ bytes_eq b a
bytes_turned a b = nat_list_eq_equiv.symm a b

-- the test of a comparison is that of the bytes, turned round too
pub is_eq-turned : (a b : List ℕ) → is_eq (text_cmp a b) ≡ bytes_eq b a
is_eq-turned a b = sym (texts_ties a b) ∙ bytes_turned a b

-- what is above a text is above those below it
pub above_trans : (a b : List ℕ) (ts : List (List ℕ)) → text_cmp a b ≡ Less → AreAbove b ts → AreAbove a ts
above_trans a b [] h above = tt
above_trans a b (t ∷ ts) h above = (less_trans a b t h above.0, above_trans a b ts h above.1)
