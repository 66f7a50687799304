-- The version order is total.
use Rattle.std.proofs.Common.{◌≡◌, ℕ, zero, suc, ◌+◌, ◌≤◌, false, List, [], ◌∷◌, length, Option, Some, None, refl, sym, ap, ◌∙◌, arith}
use Rattle.std.specs.Cmp.{IsTotalOrder, int_cmp_total, on_total, then_total, tied_itself, upto}
use Rattle.std.specs.Cmp.Lexicographic.{lists_total, nat_list_cmp_total, slice_cmp}
use Rattle.std.specs.Ordering.{is_gt, is_le, ordering_reverse, ordering_then}
use Rattle.std.specs.declared.cmp.Ordering.{Ordering}
use Rattle.std.specs.declared.cmp.Ordering.TheVariants.{Less, Equal, Greater}
use Rattle.std.specs.Prelude.{IsTrue}
use Rattle.version_compare.specs.Laws.{IsVersionOrderTotal}
use Rattle.sequences.specs.Runs.{run}
use Rattle.version_compare.specs.Versions.{Part, empty_part, missing_last, part_cmp, parts, parts_cmp, version_order}
use Rattle.version_compare.proofs.Splits.{both, pad_left, pad_right}

module _ {K : Type 0} {cmp : K → K → Ordering} (order : IsTotalOrder cmp) where
  reversed : (x y : Option K) → missing_last cmp x y ≡ ordering_reverse (missing_last cmp y x)
  reversed None None = refl
  reversed None (Some y) = refl
  reversed (Some x) None = refl
  reversed (Some x) (Some y) = order.antisymm x y

  chained : (x y z : Option K) → missing_last cmp x y ≡ Less → missing_last cmp y z ≡ Less → missing_last cmp x z ≡ Less
  chained None None z e f = cc
  chained None (Some y) z e f = cc
  chained (Some x) y None e f = refl
  chained (Some x) None (Some z) e f = cc
  chained (Some x) (Some y) (Some z) e f = order.trans x y z e f

  alike : (x y z : Option K) → missing_last cmp x y ≡ Equal → missing_last cmp x z ≡ missing_last cmp y z
  alike None None z e = refl
  alike None (Some y) z e = cc
  alike (Some x) None z e = cc
  alike (Some x) (Some y) None e = refl
  alike (Some x) (Some y) (Some z) e = order.congr x y z e

  missing_last_total : IsTotalOrder (missing_last cmp)
  missing_last_total = record { antisymm = reversed; trans = chained; congr = alike }

part_cmp_total : IsTotalOrder part_cmp
part_cmp_total =
    then_total (on_total (λ (p : Part). p.number_a) (missing_last_total int_cmp_total))
    (then_total (on_total (λ (p : Part). p.string_b) (missing_last_total nat_list_cmp_total))
    (then_total (on_total (λ (p : Part). p.number_c) int_cmp_total)
    (on_total (λ (p : Part). p.string_d) (missing_last_total nat_list_cmp_total))))

-- the first n parts, with empty ones where they have ended
abbrev padded : ℕ → List Part → List Part
padded zero ps = []
padded (suc n) [] = empty_part ∷ padded n []
padded (suc n) (p ∷ ps) = p ∷ padded n ps

abbrev padded_cmp : ℕ → List Part → List Part → Ordering
padded_cmp n ps qs = slice_cmp part_cmp (padded n ps) (padded n qs)

padded_cmp_total : (n : ℕ) → IsTotalOrder (padded_cmp n)
padded_cmp_total n = on_total (padded n) (lists_total part_cmp_total)

-- the order is that of the lists padded to any number that neither exceeds
parts_cmp-padded : (n : ℕ) (ps qs : List Part) → length ps ≤ n → length qs ≤ n → parts_cmp ps qs ≡ padded_cmp n ps qs
unfolding parts_cmp run
parts_cmp-padded zero [] [] h k = refl
parts_cmp-padded zero (p ∷ ps) qs h k = absurd (omega arith)
parts_cmp-padded zero [] (q ∷ qs) h k = absurd (omega arith)
parts_cmp-padded (suc n) [] [] h k = parts_cmp-padded n [] [] (omega arith) (omega arith)
parts_cmp-padded (suc n) [] (q ∷ qs) h k = pad_left (q ∷ qs) ∙ both empty_part q [] qs ∙ ap (ordering_then (part_cmp empty_part q)) (parts_cmp-padded n [] qs (omega arith) (omega arith))
parts_cmp-padded (suc n) (p ∷ ps) [] h k = pad_right (p ∷ ps) ∙ both p empty_part ps [] ∙ ap (ordering_then (part_cmp p empty_part)) (parts_cmp-padded n ps [] (omega arith) (omega arith))
parts_cmp-padded (suc n) (p ∷ ps) (q ∷ qs) h k = both p q ps qs ∙ ap (ordering_then (part_cmp p q)) (parts_cmp-padded n ps qs (omega arith) (omega arith))

parts_cmp_total : IsTotalOrder parts_cmp
parts_cmp_total = record {
  antisymm = λ x y.
      let n = length x + length y in
      parts_cmp-padded n x y (omega arith) (omega arith) ∙ (padded_cmp_total n).antisymm x y ∙ ap ordering_reverse (sym (parts_cmp-padded n y x (omega arith) (omega arith)));
  trans = λ x y z less below.
      let n = length x + length y + length z in
      parts_cmp-padded n x z (omega arith) (omega arith)
      ∙ (padded_cmp_total n).trans x y z (sym (parts_cmp-padded n x y (omega arith) (omega arith)) ∙ less) (sym (parts_cmp-padded n y z (omega arith) (omega arith)) ∙ below);
  congr = λ x y z same.
      let n = length x + length y + length z in
      parts_cmp-padded n x z (omega arith) (omega arith)
      ∙ (padded_cmp_total n).congr x y z (sym (parts_cmp-padded n x y (omega arith) (omega arith)) ∙ same)
      ∙ sym (parts_cmp-padded n y z (omega arith) (omega arith));
}

version_order_total : IsTotalOrder version_order
version_order_total = on_total parts parts_cmp_total

not_greater : (o : Ordering) → IsTrue (is_le o) → is_gt o ≡ false
not_greater Less e = refl
not_greater Equal e = refl
not_greater Greater e = cc

at_most : (o : Ordering) → is_gt o ≡ false → IsTrue (is_le o)
at_most Less e = refl
at_most Equal e = refl
at_most Greater e = cc

pub version_order_law : IsVersionOrderTotal
version_order_law = record {
  total = version_order_total;
  reflexive = tied_itself version_order_total;
  transitive = λ a b c h k. at_most (version_order a c) (upto version_order_total a b c (not_greater (version_order a b) h) (not_greater (version_order b c) k));
}
