-- How the keys and the texts of entries compare.
use Rattle.std.proofs.Common.{Less, Equal, Greater, ◌≡◌, ◌<◌, ◌^◌, List, ℕ, Bool, true, false, inl, inr, refl, sym, ap, ◌∙◌, arith}
use Rattle.std.specs.Prelude.{bytes_eq, not}
use Rattle.std.specs.Cmp.Lexicographic.{bytes_decides, nat_list_cmp_total}
use Rattle.std.specs.Ordering.{nat_cmp}
use Rattle.std.proofs.lemmas.Bool.{cases_order}
use Rattle.std.proofs.lemmas.Bool.Decides.{nat_tests}
use Rattle.std.proofs.lemmas.Cmp.{tied_itself}
use Rattle.sequences.proofs.Texts.{turned_up}
use Rattle.row_batches.specs.Rows.{key_cmp}
use Rattle.change_outbox.specs.Rows.{change_key}
use Rattle.change_outbox.proofs.ByteOrder.{keys_rise}

even : (a b : ℕ) → a ≡ b → key_cmp (change_key a) (change_key b) ≡ Equal
even a b same = ap (λ n. key_cmp (change_key a) (change_key n)) (sym same) ∙ tied_itself nat_list_cmp_total (change_key a)

-- numbers compare as the keys of their rows do
pub key_order_is : (a b : ℕ) → a < 2 ^ 64 → b < 2 ^ 64 → nat_cmp a b ≡ key_cmp (change_key a) (change_key b)
key_order_is a b a_fits b_fits =
    elim (cases_order a b) [
      | inl same ↦ nat_even a b same ∙ sym (even a b same)
      | inr (inl less) ↦ nat_less a b less ∙ sym (keys_rise a b less b_fits)
      | inr (inr greater) ↦ nat_greater a b greater ∙ sym (turned_up (change_key b) (change_key a) (keys_rise b a greater a_fits))
    ]
  where
    nat_even : (m n : ℕ) → m ≡ n → nat_cmp m n ≡ Equal
    nat_even m n same = grind (arith, nat_tests)

    nat_less : (m n : ℕ) → m < n → nat_cmp m n ≡ Less
    nat_less m n less = grind (arith, nat_tests)

    nat_greater : (m n : ℕ) → n < m → nat_cmp m n ≡ Greater
    nat_greater m n greater = grind (arith, nat_tests)

-- what `!=` tells of bytes
pub is_other : (b : Bool) (xs ys : List ℕ) → b ≡ not (bytes_eq xs ys) → b ≡ true → xs ≡ ys → ⊥
is_other b xs ys is differs same = let two : not true ≡ true = ap not (sym ((bytes_decides xs ys).1 same)) ∙ sym is ∙ differs in cc

told : (b : Bool) → false ≡ not b → b ≡ true
told true is = refl
told false is = absurd cc

pub is_one : (b : Bool) (xs ys : List ℕ) → b ≡ not (bytes_eq xs ys) → b ≡ false → xs ≡ ys
is_one b xs ys is same = (bytes_decides xs ys).0 (told (bytes_eq xs ys) (sym same ∙ is))
