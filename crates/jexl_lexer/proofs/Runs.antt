-- The longest run at the front, and where it ends.
use Rattle.std.proofs.Common.{◌≡◌, ℕ, zero, suc, ◌+◌, ◌<◌, ◌≤◌, Bool, true, false, cond, List, [], ◌∷◌, length, add-one, take, drop, get_or, Some, None, refl, ap, ◌∙◌, arith}
use Rattle.std.specs.Prelude.{nat_lt, not, position}
use Rattle.std.specs.Option.{unwrap_or}
use Rattle.std.specs.List.{position_or_len}
use Rattle.std.specs.Str.{IsUtf8, IsCharBoundary}
use Rattle.std.proofs.lemmas.Bool.{ltb-false}
use Rattle.std.proofs.lemmas.Bool.Decides.{nat_tests}
use Rattle.std.proofs.lemmas.List.Sums.{prefix_len-le-length, prefix_len_passes}
use Rattle.std.proofs.lemmas.Str.{IsCharBoundary-start, IsCharBoundary-after_ascii}
use Rattle.sequences.specs.Runs.{prepend, run}
use Rattle.jexl_lexer.specs.declared.front.ByteClass.{ByteClass}
use Rattle.jexl_lexer.specs.declared.front.ByteClass.TheVariants as classes
use Rattle.jexl_lexer.specs.Classes.{in_class}

pub run_on : (p : ℕ → Bool) (b : ℕ) (bs rest : List ℕ) → bs ≡ b ∷ rest → p b ≡ true → run p bs ≡ prepend b (run p rest)
unfolding run
run_on p b bs rest e t = ap (run p) e ∙ ap (λ (s : Bool). cond s (prepend b (run p rest)) ([], b ∷ rest)) t

-- the place of the first byte that fails, or the length where none does
abbrev run_end : (ℕ → Bool) → List ℕ → ℕ
run_end p bs = position_or_len (λ b. not (p b)) bs

end_by : (n len : ℕ) (t : Bool) → nat_lt n len ≡ t → n ≤ len → unwrap_or (cond t (Some n) None) len ≡ n
end_by n len true e l = refl
end_by n len false e l = let g = ltb-false n len e in omega arith

end_is : (p : ℕ → Bool) (bs : List ℕ) → unwrap_or (position (λ b. not (p b)) bs) (length bs) ≡ run_end p bs
end_is p bs = end_by (run_end p bs) (length bs) (nat_lt (run_end p bs) (length bs)) refl (prefix_len-le-length (λ (b : ℕ). not (not (p b))) bs)

run_by : (p : ℕ → Bool) (b : ℕ) (bs : List ℕ) (t : Bool) → run p bs ≡ (take (run_end p bs) bs, drop (run_end p bs) bs)
    → cond t (prepend b (run p bs)) ([], b ∷ bs) ≡ (take (cond (not (not t)) (1 + run_end p bs) 0) (b ∷ bs), drop (cond (not (not t)) (1 + run_end p bs) 0) (b ∷ bs))
run_by p b bs true e = let s : 1 + run_end p bs ≡ suc (run_end p bs) = omega arith in rw s (ap (prepend b) e)
run_by p b bs false e = refl

run_parts : (p : ℕ → Bool) (bs : List ℕ) → run p bs ≡ (take (run_end p bs) bs, drop (run_end p bs) bs)
unfolding run
run_parts p [] = refl
run_parts p (b ∷ bs) = run_by p b bs (p b) (run_parts p bs)

-- what stands up to that place, and from there on
pub run_cut : (p : ℕ → Bool) (bs front back : List ℕ) (end : ℕ) → end ≡ unwrap_or (position (λ b. not (p b)) bs) (length bs) → front ≡ take end bs → back ≡ drop end bs → (front, back) ≡ run p bs
run_cut p bs front back end e f g =
    let i : end ≡ run_end p bs = e ∙ end_is p bs in
    let j : take end bs ≡ take (run_end p bs) bs = ap (λ (n : ℕ). take n bs) i in
    let k : drop end bs ≡ drop (run_end p bs) bs = ap (λ (n : ℕ). drop n bs) i in
    let r = run_parts p bs in
    cc

not_not : (t : Bool) → not (not t) ≡ true → t ≡ true
not_not true e = refl
not_not false e = absurd cc

low : (class : ByteClass) (b : ℕ) → in_class class b ≡ true → b < 128
low classes.Blank b e = grind (arith, nat_tests)
low classes.Digit b e = grind (arith, nat_tests)
low classes.Word b e = grind (arith, nat_tests)

boundary_at : (class : ByteClass) (bs : List ℕ) (n : ℕ) → IsUtf8 bs → n ≡ run_end (in_class class) bs → IsCharBoundary bs n
boundary_at class bs zero u e = IsCharBoundary-start bs u
boundary_at class bs (suc n) u e =
    let l = prefix_len-le-length (λ (b : ℕ). not (not (in_class class b))) bs in
    let h = prefix_len_passes (λ (b : ℕ). not (not (in_class class b))) bs n 0 (omega arith) in
    rw (← add-one) (IsCharBoundary-after_ascii bs n u (omega arith) (low class (get_or bs n 0) (not_not (in_class class (get_or bs n 0)) h)))

-- a text may be cut there
pub run_boundary : (class : ByteClass) (bs : List ℕ) (end : ℕ) → IsUtf8 bs → end ≡ unwrap_or (position (λ b. not (in_class class b)) bs) (length bs) → IsCharBoundary bs end
run_boundary class bs end u e = boundary_at class bs end u (e ∙ end_is (in_class class) bs)
