-- Runs, a byte at a time.
use Rattle.std.proofs.Common.{◌≡◌, ℕ, Bool, true, false, cond, List, [], ◌∷◌, ◌++◌, length, ◌-◌, ◌≤◌, refl, sym, ap, ◌∙◌, arith, length-append}
use Rattle.std.specs.Prelude.{take}
use Rattle.std.proofs.lemmas.Bool.{eq-eqb, ne_eqb}
use Rattle.std.proofs.lemmas.List.{take_at}
use Rattle.sequences.specs.Runs.{prepend, run}
use Rattle.version_compare.specs.Bytes.{is_no_dot}

-- the bytes after a run stay the same past a byte that passes
pub after_on : (test : ℕ → Bool) (all : List ℕ) (b : ℕ) (bs rest : List ℕ) (passes : Bool) → all ≡ (run test bs).1 → bs ≡ b ∷ rest → passes ≡ test b → passes ≡ true → all ≡ (run test rest).1
unfolding run
after_on test all b bs rest passes e f g h = e ∙ ap (λ (w : List ℕ). (run test w).1) f ∙ ap (λ (s : Bool). (cond s (prepend b (run test rest)) ([], b ∷ rest)).1) (sym g ∙ h)

-- a run ends before a byte that fails
pub after_stop : (test : ℕ → Bool) (all : List ℕ) (b : ℕ) (bs rest : List ℕ) (passes : Bool) → all ≡ (run test bs).1 → bs ≡ b ∷ rest → passes ≡ test b → passes ≡ false → bs ≡ all
unfolding run
after_stop test all b bs rest passes e f g h = f ∙ sym (e ∙ ap (λ (w : List ℕ). (run test w).1) f ∙ ap (λ (s : Bool). (cond s (prepend b (run test rest)) ([], b ∷ rest)).1) (sym g ∙ h))

-- a run ends at the end
pub after_none : (test : ℕ → Bool) (all bs : List ℕ) → all ≡ (run test bs).1 → bs ≡ [] → bs ≡ all
unfolding run
after_none test all bs e f = f ∙ sym (e ∙ ap (λ (w : List ℕ). (run test w).1) f)

pub dot_on : (all : List ℕ) (b : ℕ) (bs rest : List ℕ) → all ≡ (run is_no_dot bs).1 → bs ≡ b ∷ rest → (b ≡ 46 → ⊥) → all ≡ (run is_no_dot rest).1
dot_on all b bs rest e f n = after_on is_no_dot all b bs rest true e f (sym (ap (λ (t : Bool). cond t false true) (ne_eqb b 46 n))) refl

pub dot_stop : (all : List ℕ) (b : ℕ) (bs rest : List ℕ) → all ≡ (run is_no_dot bs).1 → bs ≡ b ∷ rest → b ≡ 46 → bs ≡ all
dot_stop all b bs rest e f n = after_stop is_no_dot all b bs rest false e f (sym (ap (λ (t : Bool). cond t false true) (eq-eqb b 46 n))) refl

run_by : (test : ℕ → Bool) (b : ℕ) (bs : List ℕ) (t : Bool) → bs ≡ (run test bs).0 ++ (run test bs).1 → b ∷ bs ≡ (cond t (prepend b (run test bs)) ([], b ∷ bs)).0 ++ (cond t (prepend b (run test bs)) ([], b ∷ bs)).1
run_by test b bs true e = ap (λ (w : List ℕ). b ∷ w) e
run_by test b bs false e = refl

-- the run and the bytes after it are the whole
pub run_parts : (test : ℕ → Bool) (bs : List ℕ) → bs ≡ (run test bs).0 ++ (run test bs).1
unfolding run
run_parts test [] = refl
run_parts test (b ∷ bs) = run_by test b bs (test b) (run_parts test bs)

pub run_short : (test : ℕ → Bool) (bs rest : List ℕ) → rest ≡ (run test bs).1 → length rest ≤ length bs
run_short test bs rest e =
    let whole : length bs ≡ length ((run test bs).0 ++ (run test bs).1) = ap (λ (w : List ℕ). length w) (run_parts test bs) in
    let after : length rest ≡ length (run test bs).1 = ap (λ (w : List ℕ). length w) e in
    omega (arith, whole, after, length-append (run test bs).0 (run test bs).1)

-- the bytes before the rest are the run
pub taken : (test : ℕ → Bool) (bs rest : List ℕ) → rest ≡ (run test bs).1 → take (length bs - length rest) bs ≡ (run test bs).0
taken test bs rest e =
    let whole : length bs ≡ length ((run test bs).0 ++ (run test bs).1) = ap (λ (w : List ℕ). length w) (run_parts test bs) in
    let after : length rest ≡ length (run test bs).1 = ap (λ (w : List ℕ). length w) e in
    let count : length (run test bs).0 ≡ length bs - length rest = omega (arith, whole, after, length-append (run test bs).0 (run test bs).1) in
    ap (take (length bs - length rest)) (run_parts test bs) ∙ take_at (run test bs).0 (run test bs).1 (length bs - length rest) count
