-- A part of a text, by its place.
use Rattle.std.proofs.Common.{◌≡◌, ℕ, zero, suc, ◌+◌, ◌<◌, Bool, true, false, ◌&&◌, ◌||◌, ◌==◌, List, [], ◌∷◌, length, Option, Some, None, refl, sym, ap, ap₂, ◌∙◌, arith}
use Rattle.std.specs.Prelude.{is_some, slice_index}
use Rattle.std.proofs.lemmas.Bool.{true≢false, eqb-true, eq-eqb, false_from_ne_true, or_right, or_left}
use Rattle.std.specs.Cmp.{first_so, second_so}
use Rattle.memchr.specs.Find.{FindsNeedle, OccursAt}
use Rattle.jexl_eval.specs.Elements.{begins, occurs}

-- one place on
at_next : (b : ℕ) (bs : List ℕ) (n m : ℕ) → n ≡ suc m → slice_index (b ∷ bs) n ≡ slice_index bs m
at_next b bs n m e = ap (slice_index (b ∷ bs)) e

-- what stands at the front
begins_there : (part bytes : List ℕ) → OccursAt bytes part 0 → begins part bytes ≡ true
begins_there [] bytes h = refl
begins_there (p ∷ ps) [] h = absurd (omega (arith, h.fits))
begins_there (p ∷ ps) (b ∷ bs) h =
    let same : b ≡ p = h.reads 0 (omega arith) in
    let rest : OccursAt bs ps 0 = record { fits = omega (arith, h.fits); reads = λ j less. sym (at_next b bs (0 + suc j) (0 + j) (omega arith)) ∙ h.reads (suc j) (omega arith) } in
    ap₂ (λ x y. x && y) (eq-eqb p b (sym same)) (begins_there ps bs rest)

there_at : (p b : ℕ) (ps bs : List ℕ) → b ≡ p → OccursAt bs ps 0 → (j : ℕ) → j < length (p ∷ ps) → slice_index (b ∷ bs) (0 + j) ≡ slice_index (p ∷ ps) j
there_at p b ps bs same rest zero less = same
there_at p b ps bs same rest (suc j) less = at_next b bs (0 + suc j) (0 + j) (omega arith) ∙ rest.reads j (omega arith)

there_begins : (part bytes : List ℕ) → begins part bytes ≡ true → OccursAt bytes part 0
there_begins [] bytes h = record { fits = omega arith; reads = λ j less. absurd (omega arith) }
there_begins (p ∷ ps) [] h = absurd (true≢false (sym h))
there_begins (p ∷ ps) (b ∷ bs) h =
    let same : p ≡ b = eqb-true p b (first_so (p == b) (begins ps bs) h) in
    let rest : OccursAt bs ps 0 = there_begins ps bs (second_so (p == b) (begins ps bs) h) in
    record { fits = omega (arith, rest.fits); reads = there_at p b ps bs (sym same) rest }

occurs_there : (k : ℕ) (part bytes : List ℕ) → OccursAt bytes part k → occurs part bytes ≡ true
occurs_there zero part [] h = begins_there part [] h
occurs_there zero part (b ∷ bs) h = or_left (begins part (b ∷ bs)) (occurs part bs) (begins_there part (b ∷ bs) h)
occurs_there (suc k) part [] h = absurd (omega (arith, h.fits))
occurs_there (suc k) part (b ∷ bs) h =
    let rest : OccursAt bs part k = record { fits = omega (arith, h.fits); reads = λ j less. sym (at_next b bs (suc k + j) (k + j) (omega arith)) ∙ h.reads j less } in
    or_right (begins part (b ∷ bs)) (occurs part bs) (occurs_there k part bs rest)

there_either : (part : List ℕ) (b : ℕ) (bs : List ℕ) (front : Bool) → begins part (b ∷ bs) ≡ front → (occurs part bs ≡ true → (k : ℕ) × OccursAt bs part k)
    → (front || occurs part bs) ≡ true → (k : ℕ) × OccursAt (b ∷ bs) part k
there_either part b bs true e later h = (0, there_begins part (b ∷ bs) e)
there_either part b bs false e later h =
    let rest = later h in
    (suc rest.0, record { fits = omega (arith, rest.1.fits); reads = λ j less. at_next b bs (suc rest.0 + j) (rest.0 + j) (omega arith) ∙ rest.1.reads j less })

there_occurs : (part bytes : List ℕ) → occurs part bytes ≡ true → (k : ℕ) × OccursAt bytes part k
there_occurs part [] h = (0, there_begins part [] h)
there_occurs part (b ∷ bs) h = there_either part b bs (begins part (b ∷ bs)) refl (there_occurs part bs) h

-- a search finds what occurs
pub found : (part bytes : List ℕ) (r : Option ℕ) → FindsNeedle bytes part 0 r → is_some r ≡ occurs part bytes
found part bytes (Some k) h = sym (occurs_there k part bytes h.1)
found part bytes None h = sym (false_from_ne_true (occurs part bytes) (λ some. let place = there_occurs part bytes some in h place.0 (omega arith) (omega (arith, place.1.fits)) place.1))
