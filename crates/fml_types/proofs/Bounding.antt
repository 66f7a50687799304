-- Values that count up to a bound.
use Rattle.std.proofs.Common.{◌≡◌, ℕ, zero, suc, List, [], ◌∷◌, Option, Some, None, refl, ap, ◌∙◌, arith}
use Rattle.std.specs.Prelude.{max, min}
use Rattle.fml_types.specs.Ground.{parts_at, greatest, at, reached, value_of_need, needed}
use Rattle.fml_types.specs.declared.graph.Need.{Need}
use Rattle.fml_types.specs.declared.graph.Need.TheVariants.{Nothing, Mentioned, Reached}
use Rattle.fml_types.specs.declared.graph.Part.{Part}

abbrev pub up_to : ℕ → (ℕ → ℕ) → ℕ → ℕ
up_to b v i = min (v i) b

pub greatest-up_to : (b : ℕ) (f h : Part → ℕ) → ((p : Part) → h p ≡ min (f p) b) → (ps : List Part) → greatest h ps ≡ min (greatest f ps) b
greatest-up_to b f h same [] = omega arith
greatest-up_to b f h same (p ∷ ps) = omega (arith, same p, greatest-up_to b f h same ps)

at-up_to : (b : ℕ) (v : ℕ → ℕ) (o : Option ℕ) → at (up_to b v) o ≡ min (at v o) b
at-up_to b v None = omega arith
at-up_to b v (Some i) = refl

pub reached-up_to : (g : List (List Part)) (b : ℕ) (v : ℕ → ℕ) (n i : ℕ) → reached g (up_to b v) n i ≡ min (reached g v n i) b
reached-up_to g b v zero i = refl
reached-up_to g b v (suc n) i =
    let below : reached g (up_to b v) n ≡ up_to b (reached g v n) = λ k j. reached-up_to g b v n j k in
    let far = greatest-up_to b (λ (p : Part). at (reached g v n) p.mentions) (λ (p : Part). at (up_to b (reached g v n)) p.mentions) (λ p. at-up_to b (reached g v n) p.mentions) (parts_at g i) in
    ap (λ r. max (min (v i) b) (greatest (λ (p : Part). at r p.mentions) (parts_at g i))) below ∙ omega (arith, far)

need-up_to : (b : ℕ) (v r : ℕ → ℕ) (o : Option ℕ) (n : Need) → value_of_need (up_to b v) (up_to b r) o n ≡ min (value_of_need v r o n) b
need-up_to b v r o Nothing = omega arith
need-up_to b v r o Mentioned = at-up_to b v o
need-up_to b v r o Reached = at-up_to b r o

pub needed-up_to : (b : ℕ) (v r : ℕ → ℕ) (p : Part) → needed (up_to b v) (up_to b r) p ≡ min (needed v r p) b
needed-up_to b v r p = need-up_to b v r p.mentions p.need
