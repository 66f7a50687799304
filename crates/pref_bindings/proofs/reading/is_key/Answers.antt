-- The letter of a hold, and what stands behind it.
use Rattle.std.proofs.Common.{rules, ◌≡◌, ◌-◌, ◌≤◌, [], ◌∷◌, List, ℕ, IsTrue, length, get_or, take, drop, sym, ap, ◌∙◌, arith}
use Rattle.std.specs.Prelude.{◌↔◌}
use Rattle.std.proofs.lemmas.List.{take_all}
use Rattle.pref_bindings.proofs.OneList.{cons_tail}
use Rattle.pref_bindings.proofs.reading.is_key.Goals as goal

behind_first : (x : ℕ) (key : List ℕ) → 1 ≤ length key → get_or key 0 0 ≡ x → key ≡ x ∷ take (length key - 1) (drop 1 key)
behind_first x [] some is = absurd (omega (arith, some))
behind_first x (y ∷ ys) some is =
    let count : length (y ∷ ys) - 1 ≡ length ys = omega arith in
    let whole : take (length (y ∷ ys) - 1) ys ≡ ys = ap (λ n. take n ys) count ∙ take_all (length ys) ys (omega arith) in
    λ i. is i ∷ sym whole i

pub returns-in-104 : goal.returns-in-104
returns-in-104 c =
    let key : List ℕ = c.args.key.now in
    let behind : List ℕ = take (length key - 1) (drop 1 key) in
    let some : 1 ≤ length key = search rules in
    let first : get_or key 0 0 ≡ 104 = search rules in
    let whole : key ≡ 104 ∷ behind = behind_first 104 key some first in
    let told : IsTrue c.eq.result ↔ (behind ≡ c.args.name.now) = search rules in
    (λ is. whole ∙ ap (λ (l : List ℕ). 104 ∷ l) (told.0 is), λ same. told.1 (cons_tail (sym whole ∙ same)))
