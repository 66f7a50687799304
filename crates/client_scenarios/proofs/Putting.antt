-- Where each name was put there are as many more, and where there are as many more each was put.
use Rattle.std.proofs.Common.{◌≡◌, ◌≤◌, ◌+◌, inl, inr, ℕ, List, [], ◌∷◌, ◌++◌, length, length-append, append_assoc, append-nil, sym, ◌∙◌, ap, arith}
use Rattle.client_scenarios.specs.Puts.{IsPut}

-- these names are put, one after the other
abbrev pub ArePut : List (List ℕ) → List (List ℕ) → List (List ℕ) → Type 0
ArePut start [] end = end ≡ start
ArePut start (name ∷ names) end = (next : List (List ℕ)) × IsPut start name next × ArePut next names end

one_more : (start : List (List ℕ)) (name : List ℕ) (next : List (List ℕ)) → IsPut start name next → length next ≤ length start + 1
one_more start name next (inl put) = omega (arith, ap length put, length-append start (name ∷ []))
one_more start name next (inr left) = omega (arith, ap length left)

at_most : (start names end : List (List ℕ)) → ArePut start names end → length end ≤ length start + length names
at_most start [] end are = omega (arith, ap length are)
at_most start (name ∷ names) end (next, is, are) = omega (arith, one_more start name next is, at_most next names end are)

pub all_put : (start names end : List (List ℕ)) → ArePut start names end → length end ≡ length start + length names → end ≡ start ++ names
all_put start [] end are whole = are ∙ sym (append-nil start)
all_put start (name ∷ names) end (next, inl put, are) whole =
    all_put next names end are (omega (arith, whole, ap length put, length-append start (name ∷ [])))
    ∙ ap (λ (n : List (List ℕ)). n ++ names) put ∙ append_assoc start (name ∷ []) names
all_put start (name ∷ names) end (next, inr left, are) whole = absurd (omega (arith, whole, ap length left, at_most next names end are))
