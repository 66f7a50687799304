-- What several writes leave of the bytes of a side.
use Rattle.std.proofs.Common.{◌≡◌, ℕ, ◌+◌, ◌-◌, ◌≤◌, List, [], ◌∷◌, ◌++◌, length, take, drop, replicate, sym, ◌∙◌, ap, arith, append_assoc, length-append}
use Rattle.std.proofs.lemmas.List.{drop_at, drop-drop, length-replicate, length-take-le, take-append-le, take-take}
use Rattle.host_model.specs.Images.{overwritten}

module _ (old : List ℕ) (at : ℕ) (bytes : List ℕ) where
  abbrev grown : List ℕ
  grown = old ++ replicate (at - length old) 0

  long_front : length (take at grown) ≡ at
  long_front = length-take-le at grown (omega (arith, length-append old (replicate (at - length old) 0), length-replicate {A = ℕ} (at - length old) 0))

  -- what is behind a write is as before
  pub behind_write : (n : ℕ) → at + length bytes ≤ n → drop n (overwritten old at bytes) ≡ drop n old
  behind_write n within =
      let end = at + length bytes in
      let rest = drop end old in
      let more = n - end in
      let sum : end + more ≡ n = omega arith in
      let long : length (take at grown ++ bytes) ≡ end = omega (arith, length-append (take at grown) bytes, long_front) in
      let same : drop end (overwritten old at bytes) ≡ rest = drop_at (take at grown ++ bytes) rest end long in
      ap (λ (i : ℕ). drop i (overwritten old at bytes)) (sym sum) ∙ sym (drop-drop more end (overwritten old at bytes)) ∙ ap (λ (l : List ℕ). drop more l) same
      ∙ drop-drop more end old ∙ ap (λ (i : ℕ). drop i old) sum

-- a write behind a place, and then of one byte at it, are one write
pub written_twice : (old : List ℕ) (at byte : ℕ) (bytes : List ℕ) → at ≤ length old → overwritten (overwritten old (at + 1) bytes) at (byte ∷ []) ≡ overwritten old at (byte ∷ bytes)
written_twice old at byte bytes within =
    let zeros = replicate {A = ℕ} (at + 1 - length old) 0 in
    let front = take (at + 1) (old ++ zeros) in
    let rest = drop (at + 1 + length bytes) old in
    let mid = overwritten old (at + 1) bytes in
    let long : length front ≡ at + 1 = long_front old (at + 1) bytes in
    let first : take at (mid ++ replicate (at - length mid) 0) ≡ take at old =
    take-append-le at mid (replicate (at - length mid) 0) (omega (arith, long, length-append (front ++ bytes) rest, length-append front bytes))
    ∙ take-append-le at (front ++ bytes) rest (omega (arith, long, length-append front bytes)) ∙ take-append-le at front bytes (omega (arith, long)) ∙ take-take at (at + 1) (old ++ zeros) (omega arith) ∙ take-append-le at old zeros within in
    let whole : take at (old ++ replicate (at - length old) 0) ≡ take at old = take-append-le at old (replicate (at - length old) 0) within in
    let last : drop (at + 1) mid ≡ bytes ++ rest = ap (λ (l : List ℕ). drop (at + 1) l) (append_assoc front bytes rest) ∙ drop_at front (bytes ++ rest) (at + 1) long in
    let same = take at (old ++ replicate (at - length old) 0) in
    let end : at + 1 + length bytes ≡ at + length (byte ∷ bytes) = omega arith in
    ap (λ (l : List ℕ). l ++ byte ∷ [] ++ drop (at + 1) mid) (first ∙ sym whole)
    ∙ ap (λ (l : List ℕ). same ++ byte ∷ [] ++ l) last ∙ append_assoc same (byte ∷ []) (bytes ++ rest) ∙ sym (append_assoc same (byte ∷ bytes) rest)
    ∙ ap (λ (i : ℕ). same ++ (byte ∷ bytes) ++ drop i old) end
