-- Objects that are too high are the first of long chains of needs.
use Rattle.std.proofs.Common.{◌≡◌, ℕ, zero, suc, ◌+◌, ◌<◌, ◌≤◌, List, [], ◌∷◌, length, Option, Some, None, inl, inr, refl, ap, arith, lt-ltb}
use Rattle.std.proofs.lemmas.Bool.{cases_lt}
use Rattle.std.specs.Prelude.{if◌then◌else◌}
use Rattle.fml_types.specs.Ground.{parts_at, greatest, at, reached, reached_all, value_of_need, needed, height_up_to}
use Rattle.fml_types.specs.Laws.{ReachesIn, FieldNeeds, SomeNeeds, NeedsIn, AreTooHigh}
use Rattle.fml_types.specs.Reach.{Mentions}
use Rattle.fml_types.specs.declared.graph.Need.{Need}
use Rattle.fml_types.specs.declared.graph.Need.TheVariants.{Nothing, Mentioned, Reached}
use Rattle.fml_types.specs.declared.graph.Part.{Part}
use Rattle.fml_types.proofs.Needing.{higher_up_to}
use Rattle.fml_types.proofs.Reaching.{mentions_now, mentions_later}
use Rattle.fml_types.proofs.Rounds.{height_past}

-- ---- what a field needs is the value of an object that it needs

at_above : (v : ℕ → ℕ) (bound : ℕ) (o : Option ℕ) → bound < at v o → (j : ℕ) × (o ≡ Some j) × (bound < v j)
at_above v bound None h = absurd (omega arith)
at_above v bound (Some j) h = (j, refl, h)

mentioned_above : (r : ℕ → ℕ) (bound : ℕ) (ps : List Part) → bound < greatest (λ (p : Part). at r p.mentions) ps → (j : ℕ) × Mentions ps j × (bound < r j)
mentioned_above r bound [] h = absurd (omega arith)
mentioned_above r bound (p ∷ ps) h =
    elim (cases_lt bound (at r p.mentions)) [
      | inl above ↦ let now = at_above r bound p.mentions above in (now.0, mentions_now p ps now.0 now.1, now.2)
      | inr low ↦ let later = mentioned_above r bound ps (omega arith) in (later.0, mentions_later p ps later.0 later.1, later.2)
    ]

reached_above : (g : List (List Part)) (v : ℕ → ℕ) (bound n i : ℕ) → bound < reached g v n i → (j : ℕ) × (m : ℕ) × ReachesIn g m i j × (bound < v j)
reached_above g v bound zero i h = (i, 0, refl, h)
reached_above g v bound (suc n) i h =
    elim (cases_lt bound (v i)) [
      | inl here ↦ (i, 0, refl, here)
      | inr low ↦
          let one = mentioned_above (reached g v n) bound (parts_at g i) (omega arith) in
          let rest = reached_above g v bound n one.0 one.2 in
          (rest.0, suc rest.1, (one.0, one.1, rest.2), rest.3)
    ]

field_above : (g : List (List Part)) (v : ℕ → ℕ) (bound : ℕ) (mentioned : Option ℕ) (need : Need) → bound < value_of_need v (reached_all g v) mentioned need → (j : ℕ) × FieldNeeds g mentioned need j × (bound < v j)
field_above g v bound mentioned Nothing h = absurd (omega arith)
field_above g v bound mentioned Mentioned h = at_above v bound mentioned h
field_above g v bound mentioned Reached h =
    let one = at_above (reached_all g v) bound mentioned h in
    let rest = reached_above g v bound (length g) one.0 one.2 in
    (rest.0, (one.0, rest.1, one.1, rest.2), rest.3)

some_above : (g : List (List Part)) (v : ℕ → ℕ) (bound : ℕ) (ps : List Part) → bound < greatest (needed v (reached_all g v)) ps → (j : ℕ) × SomeNeeds g ps j × (bound < v j)
some_above g v bound [] h = absurd (omega arith)
some_above g v bound (p ∷ ps) h =
    elim (cases_lt bound (needed v (reached_all g v) p)) [
      | inl above ↦ let now = field_above g v bound p.mentions p.need above in (now.0, inl now.1, now.2)
      | inr low ↦ let later = some_above g v bound ps (omega arith) in (later.0, inr later.1, later.2)
    ]

-- ---- an object that is too high

within : (g : List (List Part)) (k i : ℕ) → 0 < height_up_to g k i → i < length g
within g k i h =
    elim (cases_lt i (length g)) [
      | inl inside ↦ inside
      | inr beyond ↦ let none = height_past g k i beyond in absurd (omega (arith, none, h))
    ]

height_within : (g : List (List Part)) (k i : ℕ) → i < length g → height_up_to g (suc k) i ≡ suc (greatest (needed (height_up_to g k) (reached_all g (height_up_to g k))) (parts_at g i))
height_within g k i inside = ap (λ b. if b then suc (greatest (needed (height_up_to g k) (reached_all g (height_up_to g k))) (parts_at g i)) else 0) (lt-ltb i (length g) inside)

one_needed : (g : List (List Part)) (k bound i : ℕ) → suc bound < height_up_to g (suc k) i → (j : ℕ) × SomeNeeds g (parts_at g i) j × (bound < height_up_to g k j)
one_needed g k bound i h =
    some_above g (height_up_to g k) bound (parts_at g i)
    (less (height_up_to g (suc k) i) (greatest (needed (height_up_to g k) (reached_all g (height_up_to g k))) (parts_at g i)) bound (height_within g k i (within g (suc k) i (some (height_up_to g (suc k) i) bound h))) h)
  where
    less : (a b bound : ℕ) → a ≡ suc b → suc bound < a → bound < b
    less a b bound e h = omega arith

    some : (a bound : ℕ) → suc bound < a → 0 < a
    some a bound h = omega arith

chain_of : (g : List (List Part)) (n i : ℕ) → suc n < height_up_to g (suc (suc n)) i → (j : ℕ) × (j < length g) × NeedsIn g n i j
chain_of g zero i h = let one = one_needed g 1 0 i h in (one.0, within g 1 one.0 one.2, one.1)
chain_of g (suc n) i h =
    let one = one_needed g (suc (suc n)) (suc n) i h in
    let rest = chain_of g n one.0 one.2 in
    (rest.0, rest.1, (one.0, one.1, rest.2))

-- ---- the first of a chain

falls : (g : List (List Part)) (k n i j : ℕ) → NeedsIn g n i j → height_up_to g (suc k) i ≤ k → height_up_to g (suc k) j + suc n ≤ height_up_to g (suc k) i
falls g k zero i j needs low = one_less (height_up_to g (suc k) j) (height_up_to g (suc k) i) (higher_up_to g k i j needs low)
  where
    one_less : (a b : ℕ) → a < b → a + 1 ≤ b
    one_less a b h = omega arith
falls g k (suc n) i j needs low =
    let one = higher_up_to g k i needs.0 needs.1 low in
    let rest = falls g k n needs.0 j needs.2 (lower (height_up_to g (suc k) needs.0) (height_up_to g (suc k) i) k one low) in
    through (height_up_to g (suc k) j) (height_up_to g (suc k) needs.0) (height_up_to g (suc k) i) n rest one
  where
    lower : (a b k : ℕ) → a < b → b ≤ k → a ≤ k
    lower a b k h i = omega arith

    through : (a b c n : ℕ) → a + suc n ≤ b → b < c → a + suc (suc n) ≤ c
    through a b c n h i = omega arith

first_of_chain : (g : List (List Part)) (n i j : ℕ) → j < length g → NeedsIn g n i j → suc n < height_up_to g (suc (suc n)) i
first_of_chain g n i j inside needs =
    elim (cases_lt (suc n) (height_up_to g (suc (suc n)) i)) [
      | inl high ↦ high
      | inr low ↦
          absurd (never (height_up_to g (suc (suc n)) i) (height_up_to g (suc (suc n)) j) (greatest (needed (height_up_to g (suc n)) (reached_all g (height_up_to g (suc n)))) (parts_at g j)) n
          (height_within g (suc n) j inside) (falls g (suc n) n i j needs low) low)
    ]
  where
    never : (a b c n : ℕ) → b ≡ suc c → b + suc n ≤ a → a ≤ suc n → ⊥
    never a b c n e h i = omega arith

pub heights_are_too_high : AreTooHigh
heights_are_too_high g i = (chain_of g 31 i, λ chain. first_of_chain g 31 i chain.0 chain.1 chain.2)
