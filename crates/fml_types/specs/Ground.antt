-- How high and how heavy objects are.
use Rattle.std.specs.Prelude.{◌≡◌, ℕ, zero, suc, ◌+◌, ◌*◌, max, nat_lt, List, [], ◌∷◌, length, get_or, Option, Some, None, Result, Ok, Err, if◌then◌else◌}
use Rattle.std.specs.List.{sum_by}
use Rattle.fml_types.specs.Graph.{graph_of}
use Rattle.fml_types.specs.declared.graph.Need.{Need}
use Rattle.fml_types.specs.declared.graph.Need.TheVariants.{Nothing, Mentioned, Reached}
use Rattle.fml_types.specs.declared.graph.Part.{Part}
use Rattle.fml_types.specs.declared.manifest.TypeTable.{TypeTable}
use Rattle.fml_types.specs.declared.manifest.ObjectDefinition.{ObjectDefinition}
use Rattle.fml_types.specs.declared.grounding.GroundFault.{GroundFault}
use Rattle.fml_types.specs.declared.grounding.GroundFault.TheVariants as faults
use Rattle.fml_types.specs.declared.grounding.Ungrounded.{Ungrounded}
use Rattle.fml_types.specs.declared.grounding.Ungrounded.TheVariants.{EndlessObject, ObjectTooLarge}

-- the fields of the object at a place
abbrev pub parts_at : List (List Part) → ℕ → List Part
parts_at g i = get_or g i []

abbrev pub greatest : {A : Type 0} → (A → ℕ) → List A → ℕ
greatest f [] = 0
greatest f (x ∷ xs) = max (f x) (greatest f xs)

-- the value of the object at a place, where there is one
abbrev pub at : (ℕ → ℕ) → Option ℕ → ℕ
at v None = 0
at v (Some i) = v i

-- the greatest value of an object and of those that it mentions, these having what r says
abbrev pub farther : List (List Part) → (ℕ → ℕ) → (ℕ → ℕ) → ℕ → ℕ
farther g v r i = max (v i) (greatest (λ (p : Part). at r p.mentions) (parts_at g i))

-- the greatest value of the objects that an object reaches in at most so many steps, itself among them
abbrev pub reached : List (List Part) → (ℕ → ℕ) → ℕ → ℕ → ℕ
reached g v zero = v
reached g v (suc n) = farther g v (reached g v n)

-- the greatest value of all that it reaches; no way without a detour has more steps than there are objects
abbrev pub reached_all : List (List Part) → (ℕ → ℕ) → ℕ → ℕ
reached_all g v = reached g v (length g)

-- the greatest value of the objects that a field needs; r is that of all that an object reaches
abbrev pub value_of_need : (ℕ → ℕ) → (ℕ → ℕ) → Option ℕ → Need → ℕ
value_of_need v r i Nothing = 0
value_of_need v r i Mentioned = at v i
value_of_need v r i Reached = at r i

abbrev pub needed : (ℕ → ℕ) → (ℕ → ℕ) → Part → ℕ
needed v r p = value_of_need v r p.mentions p.need

-- ---- heights

-- one more than the greatest height of what an object needs
abbrev pub higher : List (List Part) → (ℕ → ℕ) → (ℕ → ℕ) → ℕ → ℕ
higher g v r i = if nat_lt i (length g) then suc (greatest (needed v r) (parts_at g i)) else 0

-- the heights that follow where all that is needed has these
abbrev pub next_heights : List (List Part) → (ℕ → ℕ) → ℕ → ℕ
next_heights g v = higher g v (reached_all g v)

-- the height of the object at a place, where it is at most so much, and else so much
abbrev pub height_up_to : List (List Part) → ℕ → ℕ → ℕ
height_up_to g zero = λ i. 0
height_up_to g (suc k) = next_heights g (height_up_to g k)

-- ---- weights

abbrev pub share : (ℕ → ℕ) → (ℕ → ℕ) → Part → ℕ
share v r p = p.size + p.times * needed v r p

abbrev pub heavier : List (List Part) → (ℕ → ℕ) → (ℕ → ℕ) → ℕ → ℕ
heavier g v r i = if nat_lt i (length g) then 2 + sum_by (share v r) (parts_at g i) else 0

-- the weights that follow where all that is needed has these
abbrev pub next_weights : List (List Part) → (ℕ → ℕ) → ℕ → ℕ
next_weights g v = heavier g v (reached_all g v)

-- the weight of the object at a place, where its height is at most so much
abbrev pub weight_up_to : List (List Part) → ℕ → ℕ → ℕ
weight_up_to g zero = λ i. 0
weight_up_to g (suc k) = next_weights g (weight_up_to g k)

-- ---- which objects are grounded

-- the first name, from the one at a place on, whose value is above the limit
abbrev pub first_above : {T : Type 0} → ℕ → (ℕ → ℕ) → ℕ → List (List ℕ × T) → Option (List ℕ)
first_above limit v i [] = None
first_above limit v i (o ∷ os) = if nat_lt limit (v i) then Some o.0 else first_above limit v (suc i) os

-- the least name of an object whose height is above 32, as it is on a cycle
abbrev pub endless : List (List ℕ × ObjectDefinition) → Option (List ℕ)
endless os = first_above 32 (height_up_to (graph_of os) 33) 0 os

-- the least name of an object that weighs more than 16,384, where no height is above 32
abbrev pub too_large : List (List ℕ × ObjectDefinition) → Option (List ℕ)
too_large os = first_above 16384 (weight_up_to (graph_of os) 32) 0 os

abbrev pub verdict : Option (List ℕ) → Option (List ℕ) → Result (Unit {0}) Ungrounded
verdict (Some name) large = Err (EndlessObject name)
verdict None (Some name) = Err (ObjectTooLarge name)
verdict None None = Ok tt

unfoldable pub grounding : TypeTable → Result (Unit {0}) Ungrounded
grounding types = verdict (endless types.objects) (too_large types.objects)

-- want of memory is the one free answer
abbrev pub GivesGround : Result (Unit {0}) GroundFault → Result (Unit {0}) Ungrounded → Type 0
GivesGround (Ok u) read = read ≡ Ok tt
GivesGround (Err (faults.Refused fault)) read = read ≡ Err fault
GivesGround (Err faults.OutOfMemory) read = Unit {0}
