-- What the fields of an object need of a table's other objects.
use Rattle.std.proofs.Common.{◌≡◌, ℕ, zero, suc, ◌<◌, ◌≤◌, Bool, true, false, List as Seq, [], ◌∷◌, length, map as over, get_or, Option as Maybe, Some, None, option_map, refl, sym, ap, ◌∙◌, subst, arith}
use Rattle.std.proofs.lemmas.List.{length-map}
use Rattle.std.specs.Prelude.{nat_lt, bytes_eq, option_and_then, if◌then◌else◌}
use Rattle.std.proofs.lemmas.Bool.{lt-ltb}
use Rattle.fml_types.specs.Graph.{mention, part_of, graph_of}
use Rattle.fml_types.specs.Ground.{parts_at, greatest, at, reached_all, needed, height_up_to}
use Rattle.fml_types.specs.Named.{found, place}
use Rattle.fml_types.specs.Reach.{Mentions}
use Rattle.fml_types.specs.Shape.{Shape}
use Rattle.fml_types.specs.Shapes.{shape_of}
use Rattle.fml_types.specs.declared.graph.Part.{Part}
use Rattle.fml_types.specs.declared.manifest.Field.{Field}
use Rattle.fml_types.specs.declared.manifest.ObjectDefinition.{ObjectDefinition}
use Rattle.fml_types.specs.declared.manifest.TypeTable.{TypeTable}
use Rattle.fml_types.proofs.Places.{found_none, place_within}
use Rattle.fml_types.proofs.Reaching.{mentions_now, mentions_later, reached_all_closed}

-- ---- the graph of a table

module _ (objects : Seq (Seq ℕ × ObjectDefinition)) where
  -- where the object stands that a type mentions
  abbrev pub mentioned : Shape → Maybe ℕ
  mentioned t = option_and_then (λ n. place n objects) (mention t)

  parts_found : (os : Seq (Seq ℕ × ObjectDefinition)) (n : Seq ℕ) (o : ObjectDefinition) (i : ℕ) → place n os ≡ Some i → found n os ≡ Some o → get_or (over (λ (q : Seq ℕ × ObjectDefinition). over (part_of objects) q.1.fields) os) i [] ≡ over (part_of objects) o.fields
  parts_found [] n o i here is = absurd cc
  parts_found (p ∷ ps) n o i here is = one (bytes_eq p.0 n) (place n ps) refl i here is (λ j e d. parts_found ps n o j e d)
    where
      one : (b : Bool) (q : Maybe ℕ) → place n ps ≡ q → (i : ℕ) → (if b then Some 0 else option_map suc q) ≡ Some i → (if b then Some p.1 else found n ps) ≡ Some o
          → ((j : ℕ) → place n ps ≡ Some j → found n ps ≡ Some o → get_or (over (λ (r : Seq ℕ × ObjectDefinition). over (part_of objects) r.1.fields) ps) j [] ≡ over (part_of objects) o.fields)
          → get_or (over (part_of objects) p.1.fields ∷ over (λ (r : Seq ℕ × ObjectDefinition). over (part_of objects) r.1.fields) ps) i [] ≡ over (part_of objects) o.fields
      one true q e zero here is rest = let same : p.1 ≡ o = cc in ap (λ (d : ObjectDefinition). over (part_of objects) d.fields) same
      one true q e (suc i) here is rest = absurd cc
      one false None e i here is rest = absurd cc
      one false (Some j) e zero here is rest = absurd cc
      one false (Some j) e (suc i) here is rest = let same : j ≡ i = cc in rest i (e ∙ ap (λ m. Some m) same) is

  field_mentions : (fs : Seq (Seq ℕ × Field)) (name : Seq ℕ) (f : Field) (j : ℕ) → found name fs ≡ Some f → mentioned (shape_of f.field_type) ≡ Some j → Mentions (over (part_of objects) fs) j
  unfolding part_of
  field_mentions [] name f j is e = absurd cc
  field_mentions (p ∷ ps) name f j is e = one (bytes_eq p.0 name) is (λ d. field_mentions ps name f j d e)
    where
      one : (b : Bool) → (if b then Some p.1 else found name ps) ≡ Some f → (found name ps ≡ Some f → Mentions (over (part_of objects) ps) j) → Mentions (over (part_of objects) (p ∷ ps)) j
      one true here rest = let same : p.1 ≡ f = cc in mentions_now (part_of objects p) (over (part_of objects) ps) j (ap (λ (g : Field). mentioned (shape_of g.field_type)) same ∙ e)
      one false here rest = mentions_later (part_of objects p) (over (part_of objects) ps) j (rest here)

-- ---- small facts

pub at_le : (v r : ℕ → ℕ) → ((i : ℕ) → v i ≤ r i) → (m : Maybe ℕ) → at v m ≤ at r m
at_le v r low None = omega arith
at_le v r low (Some i) = low i

pub first_greatest : (f : Part → ℕ) (p : Part) (ps : Seq Part) (k : ℕ) → greatest f (p ∷ ps) ≤ k → (f p ≤ k) × (greatest f ps ≤ k)
first_greatest f p ps k h = (omega arith, omega arith)

-- ---- values and heights of what a field mentions

module _ (types : TypeTable) where
  abbrev graph : Seq (Seq Part)
  graph = graph_of types.objects

  target_within : (v : ℕ → ℕ) (k i : ℕ) (o : ObjectDefinition) (n name : Seq ℕ) (f : Field) → place n types.objects ≡ Some i → found n types.objects ≡ Some o → found name o.fields ≡ Some f → reached_all graph v i ≤ k
      → (m : Maybe ℕ) → mentioned types.objects (shape_of f.field_type) ≡ m → at (reached_all graph v) m ≤ k
  target_within v k i o n name f here is there low None e = omega arith
  target_within v k i o n name f here is there low (Some j) e =
      let mention = subst (λ ps. Mentions ps j) (sym (parts_found types.objects types.objects n o i here is)) (field_mentions types.objects o.fields name f j there e) in
      let up = reached_all_closed graph v i j mention in
      omega (arith, up, low)

  pub field_within : (v : ℕ → ℕ) (k : ℕ) (o : ObjectDefinition) (n name : Seq ℕ) (f : Field) → found n types.objects ≡ Some o → found name o.fields ≡ Some f → (q : Maybe ℕ) → place n types.objects ≡ q → at (reached_all graph v) q ≤ k
      → at (reached_all graph v) (mentioned types.objects (shape_of f.field_type)) ≤ k
  field_within v k o n name f is there None e low = absurd (let none = found_none n types.objects e in cc)
  field_within v k o n name f is there (Some i) e low = target_within v k i o n name f e is there low (mentioned types.objects (shape_of f.field_type)) refl

  -- the height of an object that is there, at the next level
  pub low_parts : (k : ℕ) (n : Seq ℕ) (o : ObjectDefinition) → found n types.objects ≡ Some o → (q : Maybe ℕ) → place n types.objects ≡ q → at (height_up_to graph (suc k)) q ≤ k
      → suc (greatest (needed (height_up_to graph k) (reached_all graph (height_up_to graph k))) (over (part_of types.objects) o.fields)) ≤ k
  low_parts k n o is None e low = absurd (let none = found_none n types.objects e in cc)
  low_parts k n o is (Some i) e low =
      let within = place_within n types.objects i e in
      let count : length graph ≡ length types.objects = length-map types.objects _ in
      let here = parts_found types.objects types.objects n o i e is in
      let less : nat_lt i (length graph) ≡ true = lt-ltb i (length graph) (omega (arith, within, count)) in
      let high : height_up_to graph (suc k) i ≡ suc (greatest (needed (height_up_to graph k) (reached_all graph (height_up_to graph k))) (over (part_of types.objects) o.fields)) =
      ap (λ b. if b then suc (greatest (needed (height_up_to graph k) (reached_all graph (height_up_to graph k))) (parts_at graph i)) else 0) less ∙ ap (λ ps. suc (greatest (needed (height_up_to graph k) (reached_all graph (height_up_to graph k))) ps)) here in
      omega (arith, high, low)

  pub at_place : ((i : ℕ) → i < length types.objects → height_up_to graph 33 i ≤ 32) → (n : Seq ℕ) (q : Maybe ℕ) → place n types.objects ≡ q → at (height_up_to graph 33) q ≤ 32
  at_place low n None e = omega arith
  at_place low n (Some i) e = low i (place_within n types.objects i e)
