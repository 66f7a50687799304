-- What is known of parts: a part means the same for each item, and what is known stays true.
use Rattle.std.proofs.Common.{◌≡◌, ℕ, zero, suc, Bool, false, ◌||◌, List, [], ◌∷◌, ◌++◌, Option, Some, None, Result, Ok, ◌⊎◌, inl, inr, refl, sym, ap, ap₂, ◌∙◌, subst}
use Rattle.std.specs.Prelude.{not, slice_get, slice_set, if◌then◌else◌, option_map, map}
use Rattle.std.proofs.lemmas.Bool.{or_parts}
use Rattle.json_tree.specs.Json.{Json, Members, truth, list, object, items_of, members_of}
use Rattle.jexl_parser.specs.Tree as trees
use Rattle.jexl_parser.specs.Tree.{Tree, Trees, Pairs, Literal, Named, Relative, Member, Index, Filter, Transform, Not, Binary, Choose, OrElse, none, one_more, no_pair, pair, has_relative, any_relative, any_pair_relative}
use Rattle.jexl_value.specs.Meaning.{is_truthy}
use Rattle.jexl_eval.specs.Faults.{Fault, ◌>>=◌}
use Rattle.jexl_eval.specs.Elements.{member, index}
use Rattle.jexl_eval.specs.Operations.{decided, operate, filter_items}
use Rattle.jexl_eval.specs.Meaning.{meaning, meanings, pair_meanings, transformed, unless_decided, kept, with_members}
use Rattle.jexl_eval.specs.Places.{IsPart}
use Rattle.jexl_eval.specs.Parts.{AreUnknown, AreKnown}

module _ (has : List ℕ → Bool) (attributes : Members) (x y : Json) where
  abbrev choice : Result Json Fault → Result Json Fault → Result Json Fault → Result Json Fault
  choice r s u = r >>= λ v. if is_truthy v then s else u

  abbrev else_choice : Result Json Fault → Result Json Fault → Result Json Fault
  else_choice r u = r >>= λ v. if is_truthy v then Ok v else u

  mutual
    -- without a relative name of the bracket around it, a tree means the same for two items
    pub same_for : (t : Tree) → has_relative t ≡ false → meaning has attributes x t ≡ meaning has attributes y t
    same_for (Literal c) h = refl
    same_for (Named n) h = refl
    same_for (Relative n) h = absurd cc
    same_for (trees.Items ts) h = ap (λ r. r >>= λ xs. Ok (list (items_of xs))) (all_same ts h)
    same_for (trees.Members ps) h = ap (λ r. r >>= λ ms. Ok (object (members_of (with_members [] ms)))) (pairs_same ps h)
    same_for (Member a n) h = ap (λ r. r >>= λ v. Ok (member n v)) (same_for a h)
    same_for (Index a b) h =
        let e = or_parts (has_relative a) (has_relative b) h in
        ap₂ (λ r s. r >>= λ v. s >>= λ key. Ok (index v key)) (same_for a e.0) (same_for b e.1)
    same_for (Filter a b) h = ap (λ r. r >>= λ v. filter_items v >>= λ vs. kept (λ z. meaning has attributes z b) vs >>= λ ys. Ok (list (items_of ys))) (same_for a h)
    same_for (Transform a n ts) h =
        let e = or_parts (has_relative a) (any_relative ts) h in
        ap₂ (λ r s. r >>= λ v. s >>= λ vs. transformed has n attributes v vs) (same_for a e.0) (all_same ts e.1)
    same_for (Not a) h = ap (λ r. r >>= λ v. Ok (truth (not (is_truthy v)))) (same_for a h)
    same_for (Binary o a b) h =
        let e = or_parts (has_relative a) (has_relative b) h in
        ap₂ (λ r s. r >>= λ v. unless_decided (decided o v) (s >>= λ w. operate o v w)) (same_for a e.0) (same_for b e.1)
    same_for (Choose a b c) h =
        let e = or_parts (has_relative a) (has_relative b || has_relative c) h in
        let d = or_parts (has_relative b) (has_relative c) e.1 in
        ap₂ (λ r s. choice r s (meaning has attributes x c)) (same_for a e.0) (same_for b d.0) ∙ ap (λ u. choice (meaning has attributes y a) (meaning has attributes y b) u) (same_for c d.1)
    same_for (OrElse a c) h =
        let e = or_parts (has_relative a) (has_relative c) h in
        ap₂ else_choice (same_for a e.0) (same_for c e.1)

    all_same : (ts : Trees) → any_relative ts ≡ false → meanings has attributes x ts ≡ meanings has attributes y ts
    all_same none h = refl
    all_same (one_more t ts) h =
        let e = or_parts (has_relative t) (any_relative ts) h in
        ap₂ (λ r s. r >>= λ v. s >>= λ vs. Ok (v ∷ vs)) (same_for t e.0) (all_same ts e.1)

    pairs_same : (ps : Pairs) → any_pair_relative ps ≡ false → pair_meanings has attributes x ps ≡ pair_meanings has attributes y ps
    pairs_same no_pair h = refl
    pairs_same (pair n t ps) h =
        let e = or_parts (has_relative t) (any_pair_relative ps) h in
        ap₂ (λ r s. r >>= λ v. s >>= λ ms. Ok ((n, v) ∷ ms)) (same_for t e.0) (pairs_same ps e.1)

-- one more that is unknown
unknown_push : {X : Type 0} (os : List (Option X)) → AreUnknown os → AreUnknown (os ++ (None ∷ []))
unknown_push [] h = tt
unknown_push (None ∷ os) h = unknown_push os h
unknown_push (Some x ∷ os) h = absurd h

pub unknown_more : {X : Type 0} (os new : List (Option X)) → new ≡ os ++ (None ∷ []) → AreUnknown os → AreUnknown new
unknown_more os new e h = subst AreUnknown (sym e) (unknown_push os h)

unknown_gets : {X : Type 0} (f : X → Json) (os : List (Option X)) (k : ℕ) (v : Json) → AreUnknown os → slice_get (map (option_map f) os) k ≡ Some (Some v) → ⊥
unknown_gets f [] k v h e = absurd cc
unknown_gets f (None ∷ os) zero v h e = absurd cc
unknown_gets f (None ∷ os) (suc k) v h e = unknown_gets f os k v h e
unknown_gets f (Some x ∷ os) k v h e = absurd h

-- what stands in a list after one place was set
set_there : (os : List (Option Json)) (i k : ℕ) (v w : Json) → slice_get (slice_set os i (Some v)) k ≡ Some (Some w) → ((k ≡ i) × (v ≡ w)) ⊎ (slice_get os k ≡ Some (Some w))
set_there [] i k v w h = inr h
set_there (o ∷ os) zero zero v w h = inl (refl, cc)
set_there (o ∷ os) zero (suc k) v w h = inr h
set_there (o ∷ os) (suc i) zero v w h = inr h
set_there (o ∷ os) (suc i) (suc k) v w h = elim (set_there os i k v w h) [ inl p ↦ inl (ap suc p.0, p.1) | inr q ↦ inr q ]

module _ (has : List ℕ → Bool) (attributes : Members) (parts : List Tree) where
  -- nothing is known at first
  pub nothing_known : {X : Type 0} (f : X → Json) (os : List (Option X)) → AreUnknown os → AreKnown has attributes parts (map (option_map f) os)
  nothing_known f os h k t v there value x = absurd (unknown_gets f os k v h value)

  -- one more part is known
  pub known_more : (values new : List (Option Json)) (i : ℕ) (t : Tree) (current v : Json) → AreKnown has attributes parts values → IsPart parts t (Some i)
      → meaning has attributes current t ≡ Ok v → new ≡ slice_set values i (Some v) → AreKnown has attributes parts new
  known_more values new i t current v known is e set k u w there value x =
      elim (set_there values i k v w (ap (λ os. slice_get os k) (sym set) ∙ value)) [
        | inl p ↦ (
            let same : Some u ≡ Some t = sym there ∙ ap (λ n. slice_get parts n) p.0 ∙ is.0 in
            let tree : u ≡ t = cc in
            ap (meaning has attributes x) tree ∙ same_for has attributes x current t is.1 ∙ e ∙ ap Ok p.1)
        | inr q ↦ known k u w there q x
      ]
