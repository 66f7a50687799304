-- Where parts of trees are kept.
use Rattle.std.specs.Prelude.{◌≡◌, ℕ, false, List, map, Option, Some, None, slice_get, ⊤}
use Rattle.std.specs.Borrow.{Bor}
use Rattle.jexl_parser.specs.declared.node.Node.{Node}
use Rattle.jexl_parser.specs.Tree as trees
use Rattle.jexl_parser.specs.Tree.{Tree, Trees, Pairs, Literal, Named, Relative, Member, Index, Filter, Transform, Not, Binary, Choose, OrElse, none, one_more, no_pair, pair, has_relative}
use Rattle.jexl_parser.specs.View.{view, views, view_pairs}
use Rattle.jexl_eval.specs.declared.places.Places.{Places}
use Rattle.jexl_eval.specs.declared.places.Places.TheVariants.{Nowhere, From'}

-- of a list of trees: the place of the first one, the places below it, and those of the trees after it
abbrev pub place : Places → Option ℕ
place Nowhere = None
place (From' k p a q b) = k

abbrev pub below : Places → Places
below Nowhere = Nowhere
below (From' k p a q b) = a

abbrev pub after : Places → Places
after Nowhere = Nowhere
after (From' k p a q b) = b

abbrev pub trees_of : List (Bor Node) → List Tree
trees_of ns = map (λ n. view n.now) ns

-- each part keeps its place
abbrev pub Extends : List Tree → List Tree → Type 0
Extends ps qs = (k : ℕ) (t : Tree) → slice_get ps k ≡ Some t → slice_get qs k ≡ Some t

module _ (parts : List Tree) where
  -- what has a place is the part there, and no relative name of it belongs to a bracket around it
  abbrev pub IsPart : Tree → Option ℕ → Type 0
  IsPart t None = ⊤
  IsPart t (Some k) = (slice_get parts k ≡ Some t) × (has_relative t ≡ false)

  -- so for each tree below one
  abbrev mutual
    pub FitsBelow : Tree → Places → Type 0
    FitsBelow (Literal c) p = ⊤
    FitsBelow (Named n) p = ⊤
    FitsBelow (Relative n) p = ⊤
    FitsBelow (trees.Items ts) p = AllFit ts p
    FitsBelow (trees.Members ms) p = PairsFit ms p
    FitsBelow (Member a n) p = IsPart a (place p) × FitsBelow a (below p)
    FitsBelow (Index a b) p = (IsPart a (place p) × FitsBelow a (below p)) × (IsPart b (place (after p)) × FitsBelow b (below (after p)))
    FitsBelow (Filter a b) p = (IsPart a (place p) × FitsBelow a (below p)) × (IsPart b (place (after p)) × FitsBelow b (below (after p)))
    FitsBelow (Transform a n ts) p = (IsPart a (place p) × FitsBelow a (below p)) × AllFit ts (after p)
    FitsBelow (Not a) p = IsPart a (place p) × FitsBelow a (below p)
    FitsBelow (Binary o a b) p = (IsPart a (place p) × FitsBelow a (below p)) × (IsPart b (place (after p)) × FitsBelow b (below (after p)))
    FitsBelow (Choose a b c) p =
        (IsPart a (place p) × FitsBelow a (below p)) × (IsPart b (place (after p)) × FitsBelow b (below (after p))) × (IsPart c (place (after (after p))) × FitsBelow c (below (after (after p))))
    FitsBelow (OrElse a c) p = (IsPart a (place p) × FitsBelow a (below p)) × (IsPart c (place (after p)) × FitsBelow c (below (after p)))

    -- and for each tree of a list
    pub AllFit : Trees → Places → Type 0
    AllFit none p = ⊤
    AllFit (one_more t ts) p = (IsPart t (place p) × FitsBelow t (below p)) × AllFit ts (after p)

    pub PairsFit : Pairs → Places → Type 0
    PairsFit no_pair p = ⊤
    PairsFit (pair n t ms) p = (IsPart t (place p) × FitsBelow t (below p)) × PairsFit ms (after p)

  -- and for a tree itself
  abbrev pub Fits : Tree → Places → Type 0
  Fits t p = IsPart t (place p) × FitsBelow t (below p)

-- the places are those of a tree, whatever parts come
abbrev pub HasPlaces : List Tree → Tree → Places → Type 0
HasPlaces parts t p = (qs : List Tree) → Extends parts qs → Fits qs t p

abbrev pub HasPlacesBelow : List Tree → Tree → Places → Type 0
HasPlacesBelow parts t p = (qs : List Tree) → Extends parts qs → FitsBelow qs t p

-- so for two trees, and for lists of trees and of members
abbrev pub HaveTwoPlaces : List Tree → Tree → Tree → Places → Type 0
HaveTwoPlaces parts t u p = (qs : List Tree) → Extends parts qs → Fits qs t p × Fits qs u (after p)

abbrev pub HaveAllPlaces : List Tree → List Node → Places → Type 0
HaveAllPlaces parts ns p = (qs : List Tree) → Extends parts qs → AllFit qs (views ns) p

abbrev pub HavePairPlaces : List Tree → List (List ℕ × Node) → Places → Type 0
HavePairPlaces parts ms p = (qs : List Tree) → Extends parts qs → PairsFit qs (view_pairs ms) p

-- what stands first
pub record IsPlaced (at : Option ℕ) (inside rest p : Places) : Type 0 where
  pub place : place p ≡ at
  pub below : below p ≡ inside
  pub after : after p ≡ rest
