-- What an expression means: a value, or the first fault from the left.
use Rattle.std.specs.Prelude.{ℕ, Bool, not, List, [], ◌∷◌, Option, Some, None, Result, Ok, Err, if◌then◌else◌}
use Rattle.json_tree.specs.Json.{Json, null, truth, whole, text, list, object, Items, no_items, item, Members, items_of, members_of, get_member}
use Rattle.jexl_parser.specs.Tree as trees
use Rattle.jexl_parser.specs.Tree.{Constant, Tree, Trees, Pairs, Literal, Named, Relative, Member, Index, Filter, Transform, Not, Binary, Choose, OrElse, none, one_more, no_pair, pair}
use Rattle.jexl_value.specs.Meaning.{is_truthy}
use Rattle.jexl_value.specs.Names.{with_member}
use Rattle.jexl_transforms.specs.Meaning as transforms
use Rattle.jexl_eval.specs.Faults.{Fault, UnknownTransform, BadArguments, ◌>>=◌}
use Rattle.jexl_eval.specs.Elements.{or_null, member, index}
use Rattle.jexl_eval.specs.Operations.{decided, operate, filter_items}

abbrev pub constant : Constant → Json
constant trees.Null = null
constant (trees.Truth b) = truth b
constant (trees.Whole n) = whole n
constant (trees.Quote s) = text s

abbrev pub answered : Option Json → Result Json Fault
answered (Some x) = Ok x
answered None = Err BadArguments

-- the answer of a transform beside these attributes, where `has` says which ones the table has
abbrev pub transformed : (List ℕ → Bool) → List ℕ → Members → Json → List Json → Result Json Fault
transformed has name attributes subject arguments =
    if has name then answered (transforms.meaning name attributes subject arguments) else Err UnknownTransform

-- the truth that is decided, else what comes of the right side
abbrev pub unless_decided : Option Bool → Result Json Fault → Result Json Fault
unless_decided (Some b) right = Ok (truth b)
unless_decided None right = right

-- the items that are kept, each for the value that a condition has of it
abbrev pub kept : (Json → Result Json Fault) → Items → Result (List Json) Fault
kept condition no_items = Ok []
kept condition (item x xs) = condition x >>= λ t. kept condition xs >>= λ ys. Ok (if is_truthy t then x ∷ ys else ys)

-- members that get values, one after another
abbrev pub with_members : List (List ℕ × Json) → List (List ℕ × Json) → List (List ℕ × Json)
with_members so_far [] = so_far
with_members so_far (m ∷ ms) = with_members (with_member m.0 m.1 so_far) ms

-- for the transforms that the table has, the attributes and the current item
abbrev mutual
  pub meaning : (List ℕ → Bool) → Members → Json → Tree → Result Json Fault
  meaning has attributes current (Literal c) = Ok (constant c)
  meaning has attributes current (Named name) = Ok (or_null (get_member name attributes))
  meaning has attributes current (Relative name) = Ok (member name current)
  meaning has attributes current (trees.Items ts) = meanings has attributes current ts >>= λ xs. Ok (list (items_of xs))
  meaning has attributes current (trees.Members ps) = pair_meanings has attributes current ps >>= λ ms. Ok (object (members_of (with_members [] ms)))
  meaning has attributes current (Member a name) = meaning has attributes current a >>= λ x. Ok (member name x)
  meaning has attributes current (Index a b) = meaning has attributes current a >>= λ x. meaning has attributes current b >>= λ key. Ok (index x key)
  meaning has attributes current (Filter a b) =
      meaning has attributes current a >>= λ x. filter_items x >>= λ xs. kept (λ y. meaning has attributes y b) xs >>= λ ys. Ok (list (items_of ys))
  meaning has attributes current (Transform a name ts) =
      meaning has attributes current a >>= λ x. meanings has attributes current ts >>= λ xs. transformed has name attributes x xs
  meaning has attributes current (Not a) = meaning has attributes current a >>= λ x. Ok (truth (not (is_truthy x)))
  meaning has attributes current (Binary o a b) =
      meaning has attributes current a >>= λ x. unless_decided (decided o x) (meaning has attributes current b >>= λ y. operate o x y)
  meaning has attributes current (Choose a b c) =
      meaning has attributes current a >>= λ x. if is_truthy x then meaning has attributes current b else meaning has attributes current c
  meaning has attributes current (OrElse a c) = meaning has attributes current a >>= λ x. if is_truthy x then Ok x else meaning has attributes current c

  pub meanings : (List ℕ → Bool) → Members → Json → Trees → Result (List Json) Fault
  meanings has attributes current none = Ok []
  meanings has attributes current (one_more t ts) = meaning has attributes current t >>= λ x. meanings has attributes current ts >>= λ xs. Ok (x ∷ xs)

  pub pair_meanings : (List ℕ → Bool) → Members → Json → Pairs → Result (List (List ℕ × Json)) Fault
  pair_meanings has attributes current no_pair = Ok []
  pair_meanings has attributes current (pair name t ps) = meaning has attributes current t >>= λ x. pair_meanings has attributes current ps >>= λ ms. Ok ((name, x) ∷ ms)

-- the truth value that a value is; values of other kinds are none
abbrev pub truth_of : Json → Option Bool
truth_of (truth b) = Some b
truth_of x = None

-- the truth value that is meant, or the fault in its place
abbrev pub truth_meant : Result Json Fault → Result (Option Bool) Fault
truth_meant meant = meant >>= λ x. Ok (truth_of x)
