-- Laws of the definitions alone.
use Rattle.std.specs.Prelude.{◌≡◌, ◌↔◌, ◌≤◌, ℕ, List, Some, All, IsTrue, IsUtf8}
use Rattle.plain_text.specs.Names.{is_name}
use Rattle.app_context.specs.declared.context.Context.{Context}
use Rattle.enrol_states.specs.Order.{Rise}
use Rattle.enrol_states.specs.State.{slugs_of, status_of}
use Rattle.enrol_states.specs.Statuses.{last_moment}
use Rattle.enrol_states.specs.Consistent.{IsConsistent}
use Rattle.enrol_states.specs.declared.state.State.{State}
use Rattle.enrol_conflicts.specs.Settlement.{Settled}
use Rattle.enrol_conflicts.specs.declared.candidate.Candidate.{Candidate}
use Rattle.jexl_parser.specs.Tree.{Tree}
use Rattle.jexl_eval.specs.Expressions.{IsTree}
use Rattle.enrol_evolver.specs.Targeting.{tree_of}
use Rattle.enrol_evolver.specs.Wishes.{grants_of}
use Rattle.enrol_evolver.specs.Evolution.{version_of, refreshed, status_after, evolution}

-- the grants are the settled ones
abbrev pub AreSettled : Type 0
AreSettled = (wishes : List Candidate) (coenrolling : List (List ℕ)) → Settled wishes coenrolling (grants_of wishes coenrolling)

-- after an apply each slug has the status that is defined for it by itself, or none where none is
abbrev pub IsEachByItself : Type 0
IsEachByItself = (s : State) (context : Context) (coenrolling : List (List ℕ)) (now : ℕ) (slug : List ℕ) → Rise (slugs_of s.rows) → status_of slug (evolution s context coenrolling now).rows ≡ status_after context (refreshed s context coenrolling now) now slug

-- an apply keeps a state consistent, whatever its recipes and shared features were before
abbrev pub StaysConsistent : Type 0
StaysConsistent = (s : State) (context : Context) (coenrolling : List (List ℕ)) (now : ℕ) → IsConsistent s → All (λ name. IsTrue (is_name name)) coenrolling → Rise coenrolling → now ≤ last_moment → IsUtf8 (version_of context) → IsConsistent (evolution s context coenrolling now)

-- the tree that is found of a text is the one that it has
abbrev pub AreTrees : Type 0
AreTrees = (text : List ℕ) (tree : Tree) → (tree_of text ≡ Some tree) ↔ IsTree text tree
