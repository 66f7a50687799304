-- What a recipe's targeting says of a client.
use Rattle.std.specs.Prelude.{ℕ, Bool, true, false, List, Option, Some, None, Result, Ok, Err}
use Rattle.json_tree.specs.Json.{Json, null, members_of}
use Rattle.recipe_reader.specs.declared.recipe.Recipe.{Recipe}
use Rattle.app_context.specs.Attributes.{attributes}
use Rattle.app_context.specs.declared.context.Context.{Context}
use Rattle.enrol_states.specs.declared.state.State.{State}
use Rattle.enrol_states.specs.declared.status.ErrorCause.TheVariants.{Unparsed, Faulted, NotTruth}
use Rattle.jexl_parser.specs.Tree.{Tree}
use Rattle.jexl_transforms.specs.Meaning.{is_standard}
use Rattle.jexl_eval.specs.Expressions.{tree_in}
use Rattle.jexl_eval.specs.Faults.{Fault}
use Rattle.jexl_eval.specs.Meaning.{meaning, truth_of}
use Rattle.jexl_eval.proofs.Readable.{readable}
use Rattle.enrol_evolver.specs.declared.targeting.Targeting.{Targeting}
use Rattle.enrol_evolver.specs.declared.targeting.Targeting.TheVariants.{Passes, Misses, Fails}

-- the one tree of a text, where it is an expression
unfoldable pub tree_of : List ℕ → Option Tree
tree_of text = tree_in (readable text)

-- what a truth value says, or that there is none
abbrev pub said_by_truth : Option Bool → Targeting
said_by_truth (Some true) = Passes
said_by_truth (Some false) = Misses
said_by_truth None = Fails NotTruth

-- what a value says, or a fault in its place: `true` and `false` alone are truths
abbrev pub said : Result Json Fault → Targeting
said (Ok x) = said_by_truth (truth_of x)
said (Err fault) = Fails Faulted

-- what a tree means of a client, for the recipe of a slug: by the client's attributes and the standard transforms, with no item at hand
unfoldable pub meaning_of : Context → State → ℕ → List ℕ → Tree → Result Json Fault
meaning_of context s now slug tree = meaning is_standard (members_of (attributes context s slug now)) null tree

abbrev pub said_by : Context → State → ℕ → List ℕ → Option Tree → Targeting
said_by context s now slug None = Fails Unparsed
said_by context s now slug (Some tree) = said (meaning_of context s now slug tree)

abbrev pub targeting_by : Context → State → ℕ → List ℕ → Option (List ℕ) → Targeting
targeting_by context s now slug None = Passes
targeting_by context s now slug (Some text) = said_by context s now slug (tree_of text)

-- what the recipe's targeting says of the client; where it has none, the client may enrol
abbrev pub targeting : Context → State → ℕ → Recipe → Targeting
targeting context s now r = targeting_by context s now r.slug r.targeting
