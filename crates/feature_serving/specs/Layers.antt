-- What enrolments lay over a feature, and in which order.
use Rattle.std.specs.Prelude.{ℕ, ℤ, List, [], ◌∷◌, find, Option, option_map, option_and_then, bytes_eq, if◌then◌else◌}
use Rattle.std.specs.List.{filter_map}
use Rattle.std.specs.Option.{option_cmp}
use Rattle.std.specs.Ordering.{on, then_cmp, flip_args, nat_cmp, int_cmp, is_lt}
use Rattle.std.specs.declared.cmp.Ordering.{Ordering}
use Rattle.json_tree.specs.Json.{Json}
use Rattle.json_tree.specs.Tree.{json_of}
use Rattle.json_tree.specs.declared.tree.Tree.{Tree}
use Rattle.recipe_reader.specs.Kinds.{kind_of, kind_place, published_at}
use Rattle.recipe_reader.specs.Payloads.{slug_cmp, recipe_with}
use Rattle.recipe_reader.specs.declared.kinds.Kind.{Kind}
use Rattle.recipe_reader.specs.declared.recipe.Branch.{Branch}
use Rattle.recipe_reader.specs.declared.recipe.Recipe.{Recipe}
use Rattle.enrol_states.specs.Statuses.{enrolled_branch}
use Rattle.enrol_states.specs.declared.state.Row.{Row}
use Rattle.enrol_states.specs.declared.state.State.{State}

-- what an enrolment lays over a feature
pub record Layer : Type 0 where
  pub kind : Kind
  pub published_at : Option ℤ
  pub slug : List ℕ
  pub value : Json

-- the recipe's branch of that slug
abbrev pub branch_with : List ℕ → Recipe → Option Branch
branch_with slug r = find (λ b. bytes_eq b.slug slug) r.branches

-- what the branch sets of the feature
abbrev pub set_by : List ℕ → Branch → Option Tree
set_by feature b = option_map (λ v. v.value) (find (λ v. bytes_eq v.feature feature) b.features)

-- what the recipe lays over the feature, of a client that is enrolled in the branch: nothing, unless the branch sets the feature
abbrev pub layer_in : List ℕ → List ℕ → Recipe → List ℕ → Option Layer
layer_in feature slug r branch =
    option_map (λ tree. record { kind = kind_of r; published_at = published_at r; slug = slug; value = json_of tree }) (option_and_then (set_by feature) (branch_with branch r))

-- what the row lays over the feature: nothing, unless the client is enrolled in the live recipe
abbrev pub layer_of : List Recipe → List ℕ → Row → Option Layer
layer_of live feature row = option_and_then (λ branch. option_and_then (λ r. layer_in feature row.slug r branch) (recipe_with row.slug live)) (enrolled_branch row.status)

-- each row's, by the rows
abbrev pub laid_by_rows : State → List ℕ → List Layer
laid_by_rows s feature = filter_map (layer_of s.live feature) s.rows

-- experiments are below rollouts
abbrev pub kind_cmp : Kind → Kind → Ordering
kind_cmp = on kind_place nat_cmp

-- rollouts go before experiments; of each kind an absent moment goes first, then the earlier moment, then the lower slug
abbrev pub layer_cmp : Layer → Layer → Ordering
layer_cmp = then_cmp (then_cmp (on (λ (l : Layer). l.kind) (flip_args kind_cmp)) (on (λ (l : Layer). l.published_at) (option_cmp int_cmp))) (on (λ (l : Layer). l.slug) slug_cmp)

-- the layers with one more, before the first that it goes before
abbrev pub with_layer : Layer → List Layer → List Layer
with_layer l [] = l ∷ []
with_layer l (m ∷ ms) = if is_lt (layer_cmp l m) then l ∷ m ∷ ms else m ∷ with_layer l ms

abbrev pub in_order : List Layer → List Layer
in_order [] = []
in_order (l ∷ ls) = with_layer l (in_order ls)

-- the layers of the feature, in the order in which they are laid
abbrev pub layers : State → List ℕ → List Layer
layers s feature = in_order (laid_by_rows s feature)
