-- The state of a new store, and that after a reset, are states that a client can have.
use Rattle.std.proofs.Common.{◌≤◌, ℕ, List, refl, arith}
use Rattle.std.specs.List.Sorted.{IsStrictlySortedBy}
use Rattle.std.proofs.lemmas.List.Elements.{All-nil}
use Rattle.std.proofs.lemmas.Str.{IsUtf8-nil}
use Rattle.recipe_reader.specs.declared.recipe.Recipe.{Recipe}
use Rattle.enrol_states.specs.State.{last_moment, fresh}
use Rattle.enrol_states.specs.Consistent.{IsId, AreKept, IsConsistent}
use Rattle.enrol_states.specs.Commands.{after_reset}
use Rattle.enrol_states.specs.declared.state.State.{State}
use Rattle.enrol_states.proofs.Exclusion.{without_rows}

pub fresh-consistent : (id : List ℕ) (now : ℕ) → IsId id → now ≤ last_moment → IsConsistent (fresh id now)
unfolding IsStrictlySortedBy
fresh-consistent id now is_id is_moment = record {
  id = is_id;
  installed = is_moment;
  updated = is_moment;
  version = IsUtf8-nil;
  opted_out_slugs = All-nil _;
  opted_out_order = tt;
  opted_out_limit = omega arith;
  coenrolling_names = All-nil _;
  coenrolling_order = tt;
  live = record { in_order = tt; limit = omega arith; valid = tt };
  pending = tt;
  row_slugs = All-nil _;
  row_order = tt;
  row_statuses = All-nil _;
  row_recipes = All-nil _;
  row_branches = All-nil _;
  row_choices = All-nil _;
  row_participation = All-nil _;
  exclusive = without_rows (fresh id now) refl;
}

pub reset-consistent : (s : State) (id : List ℕ) → IsId id → IsConsistent s → IsConsistent (after_reset s id)
unfolding IsStrictlySortedBy
reset-consistent s id is_id c = record {
  id = is_id;
  installed = c.installed;
  updated = c.updated;
  version = c.version;
  opted_out_slugs = All-nil _;
  opted_out_order = tt;
  opted_out_limit = omega arith;
  coenrolling_names = c.coenrolling_names;
  coenrolling_order = c.coenrolling_order;
  live = c.live;
  pending = c.pending;
  row_slugs = All-nil _;
  row_order = tt;
  row_statuses = All-nil _;
  row_recipes = All-nil _;
  row_branches = All-nil _;
  row_choices = All-nil _;
  row_participation = All-nil _;
  exclusive = without_rows (after_reset s id) refl;
}

-- a new store's state with recipes
pub live-consistent : (id : List ℕ) (now : ℕ) (rs : List Recipe) → IsConsistent (fresh id now) → AreKept rs → IsConsistent (record (fresh id now) { live = rs })
unfolding IsStrictlySortedBy
live-consistent id now rs c kept = record {
  id = c.id;
  installed = c.installed;
  updated = c.updated;
  version = c.version;
  opted_out_slugs = All-nil _;
  opted_out_order = tt;
  opted_out_limit = omega arith;
  coenrolling_names = All-nil _;
  coenrolling_order = tt;
  live = kept;
  pending = tt;
  row_slugs = All-nil _;
  row_order = tt;
  row_statuses = All-nil _;
  row_recipes = All-nil _;
  row_branches = All-nil _;
  row_choices = All-nil _;
  row_participation = All-nil _;
  exclusive = without_rows (record (fresh id now) { live = rs }) refl;
}
