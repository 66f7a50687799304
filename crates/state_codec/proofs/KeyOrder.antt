-- The rows of a consistent state are in the order of their keys.
use Rattle.std.proofs.Common.{◌≡◌, ◌++◌, ◌∷◌, [], List, ℕ, Option, Some, None, map, Less, refl, sym, subst}
use Rattle.std.specs.List.{AllByRecursion}
use Rattle.std.specs.List.Sorted.{IsStrictlySortedBy}
use Rattle.recipe_reader.specs.Payloads as payloads
use Rattle.recipe_reader.specs.Payloads.{slug_cmp, AreInOrder}
use Rattle.recipe_reader.specs.declared.recipe.Recipe.{Recipe}
use Rattle.enrol_states.specs.Order.{Rise}
use Rattle.enrol_states.specs.Consistent.{IsConsistent, ArePending}
use Rattle.enrol_states.specs.declared.state.State.{State}
use Rattle.enrol_states.proofs.Ordered.{map_itself}
use Rattle.enrol_states.specs.declared.state.Row.{Row}
use Rattle.row_batches.specs.Rows.{AreRows}
use Rattle.state_values.specs.Values.{hyphenated, participation_byte}
use Rattle.state_codec.specs.Encoding.{row, key_row, recipe_row, status_row, status_rows, last_rows, pending_recipes, rows_behind_recipes, first_rows, later_rows, rows_with, rows_of}
use Rattle.row_batches.specs.declared.store_row.StoreRow.{StoreRow}
use Rattle.row_batches.proofs.RowOrder.{IsBelow, below_append, below_map, all_below, rise_append, rise_section}

-- ---- sections

recipes_above : (slug : List ℕ) (rs : List Recipe) → payloads.AreAbove slug rs → AllByRecursion (λ t. slug_cmp slug t ≡ Less) (map (λ (r : Recipe). r.slug) rs)
recipes_above slug [] above = tt
recipes_above slug (r ∷ rs) above = (above.0, recipes_above slug rs above.1)

recipes_rise : (rs : List Recipe) → AreInOrder rs → Rise (map (λ (r : Recipe). r.slug) rs)
unfolding IsStrictlySortedBy
recipes_rise [] order = tt
recipes_rise (r ∷ rs) order = (recipes_above r.slug rs order.0, recipes_rise rs order.1)

pending_order : (p : Option (List Recipe)) → ArePending p → AreInOrder (pending_recipes p)
pending_order None are = tt
pending_order (Some rs) are = are.in_order

-- ---- the rows of a state

pub first_rise : (s : State) → IsConsistent s → AreRows (first_rows s)
unfolding first_rows
first_rise s is = rise_section (λ (t : List ℕ). t) (key_row (99 ∷ [])) (λ x y. refl) s.coenrolling (subst Rise (sym (map_itself s.coenrolling)) is.coenrolling_order)

pub opted_out_rise : (s : State) → IsConsistent s → AreRows (map (key_row (111 ∷ [])) s.opted_out)
opted_out_rise s is = rise_section (λ (t : List ℕ). t) (key_row (111 ∷ [])) (λ x y. refl) s.opted_out (subst Rise (sym (map_itself s.opted_out)) is.opted_out_order)

pub client_rows_rise : (s : State) → IsConsistent s → AreRows (map status_row s.rows)
client_rows_rise s is = rise_section (λ (w : Row). w.slug) status_row (λ x y. refl) s.rows is.row_order

module _ (byte : ℕ) (s : State) where
  -- behind the lists the sections follow one another
  abbrev pub from_statuses : List StoreRow
  from_statuses = status_rows byte s ++ last_rows s

  abbrev pub from_opt_outs : List StoreRow
  from_opt_outs = rows_behind_recipes byte s

  abbrev pub from_pending : List StoreRow
  from_pending = map (recipe_row (110 ∷ [])) (pending_recipes s.pending) ++ from_opt_outs

  abbrev pub from_live : List StoreRow
  from_live = map (recipe_row (108 ∷ [])) s.live ++ from_pending

  -- a key that is below those of each letter
  below_statuses : (key : List ℕ) → slug_cmp key (112 ∷ []) ≡ Less → slug_cmp key (113 ∷ []) ≡ Less → ((t : List ℕ) → slug_cmp key (114 ∷ t) ≡ Less)
      → slug_cmp key (116 ∷ []) ≡ Less → slug_cmp key (117 ∷ []) ≡ Less → slug_cmp key (118 ∷ []) ≡ Less → IsBelow key from_statuses
  below_statuses key p q r t u v =
      (p, (q, below_append key (map status_row s.rows) (last_rows s) (below_map key status_row s.rows (λ w. r w.slug)) (t, (u, (v, tt)))))

  below_opt_outs : (key : List ℕ) → ((t : List ℕ) → slug_cmp key (111 ∷ t) ≡ Less) → IsBelow key from_statuses → IsBelow key from_opt_outs
  below_opt_outs key o rest = below_append key (map (key_row (111 ∷ [])) s.opted_out) from_statuses (below_map key (key_row (111 ∷ [])) s.opted_out o) rest

  below_pending : (key : List ℕ) → ((t : List ℕ) → slug_cmp key (110 ∷ t) ≡ Less) → IsBelow key from_opt_outs → IsBelow key from_pending
  below_pending key n rest =
      below_append key (map (recipe_row (110 ∷ [])) (pending_recipes s.pending)) from_opt_outs (below_map key (recipe_row (110 ∷ [])) (pending_recipes s.pending) (λ r. n r.slug)) rest

  below_live : (key : List ℕ) → ((t : List ℕ) → slug_cmp key (108 ∷ t) ≡ Less) → IsBelow key from_pending → IsBelow key from_live
  below_live key l rest = below_append key (map (recipe_row (108 ∷ [])) s.live) from_pending (below_map key (recipe_row (108 ∷ [])) s.live (λ r. l r.slug)) rest

  abbrev pub from_id : List StoreRow
  from_id = row (105 ∷ []) (hyphenated s.id) ∷ from_live

  below_id : (key : List ℕ) → slug_cmp key (105 ∷ []) ≡ Less → IsBelow key from_live → IsBelow key from_id
  below_id key i rest = (i, rest)

  -- the keys of a list are below those of the rows behind it
  pub client_rows_below : (t : List ℕ) → IsBelow (114 ∷ t) (last_rows s)
  client_rows_below t = (refl, (refl, (refl, tt)))

  pub opt_outs_below : (t : List ℕ) → IsBelow (111 ∷ t) from_statuses
  opt_outs_below t = below_statuses (111 ∷ t) refl refl (λ u. refl) refl refl refl

  pub pending_below : (t : List ℕ) → IsBelow (110 ∷ t) from_opt_outs
  pending_below t = below_opt_outs (110 ∷ t) (λ u. refl) (below_statuses (110 ∷ t) refl refl (λ u. refl) refl refl refl)

  pub live_below : (t : List ℕ) → IsBelow (108 ∷ t) from_pending
  live_below t = below_pending (108 ∷ t) (λ u. refl) (below_opt_outs (108 ∷ t) (λ u. refl) (below_statuses (108 ∷ t) refl refl (λ u. refl) refl refl refl))

  pub features_below : (t : List ℕ) → IsBelow (99 ∷ t) from_id
  features_below t =
      below_id (99 ∷ t) refl (below_live (99 ∷ t) (λ u. refl) (below_pending (99 ∷ t) (λ u. refl) (below_opt_outs (99 ∷ t) (λ u. refl) (below_statuses (99 ∷ t) refl refl (λ u. refl) refl refl refl))))

  statuses_rise : IsConsistent s → AreRows from_statuses
  unfolding IsStrictlySortedBy
  statuses_rise is =
      let last : AreRows (last_rows s) = ((refl, (refl, tt)), ((refl, tt), (tt, tt))) in
      let rows = rise_append (map status_row s.rows) (last_rows s) (client_rows_rise s is) last (all_below status_row s.rows (last_rows s) (λ w. client_rows_below w.slug)) in
      let behind_q : IsBelow (113 ∷ []) (map status_row s.rows ++ last_rows s) = below_append (113 ∷ []) (map status_row s.rows) (last_rows s) (below_map (113 ∷ []) status_row s.rows (λ w. refl)) (refl, (refl, (refl, tt))) in
      let behind_p : IsBelow (112 ∷ []) (map status_row s.rows ++ last_rows s) = below_append (112 ∷ []) (map status_row s.rows) (last_rows s) (below_map (112 ∷ []) status_row s.rows (λ w. refl)) (refl, (refl, (refl, tt))) in
      ((refl, behind_p), (behind_q, rows))

  opt_outs_rise : IsConsistent s → AreRows from_opt_outs
  opt_outs_rise is =
      rise_append (map (key_row (111 ∷ [])) s.opted_out) from_statuses
      (opted_out_rise s is)
      (statuses_rise is)
      (all_below (key_row (111 ∷ [])) s.opted_out from_statuses opt_outs_below)

  pending_rise : IsConsistent s → AreRows from_pending
  pending_rise is =
      let rs = pending_recipes s.pending in
      rise_append (map (recipe_row (110 ∷ [])) rs) from_opt_outs
      (rise_section (λ (r : Recipe). r.slug) (recipe_row (110 ∷ [])) (λ x y. refl) rs (recipes_rise rs (pending_order s.pending is.pending)))
      (opt_outs_rise is)
      (all_below (recipe_row (110 ∷ [])) rs from_opt_outs (λ r. pending_below r.slug))

  live_rise : IsConsistent s → AreRows from_live
  live_rise is =
      rise_append (map (recipe_row (108 ∷ [])) s.live) from_pending
      (rise_section (λ (r : Recipe). r.slug) (recipe_row (108 ∷ [])) (λ x y. refl) s.live (recipes_rise s.live is.live.in_order))
      (pending_rise is)
      (all_below (recipe_row (108 ∷ [])) s.live from_pending (λ r. live_below r.slug))

  id_rises : IsConsistent s → AreRows from_id
  unfolding IsStrictlySortedBy
  id_rises is =
      (below_live (105 ∷ []) (λ u. refl) (below_pending (105 ∷ []) (λ u. refl) (below_opt_outs (105 ∷ []) (λ u. refl) (below_statuses (105 ∷ []) refl refl (λ u. refl) refl refl refl))), live_rise is)

  pub later_rise : IsConsistent s → AreRows (later_rows byte s)
  unfolding later_rows
  later_rise is = id_rises is

  pub with_rise : IsConsistent s → AreRows (rows_with byte s)
  unfolding rows_with first_rows later_rows
  with_rise is =
      rise_append (map (key_row (99 ∷ [])) s.coenrolling) from_id
      (first_rise s is)
      (later_rise is)
      (all_below (key_row (99 ∷ [])) s.coenrolling from_id features_below)

pub rows_rise : (s : State) → IsConsistent s → AreRows (rows_of s)
rows_rise s is = with_rise (participation_byte s) s is
