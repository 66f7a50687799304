-- The changes between the rows of two states, whatever their bytes of participation are, are those of each list and of each row
-- beside them.
use Rattle.std.proofs.Common.{ℕ, ◌≡◌, ◌++◌, ◌∷◌, [], List, Option, codes, map, refl, ap, ap₂, ◌∙◌, sym, subst, append_assoc}
use Rattle.std.specs.Cmp.Lexicographic.{bytes_decides, nat_list_cmp_total}
use Rattle.std.proofs.lemmas.Cmp.{tied_itself}
use Rattle.std.proofs.lemmas.List.{append-nil}
use Rattle.recipe_reader.specs.declared.recipe.Recipe.{Recipe}
use Rattle.enrol_states.specs.declared.state.State.{State}
use Rattle.row_batches.specs.Between.{put_where_differs, changes_between}
use Rattle.row_batches.specs.declared.change.RowChange.{RowChange}
use Rattle.row_batches.specs.declared.store_row.StoreRow.{StoreRow}
use Rattle.row_batches.proofs.Joining.{Precede, between-append}
use Rattle.row_batches.proofs.RowOrder.{IsBelow, all_below}
use Rattle.row_batches.proofs.Turns as turns
use Rattle.state_codec.specs.Encoding.{row, key_row, recipe_row, status_row, status_rows, last_rows, pending_recipes, first_rows, later_rows, rows_with}
use Rattle.state_codec.specs.RecipeChanges.{live_changes, pending_changes}
use Rattle.state_values.specs.Statuses.{number}
use Rattle.state_values.specs.Values.{hyphenated, bit}
use Rattle.std.specs.Option.{is_some}
use Rattle.state_codec.proofs.Added.{follow}
use Rattle.state_codec.proofs.KeyOrder.{from_statuses, from_opt_outs, from_pending, from_live, from_id, client_rows_below, opt_outs_below, pending_below, live_below, features_below}

abbrev pub id_changes : State → State → List RowChange
id_changes s t = put_where_differs (row (codes "i") (hyphenated s.id)) (row (codes "i") (hyphenated t.id))

list_joined : {A : Type 0} (f : A → StoreRow) (xs ys : List A) (olds news : List StoreRow) → ((x : A) → IsBelow (f x).key olds) → ((x : A) → IsBelow (f x).key news)
    → changes_between (map f xs ++ olds) (map f ys ++ news) ≡ changes_between (map f xs) (map f ys) ++ changes_between olds news
list_joined f xs ys olds news old_below new_below = between-append olds news (map f xs) (map f ys) (all_below f xs news new_below) (all_below f ys olds old_below)

pub between_itself : (rows : List StoreRow) → changes_between rows rows ≡ []
between_itself [] = refl
between_itself (r ∷ rs) = (turns.same r r rs rs ((bytes_decides r.value r.value).1 refl) (tied_itself nat_list_cmp_total r.key)).split ∙ between_itself rs

-- rows that stay as they are add nothing
pub itself_added : (rows : List StoreRow) (c0 : List RowChange) → c0 ≡ c0 ++ changes_between rows rows
itself_added rows c0 = sym (append-nil c0) ∙ ap (λ (l : List RowChange). c0 ++ l) (sym (between_itself rows))

statuses_below : (byte : ℕ) (s t : State) → Precede (status_rows byte s) (last_rows t)
statuses_below byte s t = ((refl, (refl, (refl, tt))), ((refl, (refl, (refl, tt))), all_below status_row s.rows (last_rows t) (λ w. client_rows_below byte t w.slug)))

module _ (b c : ℕ) (s t : State) where
  statuses : changes_between (from_statuses b s) (from_statuses c t) ≡ changes_between (status_rows b s) (status_rows c t) ++ changes_between (last_rows s) (last_rows t)
  statuses = between-append (last_rows s) (last_rows t) (status_rows b s) (status_rows c t) (statuses_below b s t) (statuses_below c t s)

  opt_outs : changes_between (from_opt_outs b s) (from_opt_outs c t)
      ≡ changes_between (map (key_row (111 ∷ [])) s.opted_out) (map (key_row (111 ∷ [])) t.opted_out) ++ changes_between (from_statuses b s) (from_statuses c t)
  opt_outs = list_joined (key_row (111 ∷ [])) s.opted_out t.opted_out (from_statuses b s) (from_statuses c t) (opt_outs_below b s) (opt_outs_below c t)

  pending : changes_between (from_pending b s) (from_pending c t)
      ≡ changes_between (map (recipe_row (110 ∷ [])) (pending_recipes s.pending)) (map (recipe_row (110 ∷ [])) (pending_recipes t.pending)) ++ changes_between (from_opt_outs b s) (from_opt_outs c t)
  pending = list_joined (recipe_row (110 ∷ [])) (pending_recipes s.pending) (pending_recipes t.pending) (from_opt_outs b s) (from_opt_outs c t) (λ r. pending_below b s r.slug) (λ r. pending_below c t r.slug)

  live : changes_between (from_live b s) (from_live c t) ≡ changes_between (map (recipe_row (108 ∷ [])) s.live) (map (recipe_row (108 ∷ [])) t.live) ++ changes_between (from_pending b s) (from_pending c t)
  live = list_joined (recipe_row (108 ∷ [])) s.live t.live (from_pending b s) (from_pending c t) (λ r. live_below b s r.slug) (λ r. live_below c t r.slug)

  pub all_between : changes_between (rows_with b s) (rows_with c t) ≡ changes_between (first_rows s) (first_rows t) ++ changes_between (later_rows b s) (later_rows c t)
  unfolding rows_with first_rows later_rows
  all_between = list_joined (key_row (99 ∷ [])) s.coenrolling t.coenrolling (from_id b s) (from_id c t) (features_below b s) (features_below c t)

  pub statuses_added : (c0 c1 c2 c3 : List RowChange)
      → c1 ≡ c0 ++ put_where_differs (row (112 ∷ []) (b ∷ [])) (row (112 ∷ []) (c ∷ []))
      → c2 ≡ c1 ++ put_where_differs (row (113 ∷ []) (bit (is_some s.pending) ∷ [])) (row (113 ∷ []) (bit (is_some t.pending) ∷ []))
      → c3 ≡ c2 ++ changes_between (map status_row s.rows) (map status_row t.rows)
      → c3 ≡ c0 ++ changes_between (status_rows b s) (status_rows c t)
  statuses_added c0 c1 c2 c3 e1 e2 e3 =
      let of_flag : List RowChange = put_where_differs (row (113 ∷ []) (bit (is_some s.pending) ∷ [])) (row (113 ∷ []) (bit (is_some t.pending) ∷ [])) in
      let of_rows : List RowChange = changes_between (map status_row s.rows) (map status_row t.rows) in
      follow (put_where_differs (row (112 ∷ []) (b ∷ [])) (row (112 ∷ []) (c ∷ []))) (of_flag ++ of_rows) c0 e1 (follow of_flag of_rows c1 e2 e3)

  -- what was added for each part in turn is all
  pub all_behind : (c0 c1 c2 c3 : List RowChange)
      → c1 ≡ c0 ++ changes_between (map (key_row (111 ∷ [])) s.opted_out) (map (key_row (111 ∷ [])) t.opted_out)
      → c2 ≡ c1 ++ changes_between (status_rows b s) (status_rows c t)
      → c3 ≡ c2 ++ changes_between (last_rows s) (last_rows t)
      → c3 ≡ c0 ++ changes_between (from_opt_outs b s) (from_opt_outs c t)
  all_behind c0 c1 c2 c3 e1 e2 e3 =
      let of_opt_outs : List RowChange = changes_between (map (key_row (111 ∷ [])) s.opted_out) (map (key_row (111 ∷ [])) t.opted_out) in
      let from_2 : c3 ≡ c1 ++ changes_between (from_statuses b s) (from_statuses c t) = follow (changes_between (status_rows b s) (status_rows c t)) (changes_between (last_rows s) (last_rows t)) c1 e2 e3 ∙ ap (λ l. c1 ++ l) (sym statuses) in
      follow of_opt_outs (changes_between (from_statuses b s) (from_statuses c t)) c0 e1 from_2 ∙ ap (λ l. c0 ++ l) (sym opt_outs)

  pub later_added : (c0 c1 c2 c3 : List RowChange)
      → c1 ≡ c0 ++ id_changes s t
      → c2 ≡ c1 ++ (live_changes s t ++ pending_changes s t)
      → c3 ≡ c2 ++ changes_between (from_opt_outs b s) (from_opt_outs c t)
      → c3 ≡ c0 ++ changes_between (later_rows b s) (later_rows c t)
  unfolding later_rows
  later_added c0 c1 c2 c3 e1 e2 e3 =
      let behind : List RowChange = changes_between (from_opt_outs b s) (from_opt_outs c t) in
      let of_recipes : (live_changes s t ++ pending_changes s t) ++ behind ≡ changes_between (from_live b s) (from_live c t) = append_assoc (live_changes s t) (pending_changes s t) behind ∙ ap (λ l. live_changes s t ++ l) (sym pending) ∙ sym live in
      let from_2 : c3 ≡ c1 ++ changes_between (from_live b s) (from_live c t) = follow (live_changes s t ++ pending_changes s t) behind c1 e2 e3 ∙ ap (λ l. c1 ++ l) of_recipes in
      follow (id_changes s t) (changes_between (from_live b s) (from_live c t)) c0 e1 from_2

  pub all_added : (c0 c1 : List RowChange) → c0 ≡ changes_between (first_rows s) (first_rows t) → c1 ≡ c0 ++ changes_between (later_rows b s) (later_rows c t) → c1 ≡ changes_between (rows_with b s) (rows_with c t)
  all_added c0 c1 first later = later ∙ ap (λ l. l ++ changes_between (later_rows b s) (later_rows c t)) first ∙ sym all_between

module _ (s t : State) where
  pub last_added : (c0 c1 c2 c3 : List RowChange)
      → c1 ≡ c0 ++ put_where_differs (row (116 ∷ []) (number s.installed)) (row (116 ∷ []) (number t.installed))
      → c2 ≡ c1 ++ put_where_differs (row (117 ∷ []) (number s.updated)) (row (117 ∷ []) (number t.updated))
      → c3 ≡ c2 ++ put_where_differs (row (118 ∷ []) s.version) (row (118 ∷ []) t.version)
      → c3 ≡ c0 ++ changes_between (last_rows s) (last_rows t)
  last_added c0 c1 c2 c3 e1 e2 e3 =
      let of_updated : List RowChange = put_where_differs (row (117 ∷ []) (number s.updated)) (row (117 ∷ []) (number t.updated)) in
      let of_version : List RowChange = put_where_differs (row (118 ∷ []) s.version) (row (118 ∷ []) t.version) in
      let behind : c3 ≡ c2 ++ (of_version ++ []) = e3 ∙ ap (λ l. c2 ++ l) (sym (append-nil of_version)) in
      follow (put_where_differs (row (116 ∷ []) (number s.installed)) (row (116 ∷ []) (number t.installed))) (of_updated ++ (of_version ++ [])) c0 e1 (follow of_updated (of_version ++ []) c1 e2 behind)

  -- ---- recipes

  same_live : s.live ≡ t.live → live_changes s t ≡ []
  same_live same = subst (λ (rs : List Recipe). changes_between (map (recipe_row (108 ∷ [])) s.live) (map (recipe_row (108 ∷ [])) rs) ≡ []) same (between_itself (map (recipe_row (108 ∷ [])) s.live))

  same_pending : s.pending ≡ t.pending → pending_changes s t ≡ []
  same_pending same =
      subst (λ (p : Option (List Recipe)). changes_between (map (recipe_row (110 ∷ [])) (pending_recipes s.pending)) (map (recipe_row (110 ∷ [])) (pending_recipes p)) ≡ []) same (between_itself (map (recipe_row (110 ∷ [])) (pending_recipes s.pending)))

  -- recipes that stay as they are add nothing
  pub none_added : (c0 : List RowChange) → s.live ≡ t.live → s.pending ≡ t.pending → c0 ≡ c0 ++ (live_changes s t ++ pending_changes s t)
  none_added c0 live pending = sym (append-nil c0) ∙ ap₂ (λ (of_live of_pending : List RowChange). c0 ++ (of_live ++ of_pending)) (sym (same_live live)) (sym (same_pending pending))

  pub pending_added : (c0 c1 : List RowChange) → s.live ≡ t.live → c1 ≡ c0 ++ pending_changes s t → c1 ≡ c0 ++ (live_changes s t ++ pending_changes s t)
  pending_added c0 c1 live is = is ∙ ap (λ (of_live : List RowChange). c0 ++ (of_live ++ pending_changes s t)) (sym (same_live live))
