-- The changes of enrolments between rows that are the same but for a part are those of the part.
use Rattle.std.proofs.Common.{Ordering, Less, Equal, Greater, ◌≡◌, ◌++◌, ◌∷◌, [], List, ℕ, Option, None, Some, refl, sym, ap, ap₂, ◌∙◌, subst}
use Rattle.std.specs.Prelude.{if◌then◌else◌}
use Rattle.std.specs.Cmp.Lexicographic.{bytes_decides, nat_list_cmp_total}
use Rattle.std.proofs.lemmas.Cmp.{tied_itself}
use Rattle.recipe_reader.specs.Payloads.{slug_cmp}
use Rattle.enrol_states.specs.Order.{AreAbove, Rise}
use Rattle.enrol_states.specs.State.{slugs_of}
use Rattle.enrol_states.specs.Statuses.{enrolled_branch}
use Rattle.enrol_states.specs.declared.state.Row.{Row}
use Rattle.enrol_states.proofs.Ordered.{turned_down}
use Rattle.enrol_states.proofs.Lookups.{slug_of}
use Rattle.change_outbox.specs.Changes.{changes_between, join, leave, slug_changes}
use Rattle.change_outbox.specs.declared.change.Change.{Change}
use Rattle.change_outbox.proofs.Turns.{both_told, new_told, none_left, old_told}
use Rattle.sequences.specs.ListParts.{IsPart, part_of_new, part_of_old}
use Rattle.sequences.specs.declared.list_part.ListPart.{ListPart}
use Rattle.sequences.proofs.Rising.{above_front, above_behind, rest_above, rest_rises, front_rises, behind_rises, first_above}
use Rattle.state_codec.proofs.ListParts as parts

-- ---- the same rows

no_change : (slug : List ℕ) (branch : Option (List ℕ)) → slug_changes slug branch branch ≡ []
no_change slug None = refl
no_change slug (Some branch) = ap (λ b. if b then [] else leave slug branch ∷ join slug branch ∷ []) ((bytes_decides branch branch).1 refl)

same_first : (r : Row) (olds news : List Row) → Rise (slugs_of (r ∷ olds)) → Rise (slugs_of (r ∷ news)) → changes_between (r ∷ olds) (r ∷ news) ≡ changes_between olds news
same_first r olds news old_rise new_rise =
    both_told r r olds news (enrolled_branch r.status) (enrolled_branch r.status) (tied_itself nat_list_cmp_total r.slug) refl refl old_rise new_rise
    ∙ ap (λ (cs : List Change). cs ++ changes_between olds news) (no_change r.slug (enrolled_branch r.status))

same_front : (front olds news : List Row) → Rise (slugs_of (front ++ olds)) → Rise (slugs_of (front ++ news)) → changes_between (front ++ olds) (front ++ news) ≡ changes_between olds news
same_front [] olds news old_rise new_rise = refl
same_front (r ∷ rs) olds news old_rise new_rise =
    same_first r (rs ++ olds) (rs ++ news) old_rise new_rise ∙ same_front rs olds news (rest_rises slug_of r (rs ++ olds) old_rise) (rest_rises slug_of r (rs ++ news) new_rise)

between_itself : (rows : List Row) → Rise (slugs_of rows) → changes_between rows rows ≡ []
between_itself [] rise = none_left [] [] refl refl
between_itself (r ∷ rs) rise = same_first r rs rs rise rise ∙ between_itself rs (rest_rises slug_of r rs rise)

-- ---- rows behind

module _ (behind : List Row) where
  -- the changes of the first slug, and then the same ones
  module _ (o : Row) (os : List Row) (o_rise : Rise (slugs_of (o ∷ (os ++ behind)))) where
    old_first : (ns : List Row) → AreAbove o.slug (slugs_of (ns ++ behind)) → changes_between (os ++ behind) (ns ++ behind) ≡ changes_between os ns
        → changes_between (o ∷ (os ++ behind)) (ns ++ behind) ≡ changes_between (o ∷ os) ns
    old_first ns above rest =
        old_told o (os ++ behind) (ns ++ behind) (enrolled_branch o.status) None refl refl o_rise above
        ∙ ap (λ (cs : List Change). slug_changes o.slug (enrolled_branch o.status) None ++ cs) rest
        ∙ sym (old_told o os ns (enrolled_branch o.status) None refl refl (front_rises slug_of (o ∷ os) behind o_rise) (above_front slug_of o.slug ns behind above))

    both_first : (n : Row) (ns : List Row) → Rise (slugs_of (n ∷ (ns ++ behind))) → slug_cmp o.slug n.slug ≡ Equal → changes_between (os ++ behind) (ns ++ behind) ≡ changes_between os ns
        → changes_between (o ∷ (os ++ behind)) (n ∷ (ns ++ behind)) ≡ changes_between (o ∷ os) (n ∷ ns)
    both_first n ns n_rise even rest =
        both_told o n (os ++ behind) (ns ++ behind) (enrolled_branch o.status) (enrolled_branch n.status) even refl refl o_rise n_rise
        ∙ ap (λ (cs : List Change). slug_changes o.slug (enrolled_branch o.status) (enrolled_branch n.status) ++ cs) rest
        ∙ sym (both_told o n os ns (enrolled_branch o.status) (enrolled_branch n.status) even refl refl (front_rises slug_of (o ∷ os) behind o_rise) (front_rises slug_of (n ∷ ns) behind n_rise))

  new_first : (n : Row) (os ns : List Row) → Rise (slugs_of (n ∷ (ns ++ behind))) → AreAbove n.slug (slugs_of (os ++ behind)) → changes_between (os ++ behind) (ns ++ behind) ≡ changes_between os ns
      → changes_between (os ++ behind) (n ∷ (ns ++ behind)) ≡ changes_between os (n ∷ ns)
  new_first n os ns n_rise above rest =
      new_told n (os ++ behind) (ns ++ behind) None (enrolled_branch n.status) refl refl n_rise above
      ∙ ap (λ (cs : List Change). slug_changes n.slug None (enrolled_branch n.status) ++ cs) rest
      ∙ sym (new_told n os ns None (enrolled_branch n.status) refl refl (front_rises slug_of (n ∷ ns) behind n_rise) (above_front slug_of n.slug os behind above))

  -- where `rest` has the changes from the old rows behind the first one
  at_order : (o n : Row) (os ns : List Row) (order : Ordering) → slug_cmp o.slug n.slug ≡ order → Rise (slugs_of (o ∷ (os ++ behind))) → Rise (slugs_of (n ∷ (ns ++ behind)))
      → ((more : List Row) → Rise (slugs_of (more ++ behind)) → changes_between (os ++ behind) (more ++ behind) ≡ changes_between os more)
      → changes_between (o ∷ (os ++ behind)) (ns ++ behind) ≡ changes_between (o ∷ os) ns
      → changes_between (o ∷ (os ++ behind)) (n ∷ (ns ++ behind)) ≡ changes_between (o ∷ os) (n ∷ ns)
  at_order o n os ns Less less o_rise n_rise rest again = old_first o os o_rise (n ∷ ns) (first_above slug_of o.slug n (ns ++ behind) less n_rise) (rest (n ∷ ns) n_rise)
  at_order o n os ns Equal even o_rise n_rise rest again = both_first o os o_rise n ns n_rise even (rest ns (rest_rises slug_of n (ns ++ behind) n_rise))
  at_order o n os ns Greater more o_rise n_rise rest again = new_first n (o ∷ os) ns n_rise (first_above slug_of n.slug o (os ++ behind) (turned_down o.slug n.slug more) o_rise) again

  from_old : (o : Row) (os : List Row) → Rise (slugs_of (o ∷ (os ++ behind)))
      → ((more : List Row) → Rise (slugs_of (more ++ behind)) → changes_between (os ++ behind) (more ++ behind) ≡ changes_between os more)
      → (ns : List Row) → Rise (slugs_of (ns ++ behind)) → changes_between (o ∷ (os ++ behind)) (ns ++ behind) ≡ changes_between (o ∷ os) ns
  from_old o os o_rise rest [] n_rise = old_first o os o_rise [] (above_behind slug_of o.slug os behind (rest_above slug_of o (os ++ behind) o_rise)) (rest [] n_rise)
  from_old o os o_rise rest (n ∷ ns) n_rise = at_order o n os ns (slug_cmp o.slug n.slug) refl o_rise n_rise rest (from_old o os o_rise rest ns (rest_rises slug_of n (ns ++ behind) n_rise))

  from_none : (ns : List Row) → Rise (slugs_of behind) → Rise (slugs_of (ns ++ behind)) → changes_between behind (ns ++ behind) ≡ changes_between [] ns
  from_none [] rise n_rise = between_itself behind rise ∙ sym (none_left [] [] refl refl)
  from_none (n ∷ ns) rise n_rise = new_first n [] ns n_rise (above_behind slug_of n.slug ns behind (rest_above slug_of n (ns ++ behind) n_rise)) (from_none ns rise (rest_rises slug_of n (ns ++ behind) n_rise))

  same_behind : (os : List Row) → Rise (slugs_of (os ++ behind)) → (ns : List Row) → Rise (slugs_of (ns ++ behind)) → changes_between (os ++ behind) (ns ++ behind) ≡ changes_between os ns
  same_behind [] o_rise ns n_rise = from_none ns o_rise n_rise
  same_behind (o ∷ os) o_rise ns n_rise = from_old o os o_rise (λ more more_rise. same_behind os (rest_rises slug_of o (os ++ behind) o_rise) more more_rise) ns n_rise

-- ---- parts

module _ (part : ListPart) (old new : List Row) (is : IsPart part old new) (old_rise : Rise (slugs_of old)) (new_rise : Rise (slugs_of new)) where
  abbrev front : List Row
  front = parts.front part old new is

  abbrev behind : List Row
  behind = parts.behind part old new is

  olds_rise : Rise (slugs_of (part_of_old part old ++ behind))
  olds_rise = behind_rises slug_of front (part_of_old part old ++ behind) (subst (λ (rs : List Row). Rise (slugs_of rs)) (parts.old_split part old new is) old_rise)

  news_rise : Rise (slugs_of (part_of_new part new ++ behind))
  news_rise = behind_rises slug_of front (part_of_new part new ++ behind) (subst (λ (rs : List Row). Rise (slugs_of rs)) (parts.new_split part old new is) new_rise)

  pub old_part_rises : Rise (slugs_of (part_of_old part old))
  old_part_rises = front_rises slug_of (part_of_old part old) behind olds_rise

  pub new_part_rises : Rise (slugs_of (part_of_new part new))
  new_part_rises = front_rises slug_of (part_of_new part new) behind news_rise

  pub part_told : changes_between (part_of_old part old) (part_of_new part new) ≡ changes_between old new
  part_told =
      sym (ap₂ changes_between (parts.old_split part old new is) (parts.new_split part old new is)
      ∙ same_front front (part_of_old part old ++ behind) (part_of_new part new ++ behind)
      (subst (λ (rs : List Row). Rise (slugs_of rs)) (parts.old_split part old new is) old_rise)
      (subst (λ (rs : List Row). Rise (slugs_of rs)) (parts.new_split part old new is) new_rise)
      ∙ same_behind behind (part_of_old part old) olds_rise (part_of_new part new) news_rise)
