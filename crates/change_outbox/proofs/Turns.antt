-- The changes of the least slug of old and new rows come first.
use Rattle.std.proofs.Common.{Less, Equal, ◌≡◌, ℕ, List, [], ◌∷◌, ◌++◌, Option, None, Some, length, arith, refl, sym, ap, ap₂, ◌∙◌, subst}
use Rattle.std.specs.Prelude.{fold, option_and_then, if◌then◌else◌}
use Rattle.std.specs.BTreeSet.{insert_key}
use Rattle.std.specs.Cmp.Lexicographic.{bytes_decides}
use Rattle.std.specs.List.{flat_map}
use Rattle.std.specs.List.Sorted.{IsStrictlySortedBy}
use Rattle.std.specs.Ordering.{match_ordering}
use Rattle.recipe_reader.specs.Payloads.{slug_cmp}
use Rattle.enrol_states.specs.Order.{Rise, AreAbove}
use Rattle.enrol_states.specs.State.{slugs_of, status_of}
use Rattle.enrol_states.specs.Statuses.{enrolled_branch}
use Rattle.enrol_states.specs.declared.state.Row.{Row}
use Rattle.enrol_states.proofs.Ordered.{same_texts, lesser_texts, greater_texts, turned_up}
use Rattle.sequences.proofs.Texts.{turned_even}
use Rattle.sequences.proofs.Insertions.{insert_first, above_insert}
use Rattle.change_outbox.specs.declared.change.Change.{Change}
use Rattle.change_outbox.specs.Changes.{branch_of, slug_changes, all_slugs, changes_between}

-- ---- the slugs of both

insert_behind : (s u : List ℕ) (ts : List (List ℕ)) → slug_cmp s u ≡ Less → insert_key slug_cmp (s ∷ ts) u ≡ s ∷ insert_key slug_cmp ts u
insert_behind s u ts less = ap (λ o. match_ordering o (u ∷ s ∷ ts) (s ∷ ts) (s ∷ insert_key slug_cmp ts u)) (turned_up s u less)

fold_first : (s : List ℕ) (ts us : List (List ℕ)) → AreAbove s us → fold (insert_key slug_cmp) (s ∷ ts) us ≡ s ∷ fold (insert_key slug_cmp) ts us
fold_first s ts [] above = refl
fold_first s ts (u ∷ us) above = ap (λ (l : List (List ℕ)). fold (insert_key slug_cmp) l us) (insert_behind s u ts above.0) ∙ fold_first s (insert_key slug_cmp ts u) us above.1

above_fold : (a : List ℕ) (ts us : List (List ℕ)) → AreAbove a ts → AreAbove a us → AreAbove a (fold (insert_key slug_cmp) ts us)
above_fold a ts [] above more = above
above_fold a ts (u ∷ us) above more = above_fold a (insert_key slug_cmp ts u) us (above_insert a u ts more.0 above) more.1

-- ---- branches

branch_behind : (r : Row) (rs : List Row) (t : List ℕ) → slug_cmp r.slug t ≡ Less → branch_of t (r ∷ rs) ≡ branch_of t rs
branch_behind r rs t less = ap (λ b. option_and_then enrolled_branch (if b then Some r.status else status_of t rs)) (lesser_texts r.slug t less)

first_branch : (s : List ℕ) (r : Row) (rs : List Row) → r.slug ≡ s → branch_of s (r ∷ rs) ≡ enrolled_branch r.status
first_branch s r rs same = ap (λ b. option_and_then enrolled_branch (if b then Some r.status else status_of s rs)) ((bytes_decides r.slug s).1 same)

no_branch : (s : List ℕ) (rs : List Row) → AreAbove s (slugs_of rs) → branch_of s rs ≡ None
no_branch s [] above = refl
no_branch s (r ∷ rs) above =
    ap (λ b. option_and_then enrolled_branch (if b then Some r.status else status_of s rs)) (greater_texts r.slug s (turned_up s r.slug above.0)) ∙ no_branch s rs above.1

-- ---- changes

abbrev told : List Row → List Row → List (List ℕ) → List Change
told old new slugs = flat_map (λ slug. slug_changes slug (branch_of slug old) (branch_of slug new)) slugs

-- changes of slugs above one, where the branches of these are the same
told_behind : (a : List ℕ) (old new olds news : List Row) (ts : List (List ℕ)) → AreAbove a ts → ((t : List ℕ) → slug_cmp a t ≡ Less → branch_of t old ≡ branch_of t olds)
    → ((t : List ℕ) → slug_cmp a t ≡ Less → branch_of t new ≡ branch_of t news) → told old new ts ≡ told olds news ts
told_behind a old new olds news [] above before after = refl
told_behind a old new olds news (t ∷ ts) above before after =
    ap₂ (λ (x y : List Change). x ++ y) (ap₂ (λ (b c : Option (List ℕ)). slug_changes t b c) (before t above.0) (after t above.0)) (told_behind a old new olds news ts above.1 before after)

-- the changes of a slug, and then those between the rows behind it
first_told : (s : List ℕ) (old new olds news : List Row) (before after : Option (List ℕ)) → all_slugs old new ≡ s ∷ all_slugs olds news → before ≡ branch_of s old → after ≡ branch_of s new
    → AreAbove s (slugs_of olds) → AreAbove s (slugs_of news) → ((t : List ℕ) → slug_cmp s t ≡ Less → branch_of t old ≡ branch_of t olds)
    → ((t : List ℕ) → slug_cmp s t ≡ Less → branch_of t new ≡ branch_of t news)
    → changes_between old new ≡ slug_changes s before after ++ changes_between olds news
unfolding changes_between
first_told s old new olds news before after slugs is_before is_after olds_above news_above old_same new_same =
    ap (told old new) slugs
    ∙ ap₂ (λ (x y : List Change). x ++ y) (ap₂ (λ (b c : Option (List ℕ)). slug_changes s b c) (sym is_before) (sym is_after))
    (told_behind s old new olds news (all_slugs olds news) (above_fold s (slugs_of olds) (slugs_of news) olds_above news_above) old_same new_same)

pub old_told : (o : Row) (olds news : List Row) (before after : Option (List ℕ)) → before ≡ enrolled_branch o.status → after ≡ None → Rise (slugs_of (o ∷ olds)) → AreAbove o.slug (slugs_of news)
    → changes_between (o ∷ olds) news ≡ slug_changes o.slug before after ++ changes_between olds news
unfolding IsStrictlySortedBy
old_told o olds news before after is_before is_after rise above =
    first_told o.slug (o ∷ olds) news olds news before after (fold_first o.slug (slugs_of olds) (slugs_of news) above) (is_before ∙ sym (first_branch o.slug o olds refl)) (is_after ∙ sym (no_branch o.slug news above))
    rise.0 above (branch_behind o olds) (λ t less. refl)

pub new_told : (n : Row) (olds news : List Row) (before after : Option (List ℕ)) → before ≡ None → after ≡ enrolled_branch n.status → Rise (slugs_of (n ∷ news)) → AreAbove n.slug (slugs_of olds)
    → changes_between olds (n ∷ news) ≡ slug_changes n.slug before after ++ changes_between olds news
unfolding IsStrictlySortedBy
new_told n olds news before after is_before is_after rise above =
    first_told n.slug olds (n ∷ news) olds news before after
    (ap (λ (l : List (List ℕ)). fold (insert_key slug_cmp) l (slugs_of news)) (insert_first n.slug (slugs_of olds) above) ∙ fold_first n.slug (slugs_of olds) (slugs_of news) rise.0)
    (is_before ∙ sym (no_branch n.slug olds above)) (is_after ∙ sym (first_branch n.slug n news refl)) above rise.0 (λ t less. refl) (branch_behind n news)

pub both_told : (o n : Row) (olds news : List Row) (before after : Option (List ℕ)) → slug_cmp o.slug n.slug ≡ Equal → before ≡ enrolled_branch o.status → after ≡ enrolled_branch n.status
    → Rise (slugs_of (o ∷ olds)) → Rise (slugs_of (n ∷ news)) → changes_between (o ∷ olds) (n ∷ news) ≡ slug_changes o.slug before after ++ changes_between olds news
unfolding IsStrictlySortedBy
both_told o n olds news before after even is_before is_after old_rise new_rise =
    let same : n.slug ≡ o.slug = sym (same_texts o.slug n.slug even) in
    let above : AreAbove o.slug (slugs_of news) = subst (λ t. AreAbove t (slugs_of news)) same new_rise.0 in
    first_told o.slug (o ∷ olds) (n ∷ news) olds news before after
    (ap (λ r. fold (insert_key slug_cmp) (match_ordering r (n.slug ∷ o.slug ∷ slugs_of olds) (o.slug ∷ slugs_of olds) (o.slug ∷ insert_key slug_cmp (slugs_of olds) n.slug)) (slugs_of news)) (turned_even o.slug n.slug even)
    ∙ fold_first o.slug (slugs_of olds) (slugs_of news) above)
    (is_before ∙ sym (first_branch o.slug o olds refl)) (is_after ∙ sym (first_branch o.slug n news same)) old_rise.0 above (branch_behind o olds)
    (λ t less. branch_behind n news t (subst (λ u. slug_cmp u t ≡ Less) (sym same) less))

-- ---- steps

pub none_left : (old new : List Row) → length old ≡ 0 → length new ≡ 0 → changes_between old new ≡ []
unfolding changes_between
none_left [] [] olds news = refl
none_left [] (n ∷ news) olds none = absurd (omega arith)
none_left (o ∷ olds) new none news = absurd (omega arith)
