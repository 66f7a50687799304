-- Ranks are a total order, and only a wish's own slug ties.
use Rattle.std.proofs.Common.{◌≡◌, ◌≢◌, ◌⊎◌, inl, inr, Bool, true, false, is_gt, is_eq, int_cmp, refl, sym, ap, ◌∙◌, true≢false, Ordering, Less, Equal, Greater, is_lt}
use Rattle.std.specs.Cmp.{IsTotalOrder, bool_cmp_total}
use Rattle.std.specs.Cmp.Lexicographic.{slice_cmp, options_total}
use Rattle.std.specs.Ordering.{ordering_then, ordering_reverse, nat_cmp, bool_cmp, flip_args}
use Rattle.std.specs.Option.{option_cmp}
use Rattle.std.proofs.lemmas.Slice.Eq.{bytes_eq-Decides}
use Rattle.std.proofs.lemmas.Map.Text.{is_eq-slice_cmp}
use Rattle.std.proofs.lemmas.Cmp.{then_total, on_total, back_total, int_cmp_total, nat_list_cmp_total, tied_itself}
use Rattle.sequences.proofs.Texts.{is_Less}
use Rattle.enrol_conflicts.specs.declared.candidate.Candidate.{Candidate}
use Rattle.enrol_conflicts.specs.Settlement.{rank_cmp, is_before}

pub rank_cmp_total : IsTotalOrder rank_cmp
rank_cmp_total = then_total (then_total (on_total (λ (c : Candidate). c.was_enrolled) (back_total bool_cmp_total)) (on_total (λ (c : Candidate). c.published) (options_total int_cmp_total))) (on_total (λ (c : Candidate). c.slug) nat_list_cmp_total)

pub is_before-irrefl : (w : Candidate) → is_before w w ≡ false
is_before-irrefl w = ap is_lt (tied_itself rank_cmp_total w)

pub is_before-chain : (u v w : Candidate) → is_before u v ≡ true → is_before v w ≡ true → is_before u w ≡ true
is_before-chain u v w h k = ap is_lt (rank_cmp_total.trans u v w (is_Less (rank_cmp u v) h) (is_Less (rank_cmp v w) k))

is_before-not : (v w : Candidate) (o : Ordering) → rank_cmp w v ≡ o → is_lt o ≡ false → (o ≡ Equal → ⊥) → is_before v w ≡ true
is_before-not v w Less e h k = absurd (true≢false h)
is_before-not v w Equal e h k = absurd (k refl)
is_before-not v w Greater e h k = ap is_lt (rank_cmp_total.antisymm v w ∙ ap ordering_reverse e)

then_tied : (o q : Ordering) → ordering_then o q ≡ Equal → q ≡ Equal
then_tied Less q h = absurd (true≢false (ap is_lt h))
then_tied Equal q h = h
then_tied Greater q h = absurd (true≢false (ap is_gt h))

pub tied_slug : (w v : Candidate) → rank_cmp w v ≡ Equal → w.slug ≡ v.slug
tied_slug w v h = (bytes_eq-Decides w.slug v.slug).0 (sym (is_eq-slice_cmp w.slug v.slug) ∙ ap is_eq (then_tied (ordering_then (flip_args bool_cmp w.was_enrolled v.was_enrolled) (option_cmp int_cmp w.published v.published)) (slice_cmp nat_cmp w.slug v.slug) h))

-- of two slugs, one is before the other
pub is_before-other : (v w : Candidate) → is_before w v ≡ false → v.slug ≢ w.slug → is_before v w ≡ true
is_before-other v w h k = is_before-not v w (rank_cmp w v) refl h (λ e. k (sym (tied_slug w v e)))

pub is_before-either : (v w : Candidate) (b : Bool) → is_before w v ≡ b → v.slug ≢ w.slug → (is_before v w ≡ true) ⊎ (is_before w v ≡ true)
is_before-either v w true h k = inr h
is_before-either v w false h k = inl (is_before-other v w h k)
