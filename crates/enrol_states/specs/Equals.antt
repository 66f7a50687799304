-- States are equal exactly where they are one.
use Rattle.std.proofs.Common.{◌≡◌, ℕ, zero, suc, ◌&&◌, Bool, true, List, Option, Some, None, refl, sym, ap, ap₂, ◌∙◌, subst}
use Rattle.std.specs.Bool.{Decides, beq}
use Rattle.std.specs.Prelude.{◌==◌, bytes_eq}
use Rattle.std.specs.Cmp.{IsEquivalence, decided, unsigned_Decides, booleans_Decides, first_so, second_so}
use Rattle.std.specs.Cmp.Lexicographic.{pointwise, pointwise_decides, bytes_decides}
use Rattle.recipe_reader.specs.Equal.{recipe_eq}
use Rattle.recipe_reader.specs.Equals.{recipe_Decides}
use Rattle.recipe_reader.specs.declared.recipe.Recipe.{Recipe}
use Rattle.enrol_states.specs.Equal.{enrolled_place, not_enrolled_place, disqualified_place, cause_place, enrolled_eq, not_enrolled_eq, disqualified_eq, cause_eq, status_eq, row_eq, pending_eq, client_eq, recipes_eq, state_eq}
use Rattle.enrol_states.specs.declared.state.State.{State}
use Rattle.enrol_states.specs.declared.state.Row.{Row}
use Rattle.enrol_states.specs.declared.status.Status.{Status}
use Rattle.enrol_states.specs.declared.status.Status.TheVariants as statuses
use Rattle.enrol_states.specs.declared.status.EnrolledReason.{EnrolledReason}
use Rattle.enrol_states.specs.declared.status.EnrolledReason.TheVariants as enrolled
use Rattle.enrol_states.specs.declared.status.NotEnrolledReason.{NotEnrolledReason}
use Rattle.enrol_states.specs.declared.status.NotEnrolledReason.TheVariants as not_enrolled
use Rattle.enrol_states.specs.declared.status.DisqualifiedReason.{DisqualifiedReason}
use Rattle.enrol_states.specs.declared.status.DisqualifiedReason.TheVariants as disqualified
use Rattle.enrol_states.specs.declared.status.ErrorCause.{ErrorCause}
use Rattle.enrol_states.specs.declared.status.ErrorCause.TheVariants as causes

together : (x y : Bool) → x ≡ true → y ≡ true → (x && y) ≡ true
together x y h k = subst (λ b. (b && y) ≡ true) (sym h) k

both : {P Q : Type 0} (x y : Bool) → Decides x P → Decides y Q → Decides (x && y) (P × Q)
both x y h k = (λ e. (h.0 (first_so x y e), k.0 (second_so x y e)), λ p. together x y (h.1 p.0) (k.1 p.1))

turned : {P Q : Type 0} (x : Bool) → Decides x P → (P → Q) → (Q → P) → Decides x Q
turned x h f g = (λ e. f (h.0 e), λ q. h.1 (g q))

-- ---- reasons and causes, found by their places

-- values that their places give back are equal where their places are
by_places : {X : Type 0} (place : X → ℕ) (at : ℕ → X) → ((x : X) → at (place x) ≡ x) → (x y : X) → Decides (place x == place y) (x ≡ y)
by_places place at back x y = turned (place x == place y) (unsigned_Decides (place x) (place y)) (λ e. sym (back x) ∙ ap at e ∙ back y) (λ e. ap place e)

enrolled_at : ℕ → EnrolledReason
enrolled_at zero = enrolled.Qualified
enrolled_at (suc n) = enrolled.OptIn

enrolled_back : (r : EnrolledReason) → enrolled_at (enrolled_place r) ≡ r
unfolding enrolled_at
enrolled_back enrolled.Qualified = refl
enrolled_back enrolled.OptIn = refl

not_enrolled_at : ℕ → NotEnrolledReason
not_enrolled_at zero = not_enrolled.DifferentAppName
not_enrolled_at (suc zero) = not_enrolled.DifferentChannel
not_enrolled_at (suc (suc zero)) = not_enrolled.EnrollmentsPaused
not_enrolled_at (suc (suc (suc zero))) = not_enrolled.FeatureConflict
not_enrolled_at (suc (suc (suc (suc zero)))) = not_enrolled.NotSelected
not_enrolled_at (suc (suc (suc (suc (suc zero))))) = not_enrolled.NotTargeted
not_enrolled_at (suc (suc (suc (suc (suc (suc n)))))) = not_enrolled.OptOut

not_enrolled_back : (r : NotEnrolledReason) → not_enrolled_at (not_enrolled_place r) ≡ r
unfolding not_enrolled_at
not_enrolled_back not_enrolled.DifferentAppName = refl
not_enrolled_back not_enrolled.DifferentChannel = refl
not_enrolled_back not_enrolled.EnrollmentsPaused = refl
not_enrolled_back not_enrolled.FeatureConflict = refl
not_enrolled_back not_enrolled.NotSelected = refl
not_enrolled_back not_enrolled.NotTargeted = refl
not_enrolled_back not_enrolled.OptOut = refl

disqualified_at : ℕ → DisqualifiedReason
disqualified_at zero = disqualified.Error
disqualified_at (suc zero) = disqualified.FeatureConflict
disqualified_at (suc (suc zero)) = disqualified.NotSelected
disqualified_at (suc (suc (suc zero))) = disqualified.NotTargeted
disqualified_at (suc (suc (suc (suc n)))) = disqualified.OptOut

disqualified_back : (r : DisqualifiedReason) → disqualified_at (disqualified_place r) ≡ r
unfolding disqualified_at
disqualified_back disqualified.Error = refl
disqualified_back disqualified.FeatureConflict = refl
disqualified_back disqualified.NotSelected = refl
disqualified_back disqualified.NotTargeted = refl
disqualified_back disqualified.OptOut = refl

cause_at : ℕ → ErrorCause
cause_at zero = causes.Unparsed
cause_at (suc zero) = causes.Faulted
cause_at (suc (suc zero)) = causes.NotTruth
cause_at (suc (suc (suc n))) = causes.NoUnit

cause_back : (c : ErrorCause) → cause_at (cause_place c) ≡ c
unfolding cause_at
cause_back causes.Unparsed = refl
cause_back causes.Faulted = refl
cause_back causes.NotTruth = refl
cause_back causes.NoUnit = refl

pub enrolled_Decides : (r q : EnrolledReason) → Decides (enrolled_eq r q) (r ≡ q)
enrolled_Decides = by_places enrolled_place enrolled_at enrolled_back

pub not_enrolled_Decides : (r q : NotEnrolledReason) → Decides (not_enrolled_eq r q) (r ≡ q)
not_enrolled_Decides = by_places not_enrolled_place not_enrolled_at not_enrolled_back

pub disqualified_Decides : (r q : DisqualifiedReason) → Decides (disqualified_eq r q) (r ≡ q)
disqualified_Decides = by_places disqualified_place disqualified_at disqualified_back

pub cause_Decides : (c d : ErrorCause) → Decides (cause_eq c d) (c ≡ d)
cause_Decides = by_places cause_place cause_at cause_back

-- ---- statuses and rows

status_eq-one : (s t : Status) → status_eq s t ≡ true → s ≡ t
status_eq-one (statuses.Enrolled r b) (statuses.Enrolled q c) e =
    ap₂ statuses.Enrolled ((enrolled_Decides r q).0 (first_so (enrolled_eq r q) (bytes_eq b c) e)) ((bytes_decides b c).0 (second_so (enrolled_eq r q) (bytes_eq b c) e))
status_eq-one (statuses.NotEnrolled r) (statuses.NotEnrolled q) e = ap statuses.NotEnrolled ((not_enrolled_Decides r q).0 e)
status_eq-one (statuses.Disqualified r b) (statuses.Disqualified q c) e =
    ap₂ statuses.Disqualified ((disqualified_Decides r q).0 (first_so (disqualified_eq r q) (bytes_eq b c) e)) ((bytes_decides b c).0 (second_so (disqualified_eq r q) (bytes_eq b c) e))
status_eq-one (statuses.WasEnrolled b m) (statuses.WasEnrolled c n) e =
    ap₂ statuses.WasEnrolled ((bytes_decides b c).0 (first_so (bytes_eq b c) (m == n) e)) ((unsigned_Decides m n).0 (second_so (bytes_eq b c) (m == n) e))
status_eq-one (statuses.Error c) (statuses.Error d) e = ap statuses.Error ((cause_Decides c d).0 e)
status_eq-one s t e = absurd cc

status_eq-refl : (s : Status) → status_eq s s ≡ true
status_eq-refl (statuses.Enrolled r b) = together (enrolled_eq r r) (bytes_eq b b) ((enrolled_Decides r r).1 refl) ((bytes_decides b b).1 refl)
status_eq-refl (statuses.NotEnrolled r) = (not_enrolled_Decides r r).1 refl
status_eq-refl (statuses.Disqualified r b) = together (disqualified_eq r r) (bytes_eq b b) ((disqualified_Decides r r).1 refl) ((bytes_decides b b).1 refl)
status_eq-refl (statuses.WasEnrolled b m) = together (bytes_eq b b) (m == m) ((bytes_decides b b).1 refl) ((unsigned_Decides m m).1 refl)
status_eq-refl (statuses.Error c) = (cause_Decides c c).1 refl

pub status_Decides : (s t : Status) → Decides (status_eq s t) (s ≡ t)
status_Decides s t = (status_eq-one s t, λ same. subst (λ u. status_eq s u ≡ true) same (status_eq-refl s))

pub row_Decides : (r q : Row) → Decides (row_eq r q) (r ≡ q)
row_Decides r q =
    turned (row_eq r q) (both (bytes_eq r.slug q.slug) (status_eq r.status q.status) (bytes_decides r.slug q.slug) (status_Decides r.status q.status))
    (λ p i. record { slug = p.0 i; status = p.1 i }) (λ e. (ap (λ (s : Row). s.slug) e, ap (λ (s : Row). s.status) e))

-- ---- states

pending_Decides : (p q : Option (List Recipe)) → Decides (pending_eq p q) (p ≡ q)
pending_Decides None None = (λ e. refl, λ e. refl)
pending_Decides None (Some ss) = (λ e. absurd cc, λ e. absurd cc)
pending_Decides (Some rs) None = (λ e. absurd cc, λ e. absurd cc)
pending_Decides (Some rs) (Some ss) = (λ e. ap (λ l. Some l) ((pointwise_decides recipe_Decides rs ss).0 e), λ e. (pointwise_decides recipe_Decides rs ss).1 cc)

abbrev AreSameClients : State → State → Type 0
AreSameClients s t = (s.id ≡ t.id) × ((s.installed ≡ t.installed) × ((s.updated ≡ t.updated) × ((s.version ≡ t.version) × ((s.experiments ≡ t.experiments) × (s.rollouts ≡ t.rollouts)))))

abbrev HaveSameRecipes : State → State → Type 0
HaveSameRecipes s t = (s.opted_out ≡ t.opted_out) × ((s.coenrolling ≡ t.coenrolling) × ((s.live ≡ t.live) × ((s.pending ≡ t.pending) × (s.rows ≡ t.rows))))

client_Decides : (s t : State) → Decides (client_eq s t) (AreSameClients s t)
client_Decides s t =
    both (bytes_eq s.id t.id) _ (bytes_decides s.id t.id)
    (both (s.installed == t.installed) _ (unsigned_Decides s.installed t.installed)
    (both (s.updated == t.updated) _ (unsigned_Decides s.updated t.updated)
    (both (bytes_eq s.version t.version) _ (bytes_decides s.version t.version)
    (both (beq s.experiments t.experiments) (beq s.rollouts t.rollouts) (booleans_Decides s.experiments t.experiments) (booleans_Decides s.rollouts t.rollouts)))))

recipes_Decide : (s t : State) → Decides (recipes_eq s t) (HaveSameRecipes s t)
recipes_Decide s t =
    both (pointwise bytes_eq s.opted_out t.opted_out) _ (pointwise_decides bytes_decides s.opted_out t.opted_out)
    (both (pointwise bytes_eq s.coenrolling t.coenrolling) _ (pointwise_decides bytes_decides s.coenrolling t.coenrolling)
    (both (pointwise recipe_eq s.live t.live) _ (pointwise_decides recipe_Decides s.live t.live)
    (both (pending_eq s.pending t.pending) (pointwise row_eq s.rows t.rows) (pending_Decides s.pending t.pending) (pointwise_decides row_Decides s.rows t.rows))))

same_clients : (s t : State) → s ≡ t → AreSameClients s t
same_clients s t e = (ap (λ (q : State). q.id) e, (ap (λ (q : State). q.installed) e, (ap (λ (q : State). q.updated) e, (ap (λ (q : State). q.version) e, (ap (λ (q : State). q.experiments) e, ap (λ (q : State). q.rollouts) e)))))

same_recipes : (s t : State) → s ≡ t → HaveSameRecipes s t
same_recipes s t e = (ap (λ (q : State). q.opted_out) e, (ap (λ (q : State). q.coenrolling) e, (ap (λ (q : State). q.live) e, (ap (λ (q : State). q.pending) e, ap (λ (q : State). q.rows) e))))

pub state_Decides : (s t : State) → Decides (state_eq s t) (s ≡ t)
state_Decides s t =
    turned (state_eq s t) (both (client_eq s t) (recipes_eq s t) (client_Decides s t) (recipes_Decide s t))
    (λ p i.
    let c = p.0 in
    let r = p.1 in
    record { id = c.0 i; installed = c.1.0 i; updated = c.1.1.0 i; version = c.1.1.1.0 i; experiments = c.1.1.1.1.0 i; rollouts = c.1.1.1.1.1 i; opted_out = r.0 i; coenrolling = r.1.0 i; live = r.1.1.0 i; pending = r.1.1.1.0 i; rows = r.1.1.1.1 i })
    (λ e. (same_clients s t e, same_recipes s t e))

pub status_equivalence : IsEquivalence status_eq
status_equivalence = decided _ status_Decides

pub row_equivalence : IsEquivalence row_eq
row_equivalence = decided _ row_Decides

pub state_equivalence : IsEquivalence state_eq
state_equivalence = decided _ state_Decides
