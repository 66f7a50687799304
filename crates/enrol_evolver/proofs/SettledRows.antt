-- Each wish of a plan takes its answer: the rows are those that the grants give.
use Rattle.std.proofs.Common.{◌≡◌, ℕ, suc, ◌+◌, ◌<◌, Bool, true, false, List, [], ◌∷◌, ◌++◌, length, map, drop, slice_get, Less, refl, sym, ap, ap₂, ◌∙◌, subst, arith}
use Rattle.std.specs.Prelude.{bytes_eq, ◌||◌, ◌&&◌, not, filter, unwrap_or, IsTrue, if◌then◌else◌}
use Rattle.std.specs.List.Sorted.{IsStrictlySortedBy}
use Rattle.std.specs.Cmp.Lexicographic.{bytes_decides}
use Rattle.std.proofs.lemmas.List.{length-map}
use Rattle.recipe_reader.specs.Payloads.{slug_cmp}
use Rattle.enrol_states.specs.Order.{Rise, AreAbove}
use Rattle.enrol_states.specs.declared.state.Row.{Row}
use Rattle.enrol_states.specs.declared.status.Status.{Status}
use Rattle.enrol_states.specs.declared.verdict.Outcome.{Outcome}
use Rattle.enrol_states.specs.declared.verdict.Outcome.TheVariants.{Keep, Wish}
use Rattle.enrol_states.proofs.Ordered.{lesser_texts, greater_texts, turned_up}
use Rattle.enrol_conflicts.specs.Settlement.{Settled, is_blocked}
use Rattle.enrol_conflicts.specs.declared.candidate.Candidate.{Candidate}
use Rattle.enrol_evolver.specs.Wishes.{is_wish, is_granted, status_by, row_of, settled_row}
use Rattle.enrol_evolver.specs.declared.plan.Entry.{Entry}

-- ---- the rows, where each wish takes its answer from the front

abbrev pub first_answer : List Bool → Bool
first_answer answers = unwrap_or (slice_get answers 0) false

-- the answers that are left after one for the outcome, where it is a wish
abbrev pub answers_after : Outcome → List Bool → List Bool
answers_after o answers = if is_wish o then drop 1 answers else answers

abbrev pub rows_by : List Entry → List Bool → List Row
rows_by [] answers = []
rows_by (e ∷ es) answers = row_of e.slug (status_by e.outcome (first_answer answers)) ∷ rows_by es (answers_after e.outcome answers)

-- how many answers the outcome takes
abbrev pub answer_count : Outcome → ℕ
answer_count (Keep status) = 0
answer_count (Wish won lost) = 1

-- how many of the entries are wishes
abbrev pub wish_count : List Entry → ℕ
wish_count [] = 0
wish_count (e ∷ es) = answer_count e.outcome + wish_count es

abbrev pub wishes_in : List Entry → List Entry
wishes_in es = filter (λ (e : Entry). is_wish e.outcome) es

abbrev pub entry_slugs : List Entry → List (List ℕ)
entry_slugs es = map (λ (e : Entry). e.slug) es

abbrev pub wish_slugs : List Candidate → List (List ℕ)
wish_slugs ws = map (λ (w : Candidate). w.slug) ws

-- ---- as many answers as wishes

count_at : (slug : List ℕ) (o : Outcome) (es : List Entry) → wish_count es ≡ length (wishes_in es) → wish_count (record { slug = slug; outcome = o } ∷ es) ≡ length (wishes_in (record { slug = slug; outcome = o } ∷ es))
count_at slug (Keep st) es rest = let same : 0 + wish_count es ≡ length (wishes_in es) = omega arith in same
count_at slug (Wish won lost) es rest = let same : 1 + wish_count es ≡ suc (length (wishes_in es)) = omega arith in same

counted : (es : List Entry) → wish_count es ≡ length (wishes_in es)
counted [] = refl
counted (e ∷ es) = count_at e.slug e.outcome es (counted es)

pub as_many : (es : List Entry) (ws : List Candidate) → wish_slugs ws ≡ entry_slugs (wishes_in es) → wish_count es ≡ length ws
as_many es ws same = counted es ∙ sym (length-map (wishes_in es) (λ (e : Entry). e.slug)) ∙ ap length (sym same) ∙ length-map ws (λ (w : Candidate). w.slug)

pub grant_for_each : (ws : List Candidate) (coenrolling : List (List ℕ)) (gs : List Bool) → Settled ws coenrolling gs → length gs ≡ length ws
grant_for_each ws coenrolling gs settled = ap length settled ∙ length-map ws (λ w. not (is_blocked coenrolling ws gs w))

pub has_answer : (o : Outcome) (n : ℕ) (bs : List Bool) → answer_count o + n ≡ length bs → IsTrue (is_wish o) → 0 < length bs
has_answer (Keep status) n bs e wish = absurd cc
has_answer (Wish won lost) n bs e wish = let some : 1 + n ≡ length bs = e in omega arith

answered : (m n : ℕ) → 1 + n ≡ suc m → n ≡ m
answered m n e = omega arith

-- the answers that are left are as many as the wishes that are
pub answers_left : (o : Outcome) (bs : List Bool) (n : ℕ) → answer_count o + n ≡ length bs → n ≡ length (answers_after o bs)
answers_left (Keep status) bs n e = let left : 0 + n ≡ length bs = e in omega arith
answers_left (Wish won lost) [] n e = let none : 1 + n ≡ 0 = e in absurd (omega arith)
answers_left (Wish won lost) (b ∷ bs) n e = answered (length bs) n e

row_moved : (rows : List Row) (row : Row) (more : List Row) → (rows ++ row ∷ []) ++ more ≡ rows ++ row ∷ more
row_moved [] row more = refl
row_moved (r ∷ rs) row more = ap (λ l. r ∷ l) (row_moved rs row more)

-- one row more
pub rows_more : (rows pushed : List Row) (e : Entry) (rest es : List Entry) (bs cs : List Bool) (st : Status) (whole : List Row) → es ≡ e ∷ rest → pushed ≡ rows ++ row_of e.slug st ∷ [] → st ≡ status_by e.outcome (first_answer bs) → cs ≡ answers_after e.outcome bs
    → rows ++ rows_by es bs ≡ whole → pushed ++ rows_by rest cs ≡ whole
rows_more rows pushed e rest es bs cs st whole first more status left before =
    ap₂ (λ ps ds. ps ++ rows_by rest ds) more left ∙ row_moved rows (row_of e.slug st) (rows_by rest (answers_after e.outcome bs)) ∙ ap (λ (t : Status). rows ++ row_of e.slug t ∷ rows_by rest (answers_after e.outcome bs)) status
    ∙ ap (λ (ds : List Entry). rows ++ rows_by ds bs) (sym first) ∙ before

-- ---- each row has the answer to its own wish

and_false : (g x : Bool) → ((g && false) || x) ≡ x
and_false true x = refl
and_false false x = refl

and_true : (g : Bool) → ((g && true) || false) ≡ g
and_true true = refl
and_true false = refl

not_granted : (t : List ℕ) (ws : List Candidate) (gs : List Bool) → AreAbove t (wish_slugs ws) → is_granted ws gs t ≡ false
not_granted t [] gs above = refl
not_granted t (w ∷ ws) [] above = refl
not_granted t (w ∷ ws) (g ∷ gs) above = ap (λ b. (g && b) || is_granted ws gs t) (greater_texts w.slug t (turned_up t w.slug above.0)) ∙ and_false g (is_granted ws gs t) ∙ not_granted t ws gs above.1

-- the first wish's answer is no other's
passed-grant : (w : Candidate) (ws : List Candidate) (g : Bool) (gs : List Bool) (es : List Entry) → AreAbove w.slug (entry_slugs es) → map (settled_row ws gs) es ≡ map (settled_row (w ∷ ws) (g ∷ gs)) es
passed-grant w ws g gs [] above = refl
passed-grant w ws g gs (e ∷ es) above =
    ap₂ (λ (r : Row) (rs : List Row). r ∷ rs)
    (ap (λ b. row_of e.slug (status_by e.outcome b)) (sym (ap (λ b. (g && b) || is_granted ws gs e.slug) (lesser_texts w.slug e.slug above.0) ∙ and_false g (is_granted ws gs e.slug))))
    (passed-grant w ws g gs es above.1)

wish_above_at : (a slug : List ℕ) (o : Outcome) (es : List Entry) → slug_cmp a slug ≡ Less → AreAbove a (entry_slugs (wishes_in es)) → AreAbove a (entry_slugs (wishes_in (record { slug = slug; outcome = o } ∷ es)))
wish_above_at a slug (Keep st) es less above = above
wish_above_at a slug (Wish won lost) es less above = (less, above)

wishes-above : (a : List ℕ) (es : List Entry) → AreAbove a (entry_slugs es) → AreAbove a (entry_slugs (wishes_in es))
wishes-above a [] above = tt
wishes-above a (e ∷ es) above = wish_above_at a e.slug e.outcome es above.0 (wishes-above a es above.1)

first_slug : {t u : List ℕ} {ts us : List (List ℕ)} → t ∷ ts ≡ u ∷ us → t ≡ u
first_slug e = cc

other_slugs : {t u : List ℕ} {ts us : List (List ℕ)} → t ∷ ts ≡ u ∷ us → ts ≡ us
other_slugs e = cc

settled_at : (slug : List ℕ) (o : Outcome) (es : List Entry) (ws : List Candidate) (gs : List Bool) → AreAbove slug (entry_slugs es) → wish_slugs ws ≡ entry_slugs (wishes_in (record { slug = slug; outcome = o } ∷ es)) → length gs ≡ length ws
    → ((vs : List Candidate) (hs : List Bool) → wish_slugs vs ≡ entry_slugs (wishes_in es) → length hs ≡ length vs → rows_by es hs ≡ map (settled_row vs hs) es)
    → rows_by (record { slug = slug; outcome = o } ∷ es) gs ≡ map (settled_row ws gs) (record { slug = slug; outcome = o } ∷ es)
settled_at slug (Keep st) es ws gs above same many rest = ap (λ rows. row_of slug st ∷ rows) (rest ws gs same many)
settled_at slug (Wish won lost) es [] gs above same many rest = absurd cc
settled_at slug (Wish won lost) es (w ∷ ws) [] above same many rest = absurd (let none : 0 ≡ suc (length ws) = many in omega arith)
settled_at slug (Wish won lost) es (w ∷ ws) (g ∷ gs) above same many rest =
    let own : w.slug ≡ slug = first_slug same in
    let others : wish_slugs ws ≡ entry_slugs (wishes_in es) = other_slugs same in
    let later : is_granted ws gs slug ≡ false = not_granted slug ws gs (subst (AreAbove slug) (sym others) (wishes-above slug es above)) in
    let mine : ((g && bytes_eq w.slug slug) || is_granted ws gs slug) ≡ g = ap₂ (λ x y. (g && x) || y) ((bytes_decides w.slug slug).1 own) later ∙ and_true g in
    let fewer : suc (length gs) ≡ suc (length ws) = many in
    ap₂ (λ (r : Row) (rs : List Row). r ∷ rs) (ap (λ b. row_of slug (if b then won else lost)) (sym mine)) (rest ws gs others (omega arith) ∙ passed-grant w ws g gs es (subst (λ t. AreAbove t (entry_slugs es)) (sym own) above))

pub rows-settled : (es : List Entry) (ws : List Candidate) (gs : List Bool) → Rise (entry_slugs es) → wish_slugs ws ≡ entry_slugs (wishes_in es) → length gs ≡ length ws → rows_by es gs ≡ map (settled_row ws gs) es
unfolding IsStrictlySortedBy
rows-settled [] ws gs rise same many = refl
rows-settled (e ∷ es) ws gs rise same many = settled_at e.slug e.outcome es ws gs rise.0 same many (λ vs hs same' many'. rows-settled es vs hs rise.1 same' many')
