-- The batch between two maps keeps the rules, makes the one of the other, and is empty where they are equal.
use Rattle.std.proofs.Common.{Ordering, Less, Equal, Greater, ◌≡◌, ℕ, Bool, true, false, List, [], ◌∷◌, ◌++◌, map, refl, sym, ap, ◌∙◌, subst}
use Rattle.std.specs.Prelude.{bytes_eq, if◌then◌else◌}
use Rattle.std.specs.Cmp.Lexicographic.{bytes_decides, nat_list_cmp_total}
use Rattle.std.proofs.lemmas.Cmp.{tied_itself}
use Rattle.std.specs.List.{AllByRecursion}
use Rattle.std.specs.List.Sorted.{IsStrictlySortedBy}
use Rattle.std.specs.Ordering.{match_ordering}
use Rattle.row_batches.specs.Batch.{ChangeList, IsBatch, FitsFields, IsPut, applied, whole_of}
use Rattle.row_batches.specs.Batches.{HasRoom, HaveRoom}
use Rattle.row_batches.specs.Between.{put_where_differs, changes_from, changes_between, between}
use Rattle.row_batches.specs.Laws.{IsEmptyWhereEqual}
use Rattle.row_batches.specs.Places.{AreAbove}
use Rattle.row_batches.specs.Rows.{Rise, AreRows, key_cmp, key_of, key_in, with_row, without_key, after_change, after_changes}
use Rattle.row_batches.specs.declared.change.RowChange.{RowChange}
use Rattle.row_batches.specs.declared.change.RowChange.TheVariants.{Put, Delete}
use Rattle.row_batches.specs.declared.store_row.StoreRow.{StoreRow}
use Rattle.sequences.proofs.Texts.{same_texts, turned_up, turned_down, turned_even, above_trans, bytes_same}

abbrev keys : List StoreRow → List (List ℕ)
keys rows = map key_of rows

abbrev changed : List RowChange → List (List ℕ)
changed changes = map key_in changes

-- the changes from the rows behind the first old one
abbrev rest_of : List StoreRow → List StoreRow → List RowChange
rest_of olds more = changes_between olds more

-- ---- puts of all rows

pub above_puts : (key : List ℕ) (rows : List StoreRow) → AreAbove key (keys rows) → AreAbove key (changed (map Put rows))
above_puts key [] above = tt
above_puts key (r ∷ rs) above = (above.0, above_puts key rs above.1)

pub rise_puts : (rows : List StoreRow) → AreRows rows → Rise (changed (map Put rows))
unfolding IsStrictlySortedBy
rise_puts [] rise = tt
rise_puts (r ∷ rs) rise = (above_puts r.key rs rise.0, rise_puts rs rise.1)

pub fit_puts : (rows : List StoreRow) → HaveRoom rows → AllByRecursion FitsFields (map Put rows)
fit_puts [] room = tt
fit_puts (r ∷ rs) room = (room.0, fit_puts rs room.1)

pub all_puts : (rows : List StoreRow) → AllByRecursion IsPut (map Put rows)
all_puts [] = tt
all_puts (r ∷ rs) = (tt, all_puts rs)

-- a clear and the puts of rows are a batch
pub whole_rule : (rows : List StoreRow) → AreRows rows → HaveRoom rows → IsBatch (whole_of rows)
whole_rule rows rise room = record { rise = rise_puts rows rise; room = fit_puts rows room; puts = λ _. all_puts rows }

-- ---- changes above a key

above_put : (key : List ℕ) (b : Bool) (new : StoreRow) (more : List RowChange) → key_cmp key new.key ≡ Less → AreAbove key (changed more) → AreAbove key (changed ((if b then [] else Put new ∷ []) ++ more))
above_put key true new more less above = above
above_put key false new more less above = (less, above)

above_from : (key : List ℕ) (old : StoreRow) (olds news : List StoreRow) → key_cmp key old.key ≡ Less → AreAbove key (keys news) → ((more : List StoreRow) → AreAbove key (keys more) → AreAbove key (changed (rest_of olds more)))
    → AreAbove key (changed (changes_from old (λ more. rest_of olds more) news))
above_from key old olds [] less above rest = (less, rest [] tt)
above_from key old olds (new ∷ news) less above rest =
    elim (key_cmp old.key new.key) as (λ o. AreAbove key (changed (match_ordering o (Delete old.key ∷ rest_of olds (new ∷ news)) (put_where_differs old new ++ rest_of olds news) (Put new ∷ changes_from old (λ more. rest_of olds more) news)))) [
      | Less ↦ (less, rest (new ∷ news) above)
      | Equal ↦ above_put key (bytes_eq old.value new.value) new (rest_of olds news) above.0 (rest news above.1)
      | Greater ↦ (above.0, above_from key old olds news less above.1 rest)
    ]

pub above_between : (key : List ℕ) (olds news : List StoreRow) → AreAbove key (keys olds) → AreAbove key (keys news) → AreAbove key (changed (changes_between olds news))
above_between key [] news old_above above = above_puts key news above
above_between key (old ∷ olds) news old_above above = above_from key old olds news old_above.0 above (λ more more_above. above_between key olds more old_above.1 more_above)

-- ---- keys rise

rise_put : (b : Bool) (new : StoreRow) (more : List RowChange) → AreAbove new.key (changed more) → Rise (changed more) → Rise (changed ((if b then [] else Put new ∷ []) ++ more))
unfolding IsStrictlySortedBy
rise_put true new more above rise = rise
rise_put false new more above rise = (above, rise)

rise_at : (old new : StoreRow) (olds news : List StoreRow) (o : Ordering) → key_cmp old.key new.key ≡ o → AreRows (old ∷ olds) → AreRows (new ∷ news)
    → ((more : List StoreRow) → AreRows more → Rise (changed (rest_of olds more))) → Rise (changed (changes_from old (λ more. rest_of olds more) news))
    → Rise (changed (match_ordering o (Delete old.key ∷ rest_of olds (new ∷ news)) (put_where_differs old new ++ rest_of olds news) (Put new ∷ changes_from old (λ more. rest_of olds more) news)))
unfolding IsStrictlySortedBy
rise_at old new olds news Less e old_rise rise rest behind =
    (above_between old.key olds (new ∷ news) old_rise.0 (e, above_trans old.key new.key (keys news) e rise.0), rest (new ∷ news) rise)
rise_at old new olds news Equal e old_rise rise rest behind =
    let olds_above = subst (λ k. AreAbove k (keys olds)) (same_texts old.key new.key e) old_rise.0 in
    rise_put (bytes_eq old.value new.value) new (rest_of olds news) (above_between new.key olds news olds_above rise.0) (rest news rise.1)
rise_at old new olds news Greater e old_rise rise rest behind =
    let less = turned_down old.key new.key e in
    (above_between new.key (old ∷ olds) news (less, above_trans new.key old.key (keys olds) less old_rise.0) rise.0, behind)

rise_from : (old : StoreRow) (olds news : List StoreRow) → AreRows (old ∷ olds) → AreRows news → ((more : List StoreRow) → AreRows more → Rise (changed (rest_of olds more)))
    → Rise (changed (changes_from old (λ more. rest_of olds more) news))
unfolding IsStrictlySortedBy
rise_from old olds [] old_rise rise rest = (above_between old.key olds [] old_rise.0 tt, rest [] tt)
rise_from old olds (new ∷ news) old_rise rise rest = rise_at old new olds news (key_cmp old.key new.key) refl old_rise rise rest (rise_from old olds news old_rise rise.1 rest)

pub rise_between : (olds news : List StoreRow) → AreRows olds → AreRows news → Rise (changed (changes_between olds news))
unfolding IsStrictlySortedBy
rise_between [] news old_rise rise = rise_puts news rise
rise_between (old ∷ olds) news old_rise rise = rise_from old olds news old_rise rise (λ more more_rise. rise_between olds more old_rise.1 more_rise)

-- ---- room in fields

fit_put : (b : Bool) (new : StoreRow) (more : List RowChange) → HasRoom new → AllByRecursion FitsFields more → AllByRecursion FitsFields ((if b then [] else Put new ∷ []) ++ more)
fit_put true new more room fits = fits
fit_put false new more room fits = (room, fits)

fit_from : (old : StoreRow) (olds news : List StoreRow) → HasRoom old → HaveRoom news → ((more : List StoreRow) → HaveRoom more → AllByRecursion FitsFields (rest_of olds more))
    → AllByRecursion FitsFields (changes_from old (λ more. rest_of olds more) news)
fit_from old olds [] old_room room rest = (old_room.key, rest [] tt)
fit_from old olds (new ∷ news) old_room room rest =
    elim (key_cmp old.key new.key) as (λ o. AllByRecursion FitsFields (match_ordering o (Delete old.key ∷ rest_of olds (new ∷ news)) (put_where_differs old new ++ rest_of olds news) (Put new ∷ changes_from old (λ more. rest_of olds more) news))) [
      | Less ↦ (old_room.key, rest (new ∷ news) room)
      | Equal ↦ fit_put (bytes_eq old.value new.value) new (rest_of olds news) room.0 (rest news room.1)
      | Greater ↦ (room.0, fit_from old olds news old_room room.1 rest)
    ]

fit_between : (olds news : List StoreRow) → HaveRoom olds → HaveRoom news → AllByRecursion FitsFields (changes_between olds news)
fit_between [] news old_room room = fit_puts news room
fit_between (old ∷ olds) news old_room room = fit_from old olds news old_room.0 room (λ more more_room. fit_between olds more old_room.1 more_room)

pub between_rule : (olds news : List StoreRow) → AreRows olds → AreRows news → HaveRoom olds → HaveRoom news → IsBatch (between olds news)
between_rule olds news old_rise rise old_room room =
    record { rise = rise_between olds news old_rise rise; room = fit_between olds news old_room room; puts = λ is. absurd cc }

-- ---- what it makes of the old rows

-- changes above a row leave it first
after_first : (c : RowChange) (r : StoreRow) (rows : List StoreRow) → key_cmp r.key (key_in c) ≡ Less → after_change c (r ∷ rows) ≡ r ∷ after_change c rows
after_first (Put s) r rows less = ap (λ o. match_ordering o (s ∷ r ∷ rows) (s ∷ rows) (r ∷ with_row s rows)) (turned_up r.key s.key less)
after_first (Delete key) r rows less = ap (λ o. match_ordering o (r ∷ rows) rows (r ∷ without_key key rows)) (turned_up r.key key less)

pub stays_first : (cs : List RowChange) (r : StoreRow) (rows : List StoreRow) → AreAbove r.key (changed cs) → after_changes cs (r ∷ rows) ≡ r ∷ after_changes cs rows
stays_first [] r rows above = refl
stays_first (c ∷ cs) r rows above = ap (λ l. after_changes cs l) (after_first c r rows above.0) ∙ stays_first cs r (after_change c rows) above.1

pub made_of_none : (rows : List StoreRow) → AreRows rows → after_changes (map Put rows) [] ≡ rows
unfolding IsStrictlySortedBy
made_of_none [] rise = refl
made_of_none (r ∷ rs) rise = stays_first (map Put rs) r [] (above_puts r.key rs rise.0) ∙ ap (λ l. r ∷ l) (made_of_none rs rise.1)

even : (key : List ℕ) → key_cmp key key ≡ Equal
even key = tied_itself nat_list_cmp_total key

gone : (old : StoreRow) (olds : List StoreRow) → without_key old.key (old ∷ olds) ≡ olds
gone old olds = ap (λ o. match_ordering o (old ∷ olds) olds (old ∷ without_key old.key olds)) (even old.key)

put_first : (new old : StoreRow) (olds : List StoreRow) (o : Ordering) → key_cmp new.key old.key ≡ o → with_row new (old ∷ olds) ≡ match_ordering o (new ∷ old ∷ olds) (new ∷ olds) (old ∷ with_row new olds)
put_first new old olds o e = ap (λ p. match_ordering p (new ∷ old ∷ olds) (new ∷ olds) (old ∷ with_row new olds)) e

kept_made : (b : Bool) (old new : StoreRow) (olds news : List StoreRow) (more : List RowChange) → b ≡ bytes_eq old.value new.value → key_cmp old.key new.key ≡ Equal → AreAbove new.key (changed more)
    → after_changes more olds ≡ news → after_changes ((if b then [] else Put new ∷ []) ++ more) (old ∷ olds) ≡ new ∷ news
kept_made true old new olds news more is e above made =
    let key_same = same_texts old.key new.key e in
    let value_same = (bytes_decides old.value new.value).0 (sym is) in
    let row_same : old ≡ new = λ i. record { key = key_same i; value = value_same i } in
    ap (λ (r : StoreRow). after_changes more (r ∷ olds)) row_same ∙ stays_first more new olds above ∙ ap (λ l. new ∷ l) made
kept_made false old new olds news more is e above made =
    ap (λ l. after_changes more l) (put_first new old olds Equal (turned_even old.key new.key e)) ∙ stays_first more new olds above ∙ ap (λ l. new ∷ l) made

made_at : (old new : StoreRow) (olds news : List StoreRow) (o : Ordering) → key_cmp old.key new.key ≡ o → AreRows (old ∷ olds) → AreRows (new ∷ news)
    → ((more : List StoreRow) → AreRows more → after_changes (rest_of olds more) olds ≡ more) → after_changes (changes_from old (λ more. rest_of olds more) news) (old ∷ olds) ≡ news
    → after_changes (match_ordering o (Delete old.key ∷ rest_of olds (new ∷ news)) (put_where_differs old new ++ rest_of olds news) (Put new ∷ changes_from old (λ more. rest_of olds more) news)) (old ∷ olds) ≡ new ∷ news
unfolding IsStrictlySortedBy
made_at old new olds news Less e old_rise rise rest behind = ap (λ l. after_changes (rest_of olds (new ∷ news)) l) (gone old olds) ∙ rest (new ∷ news) rise
made_at old new olds news Equal e old_rise rise rest behind =
    let olds_above = subst (λ k. AreAbove k (keys olds)) (same_texts old.key new.key e) old_rise.0 in
    kept_made (bytes_eq old.value new.value) old new olds news (rest_of olds news) refl e (above_between new.key olds news olds_above rise.0) (rest news rise.1)
made_at old new olds news Greater e old_rise rise rest behind =
    let less = turned_down old.key new.key e in
    let from = changes_from old (λ more. rest_of olds more) news in
    ap (λ l. after_changes from l) (put_first new old olds Less less)
    ∙ stays_first from new (old ∷ olds) (above_between new.key (old ∷ olds) news (less, above_trans new.key old.key (keys olds) less old_rise.0) rise.0)
    ∙ ap (λ l. new ∷ l) behind

made_from : (old : StoreRow) (olds news : List StoreRow) → AreRows (old ∷ olds) → AreRows news → ((more : List StoreRow) → AreRows more → after_changes (rest_of olds more) olds ≡ more)
    → after_changes (changes_from old (λ more. rest_of olds more) news) (old ∷ olds) ≡ news
unfolding IsStrictlySortedBy
made_from old olds [] old_rise rise rest = ap (λ l. after_changes (rest_of olds []) l) (gone old olds) ∙ rest [] tt
made_from old olds (new ∷ news) old_rise rise rest = made_at old new olds news (key_cmp old.key new.key) refl old_rise rise rest (made_from old olds news old_rise rise.1 rest)

pub made_between : (olds news : List StoreRow) → AreRows olds → AreRows news → after_changes (changes_between olds news) olds ≡ news
unfolding IsStrictlySortedBy
made_between [] news old_rise rise = made_of_none news rise
made_between (old ∷ olds) news old_rise rise = made_from old olds news old_rise rise (λ more more_rise. made_between olds more old_rise.1 more_rise)

pub applied_between : (olds news : List StoreRow) (batch : ChangeList) → AreRows olds → AreRows news → batch ≡ between olds news → applied batch olds ≡ news
applied_between olds news batch old_rise rise is = ap (λ (b : ChangeList). applied b olds) is ∙ made_between olds news old_rise rise

pub applied_whole : (rows any : List StoreRow) → AreRows rows → applied (whole_of rows) any ≡ rows
applied_whole rows any rise = made_of_none rows rise

-- ---- nothing between equal rows

between_itself : (rows : List StoreRow) → changes_between rows rows ≡ []
between_itself [] = refl
between_itself (r ∷ rs) =
    ap (λ o. match_ordering o (Delete r.key ∷ rest_of rs (r ∷ rs)) (put_where_differs r r ++ rest_of rs rs) (Put r ∷ changes_from r (λ more. rest_of rs more) rs)) (even r.key)
    ∙ ap (λ (b : Bool). (if b then [] else Put r ∷ []) ++ rest_of rs rs) (bytes_same r.value) ∙ between_itself rs

pub empty_between : IsEmptyWhereEqual
empty_between olds news old_rise rise =
    (λ none. sym (ap (λ cs. after_changes cs olds) none) ∙ made_between olds news old_rise rise, λ same. subst (λ rows. changes_between olds rows ≡ []) same (between_itself olds))
