-- What rows have under a tag, where they are the rows of a state.
use Rattle.std.proofs.Common.{◌≡◌, ◌<◌, ◌≤◌, ◌++◌, ◌∷◌, [], List, ℕ, length, arith, length-append, false, Option, Some, None, map, All, refl, sym, ap, ◌∙◌, subst, append_assoc}
use Rattle.std.specs.Prelude.{◌==◌, ◌||◌, if◌then◌else◌}
use Rattle.std.specs.Option.{is_some}
use Rattle.std.specs.Ordering.{is_lt}
use Rattle.std.specs.declared.cmp.Ordering.TheVariants.{Less}
use Rattle.std.proofs.lemmas.Bool.{lt-leb}
use Rattle.std.proofs.lemmas.List.{append-nil}
use Rattle.std.proofs.lemmas.List.Elements.{All-head, All-tail}
use Rattle.recipe_reader.specs.Records.{IsValid}
use Rattle.recipe_reader.specs.Payloads.{slug_cmp, AreAbove, AreBelow, AreInOrder, AreValid, has_slug, with_recipe}
use Rattle.recipe_reader.specs.declared.recipe.Recipe.{Recipe}
use Rattle.enrol_states.specs.declared.state.State.{State}
use Rattle.enrol_states.proofs.Ordered.{lesser_texts, turned_up}
use Rattle.state_values.specs.Statuses.{number}
use Rattle.state_values.specs.Outcome.{◌>>=◌}
use Rattle.state_codec.specs.Folds.{folded, with_last, keeping}
use Rattle.state_values.specs.Values.{hyphenated, bit}
use Rattle.state_codec.specs.Encoding.{row, key_row, recipe_row, status_row, status_rows, last_rows, pending_recipes, later_rows}
use Rattle.state_codec.specs.Sound.{AreRecords}
use Rattle.state_codec.specs.Reading as reading
use Rattle.state_codec.specs.Reading.{after_tag, value_if, value_under, inserted, inserting}
use Rattle.row_batches.specs.declared.store_row.StoreRow.{StoreRow}

-- ---- folds

after_first : {A B : Type 0} (step : B → A → Option B) (o : Option B) (xs ys : List A) → ((c : B) → folded step c (xs ++ ys) ≡ (folded step c xs >>= λ d. folded step d ys))
    → (o >>= λ c. folded step c (xs ++ ys)) ≡ ((o >>= λ c. folded step c xs) >>= λ c. folded step c ys)
after_first step None xs ys rest = refl
after_first step (Some c) xs ys rest = rest c

pub folded-append : {A B : Type 0} (step : B → A → Option B) (b : B) (xs ys : List A) → folded step b (xs ++ ys) ≡ (folded step b xs >>= λ c. folded step c ys)
folded-append step b [] ys = refl
folded-append step b (x ∷ xs) ys = after_first step (step b x) xs ys (λ c. folded-append step c xs ys)

pub then_folded : {A B : Type 0} (step : B → A → Option B) (b c d : B) (xs ys : List A) → folded step b xs ≡ Some c → folded step c ys ≡ Some d → folded step b (xs ++ ys) ≡ Some d
then_folded step b c d xs ys front rest = folded-append step b xs ys ∙ ap (λ o. o >>= λ e. folded step e ys) front ∙ rest

pub one_folded : {A B : Type 0} (step : B → A → Option B) (b c d : B) (x : A) (ys : List A) → step b x ≡ Some c → folded step c ys ≡ Some d → folded step b (x ∷ ys) ≡ Some d
one_folded step b c d x ys front rest = ap (λ o. o >>= λ e. folded step e ys) front ∙ rest

-- items of which nothing is read
pub skipped : {A B C : Type 0} (step : B → A → Option B) (f : C → A) (cs : List C) (b : B) → ((c : C) → step b (f c) ≡ Some b) → folded step b (map f cs) ≡ Some b
skipped step f [] b skips = refl
skipped step f (c ∷ cs) b skips = one_folded step b b b (f c) (map f cs) (skips c) (skipped step f cs b skips)

-- items that are read each as what it was made of
pub all_kept : {A B : Type 0} (P : B → Type 0) (read : A → Option (Option B)) (f : B → A) (bs front : List B) → ((b : B) → P b → read (f b) ≡ Some (Some b)) → All P bs → folded (keeping read) front (map f bs) ≡ Some (front ++ bs)
all_kept P read f [] front reads all = ap (λ l. Some l) (sym (append-nil front))
all_kept P read f (b ∷ bs) front reads all =
    one_folded (keeping read) front (front ++ b ∷ []) (front ++ b ∷ bs) (f b) (map f bs) (ap (λ o. o >>= λ p. Some (with_last front p)) (reads b (All-head P b bs all)))
    (all_kept P read f bs (front ++ b ∷ []) reads (All-tail P b bs all) ∙ ap (λ l. Some l) (append_assoc front (b ∷ []) bs))

-- ---- recipes

below_mid : (s : List ℕ) (r : Recipe) (rs qs : List Recipe) → AreAbove s (qs ++ r ∷ rs) → slug_cmp s r.slug ≡ Less
below_mid s r rs [] above = above.0
below_mid s r rs (q ∷ qs) above = below_mid s r rs qs above.1

below_front : (front : List Recipe) (r : Recipe) (rs : List Recipe) → AreInOrder (front ++ r ∷ rs) → AreBelow r.slug front
below_front [] r rs order = tt
below_front (q ∷ front) r rs order = (below_mid q.slug r rs front order.0, below_front front r rs order.1)

none_below : (s : List ℕ) (rs : List Recipe) → AreBelow s rs → has_slug s rs ≡ false
none_below s [] below = refl
none_below s (r ∷ rs) below = ap (λ b. b || has_slug s rs) (lesser_texts r.slug s below.0) ∙ none_below s rs below.1

last_with : (r : Recipe) (rs : List Recipe) → AreBelow r.slug rs → with_recipe r rs ≡ rs ++ r ∷ []
last_with r [] below = refl
last_with r (q ∷ qs) below =
    ap (λ o. if is_lt o then r ∷ q ∷ qs else q ∷ with_recipe r qs) (turned_up q.slug r.slug below.0) ∙ ap (λ l. q ∷ l) (last_with r qs below.1)

one_inserted : (front : List Recipe) (r : Recipe) → length front < 2000 → AreBelow r.slug front → inserted front (Some r) ≡ Some (front ++ r ∷ [])
one_inserted front r fewer below =
    ap (λ b. if b || has_slug r.slug front then None else Some (with_recipe r front)) (lt-leb 2000 (length front) fewer)
    ∙ ap (λ b. if b then None else Some (with_recipe r front)) (none_below r.slug front below) ∙ ap (λ l. Some l) (last_with r front below)

pub all_inserted : (tag : ℕ) (row_of : Recipe → StoreRow) (rs front : List Recipe) → ((r : Recipe) → IsValid r → AreRecords (r ∷ []) → reading.recipe_row tag (row_of r) ≡ Some (Some r)) → AreInOrder (front ++ rs) → length (front ++ rs) ≤ 2000 → AreValid rs → AreRecords rs
    → folded (inserting tag) front (map row_of rs) ≡ Some (front ++ rs)
all_inserted tag row_of [] front reads order most valid records = ap (λ l. Some l) (sym (append-nil front))
all_inserted tag row_of (r ∷ rs) front reads order most valid records =
    let below = below_front front r rs order in
    let fewer : length front < 2000 = omega (arith, most, length-append front (r ∷ rs)) in
    one_folded (inserting tag) front (front ++ r ∷ []) (front ++ r ∷ rs) (row_of r) (map row_of rs)
    (ap (λ o. o >>= inserted front) (reads r valid.0 (records.0, tt)) ∙ one_inserted front r fewer below)
    (all_inserted tag row_of rs (front ++ r ∷ []) reads (subst AreInOrder (sym (append_assoc front (r ∷ []) rs)) order) (subst (λ (l : List Recipe). length l ≤ 2000) (sym (append_assoc front (r ∷ []) rs)) most) valid.1 records.1 ∙ ap (λ l. Some l) (append_assoc front (r ∷ []) rs))

-- ---- single values

pub none_tagged : {C : Type 0} (tag : ℕ) (f : C → StoreRow) (cs : List C) (rest : List StoreRow) → ((c : C) → after_tag tag (f c).key ≡ None) → value_under tag (map f cs ++ rest) ≡ value_under tag rest
none_tagged tag f [] rest none = refl
none_tagged tag f (c ∷ cs) rest none =
    ap (λ o. value_if o (f c).value (value_under tag (map f cs ++ rest))) (none c) ∙ none_tagged tag f cs rest none

-- ---- the later rows of a state

-- all sections in turn
pub all_sections : {B : Type 0} (step : B → StoreRow → Option B) (byte : ℕ) (s : State) (b c d e f g h : B)
    → step b (row (105 ∷ []) (hyphenated s.id)) ≡ Some c
    → folded step c (map (recipe_row (108 ∷ [])) s.live) ≡ Some d
    → folded step d (map (recipe_row (110 ∷ [])) (pending_recipes s.pending)) ≡ Some e
    → folded step e (map (key_row (111 ∷ [])) s.opted_out) ≡ Some f
    → folded step f (status_rows byte s) ≡ Some g
    → folded step g (last_rows s) ≡ Some h
    → folded step b (later_rows byte s) ≡ Some h
unfolding later_rows
all_sections step byte s b c d e f g h id live pending opted_out statuses last =
    let opted_out_on = status_rows byte s ++ last_rows s in
    let pending_on = map (key_row (111 ∷ [])) s.opted_out ++ opted_out_on in
    let live_on = map (recipe_row (110 ∷ [])) (pending_recipes s.pending) ++ pending_on in
    let id_on = map (recipe_row (108 ∷ [])) s.live ++ live_on in
    one_folded step b c h (row (105 ∷ []) (hyphenated s.id)) id_on id
    (then_folded step c d h (map (recipe_row (108 ∷ [])) s.live) live_on live
    (then_folded step d e h (map (recipe_row (110 ∷ [])) (pending_recipes s.pending)) pending_on pending
    (then_folded step e f h (map (key_row (111 ∷ [])) s.opted_out) opted_out_on opted_out (then_folded step f g h (status_rows byte s) (last_rows s) statuses last))))

pub all_statuses : {B : Type 0} (step : B → StoreRow → Option B) (byte : ℕ) (s : State) (a b c d : B) → step a (row (112 ∷ []) (byte ∷ [])) ≡ Some b → step b (row (113 ∷ []) (bit (is_some s.pending) ∷ [])) ≡ Some c
    → folded step c (map status_row s.rows) ≡ Some d → folded step a (status_rows byte s) ≡ Some d
all_statuses step byte s a b c d participating pending rows =
    let pending_row = row (113 ∷ []) (bit (is_some s.pending) ∷ []) in
    one_folded step a b d (row (112 ∷ []) (byte ∷ [])) (pending_row ∷ map status_row s.rows) participating (one_folded step b c d pending_row (map status_row s.rows) pending rows)

pub all_last : {B : Type 0} (step : B → StoreRow → Option B) (s : State) (a b c d : B) → step a (row (116 ∷ []) (number s.installed)) ≡ Some b → step b (row (117 ∷ []) (number s.updated)) ≡ Some c → step c (row (118 ∷ []) s.version) ≡ Some d → folded step a (last_rows s) ≡ Some d
all_last step s a b c d installed updated version =
    let updated_row = row (117 ∷ []) (number s.updated) in
    let version_row = row (118 ∷ []) s.version in
    one_folded step a b d (row (116 ∷ []) (number s.installed)) (updated_row ∷ version_row ∷ []) installed
    (one_folded step b c d updated_row (version_row ∷ []) updated (one_folded step c d d version_row [] version refl))

other : (tag x : ℕ) (rest : List ℕ) → (x == tag) ≡ false → after_tag tag (x ∷ rest) ≡ None
other tag x rest differs = ap (λ b. if b then Some rest else None) differs

-- no key of the sections before the statuses has the tag
pub to_statuses : (tag byte : ℕ) (s : State) → (105 == tag) ≡ false → (108 == tag) ≡ false → (110 == tag) ≡ false → (111 == tag) ≡ false
    → value_under tag (later_rows byte s) ≡ value_under tag (status_rows byte s ++ last_rows s)
unfolding later_rows
to_statuses tag byte s i l n o =
    ap (λ p. value_if p (hyphenated s.id) (value_under tag (map (recipe_row (108 ∷ [])) s.live ++ (map (recipe_row (110 ∷ [])) (pending_recipes s.pending) ++ (map (key_row (111 ∷ [])) s.opted_out ++ (status_rows byte s ++ last_rows s)))))) (other tag 105 [] i)
    ∙ none_tagged tag (recipe_row (108 ∷ [])) s.live _ (λ r. other tag 108 r.slug l)
    ∙ none_tagged tag (recipe_row (110 ∷ [])) (pending_recipes s.pending) _ (λ r. other tag 110 r.slug n)
    ∙ none_tagged tag (key_row (111 ∷ [])) s.opted_out _ (λ slug. other tag 111 slug o)

-- nor has one of the statuses
pub to_last : (tag byte : ℕ) (s : State) → (112 == tag) ≡ false → (113 == tag) ≡ false → (114 == tag) ≡ false → value_under tag (status_rows byte s ++ last_rows s) ≡ value_under tag (last_rows s)
to_last tag byte s p q r =
    ap (λ o. value_if o (byte ∷ []) (value_under tag (row (113 ∷ []) (bit (is_some s.pending) ∷ []) ∷ (map status_row s.rows ++ last_rows s)))) (other tag 112 [] p)
    ∙ ap (λ o. value_if o (bit (is_some s.pending) ∷ []) (value_under tag (map status_row s.rows ++ last_rows s))) (other tag 113 [] q)
    ∙ none_tagged tag status_row s.rows (last_rows s) (λ w. other tag 114 w.slug r)
