-- The recipes of a payload in a map by their slugs.
use Rattle.std.proofs.Common.{Ordering, ◌≡◌, ℕ, Bool, true, false, List, [], ◌∷◌, ◌++◌, Less, Equal, Greater, Some, refl, sym, ap, ◌∙◌, subst, append_assoc, append-nil}
use Rattle.std.proofs.lemmas.List.{map-append}
use Rattle.std.specs.Prelude.{◌||◌, bytes_eq, cond, is_some, Option, if◌then◌else◌}
use Rattle.std.specs.BTreeMap.{insert_entry, is_at}
use Rattle.std.specs.Map.{lookup, keys_of, values_of}
use Rattle.std.specs.List.{AllByRecursion}
use Rattle.std.specs.List.Sorted.{IsStrictlySortedBy}
use Rattle.std.specs.Ordering.{nat_cmp, is_eq, is_lt, match_ordering}
use Rattle.std.specs.Cmp.Lexicographic.{slice_cmp}
use Rattle.std.proofs.lemmas.Bool.{or_parts}
use Rattle.sequences.proofs.Texts.{is_eq-turned}
use Rattle.recipe_reader.specs.declared.recipe.Recipe.{Recipe}
use Rattle.recipe_reader.specs.declared.payload.Taken.{Taken}
use Rattle.recipe_reader.specs.Records.{IsValid}
use Rattle.recipe_reader.specs.Payloads.{AreBelow, AreValid, has_slug, with_recipe, no_records}
use Rattle.recipe_reader.specs.Taken.{HaveOwnSlugs, so_far}

pub none_taken : (t : Taken) → t.recipes.entries ≡ [] → t.skipped ≡ [] → so_far t ≡ no_records
none_taken t recipes skipped = rw (recipes, skipped) refl

first-held : (b : Bool) (r : Recipe) (o : Option Recipe) (h : Bool) → is_some o ≡ h → is_some (cond b (Some r) o) ≡ (b || h)
first-held true r o h e = refl
first-held false r o h e = e

pub held_slug : (s : List ℕ) (es : List (List ℕ × Recipe)) → HaveOwnSlugs es → is_some (lookup (is_at (slice_cmp nat_cmp s)) es) ≡ has_slug s (values_of es)
held_slug s [] own = refl
held_slug s (e ∷ es) own =
    first-held (is_eq (slice_cmp nat_cmp s e.0)) e.1 (lookup (is_at (slice_cmp nat_cmp s)) es) (has_slug s (values_of es)) (held_slug s es own.1)
    ∙ ap (λ b. b || has_slug s (values_of es)) (is_eq-turned s e.0 ∙ ap (λ t. bytes_eq t s) own.0)

-- ---- one recipe more

apart_here : (s : List ℕ) (e : List ℕ × Recipe) (es : List (List ℕ × Recipe)) → e.0 ≡ e.1.slug → has_slug s (values_of (e ∷ es)) ≡ false → is_eq (slice_cmp nat_cmp s e.0) ≡ false
apart_here s e es own h = is_eq-turned s e.0 ∙ ap (λ t. bytes_eq t s) own ∙ (or_parts (bytes_eq e.1.slug s) (has_slug s (values_of es)) h).0

put_first : (r : Recipe) (e : List ℕ × Recipe) (es equal inserted : List (List ℕ × Recipe)) (rest : List Recipe) (o : Ordering) → is_eq o ≡ false → values_of inserted ≡ rest
    → values_of (match_ordering o ((r.slug, r) ∷ e ∷ es) equal (e ∷ inserted)) ≡ (if is_lt o then r ∷ e.1 ∷ values_of es else e.1 ∷ rest)
put_first r e es equal inserted rest Less h is = refl
put_first r e es equal inserted rest Equal h is = absurd cc
put_first r e es equal inserted rest Greater h is = ap (λ l. e.1 ∷ l) is

pub put : (r : Recipe) (es : List (List ℕ × Recipe)) → HaveOwnSlugs es → has_slug r.slug (values_of es) ≡ false → values_of (insert_entry (slice_cmp nat_cmp) es r.slug r) ≡ with_recipe r (values_of es)
put r [] own h = refl
put r (e ∷ es) own h =
    put_first r e es ((e.0, r) ∷ es) (insert_entry (slice_cmp nat_cmp) es r.slug r) (with_recipe r (values_of es)) (slice_cmp nat_cmp r.slug e.0) (apart_here r.slug e es own.0 h)
    (put r es own.1 (or_parts (bytes_eq e.1.slug r.slug) (has_slug r.slug (values_of es)) h).1)
    ∙ ap (λ t. if is_lt (slice_cmp nat_cmp r.slug t) then r ∷ e.1 ∷ values_of es else e.1 ∷ with_recipe r (values_of es)) own.0

own_first : (r : Recipe) (e : List ℕ × Recipe) (es equal inserted : List (List ℕ × Recipe)) (o : Ordering) → is_eq o ≡ false → HaveOwnSlugs (e ∷ es) → HaveOwnSlugs inserted → HaveOwnSlugs (match_ordering o ((r.slug, r) ∷ e ∷ es) equal (e ∷ inserted))
own_first r e es equal inserted Less h own more = (refl, own)
own_first r e es equal inserted Equal h own more = absurd cc
own_first r e es equal inserted Greater h own more = (own.0, more)

pub put_own : (r : Recipe) (es : List (List ℕ × Recipe)) → HaveOwnSlugs es → has_slug r.slug (values_of es) ≡ false → HaveOwnSlugs (insert_entry (slice_cmp nat_cmp) es r.slug r)
put_own r [] own h = (refl, tt)
put_own r (e ∷ es) own h =
    own_first r e es ((e.0, r) ∷ es) (insert_entry (slice_cmp nat_cmp) es r.slug r) (slice_cmp nat_cmp r.slug e.0) (apart_here r.slug e es own.0 h) own
    (put_own r es own.1 (or_parts (bytes_eq e.1.slug r.slug) (has_slug r.slug (values_of es)) h).1)

valid_if : (b : Bool) (r q : Recipe) (qs rest : List Recipe) → IsValid r → AreValid (q ∷ qs) → AreValid rest → AreValid (if b then r ∷ q ∷ qs else q ∷ rest)
valid_if true r q qs rest one all more = (one, all)
valid_if false r q qs rest one all more = (all.0, more)

pub put_valid : (r : Recipe) (rs : List Recipe) → IsValid r → AreValid rs → AreValid (with_recipe r rs)
put_valid r [] one all = (one, tt)
put_valid r (q ∷ qs) one all = valid_if (is_lt (slice_cmp nat_cmp r.slug q.slug)) r q qs (with_recipe r qs) one all (put_valid r qs one all.1)

-- ---- the recipes of the map, in order

below_first : (e : List ℕ × Recipe) (done : List (List ℕ × Recipe)) (f : List ℕ × Recipe) (rest : List (List ℕ × Recipe)) → e.0 ≡ e.1.slug → HaveOwnSlugs (done ++ f ∷ rest)
    → AllByRecursion (λ k. slice_cmp nat_cmp e.0 k ≡ Less) (keys_of (done ++ f ∷ rest)) → slice_cmp nat_cmp e.1.slug f.1.slug ≡ Less
below_first e [] f rest is own h = subst (λ t. slice_cmp nat_cmp e.1.slug t ≡ Less) own.0 (subst (λ t. slice_cmp nat_cmp t f.0 ≡ Less) is h.0)
below_first e (d ∷ done) f rest is own h = below_first e done f rest is own.1 h.1

-- each recipe is above those before it
pub above_done : (done : List (List ℕ × Recipe)) (f : List ℕ × Recipe) (rest : List (List ℕ × Recipe)) → HaveOwnSlugs (done ++ f ∷ rest) → IsStrictlySortedBy (slice_cmp nat_cmp) (keys_of (done ++ f ∷ rest)) → AreBelow f.1.slug (values_of done)
unfolding IsStrictlySortedBy
above_done [] f rest own rise = tt
above_done (e ∷ done) f rest own rise = (below_first e done f rest own.0 own.1 rise.0, above_done done f rest own.1 rise.1)

-- the recipes of the entries that are gone, and the entries that are left
abbrev pub Gone : List Recipe → List (List ℕ × Recipe) → List (List ℕ × Recipe) → Type 0
Gone rs left all = (done : List (List ℕ × Recipe)) × (rs ≡ values_of done) × (done ++ left ≡ all)

pub gone_none : (rs : List Recipe) (left all : List (List ℕ × Recipe)) → rs ≡ [] → left ≡ all → Gone rs left all
gone_none rs left all none same = ([], none, same)

pub gone_above : (rs : List Recipe) (left rest all : List (List ℕ × Recipe)) (e : List ℕ × Recipe) → Gone rs left all → left ≡ e ∷ rest → HaveOwnSlugs all → IsStrictlySortedBy (slice_cmp nat_cmp) (keys_of all) → AreBelow e.1.slug rs
gone_above rs left rest all e gone step own rise =
    let whole : all ≡ gone.0 ++ e ∷ rest = sym gone.2 ∙ ap (λ l. gone.0 ++ l) step in
    subst (λ l. AreBelow e.1.slug l) (sym gone.1) (above_done gone.0 e rest (subst HaveOwnSlugs whole own) (subst (λ l. IsStrictlySortedBy (slice_cmp nat_cmp) (keys_of l)) whole rise))

pub gone_more : (rs more : List Recipe) (left rest all : List (List ℕ × Recipe)) (e : List ℕ × Recipe) → Gone rs left all → left ≡ e ∷ rest → more ≡ rs ++ e.1 ∷ [] → Gone more rest all
gone_more rs more left rest all e gone step grown =
    (gone.0 ++ e ∷ [], grown ∙ ap (λ l. l ++ e.1 ∷ []) gone.1 ∙ sym (map-append (λ d. d.1) gone.0 (e ∷ [])), append_assoc gone.0 (e ∷ []) rest ∙ sym (ap (λ l. gone.0 ++ l) step) ∙ gone.2)

pub gone_all : (rs : List Recipe) (left all : List (List ℕ × Recipe)) → Gone rs left all → left ≡ [] → rs ≡ values_of all
gone_all rs left all gone none = gone.1 ∙ ap values_of (sym (append-nil gone.0) ∙ sym (ap (λ l. gone.0 ++ l) none) ∙ gone.2)

-- where no entry is there
pub none_own : (es : List (List ℕ × Recipe)) → es ≡ [] → HaveOwnSlugs es
none_own es none = subst HaveOwnSlugs (sym none) tt

pub none_valid : (es : List (List ℕ × Recipe)) → es ≡ [] → AreValid (values_of es)
none_valid es none = subst (λ l. AreValid (values_of l)) (sym none) tt
