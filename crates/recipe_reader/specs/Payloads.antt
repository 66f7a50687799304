-- Recipes in order by slug; which recipes a payload keeps, and which records it skips.
use Rattle.std.specs.Prelude.{◌≡◌, ℕ, ◌+◌, nat_le, Bool, List, [], ◌∷◌, ◌++◌, length, take, drop, Option, Some, None, option_and_then, Result, Ok, Err, ⊤, codes, bytes_eq, if◌then◌else◌, ◌≤◌}
use Rattle.std.specs.List.{list_any}
use Rattle.std.specs.Cmp.Lexicographic.{slice_cmp}
use Rattle.std.specs.Ordering.{nat_cmp, is_lt}
use Rattle.std.specs.declared.cmp.Ordering.{Ordering}
use Rattle.std.specs.declared.cmp.Ordering.TheVariants.{Less}
use Rattle.json_tree.specs.Json.{Json, Items, no_items, item, get}
use Rattle.recipe_reader.specs.Branches.{as_list, items_len}
use Rattle.recipe_reader.specs.Records.{recipe_of, IsValid}
use Rattle.recipe_reader.specs.declared.recipe.SkipReason.{SkipReason}
use Rattle.recipe_reader.specs.declared.recipe.SkipReason.TheVariants.{Duplicate}
use Rattle.recipe_reader.specs.declared.recipe.Recipe.{Recipe}
use Rattle.recipe_reader.specs.declared.payload.Payload.{Payload}
use Rattle.recipe_reader.specs.declared.payload.PayloadFault.{PayloadFault}
use Rattle.recipe_reader.specs.declared.payload.PayloadFault.TheVariants as faults

-- ---- recipes in order by slug

abbrev pub slug_cmp : List ℕ → List ℕ → Ordering
slug_cmp a b = slice_cmp nat_cmp a b

-- each slug is above s
abbrev pub AreAbove : List ℕ → List Recipe → Type 0
AreAbove s [] = ⊤
AreAbove s (r ∷ rs) = (slug_cmp s r.slug ≡ Less) × AreAbove s rs

-- each slug is below s
abbrev pub AreBelow : List ℕ → List Recipe → Type 0
AreBelow s [] = ⊤
AreBelow s (r ∷ rs) = (slug_cmp r.slug s ≡ Less) × AreBelow s rs

abbrev pub AreInOrder : List Recipe → Type 0
AreInOrder [] = ⊤
AreInOrder (r ∷ rs) = AreAbove r.slug rs × AreInOrder rs

abbrev pub AreValid : List Recipe → Type 0
AreValid [] = ⊤
AreValid (r ∷ rs) = IsValid r × AreValid rs

abbrev pub has_slug : List ℕ → List Recipe → Bool
has_slug s rs = list_any (λ r. bytes_eq r.slug s) rs

-- the recipe with the slug, where it is there
abbrev pub recipe_with : List ℕ → List Recipe → Option Recipe
recipe_with s [] = None
recipe_with s (r ∷ rs) = if bytes_eq r.slug s then Some r else recipe_with s rs

-- the recipes with one more, at its place
abbrev pub with_recipe : Recipe → List Recipe → List Recipe
with_recipe r [] = r ∷ []
with_recipe r (q ∷ qs) = if is_lt (slug_cmp r.slug q.slug) then r ∷ q ∷ qs else q ∷ with_recipe r qs

-- s belongs before the i-th recipe
abbrev pub IsPlace : List ℕ → List Recipe → ℕ → Type 0
IsPlace s rs i = (i ≤ length rs) × AreBelow s (take i rs) × AreAbove s (drop i rs)

-- ---- payloads

abbrev pub no_records : Payload
no_records = record { recipes = []; skipped = [] }

abbrev pub skipping : ℕ → SkipReason → Payload → Payload
skipping i reason p = record { recipes = p.recipes; skipped = p.skipped ++ (i, reason) ∷ [] }

abbrev pub keeping : ℕ → Recipe → Payload → Payload
keeping i r p = if has_slug r.slug p.recipes then skipping i Duplicate p else record { recipes = with_recipe r p.recipes; skipped = p.skipped }

-- what was taken, with the i-th record
abbrev pub taking : ℕ → Result Recipe SkipReason → Payload → Payload
taking i (Ok r) p = keeping i r p
taking i (Err reason) p = skipping i reason p

-- what was taken, with the records from the i-th on
abbrev pub payload_from : ℕ → Payload → Items → Payload
payload_from i p no_items = p
payload_from i p (item x xs) = payload_from (i + 1) (taking i (recipe_of x) p) xs

-- the records of a payload
abbrev pub records_in : Json → Option Items
records_in x = option_and_then as_list (get (codes "data") x)

-- how many records there are, where they are too many
abbrev pub too_many : Option Items → Option ℕ
too_many None = None
too_many (Some xs) = if nat_le (items_len xs) 2000 then None else Some (items_len xs)

abbrev pub counted : Option Items → Result Payload PayloadFault
counted None = Err faults.NoData
counted (Some xs) = if nat_le (items_len xs) 2000 then Ok (payload_from 0 no_records xs) else Err (faults.TooManyRecipes (items_len xs))

-- the payload, or why there is none
unfoldable pub payload_of : Json → Result Payload PayloadFault
payload_of x = counted (records_in x)

-- want of memory is the one free answer
abbrev pub GivesPayload : Result Payload PayloadFault → Result Payload PayloadFault → Type 0
GivesPayload (Err faults.OutOfMemory) read = Unit {0}
GivesPayload got read = read ≡ got
