-- What an outbox holds, and what changes and a confirmation make of it.
use Rattle.std.specs.Prelude.{◌≡◌, ◌<◌, ◌≤◌, ◌+◌, ◌-◌, ℕ, nat_lt, List, [], ◌∷◌, ◌++◌, length, ⊤}
use Rattle.std.specs.List.{AllByRecursion, filter}
use Rattle.enrol_states.specs.Statuses.{IsSlug}
use Rattle.change_outbox.specs.declared.change.Change.{Change}

-- the number that the next change gets, and the changes that aren't confirmed
pub record Contents : Type 0 where
  pub next : ℕ
  pub entries : List Change

-- the greatest next number
abbrev pub last_number : ℕ
last_number = 9223372036854775807

-- the numbers of the changes are n, n + 1 and so on
abbrev pub AreNumberedFrom : ℕ → List Change → Type 0
AreNumberedFrom n [] = ⊤
AreNumberedFrom n (c ∷ cs) = (c.number ≡ n) × AreNumberedFrom (n + 1) cs

-- the numbers of the entries are above 0, and run without a gap up to the next one
pub record IsNumbered (o : Contents) : Type 0 where
  pub first : length o.entries < o.next
  pub last : o.next ≤ last_number
  pub numbers : AreNumberedFrom (o.next - length o.entries) o.entries

pub record HasSlugs (c : Change) : Type 0 where
  pub slug : IsSlug c.slug
  pub branch : IsSlug c.branch

abbrev pub HaveSlugs : List Change → Type 0
HaveSlugs cs = AllByRecursion HasSlugs cs

pub record IsSound (o : Contents) : Type 0 where
  pub numbered : IsNumbered o
  pub slugs : HaveSlugs o.entries

-- the outbox of a new store
abbrev pub no_changes : Contents
no_changes = record { next = 1; entries = [] }

-- the changes with the numbers n, n + 1 and so on
abbrev pub numbered : ℕ → List Change → List Change
numbered n [] = []
numbered n (c ∷ cs) = record c { number = n } ∷ numbered (n + 1) cs

-- the outbox with the changes behind its own, under the next numbers
abbrev pub appended : List Change → Contents → Contents
appended changes o = record { next = o.next + length changes; entries = o.entries ++ numbered o.next changes }

-- the changes above a number
abbrev pub above : ℕ → List Change → List Change
above number cs = filter (λ c. nat_lt number c.number) cs

-- the outbox without the changes up to a number
abbrev pub confirmed : ℕ → Contents → Contents
confirmed number o = record { next = o.next; entries = above number o.entries }

-- a confirmation and then an append make the second outbox of the first
pub record IsMadeOf (o p : Contents) : Type 0 where
  pub number : ℕ
  pub changes : List Change
  pub is : p ≡ appended changes (confirmed number o)
