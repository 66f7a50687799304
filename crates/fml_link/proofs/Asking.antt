-- Which files a shelf has been asked for, as the loop over them goes on.
use Rattle.std.proofs.Common.{◌≡◌, ℕ, zero, suc, ◌+◌, ◌<◌, ◌≤◌, true, false, List, [], ◌∷◌, ◌++◌, length, take, Some, Ok, refl, sym, ap, ◌∙◌, subst, arith}
use Rattle.std.specs.Prelude.{bytes_eq, slice_get}
use Rattle.std.specs.List.{AllByRecursion, IsDistinct}
use Rattle.std.proofs.lemmas.List.{take_more}
use Rattle.std.proofs.lemmas.Option.{slice_get_within, get_or_from_slice_get}
use Rattle.std.proofs.lemmas.Bool.{or_parts}
use Rattle.host_model.specs.Shelf.{IsReached}
use Rattle.host_model.specs.ShelfLaws.{reached_once, reached_then}
use Rattle.host_model.specs.declared.shelf.Shelf.{Ghosts}
use Rattle.fml_types.specs.Named.{has_name}
use Rattle.fml_imports.proofs.Names.{turned}
use Rattle.fml_link.specs.Asked.{names_of, BeginWith, IsAskedFrom}
use Rattle.fml_link.specs.Files.{list_after, with_named}
use Rattle.fml_link.specs.Laws.{are_distinct}
use Rattle.fml_link.proofs.FileLists.{split_true}
use Rattle.fml_link.proofs.Listing.{Listed, named_begin, one_more}

names_push : (list : Listed) (f : List ℕ × List ℕ) → names_of (list ++ f ∷ []) ≡ names_of list ++ f.0 ∷ []
names_push [] f = refl
names_push (g ∷ gs) f = ap (λ l. g.0 ∷ l) (names_push gs f)

-- ---- the root stays the first

begun_first : (list more : Listed) (root : List ℕ × List ℕ) → slice_get list 0 ≡ Some root → slice_get (list ++ more) 0 ≡ Some root
begun_first [] more root h = absurd cc
begun_first (f ∷ fs) more root h = h

pub root_stays_first : (fs list longer : Listed) (root : List ℕ × List ℕ) → with_named list fs ≡ Ok longer → slice_get list 0 ≡ Some root → slice_get longer 0 ≡ Some root
root_stays_first fs list longer root more first = let begins = named_begin fs list longer more in subst (λ l. slice_get l 0 ≡ Some root) (sym begins.1) (begun_first list begins.0 root first)

first_begins : (list : Listed) (root channel : List ℕ) (n : ℕ) → slice_get list 0 ≡ Some (root, channel) → BeginWith root (names_of (take n list))
first_begins list root channel zero h = tt
first_begins [] root channel (suc n) h = absurd cc
first_begins (f ∷ fs) root channel (suc n) h = let same : f ≡ (root, channel) = cc in ap (λ (g : List ℕ × List ℕ). g.0) same

-- ---- the shelf is asked for one more

module _ {S : Type 0} (asks : S → List ℕ → S → Type 0) where
  asked_then : (shelf middle left : S) (list longer : Listed) (place : ℕ) (f : List ℕ × List ℕ) → longer ≡ take place list ++ f ∷ [] → IsReached asks shelf (names_of (take place list)) middle → asks middle f.0 left → IsReached asks shelf (names_of longer) left
  asked_then shelf middle left list longer place f is before step =
      subst (λ ns. IsReached asks shelf ns left) (sym (ap names_of is ∙ names_push (take place list) f)) (reached_then asks shelf (names_of (take place list)) middle (f.0 ∷ []) left before (reached_once asks middle f.0 left step))

  asked_turn : (shelf middle left : S) (list : Listed) (place : ℕ) (f : List ℕ × List ℕ) → Some f ≡ slice_get list place → IsReached asks shelf (names_of (take place list)) middle → asks middle f.0 left → IsReached asks shelf (names_of (take (place + 1) list)) left
  asked_turn shelf middle left list place f is before step =
      let within : place < length list = slice_get_within list place f (sym is) in
      let one : take (place + 1) list ≡ take place list ++ f ∷ [] = take_more list place f within ∙ ap (λ n. take place list ++ n ∷ []) (get_or_from_slice_get list place f f (sym is)) in
      asked_then shelf middle left list (take (place + 1) list) place f one before step

  pub asked_longer : (shelf middle left : S) (fs list longer : Listed) (place : ℕ) (f : List ℕ × List ℕ) → Some f ≡ slice_get list place → with_named list fs ≡ Ok longer
      → IsReached asks shelf (names_of (take place list)) middle → asks middle f.0 left → IsReached asks shelf (names_of (take (place + 1) longer)) left
  asked_longer shelf middle left fs list longer place f is more before step = asked_then shelf middle left list (take (place + 1) longer) place f (one_more place list longer fs f is more) before step

-- ---- which names these are

apart_names : (name : List ℕ) (list : Listed) (n : ℕ) → has_name name list ≡ false → AllByRecursion (λ other. bytes_eq name other ≡ false) (names_of (take n list))
apart_names name list zero h = tt
apart_names name [] (suc n) h = tt
apart_names name (f ∷ fs) (suc n) h =
    (turned name f.0 ∙ (or_parts (bytes_eq f.0 name) (has_name name fs) h).0, apart_names name fs n (or_parts (bytes_eq f.0 name) (has_name name fs) h).1)

distinct_names : (list : Listed) (n : ℕ) → are_distinct list ≡ true → IsDistinct bytes_eq (names_of (take n list))
unfolding IsDistinct
distinct_names list zero h = tt
distinct_names [] (suc n) h = tt
distinct_names (f ∷ fs) (suc n) h = let apart = split_true (has_name f.0 fs) (are_distinct fs) h in (apart_names f.0 fs n apart.0, distinct_names fs n apart.1)

few_names : (list : Listed) (n : ℕ) → length (names_of (take n list)) ≤ length list
few_names list zero = omega arith
few_names [] (suc n) = omega arith
few_names (f ∷ fs) (suc n) = omega (arith, few_names fs n)

-- ---- where the walk ends

module _ {S : Type 0} (f : Ghosts S) (root channel : List ℕ) (shelf : S) where
  pub asked_none : IsAskedFrom f root channel shelf shelf
  unfolding IsDistinct list_after
  asked_none = (
    [],
    record { root_first = tt; distinct = tt; few = omega arith; listed = λ tells. record { turns = 0; list = (root, channel) ∷ []; stands = refl; count = 0; first = refl } },
    refl,
  )

  -- the files of the first names of the list are asked for, while so many of its files have added those that they name
  asked_first : (left : S) (list : Listed) (place count : ℕ) → slice_get list 0 ≡ Some (root, channel) → are_distinct list ≡ true → length list ≤ 64 → (f.tells → list_after (f.file shelf) root channel place ≡ Ok list)
      → IsReached f.asks shelf (names_of (take count list)) left → IsAskedFrom f root channel shelf left
  asked_first left list place count first distinct few stands reached = (
    names_of (take count list),
    record {
      root_first = first_begins list root channel count first;
      distinct = distinct_names list count distinct;
      few = omega (arith, few, few_names list count);
      listed = λ tells. record { turns = place; list = list; stands = stands tells; count = count; first = refl };
    },
    reached,
  )

  pub asked_all : (left : S) (list : Listed) (place : ℕ) → slice_get list 0 ≡ Some (root, channel) → are_distinct list ≡ true → length list ≤ 64 → (f.tells → list_after (f.file shelf) root channel place ≡ Ok list)
      → IsReached f.asks shelf (names_of (take place list)) left → IsAskedFrom f root channel shelf left
  asked_all left list place first distinct few stands reached = asked_first left list place place first distinct few stands reached

  pub asked_one_more : (middle left : S) (list : Listed) (place : ℕ) (listed : List ℕ × List ℕ) → slice_get list 0 ≡ Some (root, channel) → are_distinct list ≡ true → length list ≤ 64
      → (f.tells → list_after (f.file shelf) root channel place ≡ Ok list) → Some listed ≡ slice_get list place → IsReached f.asks shelf (names_of (take place list)) middle
      → f.asks middle listed.0 left → IsAskedFrom f root channel shelf left
  asked_one_more middle left list place listed first distinct few stands is before step =
      asked_first left list place (place + 1) first distinct few stands (asked_turn f.asks shelf middle left list place listed is before step)
