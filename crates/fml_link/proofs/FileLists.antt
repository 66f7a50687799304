-- The list of files starts with its root, and has no name twice.
use Rattle.std.proofs.Common.{◌≡◌, ℕ, zero, suc, Bool, true, false, List, [], ◌∷◌, ◌++◌, Option, Some, None, Ok, refl, sym, ap, ◌∙◌, subst}
use Rattle.std.specs.Prelude.{◌&&◌, ◌||◌, not, bytes_eq, slice_get}
use Rattle.std.proofs.lemmas.Bool.{or_parts}
use Rattle.std.proofs.Math.Bool.{or_comm, or_assoc}
use Rattle.fml_types.specs.Named.{has_name}
use Rattle.fml_imports.proofs.Names.{turned}
use Rattle.fml_link.specs.Files.{file_module, named_by, with_named, after_file, list_after}
use Rattle.fml_link.specs.Laws.{are_distinct, StartWithRoot, AreDistinct}
use Rattle.fml_link.proofs.Linked.{bind_ok}
use Rattle.fml_link.proofs.Listing.{Listed, IsAdded, named_keep}

-- what each file that is added keeps is kept by a file's turn
pub turn_keeps : (P : Listed → Type 0) → ((list : Listed) (f : List ℕ × List ℕ) (longer : Listed) → P list → IsAdded list f longer → P longer)
    → (file : List ℕ → Option (List ℕ)) (list : Listed) (at : Option (List ℕ × List ℕ)) (longer : Listed) → P list → after_file file list at ≡ Ok longer → P longer
turn_keeps P step file list None longer kept h = let same : list ≡ longer = cc in subst P same kept
turn_keeps P step file list (Some f) longer kept h =
    let m = bind_ok (file_module f.0 (file f.0)) (λ m. with_named list (named_by f.1 m)) longer h in
    named_keep P step (named_by f.1 m.0) list longer kept m.2

-- what each file that is added keeps holds of the whole list
pub list_keeps : (P : Listed → Type 0) → ((list : Listed) (f : List ℕ × List ℕ) (longer : Listed) → P list → IsAdded list f longer → P longer)
    → (file : List ℕ → Option (List ℕ)) (root channel : List ℕ) → P ((root, channel) ∷ []) → (n : ℕ) (list : Listed) → list_after file root channel n ≡ Ok list → P list
unfolding list_after
list_keeps P step file root channel kept zero list h = let same : (root, channel) ∷ [] ≡ list = cc in subst P same kept
list_keeps P step file root channel kept (suc n) list h =
    let before = bind_ok (list_after file root channel n) (λ l. after_file file l (slice_get l n)) list h in
    turn_keeps P step file before.0 (slice_get before.0 n) list (list_keeps P step file root channel kept n before.0 before.1) before.2

-- ---- the root is first

push_first : (list : Listed) (f root : List ℕ × List ℕ) → slice_get list 0 ≡ Some root → slice_get (list ++ f ∷ []) 0 ≡ Some root
push_first [] f root h = absurd cc
push_first (g ∷ gs) f root h = h

pub root_is_first : StartWithRoot
root_is_first file root channel list h =
    list_keeps (λ (l : Listed). slice_get l 0 ≡ Some (root, channel)) (λ (one : Listed) (f : List ℕ × List ℕ) (more : Listed) (kept : slice_get one 0 ≡ Some (root, channel)) (added : IsAdded one f more).
    subst (λ (l : Listed). slice_get l 0 ≡ Some (root, channel)) (sym added.2) (push_first one f (root, channel) kept)) file root channel refl 64 list h

-- ---- no name stands twice

both_true : (a b : Bool) → a ≡ false → b ≡ true → (not a && b) ≡ true
both_true true b first second = absurd cc
both_true false b first second = second

pub split_true : (a b : Bool) → (not a && b) ≡ true → (a ≡ false) × (b ≡ true)
split_true true b h = absurd cc
split_true false b h = (refl, h)

pub has_push : (q : List ℕ) (f : List ℕ × List ℕ) (list : Listed) → has_name q (list ++ f ∷ []) ≡ (has_name q list || bytes_eq f.0 q)
has_push q f [] = or_comm (bytes_eq f.0 q) false
has_push q f (g ∷ gs) = ap (λ b. bytes_eq g.0 q || b) (has_push q f gs) ∙ sym (or_assoc (bytes_eq g.0 q) (has_name q gs) (bytes_eq f.0 q))

push_distinct : (list : Listed) (f : List ℕ × List ℕ) → are_distinct list ≡ true → has_name f.0 list ≡ false → are_distinct (list ++ f ∷ []) ≡ true
push_distinct [] f distinct new = refl
push_distinct (g ∷ gs) f distinct new =
    let apart = split_true (has_name g.0 gs) (are_distinct gs) distinct in
    let other : bytes_eq f.0 g.0 ≡ false = turned f.0 g.0 ∙ (or_parts (bytes_eq g.0 f.0) (has_name f.0 gs) new).0 in
    both_true (has_name g.0 (gs ++ f ∷ [])) (are_distinct (gs ++ f ∷ [])) (has_push g.0 f gs ∙ ap (λ b. b || bytes_eq f.0 g.0) apart.0 ∙ other)
    (push_distinct gs f apart.1 (or_parts (bytes_eq g.0 f.0) (has_name f.0 gs) new).1)

added_distinct : (one : Listed) (f : List ℕ × List ℕ) (more : Listed) → are_distinct one ≡ true → IsAdded one f more → are_distinct more ≡ true
added_distinct one f more kept added = subst (λ l. are_distinct l ≡ true) (sym added.2) (push_distinct one f kept added.0)

-- the files that a file names are added, and no name stands twice
pub named_distinct : (fs list longer : Listed) → are_distinct list ≡ true → with_named list fs ≡ Ok longer → are_distinct longer ≡ true
named_distinct fs list longer kept h = named_keep (λ l. are_distinct l ≡ true) added_distinct fs list longer kept h

pub list_is_distinct : AreDistinct
list_is_distinct file root channel list h = list_keeps (λ l. are_distinct l ≡ true) added_distinct file root channel refl 64 list h
