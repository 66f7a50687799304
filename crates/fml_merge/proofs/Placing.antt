-- Members laid over entries that stay in their places.
use Rattle.std.proofs.Common.{◌≡◌, ℕ, suc, ◌+◌, ◌<◌, ◌≤◌, Bool, true, false, List, [], ◌∷◌, length, map, get_or, drop, Option, Some, None, refl, sym, ap, ◌∙◌, add-one, drop-cons}
use Rattle.std.proofs.lemmas.List.{drop_all}
use Rattle.std.specs.Cmp.Lexicographic.{bytes_decides}
use Rattle.std.specs.Prelude.{◌||◌, bytes_eq, unwrap_or, if◌then◌else◌}
use Rattle.json_tree.specs.Json.{Json, members_of}
use Rattle.json_tree.specs.Tree.{json_of, member_of}
use Rattle.json_tree.specs.declared.tree.Tree.{Tree}
use Rattle.fml_types.specs.Named.{found, has_name}
use Rattle.fml_types.specs.Shape.{Shape}
use Rattle.fml_types.specs.declared.manifest.TypeTable.{TypeTable}
use Rattle.fml_value.specs.Entries.{with_entry, replaced}
use Rattle.fml_value.specs.Takes.{takes}
use Rattle.fml_value.specs.Typed.{TypedValue}
use Rattle.fml_merge.specs.Overlay.{laid, members_laid, put, with_member}
use Rattle.fml_merge.specs.Merging.{named_laid}

found-some : (b : Bool) (k : List ℕ) (v w : TypedValue) (es : List (List ℕ × TypedValue)) → (found k es ≡ Some w → has_name k es ≡ true) → (if b then Some v else found k es) ≡ Some w → (b || has_name k es) ≡ true
found-some true k v w es later h = refl
found-some false k v w es later h = later h

there : (k : List ℕ) (w : TypedValue) (es : List (List ℕ × TypedValue)) → found k es ≡ Some w → has_name k es ≡ true
there k w [] h = absurd (cc)
there k w (e ∷ es) h = found-some (bytes_eq e.0 k) k e.1 w es (there k w es) h

found-none : (b : Bool) (k : List ℕ) (v : TypedValue) (es : List (List ℕ × TypedValue)) → (found k es ≡ None → has_name k es ≡ false) → (if b then Some v else found k es) ≡ None → (b || has_name k es) ≡ false
found-none true k v es later h = absurd (cc)
found-none false k v es later h = later h

absent : (k : List ℕ) (es : List (List ℕ × TypedValue)) → found k es ≡ None → has_name k es ≡ false
absent k [] h = refl
absent k (e ∷ es) h = found-none (bytes_eq e.0 k) k e.1 es (absent k es) h

replaced_twice : (k : List ℕ) (v w : TypedValue) (es : List (List ℕ × TypedValue)) → replaced k v (replaced k w es) ≡ replaced k v es
replaced_twice k v w [] = refl
replaced_twice k v w (e ∷ es) =
    elim (bytes_eq e.0 k) as (λ b. bytes_eq e.0 k ≡ b → replaced k v (if b then (k, w) ∷ es else e ∷ replaced k w es) ≡ (if b then (k, v) ∷ es else e ∷ replaced k v es)) [
      | true ↦ λ same. ap (λ b. if b then (k, v) ∷ es else (k, w) ∷ replaced k v es) ((bytes_decides k k).1 refl)
      | false ↦ λ other. ap (λ b. if b then (k, v) ∷ replaced k w es else e ∷ replaced k v (replaced k w es)) other ∙ ap (λ l. e ∷ l) (replaced_twice k v w es)
    ] refl

module _ (zeros : Shape → TypedValue) (types : TypeTable) (type_of : List ℕ → Option Shape) (k : List ℕ) (x : Json) where
  taken_laid : (t : Shape) (es : List (List ℕ × TypedValue)) → type_of k ≡ Some t → takes types t x ≡ true → named_laid zeros types type_of k x es ≡ put k (laid zeros types t (unwrap_or (found k es) (zeros t)) x) es
  taken_laid t es typed taken =
      ap (λ o. with_member zeros (λ t. takes types t x) (λ t v. laid zeros types t v x) k o es) typed ∙ ap (λ b. if b then put k (laid zeros types t (unwrap_or (found k es) (zeros t)) x) es else es) taken

  -- the tree laid over the value that the name has
  pub there_laid : (t : Shape) (es without grown : List (List ℕ × TypedValue)) (base other value : TypedValue) → type_of k ≡ Some t → takes types t x ≡ true → found k es ≡ Some base → without ≡ replaced k other es
      → value ≡ laid zeros types t base x → grown ≡ replaced k value without → grown ≡ named_laid zeros types type_of k x es
  there_laid t es without grown base other value typed taken held left lays grows =
      grows ∙ ap (replaced k value) left ∙ replaced_twice k value other es ∙ ap (λ v. replaced k v es) lays
      ∙ sym (taken_laid t es typed taken ∙ ap (λ o. put k (laid zeros types t (unwrap_or o (zeros t)) x) es) held
      ∙ ap (λ b. if b then replaced k (laid zeros types t base x) es else with_entry k (laid zeros types t base x) es) (there k base es held))

  -- the tree laid over zero under a new name
  pub new_laid : (t : Shape) (es grown : List (List ℕ × TypedValue)) (value : TypedValue) → type_of k ≡ Some t → takes types t x ≡ true → found k es ≡ None
      → value ≡ laid zeros types t (zeros t) x → grown ≡ with_entry k value es → grown ≡ named_laid zeros types type_of k x es
  new_laid t es grown value typed taken none lays grows =
      grows ∙ ap (λ v. with_entry k v es) lays
      ∙ sym (taken_laid t es typed taken ∙ ap (λ o. put k (laid zeros types t (unwrap_or o (zeros t)) x) es) none
      ∙ ap (λ b. if b then replaced k (laid zeros types t (zeros t) x) es else with_entry k (laid zeros types t (zeros t) x) es) (absent k es none))

-- ---- one member after the other

pub place_turn : (zeros : Shape → TypedValue) (types : TypeTable) (type_of : List ℕ → Option Shape) (pairs : List (List ℕ × Tree)) (i : ℕ) (m : List ℕ × Tree) (es grown all : List (List ℕ × TypedValue))
    → i < length pairs → m ≡ get_or pairs i m → grown ≡ named_laid zeros types type_of m.0 (json_of m.1) es
    → members_laid zeros types type_of es (members_of (map member_of (drop i pairs))) ≡ all → members_laid zeros types type_of grown (members_of (map member_of (drop (i + 1) pairs))) ≡ all
place_turn zeros types type_of pairs i m es grown all h is grows so_far =
    let here : drop i pairs ≡ m ∷ drop (i + 1) pairs = rw add-one (drop-cons pairs i m h ∙ ap (λ n. n ∷ drop (suc i) pairs) (sym is)) in
    ap (λ l. members_laid zeros types type_of l (members_of (map member_of (drop (i + 1) pairs)))) grows
    ∙ sym (ap (λ ps. members_laid zeros types type_of es (members_of (map member_of ps))) here) ∙ so_far

pub place_end : (zeros : Shape → TypedValue) (types : TypeTable) (type_of : List ℕ → Option Shape) (pairs : List (List ℕ × Tree)) (i : ℕ) (es all : List (List ℕ × TypedValue))
    → length pairs ≤ i → members_laid zeros types type_of es (members_of (map member_of (drop i pairs))) ≡ all → es ≡ all
place_end zeros types type_of pairs i es all h so_far = sym (ap (λ ps. members_laid zeros types type_of es (members_of (map member_of ps))) (drop_all i pairs h)) ∙ so_far
