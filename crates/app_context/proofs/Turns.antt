-- Members of one side, put at the end one after another.
use Rattle.std.proofs.Common.{◌≡◌, ℕ, suc, ◌+◌, ◌<◌, Bool, cond, List, [], ◌∷◌, ◌++◌, map, length, get_or, take, drop, IsTrue, sym, ap, ◌∙◌, subst, append_assoc}
use Rattle.std.proofs.Math.Seq.{split_at}
use Rattle.std.proofs.lemmas.List.{map-append, take_more}
use Rattle.json_tree.specs.Json.{Json, IsAbove}
use Rattle.json_tree.specs.Tree.{member_of}
use Rattle.json_tree.specs.declared.tree.Tree.{Tree}
use Rattle.app_context.specs.declared.events.Side.{Side}
use Rattle.app_context.specs.Sides.{is_on, those, Rises}
use Rattle.app_context.proofs.Besides.{those_join, above_those}

-- the first members, one more of them, and the others
parted : (ps : List (List ℕ × Tree)) (i : ℕ) (p : List ℕ × Tree) → i < length ps → p ≡ get_or ps i p → map member_of ps ≡ map member_of (take i ps) ++ member_of p ∷ map member_of (drop (suc i) ps)
parted ps i p within is =
    ap (map member_of) (split_at ps i p within)
    ∙ map-append member_of (take i ps) (get_or ps i p ∷ drop (suc i) ps)
    ∙ ap (λ q. map member_of (take i ps) ++ member_of q ∷ map member_of (drop (suc i) ps)) (sym is)

pub side_above : (side : Side) (key : List ℕ) (made : List (List ℕ × Json)) (ps : List (List ℕ × Tree)) (i : ℕ) (p : List ℕ × Tree) (now : List (List ℕ × Json)) (wanted : Bool)
    → i < length ps → p ≡ get_or ps i p → now ≡ made ++ those side key (map member_of (take i ps)) → wanted ≡ is_on side key p.0 → Rises (made ++ those side key (map member_of ps)) → IsTrue wanted → IsAbove p.0 now
side_above side key made ps i p now wanted within is so_far test rises h =
    let others = map member_of (drop (suc i) ps) in
    subst (IsAbove p.0) (sym so_far) (above_those side key made (map member_of (take i ps)) (member_of p) others (subst (λ ms. Rises (made ++ those side key ms)) (parted ps i p within is) rises) (sym test ∙ h))

pub side_turn : (side : Side) (key : List ℕ) (made : List (List ℕ × Json)) (ps : List (List ℕ × Tree)) (i : ℕ) (p : List ℕ × Tree) (now grown : List (List ℕ × Json)) (wanted : Bool)
    → i < length ps → p ≡ get_or ps i p → now ≡ made ++ those side key (map member_of (take i ps)) → wanted ≡ is_on side key p.0 → grown ≡ now ++ cond wanted (member_of p ∷ []) []
    → grown ≡ made ++ those side key (map member_of (take (i + 1) ps))
side_turn side key made ps i p now grown wanted within is so_far test after =
    after
    ∙ ap (λ l. l ++ cond wanted (member_of p ∷ []) []) so_far
    ∙ append_assoc made (those side key (map member_of (take i ps))) (cond wanted (member_of p ∷ []) [])
    ∙ ap (λ l. made ++ l)
    (ap (λ b. those side key (map member_of (take i ps)) ++ cond b (member_of p ∷ []) []) test
    ∙ sym (those_join side key (map member_of (take i ps)) (member_of p ∷ []))
    ∙ ap (those side key) (sym (map-append member_of (take i ps) (p ∷ [])) ∙ ap (λ q. map member_of (take i ps ++ q ∷ [])) is ∙ ap (map member_of) (sym (take_more ps i p within))))
