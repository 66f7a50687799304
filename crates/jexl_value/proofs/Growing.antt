-- Lists that grow at their end.
use Rattle.std.proofs.Common.{◌≡◌, ℕ, zero, suc, List, [], ◌∷◌, ◌++◌, map, take, drop, Less, Equal, Greater, IsUtf8, refl, sym, ap, ◌∙◌, subst}
use Rattle.std.specs.Cmp.Lexicographic.{slice_cmp, nat_list_cmp_total, texts_ties, bytes_decides}
use Rattle.std.specs.Ordering.{nat_cmp, ordering_reverse, is_eq}
use Rattle.json_tree.specs.Json.{Json, items_of, members_of, IsBelow, IsAbove}
use Rattle.json_tree.proofs.Growing.{IsRising, IsBelow-push}
use Rattle.jexl_value.specs.Kept.{IsValue, AreValues, AreNamedValues}
use Rattle.jexl_value.specs.Names.{beside, with_member}

pub AreValues-push : (xs : List Json) (x : Json) → AreValues (items_of xs) → IsValue x → AreValues (items_of (xs ++ x ∷ []))
AreValues-push [] x h k = (k, tt)
AreValues-push (y ∷ xs) x h k = (h.0, AreValues-push xs x h.1 k)

pub IsRising-named : (ms : List (List ℕ × Json)) → AreNamedValues (members_of ms) → IsRising ms
IsRising-named [] h = tt
IsRising-named (m ∷ ms) h = (h.1, IsRising-named ms h.3)

pub AreNamedValues-push : (ms : List (List ℕ × Json)) (m : List ℕ × Json) → AreNamedValues (members_of ms) → IsAbove m.0 ms → IsUtf8 m.0 → IsValue m.1 → AreNamedValues (members_of (ms ++ m ∷ []))
AreNamedValues-push [] m h above u k = (u, tt, k, tt)
AreNamedValues-push (n ∷ ms) m h above u k = (h.0, IsBelow-push n.0 ms m h.1 above.0, h.2, AreNamedValues-push ms m h.3 above.1 u k)

-- ---- a name that gets a value

IsBelow-with : (k : List ℕ) (name : List ℕ) (x : Json) (ms : List (List ℕ × Json)) → slice_cmp nat_cmp k name ≡ Less → IsBelow k (members_of ms) → IsBelow k (members_of (with_member name x ms))
IsBelow-with k name x [] less h = (less, tt)
IsBelow-with k name x (m ∷ ms) less h =
    elim (slice_cmp nat_cmp name m.0) as (λ o. IsBelow k (members_of (beside o (name, x) m ms (with_member name x ms)))) [
      | Less ↦ (less, h)
      | Equal ↦ (less, h.1)
      | Greater ↦ (h.0, IsBelow-with k name x ms less h.1)
    ]

IsBelow-first : (k : List ℕ) (m : List ℕ × Json) (ms : List (List ℕ × Json)) → slice_cmp nat_cmp k m.0 ≡ Less → IsBelow m.0 (members_of ms) → IsBelow k (members_of ms)
IsBelow-first k m [] less h = tt
IsBelow-first k m (n ∷ ms) less h = (nat_list_cmp_total.trans k m.0 n.0 less h.0, IsBelow-first k m ms less h.1)

IsBelow-same : (k l : List ℕ) (ms : List (List ℕ × Json)) → slice_cmp nat_cmp k l ≡ Equal → IsBelow l (members_of ms) → IsBelow k (members_of ms)
IsBelow-same k l ms tied h = subst (λ n. IsBelow n (members_of ms)) (sym ((bytes_decides k l).0 (texts_ties k l ∙ ap is_eq tied))) h

pub AreNamedValues-with : (name : List ℕ) (x : Json) (ms : List (List ℕ × Json)) → IsUtf8 name → IsValue x → AreNamedValues (members_of ms) → AreNamedValues (members_of (with_member name x ms))
AreNamedValues-with name x [] u v h = (u, tt, v, tt)
AreNamedValues-with name x (m ∷ ms) u v h =
    elim (slice_cmp nat_cmp name m.0) as (λ o. slice_cmp nat_cmp name m.0 ≡ o → AreNamedValues (members_of (beside o (name, x) m ms (with_member name x ms)))) [
      | Less ↦ λ e. (u, (e, IsBelow-first name m ms e h.1), v, h)
      | Equal ↦ λ e. (u, IsBelow-same name m.0 ms e h.1, v, h.3)
      | Greater ↦ λ e. (h.0, IsBelow-with m.0 name x ms (nat_list_cmp_total.antisymm m.0 name ∙ ap ordering_reverse e) h.1, h.2, AreNamedValues-with name x ms u v h.3)
    ] refl

pub map-insert : {A B : Type 0} (f : A → B) (xs : List A) (i : ℕ) (x : A) → map f (take i xs ++ x ∷ drop i xs) ≡ take i (map f xs) ++ f x ∷ drop i (map f xs)
map-insert f [] zero x = refl
map-insert f [] (suc i) x = refl
map-insert f (y ∷ ys) zero x = refl
map-insert f (y ∷ ys) (suc i) x = ap (λ l. f y ∷ l) (map-insert f ys i x)
