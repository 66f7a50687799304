-- Which JSON values are values, and what they become.
use Rattle.std.proofs.Common.{◌≡◌, ℕ, List, refl, ap, ap₂}
use Rattle.json_tree.specs.Json.{Json, null, truth, whole, odd, text, list, object, Items, no_items, item, Members, no_members, member, IsBelow, IsSound, AreSoundItems, AreSoundMembers}
use Rattle.jexl_value.specs.Kept.{IsValue, AreValues, AreNamedValues}
use Rattle.jexl_value.specs.Meaning.{without_odd, items_without_odd, members_without_odd}

IsBelow-values : (k : List ℕ) (ms : Members) → IsBelow k ms → IsBelow k (members_without_odd ms)
IsBelow-values k no_members h = tt
IsBelow-values k (member l x ms) h = (h.0, IsBelow-values k ms h.1)

mutual
  pub IsValue-without_odd : (x : Json) → IsSound x → IsValue (without_odd x)
  IsValue-without_odd null h = tt
  IsValue-without_odd (truth b) h = tt
  IsValue-without_odd (whole n) h = h
  IsValue-without_odd odd h = tt
  IsValue-without_odd (text s) h = h
  IsValue-without_odd (list xs) h = AreValues-without_odd xs h
  IsValue-without_odd (object ms) h = AreNamedValues-without_odd ms h

  AreValues-without_odd : (xs : Items) → AreSoundItems xs → AreValues (items_without_odd xs)
  AreValues-without_odd no_items h = tt
  AreValues-without_odd (item x xs) h = (IsValue-without_odd x h.0, AreValues-without_odd xs h.1)

  AreNamedValues-without_odd : (ms : Members) → AreSoundMembers ms → AreNamedValues (members_without_odd ms)
  AreNamedValues-without_odd no_members h = tt
  AreNamedValues-without_odd (member k x ms) h = (h.0, IsBelow-values k ms h.1, IsValue-without_odd x h.2, AreNamedValues-without_odd ms h.3)

mutual
  pub without_odd-value : (x : Json) → IsValue x → without_odd x ≡ x
  without_odd-value null h = refl
  without_odd-value (truth b) h = refl
  without_odd-value (whole n) h = refl
  without_odd-value odd h = absurd h
  without_odd-value (text s) h = refl
  without_odd-value (list xs) h = ap list (without_odd-items xs h)
  without_odd-value (object ms) h = ap object (without_odd-members ms h)

  without_odd-items : (xs : Items) → AreValues xs → items_without_odd xs ≡ xs
  without_odd-items no_items h = refl
  without_odd-items (item x xs) h = ap₂ item (without_odd-value x h.0) (without_odd-items xs h.1)

  without_odd-members : (ms : Members) → AreNamedValues ms → members_without_odd ms ≡ ms
  without_odd-members no_members h = refl
  without_odd-members (member k x ms) h = ap₂ (member k) (without_odd-value x h.2) (without_odd-members ms h.3)
