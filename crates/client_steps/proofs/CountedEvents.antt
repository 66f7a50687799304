-- The counts after an event, where there is room for its name.
use Rattle.std.proofs.Common.{Ordering, ◌≡◌, ◌⊎◌, inl, inr, ℕ, suc, ◌<◌, ◌≤◌, false, List, [], ◌∷◌, map, length, get_or, Option, Some, None, IsTrue, Less, Equal, Greater, ◌&&◌, refl, subst, arith}
use Rattle.std.specs.Prelude.{is_none, nat_le, slice_set}
use Rattle.std.specs.List.{insert}
use Rattle.std.specs.List.Sorted.{IsStrictlySortedBy}
use Rattle.std.proofs.lemmas.Bool.{leb-false}
use Rattle.plain_text.specs.Names.{is_name}
use Rattle.event_counts.specs.Kept.{at_moment, counted_in, found, moment_at, no_counts, with_more}
use Rattle.event_counts.specs.Places.{HasNameAt, BelongsAt}
use Rattle.event_counts.specs.Sound.{AreInOrder, IsSound, name_cmp, name_of}
use Rattle.event_counts.specs.declared.name_counts.NameCounts.{NameCounts}
use Rattle.event_counts.proofs.Found.{counted_there, counted_new, found_nowhere}
use Rattle.sequences.proofs.Texts.{above_trans, turned_down}
use Rattle.event_counts.proofs.Soundness.{most_moment_at, sound_there, sound_new}
use Rattle.client_steps.specs.Steps.{has_no_room_for}

-- ---- the place of a name

-- a place where the name is, or where it belongs
abbrev Place : List ℕ → List NameCounts → Type 0
Place name ns = ((i : ℕ) × HasNameAt name ns i) ⊎ ((i : ℕ) × BelongsAt name ns i)

place_from : (name : List ℕ) (n : NameCounts) (ns : List NameCounts) (o : Ordering) → name_cmp n.name name ≡ o → AreInOrder (n ∷ ns) → Place name ns → Place name (n ∷ ns)
unfolding IsStrictlySortedBy
place_from name n ns Less e order (inl there) = let at = there.1 in let within = at.within in inl (suc there.0, record { within = omega (arith, within); same = λ d. at.same d })
place_from name n ns Less e order (inr new) = let at = new.1 in let within = at.within in inr (suc new.0, record { within = omega (arith, within); below = (e, at.below); above = at.above })
place_from name n ns Equal e order rest = inl (0, record { within = omega arith; same = λ d. e })
place_from name n ns Greater e order rest =
    let up = turned_down n.name name e in
    inr (0, record { within = omega arith; below = tt; above = (up, above_trans name n.name (map name_of ns) up order.0) })

tail_order : (n : NameCounts) (ns : List NameCounts) → AreInOrder (n ∷ ns) → AreInOrder ns
unfolding IsStrictlySortedBy
tail_order n ns order = order.1

place_of : (name : List ℕ) (ns : List NameCounts) → AreInOrder ns → Place name ns
place_of name [] order = inr (0, record { within = omega arith; below = tt; above = tt })
place_of name (n ∷ ns) order = place_from name n ns (name_cmp n.name name) refl order (place_of name ns (tail_order n ns order))

-- ---- the counts after an event

-- where there is room, a new name finds fewer than 64
room_for : (o : Option NameCounts) (len : ℕ) → (is_none o && nat_le 64 len) ≡ false → o ≡ None → len < 64
room_for None len room none = leb-false 64 len room
room_for (Some n) len room none = absurd cc

pub counted_sound : (name : List ℕ) (count now : ℕ) (ns : List NameCounts) → IsSound ns → IsTrue (is_name name) → now ≤ 253402300799 → has_no_room_for name ns ≡ false → IsSound (counted_in name count now ns)
counted_sound name count now ns sound is most room =
    let moment = moment_at now ns in
    let within = most_moment_at now ns most sound.names in
    let none = no_counts name moment in
    elim (place_of name ns sound.order) [
      | inl there ↦ subst IsSound (counted_there name count moment ns there.0 none sound.order there.1)
          (sound_there name count moment ns (slice_set ns there.0 (with_more count (at_moment moment (get_or ns there.0 none)))) there.0 none sound there.1 within refl)
      | inr new ↦ subst IsSound (counted_new name count moment ns new.0 new.1)
          (sound_new name count moment ns (insert ns new.0 (with_more count none)) new.0 sound new.1 is within (room_for (found name ns) (length ns) room (found_nowhere name ns new.0 new.1)) refl)
    ]
