-- Sides on which each byte that was written since the last sync is 255.
use Rattle.std.proofs.Common.{◌≡◌, ◌⊎◌, inl, inr, ℕ, ◌+◌, ◌-◌, ◌≤◌, ◌<◌, max, List, [], ◌∷◌, ◌++◌, length, take, drop, replicate, get_or, refl, sym, ◌∙◌, ap, subst, arith, length-append}
use Rattle.std.proofs.lemmas.Bool.{cases_lt}
use Rattle.std.proofs.lemmas.List.{ext_get_or, get_or_append_left, get_or-append_right, get_or-take, get_or-drop, get_or-replicate, get_or_past, length-replicate}
use Rattle.host_model.specs.declared.side.Side.{Side}
use Rattle.host_model.specs.declared.memory.Choice.{Choice}
use Rattle.host_model.specs.declared.memory.Choice.TheVariants.{Old, New, Torn}
use Rattle.host_model.specs.Images.{overwritten}
use Rattle.host_model.specs.Images as image
use Rattle.host_model.specs.CallLog.{CallLog, SideState, wrote, side_of, state_of, IsImage, images_of, marked}
use Rattle.host_model.specs.CallLogLaws.{padded, length-overwritten, torn_overwritten, each_side, read_is_image_of}
use Rattle.host_model.specs.Memory.{image_of}
use Rattle.host_model.proofs.Tearing.{torn_none}

-- a place is in a range, or outside of it
abbrev IsIn : ℕ → ℕ → ℕ → Type 0
IsIn at n i = (at ≤ i) × (i < at + n)

abbrev IsOut : ℕ → ℕ → ℕ → Type 0
IsOut at n i = (i < at) ⊎ (at + n ≤ i)

in_or_out : (at n i : ℕ) → IsIn at n i ⊎ IsOut at n i
in_or_out at n i = elim (cases_lt i at) [
  | inl before ↦ inr (inl before)
  | inr from ↦ elim (cases_lt i (at + n)) [ inl within ↦ inl (from, within) | inr behind ↦ inr (inr behind) ]
]

-- each byte after a write, 0 being that of a place past the end
module _ (old : List ℕ) (at : ℕ) (bytes : List ℕ) (i : ℕ) where
  abbrev gap : List ℕ
  gap = replicate (at - length old) 0

  abbrev front : List ℕ
  front = take at (old ++ gap)

  abbrev behind : List ℕ
  behind = drop (at + length bytes) old

  size : length (front ++ bytes) ≡ at + length bytes
  size = omega (arith, padded old at bytes, length-append front bytes)

  byte_in : IsIn at (length bytes) i → get_or (overwritten old at bytes) i 0 ≡ get_or bytes (i - at) 0
  byte_in inside =
      get_or_append_left (front ++ bytes) behind 0 i (omega (arith, size, inside.1))
      ∙ get_or-append_right front bytes at i 0 (padded old at bytes) inside.0

  in_gap : i < at → get_or (old ++ gap) i 0 ≡ get_or old i 0
  in_gap before = elim (cases_lt i (length old)) [
    | inl within ↦ get_or_append_left old gap 0 i within
    | inr past ↦ get_or-append_right old gap (length old) i 0 refl past
        ∙ get_or-replicate (at - length old) (i - length old) 0 0 (omega arith) ∙ sym (get_or_past old i 0 past)
  ]

  byte_out : IsOut at (length bytes) i → get_or (overwritten old at bytes) i 0 ≡ get_or old i 0
  byte_out (inl before) =
      get_or_append_left (front ++ bytes) behind 0 i (omega (arith, size, before))
      ∙ get_or_append_left front bytes 0 i (omega (arith, padded old at bytes, before))
      ∙ get_or-take at (old ++ gap) i 0 before ∙ in_gap before
  byte_out (inr after) =
      let place : at + length bytes + (i - (at + length bytes)) ≡ i = omega (arith, after) in
      get_or-append_right (front ++ bytes) behind (at + length bytes) i 0 size after
      ∙ get_or-drop (at + length bytes) old (i - (at + length bytes)) 0 ∙ ap (λ (k : ℕ). get_or old k 0) place

abbrev mark : List ℕ → ℕ → ℕ → List ℕ
mark bytes at n = overwritten bytes at (replicate n 255)

length-mark : (bytes : List ℕ) (at n : ℕ) → length (mark bytes at n) ≡ max (length bytes) (at + n)
length-mark bytes at n = length-overwritten bytes at (replicate n 255) ∙ ap (λ (k : ℕ). max (length bytes) (at + k)) (length-replicate n 255)

mark_in : (bytes : List ℕ) (at n i : ℕ) → IsIn at n i → get_or (mark bytes at n) i 0 ≡ 255
mark_in bytes at n i inside =
    byte_in bytes at (replicate n 255) i (inside.0, omega (arith, inside.1, length-replicate {A = ℕ} n 255))
    ∙ get_or-replicate n (i - at) 255 0 (omega (arith, inside.0, inside.1))

mark_out : (bytes : List ℕ) (at n i : ℕ) → IsOut at n i → get_or (mark bytes at n) i 0 ≡ get_or bytes i 0
mark_out bytes at n i outside = byte_out bytes at (replicate n 255) i (subst (λ (k : ℕ). IsOut at k i) (sym (length-replicate n 255)) outside)

-- two marks in either order
mark_twice : (bytes : List ℕ) (a n b m : ℕ) → mark (mark bytes a n) b m ≡ mark (mark bytes b m) a n
mark_twice bytes a n b m =
    ext_get_or 0 (mark (mark bytes a n) b m) (mark (mark bytes b m) a n)
    (omega (arith, length-mark (mark bytes a n) b m, length-mark bytes a n, length-mark (mark bytes b m) a n, length-mark bytes b m))
    (λ i within. elim (in_or_out a n i) [
      | inl in_a ↦ elim (in_or_out b m i) [
        | inl in_b ↦ mark_in (mark bytes a n) b m i in_b ∙ sym (mark_in (mark bytes b m) a n i in_a)
        | inr out_b ↦ mark_out (mark bytes a n) b m i out_b ∙ mark_in bytes a n i in_a ∙ sym (mark_in (mark bytes b m) a n i in_a)
      ]
      | inr out_a ↦ elim (in_or_out b m i) [
        | inl in_b ↦ mark_in (mark bytes a n) b m i in_b ∙ sym (mark_in bytes b m i in_b) ∙ sym (mark_out (mark bytes b m) a n i out_a)
        | inr out_b ↦ mark_out (mark bytes a n) b m i out_b ∙ mark_out bytes a n i out_a ∙ sym (mark_out bytes b m i out_b) ∙ sym (mark_out (mark bytes b m) a n i out_a)
      ]
    ])

-- a mark over what was written
mark_written : (old : List ℕ) (at : ℕ) (bytes : List ℕ) → mark (overwritten old at bytes) at (length bytes) ≡ mark old at (length bytes)
mark_written old at bytes =
    ext_get_or 0 (mark (overwritten old at bytes) at (length bytes)) (mark old at (length bytes))
    (omega (arith, length-mark (overwritten old at bytes) at (length bytes), length-overwritten old at bytes, length-mark old at (length bytes)))
    (λ i within. elim (in_or_out at (length bytes) i) [
      | inl inside ↦ mark_in (overwritten old at bytes) at (length bytes) i inside ∙ sym (mark_in old at (length bytes) i inside)
      | inr outside ↦ mark_out (overwritten old at bytes) at (length bytes) i outside ∙ byte_out old at bytes i outside ∙ sym (mark_out old at (length bytes) i outside)
    ])

mark_marked : (bytes : List ℕ) (ranges : List (ℕ × ℕ)) (at n : ℕ) → mark (marked bytes ranges) at n ≡ marked (mark bytes at n) ranges
mark_marked bytes [] at n = refl
mark_marked bytes (range ∷ ranges) at n =
    mark_twice (marked bytes ranges) range.0 range.1 at n ∙ ap (λ (l : List ℕ). mark l range.0 range.1) (mark_marked bytes ranges at n)

-- one write more
pub marked_next : (state : SideState) (at : ℕ) (bytes : List ℕ)
    → mark (marked state.read state.pending) at (length bytes) ≡ marked (wrote state at bytes).read (wrote state at bytes).pending
marked_next state at bytes =
    mark_marked state.read state.pending at (length bytes)
    ∙ ap (λ (l : List ℕ). marked l state.pending) (sym (mark_written state.read at bytes))
    ∙ sym (mark_marked (overwritten state.read at bytes) state.pending at (length bytes))

-- each choice is one of the images
torn_by_255 : (old : List ℕ) (at : ℕ) (bytes : List ℕ) → image.Torn at (length bytes) old (mark old at (length bytes))
torn_by_255 old at bytes =
    subst (λ (n : ℕ). image.Torn at n old (mark old at (length bytes))) (length-replicate (length bytes) 255) (torn_overwritten old at (replicate (length bytes) 255))

abbrev OldIsImage : SideState → Type 0
OldIsImage state = IsImage state.synced state.pending state.synced

abbrev TornIsImage : SideState → Type 0
TornIsImage state = IsImage state.synced state.pending (marked state.read state.pending)

pub choice_is_image : (log : CallLog) (side : Side) (choice : Choice) → images_of (state_of log) side (image_of (side_of (state_of log) side) choice)
choice_is_image log side Old = each_side OldIsImage (λ bytes. refl) (λ state at bytes is. (state.synced, is, torn_none at (length bytes) state.synced)) log side
choice_is_image log side New = read_is_image_of log side
choice_is_image log side Torn =
    each_side TornIsImage (λ bytes. refl)
    (λ state at bytes is. (
      marked state.read state.pending,
      is,
      subst (λ (l : List ℕ). image.Torn at (length bytes) (marked state.read state.pending) l) (marked_next state at bytes) (torn_by_255 (marked state.read state.pending) at bytes),
    )) log side
