-- Writes within a range: what they leave is what one torn write of the range may leave.
use Rattle.std.proofs.Common.{◌≡◌, ℕ, ◌+◌, ◌-◌, ◌≤◌, min, List, length, take, drop, refl, sym, ◌∙◌, ap, subst, arith}
use Rattle.std.proofs.lemmas.List.{take_min, take-take, drop-drop}
use Rattle.host_model.specs.declared.host.Host.{Ghosts}
use Rattle.host_model.specs.declared.side.Side.{Side}
use Rattle.host_model.specs.declared.side.Side.TheVariants.{Left, Right}
use Rattle.host_model.specs.Hosts.{KeepsAll, MeetsAll, NowOf, OnSideOf}
use Rattle.host_model.specs.Images.{Torn, IsAfter, Follows}
use Rattle.host_model.specs.Moments.{Elapses}
use Rattle.host_model.specs.Sides.{other}
use Rattle.host_model.proofs.Meeting.{started, goes_on, then_met, met_weaker, met_at_start, met_on_side, on_side_weaker, on_side_from}
use Rattle.host_model.proofs.Tearing.{torn_none}
use Rattle.gate_journal.specs.OpenSide.{OpenSide}

-- a write of a part of the range
pub torn_within : (at n from k : ℕ) (old new : List ℕ) → at ≤ from → from + k ≤ at + n → Torn from k old new → Torn at n old new
torn_within at n from k old new begins ends torn =
    let m = min at (length old) in
    let more = at + n - (from + k) in
    let least : m ≤ min from (length old) = omega arith in
    let sum : from + k + more ≡ at + n = omega arith in
    record {
      before = sym (take-take m (min from (length old)) new least) ∙ ap (λ (l : List ℕ). take m l) torn.before
          ∙ take-take m from old (omega arith) ∙ take_min at old;
      after = ap (λ (i : ℕ). drop i new) (sym sum) ∙ sym (drop-drop more (from + k) new) ∙ ap (λ (l : List ℕ). drop more l) torn.after
          ∙ drop-drop more (from + k) old ∙ ap (λ (i : ℕ). drop i old) sum;
      no_shorter = torn.no_shorter;
      no_longer = omega (arith, torn.no_longer);
    }

-- two writes of the range
pub torn_then : (at n : ℕ) (a b c : List ℕ) → Torn at n a b → Torn at n b c → Torn at n a c
torn_then at n a b c first second =
    let m = min at (length a) in
    let least : m ≤ min at (length b) = omega (arith, first.no_shorter) in
    record {
      before = sym (take-take m (min at (length b)) c least) ∙ ap (λ (l : List ℕ). take m l) second.before
          ∙ take-take m at b (omega arith) ∙ first.before;
      after = second.after ∙ first.after;
      no_shorter = omega (arith, first.no_shorter, second.no_shorter);
      no_longer = omega (arith, first.no_longer, second.no_longer, first.no_shorter);
    }

-- at the end of a run each image of its side is one of those met. What is met now is met, and what reads give is an image
pub at_end : {H : Type 0} (h : Ghosts H) (start mid : H) (side : Side) (P : List ℕ → Type 0)
    → ((l r u : List ℕ) → h.moment start ≤ h.moment mid → NowOf h mid l r u → h.might mid (h.moment start) l r u) → ((s : Side) → h.images mid s (h.reads mid s))
    → MeetsAll h start mid (OnSideOf h start side P) → (c : List ℕ) → h.images mid side c → P c
at_end h start mid Left P now image met c left =
    (met.each c (h.reads mid Right) (h.said mid) (now c (h.reads mid Right) (h.said mid) met.later (left, image Right, refl))).0
at_end h start mid Right P now image met c left =
    (met.each (h.reads mid Left) c (h.said mid) (now (h.reads mid Left) c (h.said mid) met.later (image Left, left, refl))).0

-- an image of the start that is changed within the range
abbrev pub IsWithin : {H : Type 0} → Ghosts H → H → Side → ℕ → ℕ → List ℕ → Type 0
IsWithin h start side at n c = IsAfter (Torn at n) (h.images start side) c

module _ {H : Type 0} (h : Ghosts H) (start : H) (side : Side) (at n : ℕ) where
  -- before the first write
  pub none_within : ((l r u : List ℕ) → h.might start (h.moment start) l r u → NowOf h start l r u) → MeetsAll h start start (OnSideOf h start side (IsWithin h start side at n))
  none_within only_now = started h.moment h.might start _ (λ l r u met.
      met_at_start h.reads h.images h.said side start (IsWithin h start side at n) (λ c left. (c, left, torn_none at n c)) l r u (only_now l r u met))

  -- a write, the first of a run
  pub write_within : (mid : H) (from k : ℕ) → at ≤ from → from + k ≤ at + n
      → ((l r u : List ℕ) → h.might start (h.moment start) l r u → NowOf h start l r u)
      → Follows (Torn from k) (h.images start side) (h.images mid side) → KeepsAll h (other side) start mid
      → Elapses (h.moment start) (h.moment mid) (h.might start) (h.might mid) (NowOf h mid)
      → MeetsAll h start mid (OnSideOf h start side (IsWithin h start side at n))
  write_within mid from k begins ends only_now crash rest time = goes_on h.moment h.might start start mid _ _ (none_within only_now) time
      (met_on_side h.reads h.images h.said side start mid (IsWithin h start side at n)
      (λ c left. let after = crash c left in (after.0, after.1, torn_within at n from k after.0 c begins ends after.2)) rest)

  -- a write that is synced, the first of a run
  pub synced_within : (mid : H) (from k : ℕ) → at ≤ from → from + k ≤ at + n
      → MeetsAll h start mid (OnSideOf h start side (IsWithin h start side from k)) → MeetsAll h start mid (OnSideOf h start side (IsWithin h start side at n))
  synced_within mid from k begins ends first = met_weaker h.moment h.might start mid _ _ first
      (on_side_weaker h.images h.said start side (IsWithin h start side from k) (IsWithin h start side at n)
      (λ c after. (after.0, after.1, torn_within at n from k after.0 c begins ends after.2)))

  -- and one more
  pub then_within : (mid new : H) (from k : ℕ) → at ≤ from → from + k ≤ at + n
      → ((l r u : List ℕ) → h.moment start ≤ h.moment mid → NowOf h mid l r u → h.might mid (h.moment start) l r u) → ((s : Side) → h.images mid s (h.reads mid s))
      → MeetsAll h start mid (OnSideOf h start side (IsWithin h start side at n)) → KeepsAll h (other side) start mid
      → MeetsAll h mid new (OnSideOf h mid side (IsWithin h mid side from k))
      → MeetsAll h start new (OnSideOf h start side (IsWithin h start side at n))
  then_within mid new from k begins ends now image first rest second = then_met h.moment h.might start mid new _ _ _ first second (λ l r u met. met)
      (on_side_from h.reads h.images h.said start mid side (IsWithin h mid side from k) (IsWithin h start side at n) rest
      (λ c after. let was = at_end h start mid side (IsWithin h start side at n) now image first after.0 after.1 in
      (was.0, was.1, torn_then at n was.0 after.0 c was.2 (torn_within at n from k after.0 c begins ends after.2))))

-- the record of an append behind its gate, and then the gate. The journal is seen as its fields, and as now
module _ {H : Type 0} (h : Ghosts H) (journal now : OpenSide) (seen : journal ≡ now) (start : H) (bytes n : ℕ) (size : n ≡ bytes + 5) where
  pub record_within : (mid : H) → MeetsAll h start mid (OnSideOf h start journal.side (IsWithin h start journal.side (journal.place + 1) n))
      → MeetsAll h start mid (OnSideOf h start now.side (IsWithin h start now.side now.place (bytes + 6)))
  record_within mid first = subst (λ (j : OpenSide). MeetsAll h start mid (OnSideOf h start j.side (IsWithin h start j.side j.place (bytes + 6)))) seen
      (synced_within h start journal.side journal.place (bytes + 6) mid (journal.place + 1) n (omega arith) (omega arith) first)

  pub gate_within : (mid new : H) → ((l r u : List ℕ) → h.moment start ≤ h.moment mid → NowOf h mid l r u → h.might mid (h.moment start) l r u) → ((s : Side) → h.images mid s (h.reads mid s))
      → MeetsAll h start mid (OnSideOf h start journal.side (IsWithin h start journal.side (journal.place + 1) n)) → KeepsAll h (other journal.side) start mid
      → MeetsAll h mid new (OnSideOf h mid journal.side (IsWithin h mid journal.side journal.place 1))
      → MeetsAll h start new (OnSideOf h start now.side (IsWithin h start now.side now.place (bytes + 6)))
  gate_within mid new met image first rest second = subst (λ (j : OpenSide). MeetsAll h start new (OnSideOf h start j.side (IsWithin h start j.side j.place (bytes + 6)))) seen
      (then_within h start journal.side journal.place (bytes + 6) mid new journal.place 1 (omega arith) (omega arith) met image
      (synced_within h start journal.side journal.place (bytes + 6) mid (journal.place + 1) n (omega arith) (omega arith) first) rest second)
