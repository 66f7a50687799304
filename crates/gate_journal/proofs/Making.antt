-- A header and a record behind a shut first byte, and then that byte is opened.
use Rattle.std.proofs.Common.{◌≡◌, ◌≢◌, inl, inr, ℕ, ◌+◌, ◌<◌, ◌≤◌, List, [], ◌∷◌, ◌++◌, length, drop, get_or, refl, sym, ◌∙◌, ap, subst, arith, append_assoc, length-append}
use Rattle.std.proofs.lemmas.Bool.{cases_eq}
use Rattle.std.proofs.lemmas.List.{append-nil, drop_at}
use Rattle.host_model.specs.declared.host.Host.{Ghosts}
use Rattle.host_model.specs.declared.side.Side.{Side}
use Rattle.host_model.specs.Hosts.{IsDurable, KeepsAll, MeetsAll, NowOf, OnSideOf}
use Rattle.host_model.specs.Images.{overwritten, Torn, IsAfter, Follows}
use Rattle.host_model.specs.Moments.{Elapses}
use Rattle.host_model.specs.Sides.{other}
use Rattle.host_model.proofs.Meeting.{started, goes_on, then_met, met_at_start, met_on_side, on_side_from}
use Rattle.gate_journal.specs.declared.format.TheConstants.{MAX_SIDE_END}
use Rattle.gate_journal.specs.Journal.{IsShutOn, IsShutOrHas}
use Rattle.gate_journal.specs.Records.{framed, header, made_on, place_of, IsKept, IsShut}
use Rattle.gate_journal.proofs.Gates.{torn_gate, written_gate, written_after, shut_after}
use Rattle.gate_journal.proofs.Appending.{length-framed, is_kept}
use Rattle.gate_journal.proofs.Writes.{behind_write}

module _ (generation : ℕ) (payload : List ℕ) (known : generation ≤ 2) (fits : length payload + 15 ≤ MAX_SIDE_END) where
  -- a whole journal behind a first byte that is not open
  pub record IsMade (image : List ℕ) : Type 0 where
    pub first : ℕ
    pub tail : List ℕ
    pub shut : first ≢ 1
    pub bytes : image ≡ first ∷ (header generation ++ 1 ∷ (framed payload ++ 0 ∷ [] ++ tail))

  -- the two writes behind the first byte
  pub made : (old mid new written : List ℕ) → IsShut old → mid ≡ overwritten old 1 (header generation ++ 1 ∷ []) → written ≡ framed payload ++ 0 ∷ [] → new ≡ overwritten mid 10 written → IsMade new
  made [] mid new written shut is framed_is is_new = absurd shut
  made (first ∷ old) mid new written shut is framed_is is_new =
      let behind = written_after (first ∷ []) 1 refl old (header generation ++ 1 ∷ []) in
      let front = first ∷ (header generation ++ 1 ∷ []) in
      let after = written_after front 10 refl behind.0 (framed payload ++ 0 ∷ []) in
      record {
        first = first;
        tail = after.0;
        shut = shut;
        bytes = is_new ∙ ap (λ (l : List ℕ). overwritten l 10 written) (is ∙ behind.1) ∙ ap (λ (l : List ℕ). overwritten (front ++ behind.0) 10 l) framed_is ∙ after.1;
      }

  -- with its first byte open
  made_kept : (tail image : List ℕ) → image ≡ 1 ∷ (header generation ++ 1 ∷ (framed payload ++ 0 ∷ [] ++ tail)) → IsKept generation (payload ∷ []) image
  made_kept tail image is =
      let size : place_of (payload ∷ []) < MAX_SIDE_END = omega (arith, length-framed payload, length-append (1 ∷ framed payload) []) in
      is_kept generation (payload ∷ []) 0 tail image known size (omega arith)
      (is ∙ ap (λ (l : List ℕ). 1 ∷ (header generation ++ 1 ∷ l)) (append_assoc (framed payload) (0 ∷ []) tail ∙ ap (λ (l : List ℕ). l ++ 0 ∷ tail) (sym (append-nil (framed payload)))))

  -- the last write opens it or doesn't
  pub made_either : (mid c : List ℕ) → IsMade mid → Torn 0 1 mid c → IsShutOrHas generation payload c
  made_either mid c stage torn =
      let is : c ≡ get_or c 0 0 ∷ (header generation ++ 1 ∷ (framed payload ++ 0 ∷ [] ++ stage.tail)) = torn_gate [] 0 refl stage.first _ c (subst (λ (d : List ℕ). Torn 0 1 d c) stage.bytes torn) in
      elim (cases_eq (get_or c 0 0) 1) [
        | inl one ↦ inr (made_kept stage.tail c (is ∙ ap (λ (k : ℕ). k ∷ (header generation ++ 1 ∷ (framed payload ++ 0 ∷ [] ++ stage.tail))) one))
        | inr shut ↦ inl (subst IsShut (sym is) shut)
      ]

  pub made_done : (mid new : List ℕ) → IsMade mid → new ≡ overwritten mid 0 (1 ∷ []) → IsKept generation (payload ∷ []) new
  made_done mid new stage is =
      made_kept stage.tail new (is ∙ ap (λ (d : List ℕ). overwritten d 0 (1 ∷ [])) stage.bytes ∙ written_gate [] 0 refl stage.first 1 _)

  -- the bytes of the side then
  pub made_bytes : (old mid late new written : List ℕ) → IsShut old → mid ≡ overwritten old 1 (header generation ++ 1 ∷ []) → written ≡ framed payload ++ 0 ∷ [] → late ≡ overwritten mid 10 written
      → new ≡ overwritten late 0 (1 ∷ []) → new ≡ made_on generation payload old
  made_bytes old mid late new written shut is framed_is is_late is_new =
      let stage = made old mid late written shut is framed_is is_late in
      let n = length payload + 15 in
      let size : length written ≡ length payload + 5 = omega (arith, ap length framed_is, length-append (framed payload) (0 ∷ []), length-framed payload) in
      let same : drop n new ≡ drop n old =
      ap (λ (l : List ℕ). drop n l) is_new ∙ behind_write late 0 (1 ∷ []) n (omega arith) ∙ ap (λ (l : List ℕ). drop n l) is_late ∙ behind_write mid 10 written n (omega (arith, size))
      ∙ ap (λ (l : List ℕ). drop n l) is ∙ behind_write old 1 (header generation ++ 1 ∷ []) n (omega arith) in
      let front = 1 ∷ (header generation ++ 1 ∷ (framed payload ++ 0 ∷ [])) in
      let parts : new ≡ 1 ∷ (header generation ++ 1 ∷ (framed payload ++ 0 ∷ [] ++ stage.tail)) =
      is_new ∙ ap (λ (d : List ℕ). overwritten d 0 (1 ∷ [])) stage.bytes ∙ written_gate [] 0 refl stage.first 1 _ in
      let joined : new ≡ front ++ stage.tail = parts in
      let long : length front ≡ n = omega (arith, length-append (framed payload) (0 ∷ []), length-framed payload) in
      let tail : stage.tail ≡ drop n old = sym (drop_at front stage.tail n long) ∙ ap (λ (l : List ℕ). drop n l) (sym joined) ∙ same in
      joined ∙ ap (λ (l : List ℕ). front ++ l) tail
      ∙ ap (λ (l : List ℕ). 1 ∷ (header generation ++ 1 ∷ l)) (append_assoc (framed payload) (0 ∷ []) (drop n old) ∙ ap (λ (l : List ℕ). l ++ 0 ∷ drop n old) (sym (append-nil (framed payload))))

  module _ {H : Type 0} (h : Ghosts H) (side : Side) (start : H) where
    -- what is met during a write behind the first byte
    pub header_met : (mid : H) (n : ℕ) → IsShutOn h start side
        → ((l r u : List ℕ) → h.might start (h.moment start) l r u → NowOf h start l r u)
        → Follows (Torn 1 n) (h.images start side) (h.images mid side)
        → KeepsAll h (other side) start mid
        → Elapses (h.moment start) (h.moment mid) (h.might start) (h.might mid) (NowOf h mid)
        → MeetsAll h start mid (OnSideOf h start side (IsShutOrHas generation payload))
    header_met mid n shut only_now crash rest time =
        let P = IsShutOrHas generation payload in
        let Q = OnSideOf h start side P in
        let at_start = started h.moment h.might start Q (λ l r u met. met_at_start h.reads h.images h.said side start P (λ c left. inl (shut c left)) l r u (only_now l r u met)) in
        goes_on h.moment h.might start start mid Q _ at_start time
        (met_on_side h.reads h.images h.said side start mid P (λ c left. inl (shut_after 1 n (h.images start side) (omega arith) shut c (crash c left))) rest)

    -- and a write that is synced, also behind it
    pub behind_met : (mid new : H) (n m : ℕ) → IsShutOn h start side
        → ((l r u : List ℕ) → h.might start (h.moment start) l r u → NowOf h start l r u)
        → Follows (Torn 1 n) (h.images start side) (h.images mid side)
        → KeepsAll h (other side) start mid
        → Elapses (h.moment start) (h.moment mid) (h.might start) (h.might mid) (NowOf h mid)
        → MeetsAll h mid new (OnSideOf h mid side (IsAfter (Torn 10 m) (h.images mid side)))
        → MeetsAll h start new (OnSideOf h start side (IsShutOrHas generation payload))
    behind_met mid new n m shut only_now crash rest time second =
        let P = IsShutOrHas generation payload in
        let shut_mid : IsShutOn h mid side = λ c left. shut_after 1 n (h.images start side) (omega arith) shut c (crash c left) in
        then_met h.moment h.might start mid new _ _ (OnSideOf h start side P) (header_met mid n shut only_now crash rest time) second (λ l r u met. met)
        (on_side_from h.reads h.images h.said start mid side (IsAfter (Torn 10 m) (h.images mid side)) P rest (λ c after. inl (shut_after 10 m (h.images mid side) (omega arith) shut_mid c after)))

    -- and up to the end of the write of the first byte
    pub opening_met : (mid new : H) → MeetsAll h start mid (OnSideOf h start side (IsShutOrHas generation payload))
        → KeepsAll h (other side) start mid → IsMade (h.reads mid side) → IsDurable h mid side
        → MeetsAll h mid new (OnSideOf h mid side (IsAfter (Torn 0 1) (h.images mid side)))
        → MeetsAll h start new (OnSideOf h start side (IsShutOrHas generation payload))
    opening_met mid new first rest stage only second = then_met h.moment h.might start mid new _ _ _ first second (λ l r u met. met)
        (on_side_from h.reads h.images h.said start mid side (IsAfter (Torn 0 1) (h.images mid side)) (IsShutOrHas generation payload) rest
        (λ c after. made_either (h.reads mid side) c stage (subst (λ (d : List ℕ). Torn 0 1 d c) (only after.0 after.1) after.2)))
