-- What the front of a side tells of it.
use Rattle.std.proofs.Common.{◌≡◌, ℕ, zero, suc, ◌+◌, ◌-◌, ◌<◌, ◌≤◌, List, [], ◌∷◌, ◌++◌, length, min, take, drop, sym, ◌∙◌, ap, subst, arith, append_assoc, length-append, length-drop, length-take, take-append-drop}
use Rattle.std.proofs.lemmas.List.{append-nil, drop_all, take_all, take_at, take_min, length-take-le}
use Rattle.std.proofs.Math.Seq.{take-append-add}
use Rattle.gate_journal.specs.declared.format.TheConstants.{MAX_SIDE_END}
use Rattle.gate_journal.specs.Records.{opened, place_of, IsClosed, IsOpen, IsNoJournal}
use Rattle.gate_journal.proofs.Appending.{length-opened}

pub closed_front : (limit : ℕ) (image : List ℕ) → 0 < limit → IsClosed image → IsClosed (take limit image)
closed_front zero image some closed = absurd (omega arith)
closed_front (suc limit) [] some closed = tt
closed_front (suc limit) (first ∷ image) some closed = closed

pub closed_by_front : (limit : ℕ) (image : List ℕ) → 0 < limit → IsClosed (take limit image) → IsClosed image
closed_by_front zero image some closed = absurd (omega arith)
closed_by_front (suc limit) [] some closed = tt
closed_by_front (suc limit) (first ∷ image) some closed = closed

module _ (limit : ℕ) (generation : ℕ) (payloads : List (List ℕ)) (image : List ℕ) (within : place_of payloads < limit) where
  longer : limit ≡ length (opened generation payloads) + (limit - length (opened generation payloads))
  longer = omega (arith, within, length-opened generation payloads)

  pub open_front : IsOpen generation payloads image → IsOpen generation payloads (take limit image)
  open_front side = record {
    rest = take (limit - length (opened generation payloads)) side.rest;
    bytes = ap (λ (l : List ℕ). take limit l) side.bytes
        ∙ ap (λ (n : ℕ). take n (opened generation payloads ++ side.rest)) longer
        ∙ take-append-add (opened generation payloads) side.rest (limit - length (opened generation payloads));
    ended = closed_front (limit - length (opened generation payloads)) side.rest (omega (arith, within, length-opened generation payloads)) side.ended;
    known = side.known;
    fits = side.fits;
  }

  pub open_by_front : IsOpen generation payloads (take limit image) → IsOpen generation payloads image
  open_by_front side = record {
    rest = side.rest ++ drop limit image;
    bytes = sym (take-append-drop limit image) ∙ ap (λ (l : List ℕ). l ++ drop limit image) side.bytes ∙ append_assoc (opened generation payloads) side.rest (drop limit image);
    ended = ended side.rest side.bytes side.ended;
    known = side.known;
    fits = side.fits;
  }
    where
      ended : (rest : List ℕ) → take limit image ≡ opened generation payloads ++ rest → IsClosed rest → IsClosed (rest ++ drop limit image)
      ended [] is closed =
          let short : length image ≤ limit = omega (arith, within, length-take limit image, ap length is, length-append (opened generation payloads) [], length-opened generation payloads) in
          subst IsClosed (sym (drop_all limit image short)) tt
      ended (gate ∷ rest) is closed = closed

-- what is left of a buffer that was read into and cut to what was read
pub read_front : (limit count len : ℕ) (reads items new shown : List ℕ) → len ≡ length items → length items ≡ min (length reads) limit → count ≡ min (length items) (length reads)
    → new ≡ take count reads ++ drop count items → shown ≡ take count (take len (new ++ drop (length new) items)) → shown ≡ take limit reads
read_front limit count len reads items new shown len_is long count_is is shown_is =
    let some : length (take count reads) ≡ count = length-take-le count reads (omega (arith, count_is)) in
    let same : length new ≡ length items = omega (arith, ap length is, length-append (take count reads) (drop count items), some, length-drop count items, count_is) in
    let whole : take len (new ++ drop (length new) items) ≡ new =
    ap (λ (l : List ℕ). take len (new ++ l)) (drop_all (length new) items (omega (arith, same))) ∙ ap (λ (l : List ℕ). take len l) (append-nil new) ∙ take_all len new (omega (arith, same, len_is)) in
    shown_is ∙ ap (λ (l : List ℕ). take count l) (whole ∙ is) ∙ take_at (take count reads) (drop count items) count some
    ∙ ap (λ (n : ℕ). take n reads) (omega (arith, count_is, long)) ∙ take_min limit reads

pub no_journal_front : (image : List ℕ) → IsNoJournal image → IsNoJournal (take MAX_SIDE_END image)
no_journal_front image none = record {
  first = take (MAX_SIDE_END - 1) none.first;
  starts = ap (λ (l : List ℕ). take MAX_SIDE_END l) none.starts ∙ take-append-add (1 ∷ []) none.first (MAX_SIDE_END - 1);
  no_journal = λ generation payloads side. none.no_journal generation payloads (open_by_front MAX_SIDE_END generation payloads image side.fits side);
}

pub no_journal_by_front : (image : List ℕ) → IsNoJournal (take MAX_SIDE_END image) → IsNoJournal image
no_journal_by_front image none = record {
  first = none.first ++ drop MAX_SIDE_END image;
  starts = sym (take-append-drop MAX_SIDE_END image) ∙ ap (λ (l : List ℕ). l ++ drop MAX_SIDE_END image) none.starts;
  no_journal = λ generation payloads side. none.no_journal generation payloads (open_front MAX_SIDE_END generation payloads image side.fits side);
}
