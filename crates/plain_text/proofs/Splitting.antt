-- A text, a line or a word at a time.
use Rattle.std.proofs.Common.{◌≡◌, ℕ, suc, ◌+◌, ◌-◌, ◌<◌, ◌≤◌, Bool, true, false, cond, List, [], ◌∷◌, ◌++◌, length, take, drop, position, slice_index, Option, Some, None, inl, inr, refl, sym, ap, ◌∙◌, subst, arith, lt-ltb, nat_lt, append-nil, append_assoc, length-drop, drop-drop}
use Rattle.std.specs.Prelude.{not}
use Rattle.std.proofs.lemmas.Bool.{cases_lt, false_from_ne_true}
use Rattle.std.proofs.lemmas.List.{length-take-le, take_all}
use Rattle.std.proofs.lemmas.List.Quantifiers.{position-Some}
use Rattle.std.proofs.lemmas.List.Splits.{slice_split_first, length-slice_split}
use Rattle.std.proofs.lemmas.List.Sums.{position_or_len_is, prefix_len-le-length}
use Rattle.std.specs.List.{slice_split, onto_first, position_or_len}
use Rattle.memchr.specs.Find.{IsFirstByte}
use Rattle.plain_text.specs.Spans.{is_line_end, is_blank, trimmed_len, last_line, line_spans, word_span, word_spans}

-- the first part, and the parts of the rest
pub cut_at : (p : ℕ → Bool) (xs : List ℕ) (i : ℕ) → position p xs ≡ Some i → (i < length xs) × (slice_split p xs ≡ take i xs ∷ slice_split p (drop (i + 1) xs))
cut_at p xs i e =
    let h = position-Some p xs i 0 e in
    let same : position_or_len p xs ≡ i = position_or_len_is p xs i 0 (omega arith) h.2 (λ _. h.1) in
    (h.0, subst (λ k. slice_split p xs ≡ take k xs ∷ slice_split p (drop (k + 1) xs)) same (slice_split_first p xs 0 (rw same h.0)))

uncut_at : (p : ℕ → Bool) (x : ℕ) (xs : List ℕ) (b : Bool) → suc (length xs) ≤ cond (not b) (1 + position_or_len p xs) 0 → (length xs ≤ position_or_len p xs → slice_split p xs ≡ xs ∷ [])
    → cond b ([] ∷ slice_split p xs) (onto_first x (slice_split p xs)) ≡ (x ∷ xs) ∷ []
uncut_at p x xs true h rest = absurd (omega arith)
uncut_at p x xs false h rest = ap (onto_first x) (rest (omega arith))

uncut_past : (p : ℕ → Bool) (xs : List ℕ) → length xs ≤ position_or_len p xs → slice_split p xs ≡ xs ∷ []
uncut_past p [] h = refl
uncut_past p (x ∷ xs) h = uncut_at p x xs (p x) h (uncut_past p xs)

pub not_within : (m n : ℕ) → cond (nat_lt m n) (Some m) None ≡ None → n ≤ m
not_within m n e = elim (cases_lt m n) [ inl less ↦ let no : Some m ≡ None = rw (lt-ltb m n less) at e in absurd (cc) | inr most ↦ most ]

-- where nothing cuts, the whole is the one part
pub uncut : (p : ℕ → Bool) (xs : List ℕ) → position p xs ≡ None → slice_split p xs ≡ xs ∷ []
uncut p xs e = uncut_past p xs (not_within (position_or_len p xs) (length xs) e)

pub found_len : (p : ℕ → Bool) (xs : List ℕ) (n : ℕ) → position p xs ≡ Some n → position_or_len p xs ≡ n
found_len p xs n e = let h = position-Some p xs n 0 e in position_or_len_is p xs n 0 (omega arith) h.2 (λ _. h.1)

pub none_len : (p : ℕ → Bool) (xs : List ℕ) → position p xs ≡ None → position_or_len p xs ≡ length xs
none_len p xs e =
    let most = not_within (position_or_len p xs) (length xs) e in
    let least = prefix_len-le-length (λ x. not (p x)) xs in
    omega arith

-- ---- lines

some_parts : (p : ℕ → Bool) (xs : List ℕ) → 0 < length (slice_split p xs)
some_parts p xs = omega (arith, length-slice_split p xs)

line_spans-more : (i : ℕ) (part : List ℕ) (parts : List (List ℕ)) → 0 < length parts → line_spans i (part ∷ parts) ≡ (i, i + trimmed_len part) ∷ line_spans (i + length part + 1) parts
line_spans-more i part [] h = absurd (omega arith)
line_spans-more i part (next ∷ more) h = refl

-- a line that ends, and those after it
pub line_spans-cut : (p : ℕ → Bool) (i : ℕ) (xs : List ℕ) (n : ℕ) → position p xs ≡ Some n
    → line_spans i (slice_split p xs) ≡ (i, i + trimmed_len (take n xs)) ∷ line_spans (i + (n + 1)) (slice_split p (drop (n + 1) xs))
line_spans-cut p i xs n e =
    let cut = cut_at p xs n e in
    let here : length (take n xs) ≡ n = length-take-le n xs (omega (arith, cut.0)) in
    let next : i + length (take n xs) + 1 ≡ i + (n + 1) = omega arith in
    ap (line_spans i) cut.1 ∙ line_spans-more i (take n xs) _ (some_parts p (drop (n + 1) xs)) ∙ ap (λ k. (i, i + trimmed_len (take n xs)) ∷ line_spans k (slice_split p (drop (n + 1) xs))) next

-- what no line end cuts
pub line_spans-last : (p : ℕ → Bool) (i : ℕ) (xs : List ℕ) → position p xs ≡ None → line_spans i (slice_split p xs) ≡ last_line i xs
line_spans-last p i xs e = ap (line_spans i) (uncut p xs e)

-- ---- words

-- a word that ends, and those after it
pub word_spans-cut : (p : ℕ → Bool) (i : ℕ) (xs : List ℕ) (n : ℕ) → position p xs ≡ Some n
    → word_spans i (slice_split p xs) ≡ word_span i (take n xs) ++ word_spans (i + (n + 1)) (slice_split p (drop (n + 1) xs))
word_spans-cut p i xs n e =
    let cut = cut_at p xs n e in
    let here : length (take n xs) ≡ n = length-take-le n xs (omega (arith, cut.0)) in
    let next : i + length (take n xs) + 1 ≡ i + (n + 1) = omega arith in
    ap (word_spans i) cut.1 ∙ ap (λ k. word_span i (take n xs) ++ word_spans k (slice_split p (drop (n + 1) xs))) next

-- what no blank cuts
pub word_spans-last : (p : ℕ → Bool) (i : ℕ) (xs : List ℕ) → position p xs ≡ None → word_spans i (slice_split p xs) ≡ word_span i xs
word_spans-last p i xs e = ap (word_spans i) (uncut p xs e) ∙ append-nil (word_span i xs)

-- ---- a turn of either loop, over slices of the text

take_front : (xs : List ℕ) (start len : ℕ) → take ((start + len) - start) xs ≡ take len xs
take_front xs start len = let same : (start + len) - start ≡ len = omega arith in ap (λ n. take n xs) same

-- `&bytes[start..]`
pub slice_from : (bytes : List ℕ) (start : ℕ) → start ≤ length bytes → take (length bytes - start) (drop start bytes) ≡ drop start bytes
slice_from bytes start h = take_all (length bytes - start) (drop start bytes) (omega (arith, length-drop start bytes))

found_in : (p : ℕ → Bool) (bytes : List ℕ) (start : ℕ) (found : Option ℕ) → start ≤ length bytes → found ≡ position p (take (length bytes - start) (drop start bytes)) → position p (drop start bytes) ≡ found
found_in p bytes start found h e = ap (position p) (sym (slice_from bytes start h)) ∙ sym e

within : (p : ℕ → Bool) (bytes : List ℕ) (start len : ℕ) → position p (drop start bytes) ≡ Some len → start + (len + 1) ≤ length bytes
within p bytes start len e = let less = (cut_at p (drop start bytes) len e).0 in omega (arith, less, length-drop start bytes)

pub line_turn : (bytes : List ℕ) (start len : ℕ) (spans grown all : List (ℕ × ℕ)) → start ≤ length bytes → Some len ≡ position is_line_end (take (length bytes - start) (drop start bytes))
    → grown ≡ spans ++ (start, start + trimmed_len (take ((start + len) - start) (drop start bytes))) ∷ [] → spans ++ line_spans start (slice_split is_line_end (drop start bytes)) ≡ all
    → (start + (len + 1) ≤ length bytes) × (grown ++ line_spans (start + (len + 1)) (slice_split is_line_end (drop (start + (len + 1)) bytes)) ≡ all)
line_turn bytes start len spans grown all h found grows kept =
    let e = found_in is_line_end bytes start (Some len) h found in
    let rest = drop start bytes in
    let line : ℕ × ℕ = (start, start + trimmed_len (take len rest)) in
    let more = line_spans (start + (len + 1)) (slice_split is_line_end (drop (start + (len + 1)) bytes)) in
    let cut : line_spans start (slice_split is_line_end rest) ≡ line ∷ more =
    line_spans-cut is_line_end start rest len e ∙ ap (λ ys. line ∷ line_spans (start + (len + 1)) (slice_split is_line_end ys)) (drop-drop (len + 1) start bytes) in (
      within is_line_end bytes start len e,
      ap (λ l. l ++ more) (grows ∙ ap (λ part. spans ++ (start, start + trimmed_len part) ∷ []) (take_front rest start len)) ∙ append_assoc spans (line ∷ []) more ∙ ap (λ l. spans ++ l) (sym cut) ∙ kept,
    )

pub line_end : (bytes : List ℕ) (start : ℕ) (spans grown all : List (ℕ × ℕ)) → start ≤ length bytes → None ≡ position is_line_end (take (length bytes - start) (drop start bytes))
    → grown ≡ spans ++ last_line start (take (length bytes - start) (drop start bytes)) → spans ++ line_spans start (slice_split is_line_end (drop start bytes)) ≡ all → grown ≡ all
line_end bytes start spans grown all h found grows kept =
    grows ∙ ap (λ part. spans ++ last_line start part) (slice_from bytes start h)
    ∙ ap (λ l. spans ++ l) (sym (line_spans-last is_line_end start (drop start bytes) (found_in is_line_end bytes start None h found))) ∙ kept

pub word_turn : (bytes : List ℕ) (start len : ℕ) (spans grown all : List (ℕ × ℕ)) → start ≤ length bytes → Some len ≡ position is_blank (take (length bytes - start) (drop start bytes))
    → grown ≡ spans ++ word_span start (take ((start + len) - start) (drop start bytes)) → spans ++ word_spans start (slice_split is_blank (drop start bytes)) ≡ all
    → (start + (len + 1) ≤ length bytes) × (grown ++ word_spans (start + (len + 1)) (slice_split is_blank (drop (start + (len + 1)) bytes)) ≡ all)
word_turn bytes start len spans grown all h found grows kept =
    let e = found_in is_blank bytes start (Some len) h found in
    let rest = drop start bytes in
    let word = word_span start (take len rest) in
    let more = word_spans (start + (len + 1)) (slice_split is_blank (drop (start + (len + 1)) bytes)) in
    let cut : word_spans start (slice_split is_blank rest) ≡ word ++ more =
    word_spans-cut is_blank start rest len e ∙ ap (λ ys. word ++ word_spans (start + (len + 1)) (slice_split is_blank ys)) (drop-drop (len + 1) start bytes) in (
      within is_blank bytes start len e,
      ap (λ l. l ++ more) (grows ∙ ap (λ part. spans ++ word_span start part) (take_front rest start len)) ∙ append_assoc spans word more ∙ ap (λ l. spans ++ l) (sym cut) ∙ kept,
    )

pub word_end : (bytes : List ℕ) (start : ℕ) (spans grown all : List (ℕ × ℕ)) → start ≤ length bytes → None ≡ position is_blank (take (length bytes - start) (drop start bytes))
    → grown ≡ spans ++ word_span start (take (length bytes - start) (drop start bytes)) → spans ++ word_spans start (slice_split is_blank (drop start bytes)) ≡ all → grown ≡ all
word_end bytes start spans grown all h found grows kept =
    grows ∙ ap (λ part. spans ++ word_span start part) (slice_from bytes start h)
    ∙ ap (λ l. spans ++ l) (sym (word_spans-last is_blank start (drop start bytes) (found_in is_blank bytes start None h found))) ∙ kept

-- ---- the first place of a byte

-- the place that `memchr` answers
pub position-IsFirstByte : (p : ℕ → Bool) (xs : List ℕ) (found : Option ℕ) → IsFirstByte p xs found → found ≡ position p xs
position-IsFirstByte p xs None h =
    let last : position_or_len p xs ≡ length xs = position_or_len_is p xs (length xs) 0 (omega arith) (λ k less. false_from_ne_true (p (slice_index xs k)) (h k (omega arith) less)) (λ less. absurd (omega arith)) in
    let none : nat_lt (length xs) (length xs) ≡ false = grind arith in
    rw (last, none)
position-IsFirstByte p xs (Some i) h =
    let first : position_or_len p xs ≡ i = position_or_len_is p xs i 0 (omega (arith, h.0.high)) (λ k less. false_from_ne_true (p (slice_index xs k)) (h.0.before k (omega arith) less)) (λ _. h.1) in
    rw (first, lt-ltb i (length xs) h.0.high)
