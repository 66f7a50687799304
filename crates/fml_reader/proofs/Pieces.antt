-- The names that commas divide, one after the other.
use Rattle.std.proofs.Common.{◌≡◌, ◌≢◌, ℕ, zero, suc, ◌+◌, ◌-◌, ◌<◌, ◌≤◌, List, [], ◌∷◌, ◌++◌, map, length, get_or, take, drop, true, false, Option, Some, None, Err, IsUtf8, drop-drop, length-drop, refl, sym, ap, ◌∙◌, subst, append_assoc, arith}
use Rattle.std.proofs.lemmas.Bool.Decides.{Decides-eqb}
use Rattle.std.proofs.lemmas.List.{append-nil, get_or-take, length-take-le, take-take, take_all}
use Rattle.std.proofs.lemmas.List.Quantifiers.{position-Some}
use Rattle.std.proofs.lemmas.Str.{IsUtf8-nil, IsUtf8-take, IsUtf8-drop, IsCharBoundary-before_ascii, IsCharBoundary-after_ascii}
use Rattle.std.specs.List.{slice_split}
use Rattle.std.specs.Prelude.{◌==◌, position, if◌then◌else◌}
use Rattle.plain_text.proofs.Splitting.{cut_at, uncut, slice_from}
use Rattle.fml_types.proofs.Spaces.{last_space, last_other}
use Rattle.fml_types.specs.TypeTexts.{without_front, without_end}
use Rattle.fml_reader.specs.Features.{is_comma, kept_name, kept_names}

pub kept : (s : List ℕ) → (length s ≢ 0) → kept_name s ≡ s ∷ []
kept [] h = absurd (h refl)
kept (x ∷ s) h = refl

-- ---- a text is cut at its commas and its spaces into texts

first_space : (x : ℕ) (b : List ℕ) → (x == 32) ≡ true → IsUtf8 (x ∷ b) → IsUtf8 b
first_space x b space text =
    let code : x ≡ 32 = (Decides-eqb x 32).0 space in
    let low : get_or (x ∷ b) 0 0 < 128 = omega arith in
    IsUtf8-drop (x ∷ b) 1 text (IsCharBoundary-after_ascii (x ∷ b) 0 text (omega arith) low)

front_utf8 : (b : List ℕ) → IsUtf8 b → IsUtf8 (without_front b)
front_utf8 [] text = text
front_utf8 (x ∷ b) text =
    elim (x == 32) as (λ t. (x == 32) ≡ t → IsUtf8 (if t then without_front b else x ∷ b)) [
      | true ↦ λ space. front_utf8 b (first_space x b space text)
      | false ↦ λ other. text
    ] refl

end_utf8_at : (b : List ℕ) (n : ℕ) → n ≤ length b → IsUtf8 (take n b) → IsUtf8 (without_end (take n b))
end_utf8_at b zero h text = IsUtf8-nil
end_utf8_at b (suc n) h text =
    let last = get_or b n 0 in
    let same : suc n - 1 ≡ n = omega arith in
    let held : length (take (suc n) b) ≡ suc n = length-take-le (suc n) b h in
    elim (last == 32) as (λ t. (last == 32) ≡ t → IsUtf8 (without_end (take (suc n) b))) [
      | true ↦ λ space.
          let code : get_or b n 0 ≡ 32 = (Decides-eqb (get_or b n 0) 32).0 space in
          let here : get_or (take (suc n) b) n 0 ≡ 32 = get_or-take (suc n) b n 0 (omega arith) ∙ code in
          let before : IsUtf8 (take n (take (suc n) b)) = IsUtf8-take (take (suc n) b) n text (IsCharBoundary-before_ascii (take (suc n) b) n (omega arith) (omega arith)) in
          let shorter : take n (take (suc n) b) ≡ take n b = take-take n (suc n) b (omega arith) in
          subst IsUtf8 (sym (last_space b (suc n) 0 (omega arith) h (rw same code) ∙ ap (λ k. without_end (take k b)) same)) (end_utf8_at b n (omega arith) (subst IsUtf8 shorter before))
      | false ↦ λ other. subst IsUtf8 (sym (last_other b (suc n) 0 (omega arith) h (rw same other))) text
    ] refl

pub trimmed_utf8 : (b : List ℕ) → IsUtf8 b → IsUtf8 (without_front (without_end b))
trimmed_utf8 b text =
    let whole : take (length b) b ≡ b = take_all (length b) b (omega arith) in
    front_utf8 (without_end b) (subst (λ c. IsUtf8 (without_end c)) whole (end_utf8_at b (length b) (omega arith) (subst IsUtf8 (sym whole) text)))

abbrev pub trimmed : List ℕ → List ℕ
trimmed piece = without_front (without_end piece)

found_in : (bytes : List ℕ) (start : ℕ) (found : Option ℕ) → start ≤ length bytes → found ≡ position is_comma (take (length bytes - start) (drop start bytes)) → position is_comma (drop start bytes) ≡ found
found_in bytes start found h e = ap (position is_comma) (sym (slice_from bytes start h)) ∙ sym e

take_front : (xs : List ℕ) (start len : ℕ) → take ((start + len) - start) xs ≡ take len xs
take_front xs start len = let same : (start + len) - start ≡ len = omega arith in ap (λ n. take n xs) same

comma_at : (bytes : List ℕ) (start len : ℕ) → start ≤ length bytes → Some len ≡ position is_comma (take (length bytes - start) (drop start bytes)) → (len < length (drop start bytes)) × (get_or (drop start bytes) len 0 ≡ 44)
comma_at bytes start len h found = let at = position-Some is_comma (drop start bytes) len 0 (found_in bytes start (Some len) h found) in (at.0, (Decides-eqb (get_or (drop start bytes) len 0) 44).0 at.1)

pub comma_piece : (bytes : List ℕ) (start len : ℕ) → start ≤ length bytes → IsUtf8 (drop start bytes) → Some len ≡ position is_comma (take (length bytes - start) (drop start bytes)) → IsUtf8 (take ((start + len) - start) (drop start bytes))
comma_piece bytes start len h text found =
    let at = comma_at bytes start len h found in
    subst IsUtf8 (sym (take_front (drop start bytes) start len)) (IsUtf8-take (drop start bytes) len text (IsCharBoundary-before_ascii (drop start bytes) len at.0 (omega (arith, at.1))))

pub comma_rest : (bytes : List ℕ) (start len : ℕ) → start ≤ length bytes → IsUtf8 (drop start bytes) → Some len ≡ position is_comma (take (length bytes - start) (drop start bytes)) → IsUtf8 (drop (start + (len + 1)) bytes)
comma_rest bytes start len h text found =
    let at = comma_at bytes start len h found in
    subst IsUtf8 (drop-drop (len + 1) start bytes) (IsUtf8-drop (drop start bytes) (len + 1) text (IsCharBoundary-after_ascii (drop start bytes) len text at.0 (omega (arith, at.1))))

pub last_piece : (bytes : List ℕ) (start : ℕ) → start ≤ length bytes → IsUtf8 (drop start bytes) → IsUtf8 (take (length bytes - start) (drop start bytes))
last_piece bytes start h text = subst IsUtf8 (sym (slice_from bytes start h)) text

pub names_turn : (bytes : List ℕ) (start len : ℕ) (names grown all : List (List ℕ)) → start ≤ length bytes → Some len ≡ position is_comma (take (length bytes - start) (drop start bytes))
    → grown ≡ names ++ kept_name (trimmed (take ((start + len) - start) (drop start bytes))) → names ++ kept_names (slice_split is_comma (drop start bytes)) ≡ all
    → (start + (len + 1) ≤ length bytes) × (grown ++ kept_names (slice_split is_comma (drop (start + (len + 1)) bytes)) ≡ all)
names_turn bytes start len names grown all h found grows kept =
    let rest = drop start bytes in
    let cut = cut_at is_comma rest len (found_in bytes start (Some len) h found) in
    let piece = kept_name (trimmed (take len rest)) in
    let more = kept_names (slice_split is_comma (drop (start + (len + 1)) bytes)) in
    let split : kept_names (slice_split is_comma rest) ≡ piece ++ more = ap kept_names cut.1 ∙ ap (λ ys. piece ++ kept_names (slice_split is_comma ys)) (drop-drop (len + 1) start bytes) in (
      omega (arith, cut.0, length-drop start bytes),
      ap (λ l. l ++ more) (grows ∙ ap (λ part. names ++ kept_name (trimmed part)) (take_front rest start len)) ∙ append_assoc names piece more ∙ ap (λ l. names ++ l) (sym split) ∙ kept,
    )

pub names_end : (bytes : List ℕ) (start : ℕ) (names grown all : List (List ℕ)) → start ≤ length bytes → None ≡ position is_comma (take (length bytes - start) (drop start bytes))
    → grown ≡ names ++ kept_name (trimmed (take (length bytes - start) (drop start bytes))) → names ++ kept_names (slice_split is_comma (drop start bytes)) ≡ all → grown ≡ all
names_end bytes start names grown all h found grows kept =
    let last = kept_name (trimmed (drop start bytes)) in
    grows ∙ ap (λ part. names ++ kept_name (trimmed part)) (slice_from bytes start h)
    ∙ ap (λ l. names ++ l) (sym (append-nil last) ∙ ap kept_names (sym (uncut is_comma (drop start bytes) (found_in bytes start None h found)))) ∙ kept
