-- Records are read in one way alone.
use Rattle.std.proofs.Common.{◌≡◌, ℕ, zero, suc, get_or, ◌+◌, ◌-◌, ◌^◌, ◌<◌, ◌≤◌, List, [], ◌∷◌, ◌++◌, length, take, drop, refl, sym, ◌∙◌, ap, subst, arith, append_assoc, length-append, take-append-drop}
use Rattle.std.proofs.lemmas.List.{append-nil, take_at, take_all, drop_at, length-take-le}
use Rattle.std.proofs.lemmas.Nat.{from_be_bytes-to_be_bytes_4}
use Rattle.std.specs.Int.{w32, to_be_bytes, from_be_bytes}
use Rattle.gate_journal.specs.declared.format.TheConstants.{MAX_SIDE_END}
use Rattle.gate_journal.specs.Reading.{HasNoRecord, HasNoRecords}
use Rattle.gate_journal.specs.Records.{framed, records, opened, place_of, IsClosed, HasOneReading}
use Rattle.gate_journal.proofs.Appending.{length-framed, records-push, place_of-push}

-- each payload's length fits four bytes
abbrev pub AllFit : List (List ℕ) → Type 0
AllFit [] = Unit {0}
AllFit (payload ∷ payloads) = (length payload < 2 ^ 32) × AllFit payloads

pub AllFit-push : (payloads : List (List ℕ)) (next : List ℕ) → AllFit payloads → length next < 2 ^ 32 → AllFit (payloads ++ next ∷ [])
AllFit-push [] next fit here = (here, tt)
AllFit-push (payload ∷ payloads) next fit here = (fit.0, AllFit-push payloads next fit.1 here)

place_of-cons : (payload : List ℕ) (payloads : List (List ℕ)) → place_of (payload ∷ payloads) ≡ place_of payloads + length payload + 5
place_of-cons payload payloads = omega (arith, length-append (1 ∷ framed payload) (records payloads), length-framed payload)

-- what place says of each payload
pub AllFit-place : (payloads : List (List ℕ)) → place_of payloads < MAX_SIDE_END → AllFit payloads
AllFit-place [] fits = tt
AllFit-place (payload ∷ payloads) fits = (omega (arith, place_of-cons payload payloads), AllFit-place payloads (omega (arith, place_of-cons payload payloads)))

-- four bytes tell the length
same_lengths : (p q : List ℕ) (x y : List ℕ) → length p < 2 ^ 32 → length q < 2 ^ 32 → framed p ++ x ≡ framed q ++ y → length p ≡ length q
unfolding framed
same_lengths p q x y p_fits q_fits same =
    let sizes : to_be_bytes w32 (length p) ≡ to_be_bytes w32 (length q) = ap (λ (l : List ℕ). take 4 l) same in
    sym (from_be_bytes-to_be_bytes_4 (length p) p_fits) ∙ ap (λ (l : List ℕ). from_be_bytes w32 l) sizes ∙ from_be_bytes-to_be_bytes_4 (length q) q_fits

behind_sizes : (p q : List ℕ) (x y : List ℕ) → framed p ++ x ≡ framed q ++ y → p ++ x ≡ q ++ y
unfolding framed
behind_sizes p q x y same = ap (λ (l : List ℕ). drop 4 l) same

same_payloads : (p q : List ℕ) (x y : List ℕ) → length p < 2 ^ 32 → length q < 2 ^ 32 → framed p ++ x ≡ framed q ++ y → (p ≡ q) × (x ≡ y)
same_payloads p q x y p_fits q_fits same =
    let size : length p ≡ length q = same_lengths p q x y p_fits q_fits same in
    let rest : p ++ x ≡ q ++ y = behind_sizes p q x y same in (
      sym (take_at p x (length p) refl) ∙ ap (λ (l : List ℕ). take (length p) l) rest ∙ take_at q y (length p) (sym size),
      sym (drop_at p x (length p) refl) ∙ ap (λ (l : List ℕ). drop (length p) l) rest ∙ drop_at q y (length p) (sym size),
    )

-- what was read is the front of each reading
pub record Longer (payloads all : List (List ℕ)) (left rest : List ℕ) : Type 0 where
  pub more : List (List ℕ)
  pub payloads_are : all ≡ payloads ++ more
  pub left_is : left ≡ records more ++ rest

pub records_longer : (payloads all : List (List ℕ)) (left rest : List ℕ) → AllFit payloads → place_of all < MAX_SIDE_END → IsClosed rest → records payloads ++ left ≡ records all ++ rest → Longer payloads all left rest
records_longer [] all left rest fit fits closed same = record { more = all; payloads_are = refl; left_is = same }
records_longer (payload ∷ payloads) [] left rest fit fits closed same = absurd (subst IsClosed (sym same) closed refl)
records_longer (payload ∷ payloads) (first ∷ all) left rest fit fits closed same =
    let size : length first < 2 ^ 32 = omega (arith, place_of-cons first all) in
    let parts : framed payload ++ (records payloads ++ left) ≡ framed first ++ (records all ++ rest) =
    sym (append_assoc (framed payload) (records payloads) left) ∙ ap (λ (l : List ℕ). drop 1 l) same ∙ append_assoc (framed first) (records all) rest in
    let both = same_payloads payload first (records payloads ++ left) (records all ++ rest) fit.0 size parts in
    let longer = records_longer payloads all left rest fit.1 (omega (arith, place_of-cons first all)) closed both.1 in
    record {
      more = longer.more;
      payloads_are = ap (λ (p : List ℕ). p ∷ all) (sym both.0) ∙ ap (λ (l : List (List ℕ)). payload ∷ l) longer.payloads_are;
      left_is = longer.left_is;
    }

-- one record more
pub records_step : (payloads : List (List ℕ)) (next left rest bytes : List ℕ) → bytes ≡ records payloads ++ left → left ≡ 1 ∷ (framed next ++ rest) → bytes ≡ records (payloads ++ next ∷ []) ++ rest
records_step payloads next left rest bytes split is =
    split ∙ ap (λ (l : List ℕ). records payloads ++ l) is
    ∙ sym (append_assoc (records payloads) (1 ∷ framed next) rest)
    ∙ ap (λ (l : List ℕ). l ++ rest) (sym (records-push payloads next))

-- behind what was read an open gate stands, and no whole record
pub not_whole : (payloads : List (List ℕ)) (left bytes : List ℕ) → bytes ≡ records payloads ++ 1 ∷ left → AllFit payloads
    → ((payload tail : List ℕ) → length payload < 2 ^ 32 → left ≡ framed payload ++ tail → ⊥) → HasNoRecords bytes
not_whole payloads left bytes split fit none all rest fits is closed = by_more longer.more longer.payloads_are longer.left_is
  where
    longer : Longer payloads all (1 ∷ left) rest
    longer = records_longer payloads all (1 ∷ left) rest fit fits closed (sym split ∙ is)

    by_more : (more : List (List ℕ)) → all ≡ payloads ++ more → 1 ∷ left ≡ records more ++ rest → ⊥
    by_more [] are left_is = subst IsClosed (sym left_is) closed refl
    by_more (payload ∷ more) are left_is =
        let small : length payload < 2 ^ 32 = in_sum payloads (subst (λ (l : List (List ℕ)). place_of l < MAX_SIDE_END) are fits) in
        none payload (records more ++ rest) small (ap (λ (l : List ℕ). drop 1 l) left_is ∙ append_assoc (framed payload) (records more) rest)
      where
        in_sum : (before : List (List ℕ)) → place_of (before ++ payload ∷ more) < MAX_SIDE_END → length payload < 2 ^ 32
        in_sum [] sum = omega (arith, place_of-cons payload more)
        in_sum (b ∷ before) sum = in_sum before (omega (arith, place_of-cons b (before ++ payload ∷ more)))

-- a record cut short: its length, and fewer bytes
pub cut_short : (len : ℕ) (size after left : List ℕ) → left ≡ size ++ after → to_be_bytes w32 len ≡ size → len < 2 ^ 32 → length after < len → (payload tail : List ℕ) → length payload < 2 ^ 32 → left ≡ framed payload ++ tail → ⊥
unfolding framed
cut_short len size after left left_is sizes len_fits short payload tail fits is =
    let whole : to_be_bytes w32 len ++ after ≡ framed payload ++ tail = ap (λ (l : List ℕ). l ++ after) sizes ∙ sym left_is ∙ is in
    let same : to_be_bytes w32 len ≡ to_be_bytes w32 (length payload) = ap (λ (l : List ℕ). take 4 l) whole in
    let long : len ≡ length payload = sym (from_be_bytes-to_be_bytes_4 len len_fits) ∙ ap (λ (l : List ℕ). from_be_bytes w32 l) same ∙ from_be_bytes-to_be_bytes_4 (length payload) fits in
    let rest : after ≡ payload ++ tail = ap (λ (l : List ℕ). drop 4 l) whole in
    absurd (omega (arith, ap length rest, length-append payload tail))

-- a whole record
pub whole_record : (len : ℕ) (size after left : List ℕ) → left ≡ size ++ after → to_be_bytes w32 len ≡ size → len ≤ length after → left ≡ framed (take len after) ++ drop len after
unfolding framed
whole_record len size after left left_is sizes within =
    let long : length (take len after) ≡ len = length-take-le len after within in
    let next : framed (take len after) ≡ size ++ take len after = ap (λ (n : ℕ). to_be_bytes w32 n ++ take len after) long ∙ ap (λ (l : List ℕ). l ++ take len after) sizes in
    left_is ∙ ap (λ (l : List ℕ). size ++ l) (sym (take-append-drop len after)) ∙ sym (append_assoc size (take len after) (drop len after)) ∙ ap (λ (l : List ℕ). l ++ drop len after) (sym next)

-- fewer bytes than a length has
pub no_length : (left payload tail : List ℕ) → length left < 4 → left ≡ framed payload ++ tail → ⊥
no_length left payload tail short is = absurd (omega (arith, ap length is, length-append (framed payload) tail, length-framed payload))

-- payloads at the front end no later than all
place_of-front : (payloads more : List (List ℕ)) → place_of payloads ≤ place_of (payloads ++ more)
place_of-front [] more = omega arith
place_of-front (payload ∷ payloads) more = omega (arith, place_of-cons payload payloads, place_of-cons payload (payloads ++ more), place_of-front payloads more)

-- a record that ends too late
pub too_late : (payloads : List (List ℕ)) (next left behind bytes : List ℕ) → bytes ≡ records payloads ++ left → left ≡ 1 ∷ (framed next ++ behind) → AllFit payloads → length next < 2 ^ 32
    → MAX_SIDE_END ≤ place_of payloads + length next + 5 → HasNoRecords bytes
too_late payloads next left behind bytes split next_is fit next_fits late all rest fits is closed =
    absurd (omega (arith, fits, late, place_of-push payloads next, place_of-front (payloads ++ next ∷ []) longer.more, ap place_of longer.payloads_are))
  where
    longer : Longer (payloads ++ next ∷ []) all behind rest
    longer = records_longer (payloads ++ next ∷ []) all behind rest (AllFit-push payloads next fit next_fits) fits closed (sym (records_step payloads next left behind bytes split next_is) ∙ is)

-- the parts of the bytes at an open gate
pub at_gate : (bytes : List ℕ) → 5 ≤ length bytes → get_or bytes 0 0 ≡ 1 → bytes ≡ 1 ∷ ((get_or bytes 1 0 ∷ get_or bytes 2 0 ∷ get_or bytes 3 0 ∷ get_or bytes 4 0 ∷ []) ++ take (length bytes - 5) (drop 5 bytes))
at_gate [] long first = absurd (omega arith)
at_gate (a ∷ []) long first = absurd (omega arith)
at_gate (a ∷ b ∷ []) long first = absurd (omega arith)
at_gate (a ∷ b ∷ c ∷ []) long first = absurd (omega arith)
at_gate (a ∷ b ∷ c ∷ d ∷ []) long first = absurd (omega arith)
at_gate (a ∷ b ∷ c ∷ d ∷ e ∷ rest) long first =
    ap (λ (n : ℕ). n ∷ b ∷ c ∷ d ∷ e ∷ rest) first ∙ ap (λ (l : List ℕ). 1 ∷ b ∷ c ∷ d ∷ e ∷ l) (sym (take_all (length (a ∷ b ∷ c ∷ d ∷ e ∷ rest) - 5) rest (omega arith)))

pub at_short_gate : (bytes : List ℕ) → 1 ≤ length bytes → length bytes < 5 → get_or bytes 0 0 ≡ 1 → HasNoRecord bytes
at_short_gate [] long short first = absurd (omega arith)
at_short_gate (a ∷ left) long short first = record {
  left = left;
  starts = ap (λ (n : ℕ). n ∷ left) first;
  none = λ payload tail fits is. no_length left payload tail (omega arith) is;
}

pub four_fit : (a b c d : ℕ) → a < 256 → b < 256 → c < 256 → d < 256 → (i : ℕ) → get_or (a ∷ b ∷ c ∷ d ∷ []) i 0 < 256
four_fit a b c d fa fb fc fd zero = fa
four_fit a b c d fa fb fc fd (suc zero) = fb
four_fit a b c d fa fb fc fd (suc (suc zero)) = fc
four_fit a b c d fa fb fc fd (suc (suc (suc zero))) = fd
four_fit a b c d fa fb fc fd (suc (suc (suc (suc i)))) = omega arith

same_records : (payloads others : List (List ℕ)) (left rest : List ℕ) → place_of payloads < MAX_SIDE_END → place_of others < MAX_SIDE_END → IsClosed left → IsClosed rest → records payloads ++ left ≡ records others ++ rest → payloads ≡ others
same_records payloads others left rest fits other_fits closed_left closed same = by_more longer.more longer.payloads_are longer.left_is
  where
    longer : Longer payloads others left rest
    longer = records_longer payloads others left rest (AllFit-place payloads fits) other_fits closed same

    by_more : (more : List (List ℕ)) → others ≡ payloads ++ more → left ≡ records more ++ rest → payloads ≡ others
    by_more [] are left_is = sym (are ∙ append-nil payloads)
    by_more (payload ∷ more) are left_is = absurd (subst IsClosed left_is closed_left refl)

-- a side is open in one way alone
pub one_reading : HasOneReading
one_reading generation other payloads others image a b =
    let same : opened generation payloads ++ a.rest ≡ opened other others ++ b.rest = sym a.bytes ∙ b.bytes in
    let generations : generation ≡ other = cc in (
      generations,
      same_records payloads others a.rest b.rest a.fits b.fits a.ended b.ended (ap (λ (l : List ℕ). drop 9 l) same),
    )
