-- Numbered changes: what is appended and what a confirmation leaves are numbered.
use Rattle.std.proofs.Common.{◌≡◌, ℕ, zero, suc, ◌+◌, ◌-◌, ◌<◌, ◌≤◌, Bool, true, false, cond, List, [], ◌∷◌, ◌++◌, length, drop, inl, inr, refl, sym, ap, ap₂, ◌∙◌, subst, append_assoc, arith}
use Rattle.std.specs.Prelude.{nat_lt}
use Rattle.std.proofs.Math.Seq.{drop-nil}
use Rattle.std.proofs.lemmas.Bool.{cases_lt, lt-ltb, le-ltb}
use Rattle.std.proofs.lemmas.List.{length-append, length-drop}
use Rattle.change_outbox.specs.declared.change.Change.{Change}
use Rattle.change_outbox.specs.Contents.{Contents, AreNumberedFrom, HaveSlugs, IsNumbered, IsSound, last_number, no_changes, numbered, appended, above, confirmed}

pub from : (m n : ℕ) (cs : List Change) → m ≡ n → AreNumberedFrom m cs → AreNumberedFrom n cs
from m n cs same are = subst (λ k. AreNumberedFrom k cs) same are

pub length-numbered : (n : ℕ) (cs : List Change) → length (numbered n cs) ≡ length cs
length-numbered n [] = refl
length-numbered n (c ∷ cs) = ap suc (length-numbered (n + 1) cs)

pub numbered_from : (n : ℕ) (cs : List Change) → AreNumberedFrom n (numbered n cs)
numbered_from n [] = tt
numbered_from n (c ∷ cs) = (refl, numbered_from (n + 1) cs)

pub numbered_append : (n : ℕ) (xs ys : List Change) → AreNumberedFrom n xs → AreNumberedFrom (n + length xs) ys → AreNumberedFrom n (xs ++ ys)
numbered_append n [] ys xs_are ys_are = from (n + 0) n ys (omega arith) ys_are
numbered_append n (x ∷ xs) ys xs_are ys_are = (xs_are.0, numbered_append (n + 1) xs ys xs_are.1 (from (n + suc (length xs)) (n + 1 + length xs) ys (omega arith) ys_are))

numbered_drop : (n k : ℕ) (cs : List Change) → AreNumberedFrom n cs → k ≤ length cs → AreNumberedFrom (n + k) (drop k cs)
numbered_drop n zero cs are within = from n (n + 0) cs (omega arith) are
numbered_drop n (suc k) [] are within = tt
numbered_drop n (suc k) (c ∷ cs) are within = from (n + 1 + k) (n + suc k) (drop k cs) (omega arith) (numbered_drop (n + 1) k cs are.1 (omega arith))

pub numbered-append : (n : ℕ) (xs ys : List Change) → numbered n (xs ++ ys) ≡ numbered n xs ++ numbered (n + length xs) ys
numbered-append n [] ys = let none : n ≡ n + 0 = omega arith in ap (λ m. numbered m ys) none
numbered-append n (x ∷ xs) ys =
    let more : n + 1 + length xs ≡ n + suc (length xs) = omega arith in
    ap (λ (l : List Change). record x { number = n } ∷ l) (numbered-append (n + 1) xs ys ∙ ap (λ m. numbered (n + 1) xs ++ numbered m ys) more)

-- changes that are numbered again have the last numbers alone
pub numbered-again : (m n : ℕ) (cs : List Change) → numbered n (numbered m cs) ≡ numbered n cs
numbered-again m n [] = refl
numbered-again m n (c ∷ cs) = ap (λ (l : List Change). record c { number = n } ∷ l) (numbered-again (m + 1) (n + 1) cs)

-- so an append gives them the next ones
pub appended-again : (m : ℕ) (cs : List Change) (o : Contents) → appended (numbered m cs) o ≡ appended cs o
appended-again m cs o = λ i. record { next = o.next + length-numbered m cs i; entries = o.entries ++ numbered-again m o.next cs i }

-- numbers go on behind changes that are put behind others
pub numbers_go_on : (before after more rest all whole : List Change) → after ≡ before ++ numbered (length before) more → all ≡ more ++ rest → before ++ numbered (length before) all ≡ whole
    → after ++ numbered (length after) rest ≡ whole
numbers_go_on before after more rest all whole grows split so_far =
    let added = numbered (length before) more in
    let count : length after ≡ length before + length more = ap length grows ∙ length-append before added ∙ ap (λ n. length before + n) (length-numbered (length before) more) in
    ap₂ (λ (l : List Change) (n : ℕ). l ++ numbered n rest) grows count
    ∙ append_assoc before added (numbered (length before + length more) rest)
    ∙ ap (λ (l : List Change). before ++ l) (sym (numbered-append (length before) more rest) ∙ ap (numbered (length before)) (sym split))
    ∙ so_far

-- ---- what is appended

pub appended_is : (o : Contents) (cs : List Change) → IsNumbered o → o.next + length cs ≤ last_number → IsNumbered (appended cs o)
appended_is o cs is within =
    let count : length (o.entries ++ numbered o.next cs) ≡ length o.entries + length cs = length-append o.entries (numbered o.next cs) ∙ ap (λ n. length o.entries + n) (length-numbered o.next cs) in
    let least : length o.entries < o.next = is.first in
    record {
      first = omega (arith, count, least);
      last = within;
      numbers = from (o.next - length o.entries) (o.next + length cs - length (o.entries ++ numbered o.next cs)) (o.entries ++ numbered o.next cs) (omega (arith, count, least))
          (numbered_append (o.next - length o.entries) o.entries (numbered o.next cs) is.numbers (from o.next (o.next - length o.entries + length o.entries) (numbered o.next cs) (omega (arith, least)) (numbered_from o.next cs)));
    }

slugs_numbered : (n : ℕ) (cs : List Change) → HaveSlugs cs → HaveSlugs (numbered n cs)
slugs_numbered n [] slugs = tt
slugs_numbered n (c ∷ cs) slugs = (record { slug = slugs.0.slug; branch = slugs.0.branch }, slugs_numbered (n + 1) cs slugs.1)

slugs_appended : (xs ys : List Change) → HaveSlugs xs → HaveSlugs ys → HaveSlugs (xs ++ ys)
slugs_appended [] ys xs_have ys_have = ys_have
slugs_appended (x ∷ xs) ys xs_have ys_have = (xs_have.0, slugs_appended xs ys xs_have.1 ys_have)

pub appended_sound : (o : Contents) (cs : List Change) → IsSound o → HaveSlugs cs → o.next + length cs ≤ last_number → IsSound (appended cs o)
appended_sound o cs sound slugs within =
    record { numbered = appended_is o cs sound.numbered within; slugs = slugs_appended o.entries (numbered o.next cs) sound.slugs (slugs_numbered o.next cs slugs) }

-- ---- what a confirmation leaves

above_at : (number n : ℕ) (c : Change) (cs : List Change) (b : Bool) → nat_lt number c.number ≡ b → above number (c ∷ cs) ≡ cond b (c ∷ above number cs) (above number cs)
above_at number n c cs b is = ap (λ t. cond t (c ∷ above number cs) (above number cs)) is

pub above-drop : (number n : ℕ) (cs : List Change) → AreNumberedFrom n cs → above number cs ≡ drop (number + 1 - n) cs
above-drop number n [] are = sym (drop-nil (number + 1 - n))
above-drop number n (c ∷ cs) are =
    let rest : above number cs ≡ drop (number + 1 - (n + 1)) cs = above-drop number (n + 1) cs are.1 in
    let is : c.number ≡ n = are.0 in
    elim (cases_lt number n) [
      | inl less ↦
          let none : number + 1 - (n + 1) ≡ 0 = omega arith in
          let all : number + 1 - n ≡ 0 = omega arith in
          above_at number n c cs true (lt-ltb number c.number (omega (arith, is))) ∙ ap (λ (l : List Change). c ∷ l) (rest ∙ ap (λ k. drop k cs) none) ∙ sym (ap (λ k. drop k (c ∷ cs)) all)
      | inr least ↦
          let more : number + 1 - n ≡ suc (number + 1 - (n + 1)) = omega arith in
          above_at number n c cs false (le-ltb number c.number (omega (arith, is))) ∙ rest ∙ sym (ap (λ k. drop k (c ∷ cs)) more)
    ]

drop_is : (next : ℕ) (es : List Change) (k : ℕ) → IsNumbered (record { next = next; entries = es }) → k ≤ length es → IsNumbered (record { next = next; entries = drop k es })
drop_is next es k is within =
    let count : length (drop k es) ≡ length es - k = length-drop k es in
    let least : length es < next = is.first in
    record {
      first = omega (arith, count, least);
      last = is.last;
      numbers = from (next - length es + k) (next - length (drop k es)) (drop k es) (omega (arith, count, least)) (numbered_drop (next - length es) k es is.numbers within);
    }

slugs_dropped : (k : ℕ) (cs : List Change) → HaveSlugs cs → HaveSlugs (drop k cs)
slugs_dropped zero cs slugs = slugs
slugs_dropped (suc k) [] slugs = tt
slugs_dropped (suc k) (c ∷ cs) slugs = slugs_dropped k cs slugs.1

pub last_sound : (o : Contents) (k : ℕ) → IsSound o → k ≤ length o.entries → IsSound (record { next = o.next; entries = drop k o.entries })
last_sound o k sound within = record { numbered = drop_is o.next o.entries k sound.numbered within; slugs = slugs_dropped k o.entries sound.slugs }

pub new_sound : IsSound no_changes
new_sound = record { numbered = record { first = omega arith; last = omega arith; numbers = tt }; slugs = tt }

-- a confirmation leaves the last entries
module _ (o : Contents) (number : ℕ) (is : IsNumbered o) (below : number < o.next) where
  confirmed-drop : (k : ℕ) → number + 1 - (o.next - length o.entries) ≡ k → record { next = o.next; entries = drop k o.entries } ≡ confirmed number o
  confirmed-drop k same =
      ap (λ (es : List Change). record { next = o.next; entries = es }) (ap (λ n. drop n o.entries) (sym same) ∙ sym (above-drop number (o.next - length o.entries) o.entries is.numbers))

  pub none_confirmed : length o.entries ≤ o.next - 1 - number → o ≡ confirmed number o
  none_confirmed least = let first : length o.entries < o.next = is.first in confirmed-drop 0 (omega (arith, first))

  pub some_confirmed : o.next - 1 - number < length o.entries → record { next = o.next; entries = drop (length o.entries - (o.next - 1 - number)) o.entries } ≡ confirmed number o
  some_confirmed less = let first : length o.entries < o.next = is.first in confirmed-drop (length o.entries - (o.next - 1 - number)) (omega (arith, first))

-- the last entries, as they were read
module _ (o : Contents) (number next : ℕ) (entries last : List Change) (sound : IsSound o) (next_is : next ≡ o.next) (entries_are : entries ≡ o.entries) (below : number < next)
    (less : next - 1 - number < length entries) (last_are : last ≡ drop (length entries - (next - 1 - number)) entries) where
  abbrev kept : ℕ → List Change → List Change
  kept n es = drop (length es - (n - 1 - number)) es

  left : ◌≡◌ {A = Contents} (record { next = next; entries = last }) (record { next = o.next; entries = kept o.next o.entries })
  left = λ i. record { next = next_is i; entries = (last_are ∙ ap₂ kept next_is entries_are) i }

  pub left_sound : IsSound (record { next = next; entries = last })
  left_sound = subst IsSound (sym left) (last_sound o (length o.entries - (o.next - 1 - number)) sound (omega arith))

  pub left_confirmed : record { next = next; entries = last } ≡ confirmed number o
  left_confirmed = left ∙ some_confirmed o number sound.numbered (subst (λ n. number < n) next_is below) (subst (λ n. n - 1 - number < length o.entries) next_is (subst (λ (es : List Change). next - 1 - number < length es) entries_are less))
