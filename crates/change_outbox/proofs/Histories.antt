-- What a history of an outbox leaves of all changes.
use Rattle.std.proofs.Common.{◌≡◌, ℕ, ◌+◌, ◌<◌, ◌≤◌, cond, List, [], ◌∷◌, ◌++◌, length, inl, inr, refl, sym, ap, ap₂, ◌∙◌, subst, arith, append_assoc}
use Rattle.std.specs.Prelude.{max}
use Rattle.std.proofs.lemmas.Bool.{cases_lt, lt-ltb, le-ltb}
use Rattle.std.proofs.lemmas.List.{length-append, append-nil}
use Rattle.change_outbox.specs.declared.change.Change.{Change}
use Rattle.change_outbox.specs.Contents.{Contents, numbered, above, appended, confirmed}
use Rattle.change_outbox.proofs.Numbers.{numbered-append}
use Rattle.change_outbox.specs.Laws.{Action, Append, Confirm, after, AreAccepted, all_appended, greatest_confirmed, AreKeptUntilConfirmed}

kept_first : (n : ℕ) (c : Change) (cs : List Change) → n < c.number → above n (c ∷ cs) ≡ c ∷ above n cs
kept_first n c cs less = ap (λ b. cond b (c ∷ above n cs) (above n cs)) (lt-ltb n c.number less)

dropped_first : (n : ℕ) (c : Change) (cs : List Change) → c.number ≤ n → above n (c ∷ cs) ≡ above n cs
dropped_first n c cs least = ap (λ b. cond b (c ∷ above n cs) (above n cs)) (le-ltb n c.number least)

above-append : (n : ℕ) (xs ys : List Change) → above n (xs ++ ys) ≡ above n xs ++ above n ys
above-append n [] ys = refl
above-append n (x ∷ xs) ys =
    elim (cases_lt n x.number) [
      | inl less ↦ kept_first n x (xs ++ ys) less ∙ ap (λ (l : List Change). x ∷ l) (above-append n xs ys) ∙ sym (ap (λ (l : List Change). l ++ above n ys) (kept_first n x xs less))
      | inr least ↦ dropped_first n x (xs ++ ys) least ∙ above-append n xs ys ∙ sym (ap (λ (l : List Change). l ++ above n ys) (dropped_first n x xs least))
    ]

above_all : (g n : ℕ) (cs : List Change) → g < n → above g (numbered n cs) ≡ numbered n cs
above_all g n [] less = refl
above_all g n (c ∷ cs) less = kept_first g (record c { number = n }) (numbered (n + 1) cs) less ∙ ap (λ (l : List Change). record c { number = n } ∷ l) (above_all g (n + 1) cs (omega arith))

above_both : (g k : ℕ) (cs : List Change) → above k (above g cs) ≡ above (max g k) cs
above_both g k [] = refl
above_both g k (c ∷ cs) =
    elim (cases_lt g c.number) [
      | inl over ↦
          elim (cases_lt k c.number) [
            | inl less ↦
                ap (above k) (kept_first g c cs over) ∙ kept_first k c (above g cs) less ∙ ap (λ (l : List Change). c ∷ l) (above_both g k cs)
                ∙ sym (kept_first (max g k) c cs (omega arith))
            | inr least ↦ ap (above k) (kept_first g c cs over) ∙ dropped_first k c (above g cs) least ∙ above_both g k cs ∙ sym (dropped_first (max g k) c cs (omega arith))
          ]
      | inr under ↦ ap (above k) (dropped_first g c cs under) ∙ above_both g k cs ∙ sym (dropped_first (max g k) c cs (omega arith))
    ]

-- the outbox to which these changes were appended, where those up to g were confirmed
abbrev left : List Change → ℕ → Contents
left cs g = record { next = 1 + length cs; entries = above g (numbered 1 cs) }

left_appended : (cs more : List Change) (g : ℕ) → g < 1 + length cs → appended more (left cs g) ≡ left (cs ++ more) g
left_appended cs more g less =
    let next : 1 + length cs + length more ≡ 1 + length (cs ++ more) = omega (arith, length-append cs more) in
    let entries : above g (numbered 1 cs) ++ numbered (1 + length cs) more ≡ above g (numbered 1 (cs ++ more)) =
    sym (ap (above g) (numbered-append 1 cs more) ∙ above-append g (numbered 1 cs) (numbered (1 + length cs) more)
    ∙ ap (λ (l : List Change). above g (numbered 1 cs) ++ l) (above_all g (1 + length cs) more less)) in
    (λ i. record { next = next i; entries = entries i })

left_confirmed : (cs : List Change) (g k : ℕ) → confirmed k (left cs g) ≡ left cs (max g k)
left_confirmed cs g k = ap (λ (es : List Change). record { next = 1 + length cs; entries = es }) (above_both g k (numbered 1 cs))

after_left : (actions : List Action) (cs : List Change) (g : ℕ) → g < 1 + length cs → AreAccepted actions (left cs g)
    → after actions (left cs g) ≡ left (cs ++ all_appended actions) (max g (greatest_confirmed actions))
after_left [] cs g less are =
    let same : g ≡ max g 0 = omega arith in
    ap₂ left (sym (append-nil cs)) same
after_left (Append more ∷ actions) cs g less are =
    let is = left_appended cs more g less in
    ap (after actions) is
    ∙ after_left actions (cs ++ more) g (omega (arith, length-append cs more)) (subst (AreAccepted actions) is are)
    ∙ ap (λ (l : List Change). left l (max g (greatest_confirmed actions))) (append_assoc cs more (all_appended actions))
after_left (Confirm k ∷ actions) cs g less are =
    let is = left_confirmed cs g k in
    let known : k < 1 + length cs = are.0 in
    let same : max (max g k) (greatest_confirmed actions) ≡ max g (max k (greatest_confirmed actions)) = omega arith in
    ap (after actions) is ∙ after_left actions cs (max g k) (omega (arith, known)) (subst (AreAccepted actions) is are.1) ∙ ap (left (cs ++ all_appended actions)) same

pub kept : AreKeptUntilConfirmed
kept actions are =
    let same : max 0 (greatest_confirmed actions) ≡ greatest_confirmed actions = omega arith in
    after_left actions [] 0 (omega arith) are ∙ ap (left (all_appended actions)) same
