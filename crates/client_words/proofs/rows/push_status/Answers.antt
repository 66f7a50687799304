-- The words of each status.
use Rattle.std.proofs.Common.{◌≡◌, ◌++◌, List, ℕ, OnOk, string_bytes, codes, ◌∙◌, ap, sym, subst}
use Rattle.client_words.specs.Answers.{disqualified_name, status_words}
use Rattle.client_words.proofs.Pairs.{two_pairs}
use Rattle.client_words.proofs.rows.push_status.Goals as goal

pub returns-in-NotEnrolled : goal.returns-in-NotEnrolled
returns-in-NotEnrolled c =
    let old = string_bytes c.args.text.now in
    subst (λ (words : List ℕ). OnOk c.push_words-in-NotEnrolled.result (string_bytes c.push_words-in-NotEnrolled.new.text ≡ old ++ words))
    (ap (λ (name : List ℕ). codes "NotEnrolled " ++ name) c.not_enrolled_name.ensures ∙ ap status_words (sym c.in-NotEnrolled.is)) c.push_words-in-NotEnrolled.ensures

pub returns-in_ok-push_words-in-Disqualified : goal.returns-in_ok-push_words-in-Disqualified
returns-in_ok-push_words-in-Disqualified c =
    subst (λ (text : List ℕ). OnOk c.push_words-in-Disqualified-2.result (string_bytes c.push_words-in-Disqualified-2.new.text ≡ text))
    (two_pairs _ _ (codes "Disqualified ") _ (codes " ") _ _ _ c.in_ok-push_words-in-Disqualified.ensures c.disqualified_name.ensures
    (ap (λ (branch : List ℕ). (codes "Disqualified " ++ disqualified_name c.in-Disqualified.reason) ++ (codes " " ++ branch)) c.text-in-Disqualified.ensures.text ∙ ap status_words (sym c.in-Disqualified.is)))
    c.push_words-in-Disqualified-2.ensures

pub returns-in_ok-push_words-in-WasEnrolled : goal.returns-in_ok-push_words-in-WasEnrolled
returns-in_ok-push_words-in-WasEnrolled c =
    subst (λ (text : List ℕ). OnOk c.push_words-in-WasEnrolled-2.result (string_bytes c.push_words-in-WasEnrolled-2.new.text ≡ text))
    (two_pairs _ _ (codes "WasEnrolled ") _ (codes " ") _ _ _ c.in_ok-push_words-in-WasEnrolled.ensures c.text-in-WasEnrolled.ensures.text
    (ap (λ (number : List ℕ). (codes "WasEnrolled " ++ c.in-WasEnrolled.branch) ++ (codes " " ++ number)) c.format.ensures.text ∙ ap status_words (sym c.in-WasEnrolled.is)))
    c.push_words-in-WasEnrolled-2.ensures
