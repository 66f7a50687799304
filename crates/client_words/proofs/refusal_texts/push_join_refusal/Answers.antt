-- The words of files that aren't joined.
use Rattle.std.proofs.Common.{◌≡◌, ◌++◌, List, ℕ, OnOk, string_bytes, codes, ◌∙◌, ap, sym, subst}
use Rattle.client_words.specs.Refusals.{join_words}
use Rattle.client_words.proofs.refusal_texts.push_join_refusal.Goals as goal

pub returns-in-UnknownType : goal.returns-in-UnknownType
returns-in-UnknownType c =
    let old = string_bytes c.args.text.now in
    subst (λ (words : List ℕ). OnOk c.push_words-in-UnknownType.result (string_bytes c.push_words-in-UnknownType.new.text ≡ old ++ words))
    (ap (λ (name : List ℕ). codes "UnknownType " ++ name) c.as_str-in-UnknownType.ensures.text ∙ ap join_words (sym c.in-UnknownType.is)) c.push_words-in-UnknownType.ensures

pub returns-in-ObjectTooLarge : goal.returns-in-ObjectTooLarge
returns-in-ObjectTooLarge c =
    let old = string_bytes c.args.text.now in
    subst (λ (words : List ℕ). OnOk c.push_words-in-ObjectTooLarge.result (string_bytes c.push_words-in-ObjectTooLarge.new.text ≡ old ++ words))
    (ap (λ (name : List ℕ). codes "ObjectTooLarge " ++ name) c.as_str-in-ObjectTooLarge.ensures.text ∙ ap join_words (sym c.in-ObjectTooLarge.is)) c.push_words-in-ObjectTooLarge.ensures

pub returns-in-UnknownOverride : goal.returns-in-UnknownOverride
returns-in-UnknownOverride c =
    let old = string_bytes c.args.text.now in
    subst (λ (words : List ℕ). OnOk c.push_words-in-UnknownOverride.result (string_bytes c.push_words-in-UnknownOverride.new.text ≡ old ++ words))
    (ap (λ (name : List ℕ). codes "UnknownOverride " ++ name) c.as_str-in-UnknownOverride.ensures.text ∙ ap join_words (sym c.in-UnknownOverride.is)) c.push_words-in-UnknownOverride.ensures
