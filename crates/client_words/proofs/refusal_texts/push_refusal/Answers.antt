-- The words of each refusal.
use Rattle.std.proofs.Common.{◌≡◌, ◌++◌, List, ℕ, OnOk, string_bytes, codes, ◌∙◌, ap, sym, subst}
use Rattle.std.specs.Prelude.{decimal}
use Rattle.client_words.specs.Refusals.{refusal_words}
use Rattle.client_words.proofs.Pairs.{appended}
use Rattle.client_words.proofs.refusal_texts.push_refusal.Goals as goal

pub returns-in-TooManyRecipes : goal.returns-in-TooManyRecipes
returns-in-TooManyRecipes c =
    let old = string_bytes c.args.text.now in
    subst (λ (words : List ℕ). OnOk c.push_number.result (string_bytes c.push_number.new.text ≡ old ++ words)) (ap (λ (number : ℕ). codes "TooManyRecipes " ++ decimal number) c.from.ensures ∙ ap refusal_words (sym c.in-TooManyRecipes.is)) c.push_number.ensures

pub returns-in-UnknownFeature : goal.returns-in-UnknownFeature
returns-in-UnknownFeature c = appended c.push_str-in-UnknownFeature.result _ _ _ _ c.push_str-in-UnknownFeature.ensures.bytes (ap refusal_words (sym c.in-UnknownFeature.is))

pub returns-in-OptedOutLimit : goal.returns-in-OptedOutLimit
returns-in-OptedOutLimit c = appended c.push_str-in-OptedOutLimit.result _ _ _ _ c.push_str-in-OptedOutLimit.ensures.bytes (ap refusal_words (sym c.in-OptedOutLimit.is))

pub returns-in-NoSuchExperiment : goal.returns-in-NoSuchExperiment
returns-in-NoSuchExperiment c = appended c.push_str-in-NoSuchExperiment.result _ _ _ _ c.push_str-in-NoSuchExperiment.ensures.bytes (ap refusal_words (sym c.in-NoSuchExperiment.is))

pub returns-in-NotParticipating : goal.returns-in-NotParticipating
returns-in-NotParticipating c = appended c.push_str-in-NotParticipating.result _ _ _ _ c.push_str-in-NotParticipating.ensures.bytes (ap refusal_words (sym c.in-NotParticipating.is))

pub returns-in-NoSuchChange : goal.returns-in-NoSuchChange
returns-in-NoSuchChange c =
    let old = string_bytes c.args.text.now in
    subst (λ (words : List ℕ). OnOk c.push_number-in-NoSuchChange.result (string_bytes c.push_number-in-NoSuchChange.new.text ≡ old ++ words)) (ap (λ (number : ℕ). codes "NoSuchChange " ++ decimal number) c.from-in-NoSuchChange.ensures ∙ ap refusal_words (sym c.in-NoSuchChange.is)) c.push_number-in-NoSuchChange.ensures

pub returns-in-StateTooLarge : goal.returns-in-StateTooLarge
returns-in-StateTooLarge c =
    let old = string_bytes c.args.text.now in
    subst (λ (words : List ℕ). OnOk c.push_number-in-StateTooLarge.result (string_bytes c.push_number-in-StateTooLarge.new.text ≡ old ++ words)) (ap refusal_words (sym c.in-StateTooLarge.is)) c.push_number-in-StateTooLarge.ensures
