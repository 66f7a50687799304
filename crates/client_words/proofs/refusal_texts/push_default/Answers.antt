-- The words of a default that doesn't fit.
use Rattle.std.proofs.Common.{◌≡◌, ◌++◌, List, ℕ, OnOk, string_bytes, codes, ap, subst}
use Rattle.client_words.specs.Refusals.{quoted}
use Rattle.client_words.proofs.Pairs.{two_pairs}
use Rattle.client_words.proofs.refusal_texts.push_default.Goals as goal

pub returns : goal.returns
returns c =
    subst (λ (text : List ℕ). OnOk c.push_quoted.result (string_bytes c.push_quoted.new.text ≡ text))
    (two_pairs _ _ (codes "BadDefault ") _ (codes " ") _ _ _ c.in_ok-push_words.ensures c.as_str.ensures.text
    (ap (λ (path : List ℕ). (codes "BadDefault " ++ c.args.owner.now) ++ (codes " " ++ quoted path)) c.as_str-2.ensures.text))
    c.push_quoted.ensures
