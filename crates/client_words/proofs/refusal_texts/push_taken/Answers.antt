-- The words of a feature that another recipe holds.
use Rattle.std.proofs.Common.{◌≡◌, ◌++◌, List, ℕ, OnOk, string_bytes, codes, ap, subst}
use Rattle.client_words.proofs.Pairs.{two_pairs}
use Rattle.client_words.proofs.refusal_texts.push_taken.Goals as goal

pub returns : goal.returns
returns c =
    subst (λ (text : List ℕ). OnOk c.push_words-2.result (string_bytes c.push_words-2.new.text ≡ text))
    (two_pairs _ _ (codes "FeatureTaken ") _ (codes " ") _ _ _ c.in_ok-push_words.ensures c.text.ensures.text
    (ap (λ (feature : List ℕ). (codes "FeatureTaken " ++ c.args.holder.now) ++ (codes " " ++ feature)) c.as_str.ensures.text))
    c.push_words-2.ensures
