-- The words of a file that is too long.
use Rattle.std.proofs.Common.{◌≡◌, ◌++◌, List, ℕ, OnOk, string_bytes, codes, ap, subst}
use Rattle.std.specs.Prelude.{decimal}
use Rattle.client_words.specs.Refusals.{quoted}
use Rattle.client_words.proofs.Pairs.{two_pairs}
use Rattle.client_words.proofs.refusal_texts.push_file_length.Goals as goal

pub returns : goal.returns
returns c =
    subst (λ (text : List ℕ). OnOk c.push_number.result (string_bytes c.push_number.new.text ≡ text))
    (two_pairs _ _ (codes "FileTooLarge ") _ (codes " ") _ _ _ c.in_ok-push_quoted.ensures (ap quoted c.as_str.ensures.text)
    (ap (λ (length : ℕ). (codes "FileTooLarge " ++ quoted c.args.name.now) ++ (codes " " ++ decimal length)) c.from.ensures))
    c.push_number.ensures
