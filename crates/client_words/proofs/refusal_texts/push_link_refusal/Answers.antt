-- The words of files that are no manifest.
use Rattle.std.proofs.Common.{◌≡◌, ◌++◌, List, ℕ, OnOk, string_bytes, codes, ◌∙◌, ap, sym, subst}
use Rattle.client_words.specs.Refusals.{link_words, quoted}
use Rattle.client_words.proofs.refusal_texts.push_link_refusal.Goals as goal

pub returns-in-ImportClash : goal.returns-in-ImportClash
returns-in-ImportClash c =
    let old = string_bytes c.args.text.now in
    subst (λ (words : List ℕ). OnOk c.push_quoted-in-ImportClash.result (string_bytes c.push_quoted-in-ImportClash.new.text ≡ old ++ words))
    (ap (λ (name : List ℕ). codes "ImportClash " ++ quoted name) c.as_str-in-ImportClash.ensures.text ∙ ap link_words (sym c.in-ImportClash.is)) c.push_quoted-in-ImportClash.ensures
