use Rattle.std.proofs.Common.{string_bytes, [], ◌∷◌, ap, sym, ◌∙◌}
use Rattle.std.proofs.lemmas.Slice.Eq.{bytes_eq-Decides}
use Rattle.nimbus_cli.proofs.WordLists.{map-one}
use Rattle.nimbus_cli.proofs.notice.Notice.of.Goals as goal

pub returns-in-len1-clause-help : goal.returns-in-len1-clause-help
returns-in-len1-clause-help c _ =
    map-one string_bytes c.args.words.now c.word-item.result c.in-len1.len_at_least c.in-len1.len_below c.word-item.is
    ∙ ap (λ w. w ∷ []) (sym c.as_str.ensures.value ∙ (bytes_eq-Decides _ _).0 (sym c.eq.ensures ∙ c.if-eq.true))

pub returns-in-len1-2-clause-version : goal.returns-in-len1-2-clause-version
returns-in-len1-2-clause-version c _ =
    map-one string_bytes c.args.words.now c.word-item-then-words-lt2.result c.in-len1.len_at_least c.in-len1.len_below c.word-item-then-words-lt2.is
    ∙ ap (λ w. w ∷ []) (sym c.as_str-then-words-lt2.ensures.value ∙ (bytes_eq-Decides _ _).0 (sym c.eq-then-words-lt2.ensures ∙ c.if-eq-2.true))
