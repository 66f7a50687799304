-- The words are these lists.
use Rattle.std.proofs.Common.{arith, map, string_bytes, [], ◌∷◌, ap, sym, ◌∙◌, Some}
use Rattle.std.proofs.lemmas.List.{length-map}
use Rattle.std.proofs.lemmas.Slice.Eq.{bytes_eq-Decides}
use Rattle.uuid.specs.Text.{parsed}
use Rattle.session_run.proofs.WordLists.{map-one, map-two, map-three, drill_words, no_form-second, no_form-third, no_form-many}
use Rattle.session_run.proofs.words.read_words.Goals as goal

pub returns-in-len1-clause-run : goal.returns-in-len1-clause-run
returns-in-len1-clause-run c _ =
    map-one string_bytes c.args.words.now c.word-item.result c.in-len1.len_at_least c.in-len1.len_below c.word-item.is
    ∙ ap (λ w. w ∷ []) (sym c.as_str.ensures.value ∙ (bytes_eq-Decides _ _).0 (sym c.eq.ensures ∙ c.if-eq.true))

pub returns-in-Ok-clause-init : goal.returns-in-Ok-clause-init
returns-in-Ok-clause-init c id is = (
  string_bytes c.id-item.result,
  map-two string_bytes c.args.words.now c.word-item-then-words-lt3.result c.id-item.result c.in-len2.len_at_least c.in-len2.len_below c.word-item-then-words-lt3.is c.id-item.is
      ∙ ap (λ w. w ∷ string_bytes c.id-item.result ∷ []) (sym c.as_str-then-words-lt3.ensures.value ∙ (bytes_eq-Decides _ _).0 (sym c.eq-then-words-lt3.ensures ∙ c.if-eq-2.true)),
  ap parsed (sym c.as_str-in-len2.ensures.value) ∙ sym c.in-Ok.ensures.bytes ∙ ap Some (sym c.into_bytes.ensures) ∙ grind (arith, is),
)

pub returns-in-Err-clause-none : goal.returns-in-Err-clause-none
returns-in-Err-clause-none c _ form =
    no_form-second (map string_bytes c.args.words.now) (string_bytes c.word-item-then-words-lt3.result) (string_bytes c.id-item.result)
    (map-two string_bytes c.args.words.now c.word-item-then-words-lt3.result c.id-item.result c.in-len2.len_at_least c.in-len2.len_below c.word-item-then-words-lt3.is c.id-item.is)
    (λ bytes reads. absurd (grind (arith, c.in-Err.ensures.ok.1 (bytes, ap parsed c.as_str-in-len2.ensures.value ∙ reads))))
    form

pub returns-in-Some-clause-drill : goal.returns-in-Some-clause-drill
returns-in-Some-clause-drill c start count is =
    let numbers = c.in-Some.ensures.some in
    drill_words (map string_bytes c.args.words.now) (string_bytes c.word-item-then-words-lt4.result) (string_bytes c.start-item.result) (string_bytes c.count-item.result) c.in-Some.start c.in-Some.count start count
    (map-three string_bytes c.args.words.now c.word-item-then-words-lt4.result c.start-item.result c.count-item.result c.in-len3.len_at_least c.in-len3.len_below c.word-item-then-words-lt4.is c.start-item.is c.count-item.is)
    (sym c.as_str-then-words-lt4.ensures.value ∙ (bytes_eq-Decides _ _).0 (sym c.eq-then-words-lt4.ensures ∙ c.if-eq-3.true))
    (sym c.as_str-in-len3.ensures.value ∙ numbers.0) (sym c.as_str-in-len3-2.ensures.value ∙ numbers.1) numbers.2 (grind (arith, is)) (grind (arith, is))

pub returns-in_default-4-clause-none : goal.returns-in_default-4-clause-none
returns-in_default-4-clause-none c _ form =
    no_form-third (map string_bytes c.args.words.now) (string_bytes c.word-item-then-words-lt4.result) (string_bytes c.start-item.result) (string_bytes c.count-item.result)
    (map-three string_bytes c.args.words.now c.word-item-then-words-lt4.result c.start-item.result c.count-item.result c.in-len3.len_at_least c.in-len3.len_below c.word-item-then-words-lt4.is c.start-item.is c.count-item.is)
    (λ m n named first second numbers. absurd (grind (arith, (bytes_eq-Decides _ _).1 (c.as_str-then-words-lt4.ensures.value ∙ named), c.eq-then-words-lt4.ensures, c.if-eq-3.false)))
    form

pub returns-in_default-5-clause-none : goal.returns-in_default-5-clause-none
returns-in_default-5-clause-none c _ form =
    no_form-many (map string_bytes c.args.words.now) (omega (arith, length-map c.args.words.now string_bytes, c.in_default.len_at_least)) form
