-- The definitions written one behind another, between their brackets.
use Rattle.std.proofs.Common.{◌≡◌, ◌<◌, ◌≤◌, ◌+◌, ℕ, List, [], ◌∷◌, ◌++◌, map, length, get_or, drop, ap, ◌∙◌, sym, append_assoc}
use Rattle.std.proofs.lemmas.List.{drop_more, drop_all}
use Rattle.json.specs.Token.{Token, begin_object, end_object, key}
use Rattle.json.specs.Tree.{members_tokens}
use Rattle.serde_json.specs.Written.{members_outline}
use Rattle.json_tree.specs.Json.{object, members_of}
use Rattle.json_tree.specs.Bytes.{to_members}
use Rattle.json_tree.specs.Tokens.{tokens_of}
use Rattle.json_tree.proofs.Tokens.{part_then}
use Rattle.recipe_drill.specs.Records.{feature_name}
use Rattle.recipe_drill.specs.Files.{definition, definition_json}

-- the tokens of these features' definitions, and the bracket behind them
abbrev pub definitions_left : List ℕ → List Token
definitions_left fs = members_tokens (members_outline (to_members (members_of (map definition fs))))

pub definition_written : (fs : List ℕ) (i f : ℕ) (old named new all : List Token) → i < length fs → f ≡ get_or fs i 0
    → named ≡ old ++ key (feature_name f) ∷ [] → new ≡ named ++ tokens_of (definition_json f) → old ++ definitions_left (drop i fs) ≡ all → new ++ definitions_left (drop (i + 1) fs) ≡ all
definition_written fs i f old named new all within is name more before =
    let rest = definitions_left (drop (i + 1) fs) in
    let here : drop i fs ≡ f ∷ drop (i + 1) fs = drop_more fs i 0 within ∙ ap (λ n. n ∷ drop (i + 1) fs) (sym is) in
    let value = tokens_of (definition_json f) in
    ap (λ ts. ts ++ rest) more ∙ append_assoc named value rest ∙ ap (λ ts. ts ++ (value ++ rest)) name ∙ append_assoc old (key (feature_name f) ∷ []) (value ++ rest)
    ∙ sym (ap (λ ns. old ++ definitions_left ns) here) ∙ before

pub definitions_written : (fs : List ℕ) (i : ℕ) (old opened now new : List Token) → length fs ≤ i
    → opened ≡ old ++ begin_object ∷ [] → now ++ definitions_left (drop i fs) ≡ opened ++ definitions_left fs → new ≡ now ++ end_object ∷ []
    → new ≡ old ++ tokens_of (object (members_of (map definition fs)))
definitions_written fs i old opened now new past open_is among close_is =
    let none = ap (λ ns. now ++ definitions_left ns) (drop_all i fs past) in
    part_then old (begin_object ∷ []) (definitions_left fs) open_is (close_is ∙ sym none ∙ among)
