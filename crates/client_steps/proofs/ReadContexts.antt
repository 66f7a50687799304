-- The version of a context of a sound tree is in UTF-8.
use Rattle.std.proofs.Common.{ℕ, Bool, true, false, List, [], ◌∷◌, ◌++◌, Option, Some, None, IsUtf8, unwrap_or}
use Rattle.std.proofs.lemmas.Str.{IsUtf8-nil}
use Rattle.std.specs.Prelude.{⊤, IfSome, IfOk, bytes_eq, if◌then◌else◌}
use Rattle.json_tree.specs.Json as json
use Rattle.json_tree.specs.Json.{Json, Members, no_members, member, IsSound, AreSoundMembers}
use Rattle.app_context.specs.Contexts.{members_in, context_in, judged, context_of}
use Rattle.app_context.specs.Keys.{name_of, bad_key}
use Rattle.app_context.specs.Named.{text_with, text_where, texts_where}
use Rattle.app_context.specs.declared.context.Context.{Context}
use Rattle.app_context.specs.declared.key.ContextKey.{ContextKey}
use Rattle.app_context.specs.declared.key.ContextKey.TheVariants.{AppVersion}
use Rattle.enrol_evolver.specs.Evolution.{version_of}
use Rattle.client_steps.proofs.FoundValues.{chosen}

-- the texts under names are in UTF-8
abbrev AreTexts : List (List ℕ × List ℕ) → Type 0
AreTexts [] = ⊤
AreTexts (p ∷ ps) = IsUtf8 p.1 × AreTexts ps

append_texts : (ps qs : List (List ℕ × List ℕ)) → AreTexts ps → AreTexts qs → AreTexts (ps ++ qs)
append_texts [] qs first rest = rest
append_texts (p ∷ ps) qs first rest = (first.0, append_texts ps qs first.1 rest)

text_when : (passes : Bool) (name s : List ℕ) → IsUtf8 s → AreTexts (if passes then (name, s) ∷ [] else [])
text_when true name s u = (u, tt)
text_when false name s u = tt

text_where_texts : (test : List ℕ → Bool) (name : List ℕ) (x : Json) → IsSound x → AreTexts (text_where test name x)
text_where_texts test name (json.text s) h = text_when (test name) name s h
text_where_texts test name x h = tt

texts_where_texts : (test : List ℕ → Bool) (ms : Members) → AreSoundMembers ms → AreTexts (texts_where test ms)
texts_where_texts test no_members h = tt
texts_where_texts test (member k x ms) h = append_texts (text_where test k x) (texts_where test ms) (text_where_texts test k x h.2) (texts_where_texts test ms h.3)

members_in_sound : (x : Json) → IsSound x → AreSoundMembers (members_in (Some x))
members_in_sound (json.object ms) h = h
members_in_sound x h = tt

text_with_utf8 : (name : List ℕ) (ps : List (List ℕ × List ℕ)) → AreTexts ps → IfSome (text_with name ps) IsUtf8
text_with_utf8 name [] h = tt
text_with_utf8 name (p ∷ ps) h = chosen IsUtf8 (bytes_eq p.0 name) p.1 (text_with name ps) h.0 (text_with_utf8 name ps h.1)

or_empty : (o : Option (List ℕ)) → IfSome o IsUtf8 → IsUtf8 (unwrap_or o [])
or_empty None h = IsUtf8-nil
or_empty (Some s) h = h

version_utf8 : (x : Json) → IsSound x → IsUtf8 (version_of (context_in x))
unfolding context_in
version_utf8 x h = or_empty _ (text_with_utf8 (name_of AppVersion) _ (texts_where_texts _ (members_in (Some x)) (members_in_sound x h)))

judged_utf8 : (key : Option ContextKey) (c : Context) → IsUtf8 (version_of c) → IfOk (judged key c) (λ d. IsUtf8 (version_of d))
judged_utf8 None c u = u
judged_utf8 (Some key) c u = tt

pub context_version : (x : Json) → IsSound x → IfOk (context_of x) (λ c. IsUtf8 (version_of c))
unfolding context_of
context_version x h = judged_utf8 (bad_key x) (context_in x) (version_utf8 x h)
