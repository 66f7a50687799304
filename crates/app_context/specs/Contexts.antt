-- Which context a tree is, or the first key that keeps it from being one.
use Rattle.std.specs.Prelude.{◌≡◌, ℕ, Bool, true, List, [], ◌∷◌, Option, Some, None, Result, Ok, Err, ⊤, bytes_eq}
use Rattle.std.specs.List.{list_any}
use Rattle.json_tree.specs.Json.{Json, text, object, Members, no_members, member, get}
use Rattle.app_context.specs.Keys.{name_of, optional_texts, bad_key}
use Rattle.app_context.specs.Named.{text_with, texts_where}
use Rattle.app_context.specs.declared.key.ContextKey.{ContextKey}
use Rattle.app_context.specs.declared.key.ContextKey.TheVariants.{AppName, Channel, Units, CustomTargetingAttributes}
use Rattle.app_context.specs.declared.context.Context.{Context}
use Rattle.app_context.specs.declared.members.Wanted.{Wanted}
use Rattle.app_context.specs.declared.members.Wanted.TheVariants as wanted
use Rattle.app_context.specs.declared.reading.ContextFault.{ContextFault}
use Rattle.app_context.specs.declared.reading.ContextFault.TheVariants as faults

-- the text, and an empty one for what is none
abbrev pub text_in : Option Json → List ℕ
text_in (Some (text s)) = s
text_in x = []

-- the members of an object, and none of what isn't one
abbrev pub members_in : Option Json → Members
members_in (Some (object ms)) = ms
members_in x = no_members

abbrev pub pairs_of : Members → List (List ℕ × Json)
pairs_of no_members = []
pairs_of (member k x ms) = (k, x) ∷ pairs_of ms

-- whether it is the name of a key whose text may be absent
abbrev pub is_optional_text : List ℕ → Bool
is_optional_text name = list_any (λ key. bytes_eq name (name_of key)) optional_texts

-- which names are wanted
abbrev pub wants : Wanted → List ℕ → Bool
wants wanted.AllTexts name = true
wants wanted.OptionalTexts name = is_optional_text name

-- what stands under the keys of the tree
unfoldable pub context_in : Json → Context
context_in x = record {
  app_name = text_in (get (name_of AppName) x);
  channel = text_in (get (name_of Channel) x);
  texts = texts_where (wants wanted.OptionalTexts) (members_in (Some x));
  units = texts_where (wants wanted.AllTexts) (members_in (get (name_of Units) x));
  custom = pairs_of (members_in (get (name_of CustomTargetingAttributes) x));
}

abbrev pub judged : Option ContextKey → Context → Result Context ContextKey
judged None c = Ok c
judged (Some key) c = Err key

-- the context that the tree is, or the first key whose value is none that it may have
unfoldable pub context_of : Json → Result Context ContextKey
context_of x = judged (bad_key x) (context_in x)

-- want of memory is the one free answer
abbrev pub Gives : Result Context ContextFault → Result Context ContextKey → Type 0
Gives (Ok c) read = read ≡ Ok c
Gives (Err (faults.BadContext key)) read = read ≡ Err key
Gives (Err faults.OutOfMemory) read = ⊤

-- the text of the key, where the context has it
abbrev pub text_of : ContextKey → Context → Option (List ℕ)
text_of AppName c = Some c.app_name
text_of Channel c = Some c.channel
text_of Units c = None
text_of CustomTargetingAttributes c = None
text_of key c = text_with (name_of key) c.texts
