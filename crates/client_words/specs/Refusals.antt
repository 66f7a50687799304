-- The text of a refusal.
use Rattle.std.specs.Prelude.{ℕ, List, [], ◌∷◌, ◌++◌, codes, decimal}
use Rattle.json_tree.specs.Json.{text}
use Rattle.json_tree.specs.Bytes.{text_of}
use Rattle.app_context.specs.Keys.{name_of}
use Rattle.fml_imports.specs.declared.fault.JoinRefusal.{JoinRefusal}
use Rattle.fml_imports.specs.declared.fault.JoinRefusal.TheVariants as join
use Rattle.fml_link.specs.declared.fault.LinkRefusal.{LinkRefusal}
use Rattle.fml_link.specs.declared.fault.LinkRefusal.TheVariants as link
use Rattle.client_words.specs.declared.refusal.Refusal.{Refusal}
use Rattle.client_words.specs.declared.refusal.Refusal.TheVariants as refusals

-- the name of a file, a path or a key, as canonical JSON
unfoldable pub quoted : List ℕ → List ℕ
quoted name = text_of (text name)

-- a file that is too long, with its length
abbrev pub file_length_words : List ℕ → ℕ → List ℕ
file_length_words name len = codes "FileTooLarge " ++ quoted name ++ (codes " " ++ decimal len)

-- why files aren't joined
abbrev pub join_words : JoinRefusal → List ℕ
join_words (join.DuplicateName name) = codes "DuplicateName " ++ name
join_words (join.UnknownType name) = codes "UnknownType " ++ name
join_words (join.EndlessObject name) = codes "EndlessObject " ++ name
join_words (join.ObjectTooLarge name) = codes "ObjectTooLarge " ++ name
join_words join.UnknownChannel = codes "UnknownChannel"
join_words (join.UnknownImport path) = codes "UnknownImport " ++ quoted path
join_words (join.UnknownOverride name) = codes "UnknownOverride " ++ name

-- why files are no manifest
abbrev pub link_words : LinkRefusal → List ℕ
link_words (link.AbsentFile name) = codes "AbsentFile " ++ quoted name
link_words (link.FileTooLarge name len) = file_length_words name len
link_words (link.NotJson name) = codes "NotJson " ++ quoted name
link_words (link.BadShape name path) = codes "BadShape " ++ quoted name ++ (codes " " ++ quoted path)
link_words link.TooManyFiles = codes "TooManyFiles"
link_words (link.ImportClash name) = codes "ImportClash " ++ quoted name
link_words (link.NotJoined refusal) = join_words refusal

-- why a command is refused
abbrev pub refusal_words : Refusal → List ℕ
refusal_words refusals.NoManifest = codes "NoManifest"
refusal_words refusals.NoContext = codes "NoContext"
refusal_words (refusals.AbsentFile name) = codes "AbsentFile " ++ quoted name
refusal_words (refusals.FileTooLarge name len) = file_length_words name len
refusal_words (refusals.NotJson name) = codes "NotJson " ++ quoted name
refusal_words (refusals.BadContext key) = codes "BadContext " ++ quoted (name_of key)
refusal_words (refusals.BadBinding feature) = codes "BadBinding " ++ quoted feature
refusal_words refusals.NoData = codes "NoData"
refusal_words (refusals.TooManyRecipes count) = codes "TooManyRecipes " ++ decimal count
refusal_words (refusals.NotLinked refusal) = link_words refusal
refusal_words (refusals.BadDefault owner path) = codes "BadDefault " ++ owner ++ (codes " " ++ quoted path)
refusal_words refusals.UnknownFeature = codes "UnknownFeature"
refusal_words refusals.OptedOutLimit = codes "OptedOutLimit"
refusal_words refusals.NoSuchExperiment = codes "NoSuchExperiment"
refusal_words refusals.NotParticipating = codes "NotParticipating"
refusal_words refusals.NoSuchBranch = codes "NoSuchBranch"
refusal_words (refusals.FeatureTaken holder feature) = codes "FeatureTaken " ++ holder ++ (codes " " ++ feature)
refusal_words refusals.EventLimit = codes "EventLimit"
refusal_words (refusals.NoSuchChange next) = codes "NoSuchChange " ++ decimal next
refusal_words refusals.ChangesSpent = codes "ChangesSpent"
refusal_words (refusals.StateTooLarge size) = codes "StateTooLarge " ++ decimal size

-- the answer to a command that is refused
unfoldable pub refusal_lines : Refusal → List ℕ
refusal_lines refusal = codes "refused " ++ refusal_words refusal ++ 10 ∷ []
