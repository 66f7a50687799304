-- What stands in sound JSON values.
use Rattle.std.proofs.Common.{ℕ, Bool, true, false, List, Option, Some, None}
use Rattle.std.specs.Prelude.{⊤, bytes_eq, if◌then◌else◌}
use Rattle.json_tree.specs.Json.{Json, null, truth, whole, odd, text, list, object, Items, no_items, item, Members, no_members, member, get, get_member, IsSound, AreSoundMembers}

abbrev pub IsSoundOption : Option Json → Type 0
IsSoundOption None = ⊤
IsSoundOption (Some x) = IsSound x

either_sound : (b : Bool) (x : Json) (o : Option Json) → IsSound x → IsSoundOption o → IsSoundOption (if b then Some x else o)
either_sound true x o one others = one
either_sound false x o one others = others

member_sound : (k : List ℕ) (ms : Members) → AreSoundMembers ms → IsSoundOption (get_member k ms)
member_sound k no_members sound = tt
member_sound k (member l x ms) sound = either_sound (bytes_eq l k) x (get_member k ms) sound.2 (member_sound k ms sound.3)

-- the value of a key
pub get_sound : (k : List ℕ) (x : Json) → IsSound x → IsSoundOption (get k x)
get_sound k null sound = tt
get_sound k (truth b) sound = tt
get_sound k (whole n) sound = tt
get_sound k odd sound = tt
get_sound k (text s) sound = tt
get_sound k (list xs) sound = tt
get_sound k (object ms) sound = member_sound k ms sound
