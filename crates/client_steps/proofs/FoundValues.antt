-- What is found among sound values is sound.
use Rattle.std.proofs.Common.{ℕ, Bool, true, false, List, Option, Some}
use Rattle.std.specs.Prelude.{IfSome, bytes_eq, if◌then◌else◌}
use Rattle.json_tree.specs.Json as json
use Rattle.json_tree.specs.Json.{Json, Members, no_members, member, IsSound, AreSoundMembers, get, get_member}

-- the one, or what is found among the rest
pub chosen : {A : Type 0} (P : A → Type 0) (same : Bool) (x : A) (rest : Option A) → P x → IfSome rest P → IfSome (if same then Some x else rest) P
chosen P true x rest here there = here
chosen P false x rest here there = there

member_sound : (k : List ℕ) (ms : Members) → AreSoundMembers ms → IfSome (get_member k ms) IsSound
member_sound k no_members sound = tt
member_sound k (member l x ms) sound = chosen IsSound (bytes_eq l k) x (get_member k ms) sound.2 (member_sound k ms sound.3)

-- what stands under a key
pub get_sound : (k : List ℕ) (x : Json) → IsSound x → IfSome (get k x) IsSound
get_sound k (json.object ms) sound = member_sound k ms sound
get_sound k x sound = tt
