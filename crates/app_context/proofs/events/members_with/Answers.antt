use Rattle.std.proofs.Common.{◌≡◌, ℕ, List, [], ◌∷◌, ◌++◌, map, sym, ap, ap₂, ◌∙◌, subst}
use Rattle.json_tree.specs.Json.{Json, IsAbove, AreSoundMembers, members_of}
use Rattle.json_tree.specs.Tree.{json_of, member_of}
use Rattle.json_tree.specs.declared.tree.Tree.{Tree}
use Rattle.jexl_value.specs.Names.{with_member}
use Rattle.app_context.specs.Sides.{Rises}
use Rattle.app_context.proofs.Besides.{sound_rises, lower_rises, one_is_above, upper_rises, put_together}
use Rattle.app_context.proofs.events.members_with.Goals as goal

rise : (ps : List (List ℕ × Tree)) (ms : List (List ℕ × Json)) → map member_of ps ≡ ms → AreSoundMembers (members_of ms) → Rises (map member_of ps)
rise ps ms are sound = sound_rises (map member_of ps) (subst (λ ns. AreSoundMembers (members_of ns)) (sym are) sound)

-- the member that was put there
put : (lower one : List (List ℕ × Json)) (name key : List ℕ) (copy value : Tree) → one ≡ lower ++ (name, json_of copy) ∷ [] → name ≡ key → copy ≡ value → one ≡ lower ++ (key, json_of value) ∷ []
put lower one name key copy value made same_name same_value = made ∙ ap₂ (λ (n : List ℕ) (t : Tree). lower ++ (n, json_of t) ∷ []) same_name same_value

pub push_those-requires : goal.push_those-requires
push_those-requires c =
    lower_rises c.args.key.now (json_of c.args.value.now) (map member_of c.as_slice-pairs.result.now) c.new-made.result (rise c.as_slice-pairs.result.now c.args.members.now c.as_slice-pairs.ensures.members c.as_slice-pairs.ensures.sound) c.new-made.ensures

pub push-requires : goal.push-requires
push-requires c =
    subst (λ n. IsAbove n c.push_those.new.made) (sym c.in_ok-new.ensures)
    (one_is_above c.args.key.now (json_of c.args.value.now) (map member_of c.as_slice-pairs.result.now) c.new-made.result c.push_those.new.made (rise c.as_slice-pairs.result.now c.args.members.now c.as_slice-pairs.ensures.members c.as_slice-pairs.ensures.sound) c.new-made.ensures c.in_ok-push_those.ensures)

pub push_those-requires-2 : goal.push_those-requires-2
push_those-requires-2 c =
    upper_rises c.args.key.now (json_of c.args.value.now) (map member_of c.as_slice-pairs.result.now) c.new-made.result c.push_those.new.made c.push.new.self (rise c.as_slice-pairs.result.now c.args.members.now c.as_slice-pairs.ensures.members c.as_slice-pairs.ensures.sound) c.new-made.ensures c.in_ok-push_those.ensures
    (put c.push_those.new.made c.push.new.self c.in_ok-new.field-0 c.args.key.now c.in_ok-clone.field-0 c.args.value.now c.in_ok-push.ensures.ok c.in_ok-new.ensures c.in_ok-clone.ensures.cases)

pub returns : goal.returns
returns c =
    put_together c.args.key.now (json_of c.args.value.now) (map member_of c.as_slice-pairs.result.now) c.new-made.result c.push_those.new.made c.push.new.self c.push_those-2.new.made (rise c.as_slice-pairs.result.now c.args.members.now c.as_slice-pairs.ensures.members c.as_slice-pairs.ensures.sound) c.new-made.ensures c.in_ok-push_those.ensures
    (put c.push_those.new.made c.push.new.self c.in_ok-new.field-0 c.args.key.now c.in_ok-clone.field-0 c.args.value.now c.in_ok-push.ensures.ok c.in_ok-new.ensures c.in_ok-clone.ensures.cases) c.in_ok-push_those-2.ensures
    ∙ ap (with_member c.args.key.now (json_of c.args.value.now)) c.as_slice-pairs.ensures.members
