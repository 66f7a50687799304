-- The members of an object as pairs.
use Rattle.std.proofs.Common.{◌≡◌, ◌&&◌, ℕ, List, [], ◌∷◌, map, refl, ap}
use Rattle.std.specs.List.{list_all}
use Rattle.json_tree.specs.Json.{Json, members_of}
use Rattle.json_tree.specs.Tree.{json_of, member_of}
use Rattle.json_tree.specs.declared.tree.Tree.{Tree}
use Rattle.app_context.specs.Keys.{is_text, are_texts}
use Rattle.app_context.specs.Contexts.{pairs_of}

pub pairs_of_members : (ms : List (List ℕ × Json)) → pairs_of (members_of ms) ≡ ms
pairs_of_members [] = refl
pairs_of_members (m ∷ ms) = ap (λ l. m ∷ l) (pairs_of_members ms)

pub all_texts_are : (ps : List (List ℕ × Tree)) → list_all (λ (m : List ℕ × Tree). is_text (json_of m.1)) ps ≡ are_texts (members_of (map member_of ps))
all_texts_are [] = refl
all_texts_are (p ∷ ps) = ap (λ b. is_text (json_of p.1) && b) (all_texts_are ps)
