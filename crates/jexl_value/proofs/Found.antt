-- A name that got a value.
use Rattle.std.proofs.Common.{◌≡◌, ℕ, List, [], ◌∷◌, Bool, true, false, Some, Less, Equal, Greater, refl, sym, ap, ◌∙◌, subst}
use Rattle.std.proofs.lemmas.Cmp.{tied_itself}
use Rattle.std.specs.Prelude.{bytes_eq, if◌then◌else◌}
use Rattle.std.specs.Cmp.Lexicographic.{slice_cmp, nat_list_cmp_total, texts_ties, bytes_decides}
use Rattle.std.specs.Ordering.{nat_cmp, is_eq}
use Rattle.json_tree.specs.Json.{Json, members_of, get_member}
use Rattle.jexl_value.specs.Names.{beside, with_member}

-- of two tests that never both hold, either may come first
either_first : {X : Type 0} (a b : Bool) (x y rest : X) → (a ≡ true → b ≡ true → ⊥) → (if b then y else (if a then x else rest)) ≡ (if a then x else (if b then y else rest))
either_first true true x y rest apart = absurd (apart refl refl)
either_first true false x y rest apart = refl
either_first false true x y rest apart = refl
either_first false false x y rest apart = refl

-- the second of two tests that agree is never reached
second_hidden : {X : Type 0} (a b : Bool) (x y rest : X) → a ≡ b → (if a then x else rest) ≡ (if a then x else (if b then y else rest))
second_hidden true b x y rest e = refl
second_hidden false true x y rest e = absurd (cc)
second_hidden false false x y rest e = refl

greater≢equal : (name other k : List ℕ) → slice_cmp nat_cmp name other ≡ Greater → bytes_eq name k ≡ true → bytes_eq other k ≡ true → ⊥
greater≢equal name other k greater one two =
    let same : name ≡ other = (bytes_decides name k).0 one ∙ sym ((bytes_decides other k).0 two) in
    let tied : slice_cmp nat_cmp name other ≡ Equal = subst (λ l. slice_cmp nat_cmp name l ≡ Equal) same (tied_itself nat_list_cmp_total name) in
    let no : Greater ≡ Equal = sym greater ∙ tied in
    cc

pub get_member-with : (name : List ℕ) (x : Json) (ms : List (List ℕ × Json)) (k : List ℕ)
    → get_member k (members_of (with_member name x ms)) ≡ (if bytes_eq name k then Some x else get_member k (members_of ms))
get_member-with name x [] k = refl
get_member-with name x (m ∷ ms) k =
    let rest = get_member k (members_of ms) in
    elim (slice_cmp nat_cmp name m.0) as (λ o. slice_cmp nat_cmp name m.0 ≡ o
    → get_member k (members_of (beside o (name, x) m ms (with_member name x ms))) ≡ (if bytes_eq name k then Some x else (if bytes_eq m.0 k then Some m.1 else rest))) [
      | Less ↦ λ e. refl
      | Equal ↦ λ e. second_hidden (bytes_eq name k) (bytes_eq m.0 k) (Some x) (Some m.1) rest (ap (λ n. bytes_eq n k) ((bytes_decides name m.0).0 (texts_ties name m.0 ∙ ap is_eq e)))
      | Greater ↦ λ e. ap (λ r. if bytes_eq m.0 k then Some m.1 else r) (get_member-with name x ms k)
          ∙ either_first (bytes_eq name k) (bytes_eq m.0 k) (Some x) (Some m.1) rest (greater≢equal name m.0 k e)
    ] refl
