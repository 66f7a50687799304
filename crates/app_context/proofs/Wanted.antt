-- The texts and the custom attributes among the members of an object.
use Rattle.std.proofs.Common.{◌≡◌, ℕ, zero, suc, ◌<◌, Bool, true, false, cond, List, [], ◌∷◌, ◌++◌, map, length, get_or, take, Less, refl, sym, ap, ◌∙◌, append_assoc, arith}
use Rattle.std.specs.Prelude.{filter, not, if◌then◌else◌}
use Rattle.std.proofs.lemmas.List.{map-append, append-nil}
use Rattle.std.proofs.lemmas.List.Elements.{filter-append}
use Rattle.json_tree.specs.Json.{Json, text, members_of, IsAbove, AreSoundMembers}
use Rattle.json_tree.specs.Tree.{json_of, member_of}
use Rattle.json_tree.specs.declared.tree.Tree.{Tree}
use Rattle.json_tree.proofs.Pairs.{below_at}
use Rattle.jexl_value.specs.Meaning.{without_odd}
use Rattle.recipe_reader.specs.Payloads.{slug_cmp}
use Rattle.enrol_states.specs.Order.{AreBelow}
use Rattle.app_context.specs.Named.{names_of, text_where, texts_where}
use Rattle.app_context.specs.Attributes.{custom_attributes, is_table_name}

-- ---- texts

pub texts_join : (test : List ℕ → Bool) (xs ys : List (List ℕ × Tree))
    → texts_where test (members_of (map member_of (xs ++ ys))) ≡ texts_where test (members_of (map member_of xs)) ++ texts_where test (members_of (map member_of ys))
texts_join test [] ys = refl
texts_join test (x ∷ xs) ys =
    ap (λ l. text_where test x.0 (json_of x.1) ++ l) (texts_join test xs ys)
    ∙ sym (append_assoc (text_where test x.0 (json_of x.1)) (texts_where test (members_of (map member_of xs))) (texts_where test (members_of (map member_of ys))))

same_text : (test : List ℕ → Bool) (b : Bool) (name : List ℕ) (x : Json) → b ≡ test name → text_where (λ other. b) name x ≡ text_where test name x
same_text test b name (text s) e = ap (λ d. if d then (name, s) ∷ [] else []) e
same_text test b name x e = refl

-- one member, whose name is known to be wanted or not
pub one_text : (test : List ℕ → Bool) (b : Bool) (m : List ℕ × Tree) → b ≡ test m.0 → text_where (λ other. b) m.0 (json_of m.1) ≡ texts_where test (members_of (map member_of (m ∷ [])))
one_text test b m e = same_text test b m.0 (json_of m.1) e ∙ sym (append-nil (text_where test m.0 (json_of m.1)))

below_one : (test : List ℕ → Bool) (name : List ℕ) (x : Json) (k : List ℕ) (ts : List (List ℕ × List ℕ)) → slug_cmp name k ≡ Less → AreBelow k (names_of ts) → AreBelow k (names_of (text_where test name x ++ ts))
below_one test name (text s) k ts less below =
    elim (test name) as (λ b. AreBelow k (names_of ((if b then (name, s) ∷ [] else []) ++ ts))) [ true ↦ (less, below) | false ↦ below ]
below_one test name x k ts less below = below

-- a name is above those of the texts before it
pub below_texts : (test : List ℕ → Bool) (ps : List (List ℕ × Tree)) (i : ℕ) (d : List ℕ × Tree) → i < length ps → AreSoundMembers (members_of (map member_of ps))
    → AreBelow (get_or ps i d).0 (names_of (texts_where test (members_of (map member_of (take i ps)))))
below_texts test [] i d less sound = absurd (omega arith)
below_texts test (p ∷ ps) zero d less sound = tt
below_texts test (p ∷ ps) (suc i) d less sound =
    below_one test p.0 (json_of p.1) (get_or ps i d).0 (texts_where test (members_of (map member_of (take i ps)))) (below_at json_of p.0 ps i d (omega arith) sound.1) (below_texts test ps i d (omega arith) sound.3)

-- ---- custom attributes

abbrev is_custom : List ℕ × Json → Bool
is_custom m = not (is_table_name m.0)

abbrev custom_value : List ℕ × Json → List ℕ × Json
custom_value m = (m.0, without_odd m.1)

pub custom_join : (xs ys : List (List ℕ × Tree)) → custom_attributes (map member_of (xs ++ ys)) ≡ custom_attributes (map member_of xs) ++ custom_attributes (map member_of ys)
unfolding custom_attributes
custom_join xs ys =
    ap (λ ms. map custom_value (filter is_custom ms)) (map-append member_of xs ys)
    ∙ ap (map custom_value) (filter-append is_custom (map member_of xs) (map member_of ys))
    ∙ map-append custom_value (filter is_custom (map member_of xs)) (filter is_custom (map member_of ys))

pub above_custom : (k : List ℕ) (ms : List (List ℕ × Json)) → IsAbove k ms → IsAbove k (custom_attributes ms)
unfolding custom_attributes
above_custom k [] h = tt
above_custom k (m ∷ ms) h =
    let rest = above_custom k ms h.1 in
    elim (is_table_name m.0) as (λ b. IsAbove k (map custom_value (cond (not b) (m ∷ filter is_custom ms) (filter is_custom ms)))) [ true ↦ rest | false ↦ (h.0, rest) ]
