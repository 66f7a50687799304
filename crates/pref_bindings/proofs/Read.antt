-- What is read of bytes and rows is all that they can encode.
use Rattle.std.proofs.Common.{◌≡◌, ℕ, ◌<◌, List, [], ◌∷◌, ◌++◌, length, get_or, Option, Some, None, Err, refl, sym, ap, ◌∙◌, subst, arith}
use Rattle.std.specs.Prelude.{IsErrOf}
use Rattle.json_tree.specs.Bytes.{tree_of}
use Rattle.json_tree.specs.Tree.{json_of}
use Rattle.json_tree.specs.declared.tree.Tree.{Tree}
use Rattle.row_batches.specs.declared.store_row.StoreRow.{StoreRow}
use Rattle.enrol_states.specs.Statuses.{IsSlug}
use Rattle.pref_bindings.specs.declared.preference.Hold.{Hold}
use Rattle.pref_bindings.specs.declared.preference.Preference.{Preference}
use Rattle.pref_bindings.specs.Preferences.{IsHold, IsPreference, IsValue, IsValueOrNone}
use Rattle.pref_bindings.specs.Reading.{BeginsWith, IsAlone}
use Rattle.pref_bindings.specs.Rows.{before_text, hold_key, hold_row, hold_text, value_key, value_row, value_text}
use Rattle.pref_bindings.proofs.OneList.{cons_head, cons_tail}
use Rattle.pref_bindings.proofs.Values.{same_text_parts, same_tree}

-- an error that is another's
pub err_of : {A B E : Type 0} (x y : E) → IsErrOf {T = A} {E = E} (Err x) y → IsErrOf {T = B} {E = E} (Err x) y
err_of x y is = let same : x ≡ y = cc in ap (λ z. Err z) same

-- ---- values

-- bytes of a tree that is no value are no value's
pub none_of_tree : (t : Tree) (bytes : List ℕ) → tree_of bytes ≡ Some (json_of t) → (IsValue t → ⊥) → (v : Tree) → IsValue v → bytes ≡ value_text v → ⊥
none_of_tree t bytes read none v is text = none (subst IsValue (sym (same_tree v t bytes is text read)) is)

pub none_of_text : (t : Tree) (bytes : List ℕ) → tree_of bytes ≡ Some (json_of t) → (bytes ≡ value_text t → ⊥) → (v : Tree) → IsValue v → bytes ≡ value_text v → ⊥
none_of_text t bytes read none v is text = none (text ∙ ap value_text (sym (same_tree v t bytes is text read)))

-- ---- holds

pub none_of_holder : (bytes holder before : List ℕ) → bytes ≡ length holder ∷ (holder ++ before) → (IsSlug holder → ⊥) → (h : Hold) → IsHold (Some h) → bytes ≡ hold_text h.holder h.before → ⊥
none_of_holder bytes holder before parts none h is text =
    let same = same_text_parts holder h.holder before (before_text h.before) (sym parts ∙ text) in none (subst IsSlug (sym same.0) is.0)

pub none_of_before : (bytes holder before : List ℕ) → bytes ≡ length holder ∷ (holder ++ before) → ((v : Option Tree) → IsValueOrNone v → before ≡ before_text v → ⊥) → (h : Hold) → IsHold (Some h)
    → bytes ≡ hold_text h.holder h.before → ⊥
none_of_before bytes holder before parts none h is text =
    let same = same_text_parts holder h.holder before (before_text h.before) (sym parts ∙ text) in none h.before is.1 same.1

-- the first row has the key of the name's hold, and no hold its value
pub none_held : (name : List ℕ) (holds : List StoreRow) (first : StoreRow) → 0 < length holds → first ≡ get_or holds 0 first → first.key ≡ hold_key name
    → ((h : Hold) → IsHold (Some h) → first.value ≡ hold_text h.holder h.before → ⊥) → (hold : Option Hold) (rest : List StoreRow) → IsHold hold → IsAlone name hold rest
    → holds ≡ hold_row name hold ++ rest → ⊥
none_held name [] first some is key none hold rest is_hold alone same = absurd (omega arith)
none_held name (r ∷ rows) first some is key none None rest is_hold alone same =
    let begins : BeginsWith (hold_key name) (r ∷ rows) = ap (λ (x : StoreRow). x.key) (sym is) ∙ key in
    alone refl (subst (BeginsWith (hold_key name)) same begins)
none_held name (r ∷ rows) first some is key none (Some h) rest is_hold alone same =
    none h is_hold (ap (λ (x : StoreRow). x.value) (is ∙ cons_head same))

-- the first row has another key
pub not_begun : (key : List ℕ) (holds : List StoreRow) (first : StoreRow) → 0 < length holds → first ≡ get_or holds 0 first → (first.key ≡ key → ⊥) → BeginsWith key holds → ⊥
not_begun key [] first some is other begins = begins
not_begun key (r ∷ rows) first some is other begins = other (ap (λ (x : StoreRow). x.key) is ∙ begins)

pub none_begun : (key : List ℕ) (holds : List StoreRow) → length holds ≡ 0 → BeginsWith key holds → ⊥
none_begun key [] none begins = begins
none_begun key (r ∷ rows) none begins = omega arith

-- ---- preferences

pub same_key : (name : List ℕ) (row : StoreRow) (p : Preference) → row.key ≡ value_key name → row ≡ value_row p → p.name ≡ name
same_key name row p key is = let keys : value_key name ≡ value_key p.name = sym key ∙ ap (λ (r : StoreRow). r.key) is in sym (cons_tail keys)

pub none_of_rest : (name : List ℕ) (row : StoreRow) (holds : List StoreRow) → row.key ≡ value_key name
    → ((hold : Option Hold) (rest : List StoreRow) → IsHold hold → IsAlone name hold rest → holds ≡ hold_row name hold ++ rest → ⊥)
    → (p : Preference) (rest : List StoreRow) → IsPreference p → IsAlone p.name p.hold rest → row ≡ value_row p → holds ≡ hold_row p.name p.hold ++ rest → ⊥
none_of_rest name row holds key none p rest is alone same held =
    let names = same_key name row p key same in
    none p.hold rest is.hold (subst (λ n. IsAlone n p.hold rest) names alone) (subst (λ n. holds ≡ hold_row n p.hold ++ rest) names held)
