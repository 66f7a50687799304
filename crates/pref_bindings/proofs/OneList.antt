-- Sound preferences that have one list of rows are one.
use Rattle.std.proofs.Common.{◌≡◌, ℕ, true, false, List, [], ◌∷◌, ◌++◌, Option, Some, None, Less, refl, sym, ap, ap₂, ◌∙◌, subst}
use Rattle.std.specs.List.Sorted.{IsStrictlySortedBy}
use Rattle.sequences.proofs.Texts.{bytes_same}
use Rattle.recipe_reader.specs.Payloads.{slug_cmp}
use Rattle.enrol_states.specs.Order.{AreAbove}
use Rattle.enrol_states.proofs.Ordered.{lesser_texts}
use Rattle.row_batches.specs.declared.store_row.StoreRow.{StoreRow}
use Rattle.pref_bindings.specs.declared.preference.Hold.{Hold}
use Rattle.pref_bindings.specs.declared.preference.Preference.{Preference}
use Rattle.pref_bindings.specs.Preferences.{IsHold, IsPreference, IsSound, names_of}
use Rattle.pref_bindings.specs.Reading.{AreHolds, BeginsWith, IsAlone, IsNoHoldFirst, is_hold}
use Rattle.pref_bindings.specs.Rows.{hold_key, hold_row, hold_rows, hold_text, value_key, value_row, value_rows, value_text}
use Rattle.pref_bindings.specs.Laws.{HasOneListOfRows}
use Rattle.pref_bindings.proofs.Values.{same_values, same_holds}

pub cons_head : {X : Type 0} {x y : X} {xs ys : List X} → x ∷ xs ≡ y ∷ ys → x ≡ y
cons_head same = cc

pub cons_tail : {X : Type 0} {x y : X} {xs ys : List X} → x ∷ xs ≡ y ∷ ys → xs ≡ ys
cons_tail same = cc

-- ---- the rows of holds, and the others

pub same_split : (hs vs ks ws : List StoreRow) → AreHolds hs → IsNoHoldFirst vs → AreHolds ks → IsNoHoldFirst ws → hs ++ vs ≡ ks ++ ws → (hs ≡ ks) × (vs ≡ ws)
same_split [] vs [] ws hs_are vs_are ks_are ws_are same = (refl, same)
same_split [] [] (k ∷ ks) ws hs_are vs_are ks_are ws_are same = absurd (cc)
same_split [] (v ∷ vs) (k ∷ ks) ws hs_are vs_are ks_are ws_are same =
    let head : v ≡ k = cons_head same in
    let two : false ≡ true = sym vs_are ∙ ap is_hold head ∙ ks_are.0 in
    absurd (cc)
same_split (h ∷ hs) vs [] [] hs_are vs_are ks_are ws_are same = absurd (cc)
same_split (h ∷ hs) vs [] (w ∷ ws) hs_are vs_are ks_are ws_are same =
    let head : h ≡ w = cons_head same in
    let two : true ≡ false = sym hs_are.0 ∙ ap is_hold head ∙ ws_are in
    absurd (cc)
same_split (h ∷ hs) vs (k ∷ ks) ws hs_are vs_are ks_are ws_are same =
    let head : h ≡ k = cons_head same in
    let tail : hs ++ vs ≡ ks ++ ws = cons_tail same in
    let rest = same_split hs vs ks ws hs_are.1 vs_are ks_are.1 ws_are tail in
    (ap₂ (λ (x : StoreRow) (xs : List StoreRow). x ∷ xs) head rest.0, rest.1)

one_hold : (name : List ℕ) (h : Option Hold) (rows : List StoreRow) → AreHolds rows → AreHolds (hold_row name h ++ rows)
one_hold name None rows are = are
one_hold name (Some h) rows are = (refl, are)

pub are_holds : (ps : List Preference) → AreHolds (hold_rows ps)
are_holds [] = tt
are_holds (p ∷ ps) = one_hold p.name p.hold (hold_rows ps) (are_holds ps)

pub no_hold : (ps : List Preference) → IsNoHoldFirst (value_rows ps)
no_hold [] = tt
no_hold (p ∷ ps) = refl

-- ---- the first preference

-- no hold of names above one is that name's
not_at : (h : Option Hold) (name : List ℕ) (p : Preference) (ps : List Preference) → slug_cmp name p.name ≡ Less → (BeginsWith (hold_key name) (hold_rows ps) → ⊥)
    → BeginsWith (hold_key name) (hold_row p.name h ++ hold_rows ps) → ⊥
not_at None name p ps less rest begins = rest begins
not_at (Some h) name p ps less rest begins =
    let same : p.name ≡ name = cons_tail begins in
    let less_than_itself : slug_cmp name name ≡ Less = subst (λ t. slug_cmp name t ≡ Less) same less in
    let two : false ≡ true = sym (lesser_texts name name less_than_itself) ∙ bytes_same name in
    cc

not_above : (name : List ℕ) (ps : List Preference) → AreAbove name (names_of ps) → BeginsWith (hold_key name) (hold_rows ps) → ⊥
not_above name [] above = λ begins. begins
not_above name (p ∷ ps) above = not_at p.hold name p ps above.0 (not_above name ps above.1)

pub alone : (p : Preference) (ps : List Preference) → AreAbove p.name (names_of ps) → IsAlone p.name p.hold (hold_rows ps)
alone p ps above none begins = not_above p.name ps above begins

-- a hold of a name and the rows behind it are told apart
pub same_first : (name : List ℕ) (h k : Option Hold) (hs ks : List StoreRow) → IsHold h → IsHold k → IsAlone name h hs → IsAlone name k ks → hold_row name h ++ hs ≡ hold_row name k ++ ks → (h ≡ k) × (hs ≡ ks)
same_first name None None hs ks h_is k_is h_alone k_alone same = (refl, same)
same_first name None (Some k) hs ks h_is k_is h_alone k_alone same = absurd (h_alone refl (subst (BeginsWith (hold_key name)) (sym same) refl))
same_first name (Some h) None hs ks h_is k_is h_alone k_alone same = absurd (k_alone refl (subst (BeginsWith (hold_key name)) same refl))
same_first name (Some h) (Some k) hs ks h_is k_is h_alone k_alone same =
    let text : hold_text h.holder h.before ≡ hold_text k.holder k.before = ap (λ (r : StoreRow). r.value) (cons_head same) in
    (ap Some (same_holds h k h_is k_is text), cons_tail same)

pub same_name : (p q : Preference) → value_row p ≡ value_row q → p.name ≡ q.name
same_name p q same = let keys : value_key p.name ≡ value_key q.name = ap (λ (r : StoreRow). r.key) same in cons_tail keys

pub same_value : (p q : Preference) → IsPreference p → IsPreference q → value_row p ≡ value_row q → p.value ≡ q.value
same_value p q p_is q_is same = let text : value_text p.value ≡ value_text q.value = ap (λ (r : StoreRow). r.value) same in same_values p.value q.value p_is.value q_is.value text

pub same_preference : (p q : Preference) (hs ks : List StoreRow) → IsPreference p → IsPreference q → IsAlone p.name p.hold hs → IsAlone q.name q.hold ks → value_row p ≡ value_row q
    → hold_row p.name p.hold ++ hs ≡ hold_row q.name q.hold ++ ks → (p ≡ q) × (hs ≡ ks)
same_preference p q hs ks p_is q_is p_alone q_alone values holds =
    let name : p.name ≡ q.name = same_name p q values in
    let value : p.value ≡ q.value = same_value p q p_is q_is values in
    let q_here : IsAlone p.name q.hold ks = subst (λ n. IsAlone n q.hold ks) (sym name) q_alone in
    let rows : hold_row p.name p.hold ++ hs ≡ hold_row p.name q.hold ++ ks = subst (λ n. hold_row p.name p.hold ++ hs ≡ hold_row n q.hold ++ ks) (sym name) holds in
    let hold = same_first p.name p.hold q.hold hs ks p_is.hold q_is.hold p_alone q_here rows in
    ((λ i. record { name = name i; value = value i; hold = hold.0 i }), hold.1)

-- ---- the list

same_lists : (ps qs : List Preference) → IsSound ps → IsSound qs → hold_rows ps ≡ hold_rows qs → value_rows ps ≡ value_rows qs → ps ≡ qs
unfolding IsStrictlySortedBy
same_lists [] [] ps_are qs_are holds values = refl
same_lists [] (q ∷ qs) ps_are qs_are holds values = absurd (cc)
same_lists (p ∷ ps) [] ps_are qs_are holds values = absurd (cc)
same_lists (p ∷ ps) (q ∷ qs) ps_are qs_are holds values =
    let head : value_row p ≡ value_row q = cons_head values in
    let tail : value_rows ps ≡ value_rows qs = cons_tail values in
    let first = same_preference p q (hold_rows ps) (hold_rows qs) ps_are.each.0 qs_are.each.0 (alone p ps ps_are.names.0) (alone q qs qs_are.names.0) head holds in
    let rest = same_lists ps qs (record { names = ps_are.names.1; each = ps_are.each.1 }) (record { names = qs_are.names.1; each = qs_are.each.1 }) first.1 tail in
    ap₂ (λ (x : Preference) (xs : List Preference). x ∷ xs) first.0 rest

pub one_list : HasOneListOfRows
one_list ps qs ps_are qs_are same =
    let parts = same_split (hold_rows ps) (value_rows ps) (hold_rows qs) (value_rows qs) (are_holds ps) (no_hold ps) (are_holds qs) (no_hold qs) same in
    same_lists ps qs ps_are qs_are parts.0 parts.1
