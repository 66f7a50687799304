-- The preferences that somebody holds, by themselves: their rows, what a leave makes of them, and that the user doesn't change them.
use Rattle.std.proofs.Common.{Ordering, Less, Equal, Greater, ◌≡◌, ℕ, Bool, true, false, cond, List, [], ◌∷◌, ◌++◌, Option, None, Some, refl, sym, ap, ◌∙◌}
use Rattle.std.specs.List.{list_any}
use Rattle.std.specs.Option.{is_some}
use Rattle.std.proofs.lemmas.Bool.{or_parts}
use Rattle.json_tree.specs.declared.tree.Tree.{Tree}
use Rattle.recipe_reader.specs.Payloads.{slug_cmp}
use Rattle.row_batches.specs.declared.store_row.StoreRow.{StoreRow}
use Rattle.pref_bindings.specs.declared.preference.Hold.{Hold}
use Rattle.pref_bindings.specs.declared.preference.Preference.{Preference}
use Rattle.pref_bindings.specs.Changes.{holds, left, with_preference, without_name}
use Rattle.pref_bindings.specs.Held.{held_preferences}
use Rattle.pref_bindings.specs.Laws.{HoldsNone}
use Rattle.pref_bindings.specs.Preferences.{holder_of}
use Rattle.pref_bindings.specs.Rows.{hold_row, hold_rows}
use Rattle.pref_bindings.proofs.Places.{with_step, without_step}
use Rattle.pref_bindings.proofs.UserMaps.{free_behind, free_here, left_none, own}

-- ---- one preference before others

held_first : (p : Preference) (ps : List Preference) (h : Option Hold) → p.hold ≡ h → held_preferences (p ∷ ps) ≡ cond (is_some h) (p ∷ held_preferences ps) (held_preferences ps)
held_first p ps h is = ap (λ (k : Option Hold). cond (is_some k) (p ∷ held_preferences ps) (held_preferences ps)) is

-- ---- their rows

rows_at : (h : Option Hold) (p : Preference) (ps : List Preference) → p.hold ≡ h → hold_rows (held_preferences ps) ≡ hold_rows ps → hold_rows (held_preferences (p ∷ ps)) ≡ hold_rows (p ∷ ps)
rows_at None p ps is rest = ap hold_rows (held_first p ps None is) ∙ rest ∙ sym (ap (λ (k : Option Hold). hold_row p.name k ++ hold_rows ps) is)
rows_at (Some h) p ps is rest = ap hold_rows (held_first p ps (Some h) is) ∙ ap (λ (l : List StoreRow). hold_row p.name p.hold ++ l) rest

-- the others have no row of a hold
pub rows_of_held : (ps : List Preference) → hold_rows (held_preferences ps) ≡ hold_rows ps
rows_of_held [] = refl
rows_of_held (p ∷ ps) = rows_at p.hold p ps refl (rows_of_held ps)

-- ---- leaves

not_held : (slug : List ℕ) (h : Option Hold) → is_some h ≡ false → holds slug h ≡ false
not_held slug None is = refl
not_held slug (Some h) is = absurd (cc)

none_at : (b : Bool) (slug : List ℕ) (p : Preference) (ps : List Preference) → is_some p.hold ≡ b → HoldsNone slug (cond b (p ∷ held_preferences ps) (held_preferences ps))
    → (HoldsNone slug (held_preferences ps) → HoldsNone slug ps) → HoldsNone slug (p ∷ ps)
none_at true slug p ps is none rest = (none.0, rest none.1)
none_at false slug p ps is none rest = (not_held slug p.hold is, rest none)

holds_none : (slug : List ℕ) (ps : List Preference) → HoldsNone slug (held_preferences ps) → HoldsNone slug ps
holds_none slug [] none = none
holds_none slug (p ∷ ps) none = none_at (is_some p.hold) slug p ps refl none (holds_none slug ps)

holds_none_of : (slug : List ℕ) (ps : List Preference) → list_any (λ p. holds slug p.hold) ps ≡ false → HoldsNone slug ps
holds_none_of slug [] none = tt
holds_none_of slug (p ∷ ps) none =
    let others = list_any (λ (q : Preference). holds slug q.hold) ps in
    ((or_parts (holds slug p.hold) others none).0, holds_none_of slug ps (or_parts (holds slug p.hold) others none).1)

-- a leave of a slug that holds none of them changes nothing
pub left_held : (slug : List ℕ) (ps : List Preference) → list_any (λ p. holds slug p.hold) (held_preferences ps) ≡ false → left slug ps ≡ ps
left_held slug ps none = left_none slug ps (holds_none slug ps (holds_none_of slug (held_preferences ps) none))

-- ---- the user

with_at : (o : Ordering) (name : List ℕ) (v : Tree) (p : Preference) (ps : List Preference) → slug_cmp name p.name ≡ o → holder_of name (p ∷ ps) ≡ None
    → (holder_of name ps ≡ None → held_preferences (with_preference (own name v) ps) ≡ held_preferences ps)
    → held_preferences (with_preference (own name v) (p ∷ ps)) ≡ held_preferences (p ∷ ps)
with_at Less name v p ps e free rest = ap held_preferences (with_step (own name v) p ps Less e)
with_at Equal name v p ps e free rest = ap held_preferences (with_step (own name v) p ps Equal e) ∙ sym (held_first p ps None (free_here name p ps e free))
with_at Greater name v p ps e free rest =
    ap held_preferences (with_step (own name v) p ps Greater e) ∙ ap (λ (l : List Preference). cond (is_some p.hold) (p ∷ l) l) (rest (free_behind name p ps e free))

held_with : (name : List ℕ) (v : Tree) (ps : List Preference) → holder_of name ps ≡ None → held_preferences (with_preference (own name v) ps) ≡ held_preferences ps
held_with name v [] free = refl
held_with name v (p ∷ ps) free = with_at (slug_cmp name p.name) name v p ps refl free (held_with name v ps)

without_at : (o : Ordering) (name : List ℕ) (p : Preference) (ps : List Preference) → slug_cmp name p.name ≡ o → holder_of name (p ∷ ps) ≡ None
    → (holder_of name ps ≡ None → held_preferences (without_name name ps) ≡ held_preferences ps) → held_preferences (without_name name (p ∷ ps)) ≡ held_preferences (p ∷ ps)
without_at Less name p ps e free rest = ap held_preferences (without_step name p ps Less e)
without_at Equal name p ps e free rest = ap held_preferences (without_step name p ps Equal e) ∙ sym (held_first p ps None (free_here name p ps e free))
without_at Greater name p ps e free rest =
    ap held_preferences (without_step name p ps Greater e) ∙ ap (λ (l : List Preference). cond (is_some p.hold) (p ∷ l) l) (rest (free_behind name p ps e free))

held_without : (name : List ℕ) (ps : List Preference) → holder_of name ps ≡ None → held_preferences (without_name name ps) ≡ held_preferences ps
held_without name [] free = refl
held_without name (p ∷ ps) free = without_at (slug_cmp name p.name) name p ps refl free (held_without name ps)

-- ---- the same of what a call gives

pub held_with_given : (name : List ℕ) (v : Tree) (q : Preference) (ps held given : List Preference) → q ≡ own name v → holder_of name ps ≡ None → held ≡ held_preferences ps → given ≡ with_preference q ps
    → held ≡ held_preferences given
held_with_given name v q ps held given same free are is =
    are ∙ sym (held_with name v ps free) ∙ ap (λ (x : Preference). held_preferences (with_preference x ps)) (sym same) ∙ ap held_preferences (sym is)

pub held_without_given : (name : List ℕ) (ps held given : List Preference) → holder_of name ps ≡ None → held ≡ held_preferences ps → given ≡ without_name name ps → held ≡ held_preferences given
held_without_given name ps held given free are is = are ∙ sym (held_without name ps free) ∙ ap held_preferences (sym is)
