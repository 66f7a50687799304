-- A held preference stays as it is through joins, through leaves of other slugs, and while the user sets names that are free.
use Rattle.std.proofs.Common.{Ordering, Less, Equal, Greater, ◌≡◌, ℕ, Bool, true, false, List, [], ◌∷◌, ◌++◌, Option, None, Some, inl, inr, refl, sym, ap, ◌∙◌, subst}
use Rattle.std.specs.Prelude.{bytes_eq, option_map, if◌then◌else◌}
use Rattle.std.specs.Cmp.Lexicographic.{bytes_decides}
use Rattle.std.specs.List.Sorted.{IsStrictlySortedBy}
use Rattle.std.proofs.lemmas.Option.{same_Some}
use Rattle.recipe_reader.specs.Payloads.{slug_cmp}
use Rattle.enrol_states.specs.Order.{Rise, AreAbove}
use Rattle.enrol_states.proofs.Ordered.{same_texts, lesser_texts, above_trans}
use Rattle.pref_bindings.specs.declared.preference.Hold.{Hold}
use Rattle.pref_bindings.specs.declared.preference.Preference.{Preference}
use Rattle.pref_bindings.specs.Preferences.{found, holder_of, names_of}
use Rattle.pref_bindings.specs.Changes.{Setting, is_held, held_by, joined_at, joined_one, holds, left, restored, users_part, with_preference, without_name}
use Rattle.pref_bindings.specs.Laws.{JoinKeepsHeld, LeaveKeepsHeld, SetKeepsHeld}
use Rattle.pref_bindings.proofs.Joins.{joined_name, one_step, stays_held}
use Rattle.pref_bindings.proofs.Parts.{AtMost, restored_most}
use Rattle.pref_bindings.proofs.Places.{found_step, holder_in, with_step, without_step}
use Rattle.pref_bindings.proofs.Sound.{rise_one}

other_bytes : (b : Bool) (xs ys : List ℕ) → bytes_eq xs ys ≡ b → (xs ≡ ys → ⊥) → bytes_eq xs ys ≡ false
other_bytes true xs ys is other = absurd (other ((bytes_decides xs ys).0 is))
other_bytes false xs ys is other = is

-- ---- joins

-- a name below all is below that of the preference
above_at : (b : Bool) (s : List ℕ) (p q : Preference) (ps : List Preference) → bytes_eq q.name p.name ≡ b → slug_cmp s q.name ≡ Less → found p.name (q ∷ ps) ≡ Some p
    → (found p.name ps ≡ Some p → slug_cmp s p.name ≡ Less) → slug_cmp s p.name ≡ Less
above_at true s p q ps e less there rest = subst (λ (t : List ℕ). slug_cmp s t ≡ Less) ((bytes_decides q.name p.name).0 e) less
above_at false s p q ps e less there rest = rest (sym (found_step p.name q ps false e) ∙ there)

above_found : (s : List ℕ) (p : Preference) (ps : List Preference) → AreAbove s (names_of ps) → found p.name ps ≡ Some p → slug_cmp s p.name ≡ Less
above_found s p [] above there = absurd (cc)
above_found s p (q ∷ ps) above there = above_at (bytes_eq q.name p.name) s p q ps refl above.0 there (above_found s p ps above.1)

one_at : (o : Ordering) (b : Bool) (slug : List ℕ) (v : Setting) (p q : Preference) (ps : List Preference) → slug_cmp v.0 q.name ≡ o → bytes_eq q.name p.name ≡ b → AreAbove q.name (names_of ps)
    → is_held p.hold ≡ true → found p.name (q ∷ ps) ≡ Some p → (found p.name ps ≡ Some p → found p.name (joined_one slug v ps) ≡ Some p) → found p.name (joined_one slug v (q ∷ ps)) ≡ Some p
one_at Less b slug v p q ps e is above held there rest =
    let less : slug_cmp v.0 p.name ≡ Less = above_found v.0 p (q ∷ ps) (e, above_trans v.0 q.name (names_of ps) e above) there in
    ap (found p.name) (one_step slug v q ps Less e) ∙ found_step p.name (held_by slug v None) (q ∷ ps) false (lesser_texts v.0 p.name less) ∙ there
one_at Equal true slug v p q ps e is above held there rest =
    let one : q ≡ p = same_Some q p (sym (found_step p.name q ps true is) ∙ there) in
    ap (found p.name) (one_step slug v q ps Equal e) ∙ ap (λ (r : Preference). found p.name (r ∷ ps)) (stays_held slug v q (ap (λ (r : Preference). is_held r.hold) one ∙ held)) ∙ there
one_at Equal false slug v p q ps e is above held there rest =
    let name : (joined_at slug v q).name ≡ q.name = joined_name (is_held q.hold) slug v q (sym (same_texts v.0 q.name e)) ∙ same_texts v.0 q.name e in
    ap (found p.name) (one_step slug v q ps Equal e) ∙ found_step p.name (joined_at slug v q) ps false (ap (λ (t : List ℕ). bytes_eq t p.name) name ∙ is) ∙ sym (found_step p.name q ps false is) ∙ there
one_at Greater true slug v p q ps e is above held there rest =
    ap (found p.name) (one_step slug v q ps Greater e) ∙ found_step p.name q (joined_one slug v ps) true is ∙ sym (found_step p.name q ps true is) ∙ there
one_at Greater false slug v p q ps e is above held there rest =
    ap (found p.name) (one_step slug v q ps Greater e) ∙ found_step p.name q (joined_one slug v ps) false is ∙ rest (sym (found_step p.name q ps false is) ∙ there)

one_kept : (slug : List ℕ) (v : Setting) (p : Preference) (ps : List Preference) → Rise (names_of ps) → is_held p.hold ≡ true → found p.name ps ≡ Some p → found p.name (joined_one slug v ps) ≡ Some p
unfolding IsStrictlySortedBy
one_kept slug v p [] rise held there = absurd (cc)
one_kept slug v p (q ∷ ps) rise held there = one_at (slug_cmp v.0 q.name) (bytes_eq q.name p.name) slug v p q ps refl refl rise.0 held there (one_kept slug v p ps rise.1 held)

pub join_kept : JoinKeepsHeld
join_kept slug [] p ps rise is = is
join_kept slug (v ∷ vs) p ps rise is =
    join_kept slug vs p (joined_one slug v ps) (rise_one slug v ps rise) (record { there = one_kept slug v p ps rise is.held is.there; held = is.held })

-- ---- leaves

-- other names are passed
passed : (wanted name : List ℕ) (l ps : List Preference) → AtMost name l → bytes_eq name wanted ≡ false → found wanted (l ++ ps) ≡ found wanted ps
passed wanted name l ps most other =
    elim most [
      | inl none ↦ ap (λ (k : List Preference). found wanted (k ++ ps)) none
      | inr one ↦ ap (λ (k : List Preference). found wanted (k ++ ps)) one.1 ∙ found_step wanted one.0 ps false (ap (λ (t : List ℕ). bytes_eq t wanted) one.2 ∙ other)
    ]

not_restored : (slug : List ℕ) (q : Preference) → holds slug q.hold ≡ false → restored slug q ≡ q ∷ []
not_restored slug q other = ap (λ (b : Bool). if b then users_part q q.hold else q ∷ []) other

leave_at : (b : Bool) (slug : List ℕ) (p q : Preference) (ps : List Preference) → bytes_eq q.name p.name ≡ b → holds slug p.hold ≡ false → found p.name (q ∷ ps) ≡ Some p
    → (found p.name ps ≡ Some p → found p.name (left slug ps) ≡ Some p) → found p.name (left slug (q ∷ ps)) ≡ Some p
leave_at true slug p q ps is other there rest =
    let one : q ≡ p = same_Some q p (sym (found_step p.name q ps true is) ∙ there) in
    ap (λ (l : List Preference). found p.name (l ++ left slug ps)) (not_restored slug q (ap (λ (r : Preference). holds slug r.hold) one ∙ other))
    ∙ found_step p.name q (left slug ps) true is ∙ ap Some one
leave_at false slug p q ps is other there rest =
    passed p.name q.name (restored slug q) (left slug ps) (restored_most slug q) is ∙ rest (sym (found_step p.name q ps false is) ∙ there)

left_kept : (slug : List ℕ) (p : Preference) (ps : List Preference) → holds slug p.hold ≡ false → found p.name ps ≡ Some p → found p.name (left slug ps) ≡ Some p
left_kept slug p [] other there = absurd (cc)
left_kept slug p (q ∷ ps) other there = leave_at (bytes_eq q.name p.name) slug p q ps refl other there (left_kept slug p ps other)

pub leave_kept : LeaveKeepsHeld
leave_kept slug p ps other is = record { there = left_kept slug p ps other is.there; held = is.held }

-- ---- the user

held_none : (h : Option Hold) → option_map (λ k. k.holder) h ≡ None → is_held h ≡ true → ⊥
held_none None free held = cc
held_none (Some k) free held = cc

-- a free name is another one
apart : (name : List ℕ) (p : Preference) (ps : List Preference) → holder_of name ps ≡ None → is_held p.hold ≡ true → found p.name ps ≡ Some p → bytes_eq name p.name ≡ false
apart name p ps free held there =
    other_bytes (bytes_eq name p.name) name p.name refl
    (λ same. held_none p.hold (sym (ap holder_in (ap (λ (t : List ℕ). found t ps) same ∙ there)) ∙ free) held)

with_at : (o : Ordering) (b : Bool) (q p r : Preference) (ps : List Preference) → slug_cmp q.name r.name ≡ o → bytes_eq r.name p.name ≡ b → bytes_eq q.name p.name ≡ false → found p.name (r ∷ ps) ≡ Some p
    → (found p.name ps ≡ Some p → found p.name (with_preference q ps) ≡ Some p) → found p.name (with_preference q (r ∷ ps)) ≡ Some p
with_at Less b q p r ps e is other there rest = ap (found p.name) (with_step q r ps Less e) ∙ found_step p.name q (r ∷ ps) false other ∙ there
with_at Equal b q p r ps e is other there rest =
    ap (found p.name) (with_step q r ps Equal e) ∙ found_step p.name q ps false other
    ∙ sym (found_step p.name r ps false (ap (λ (t : List ℕ). bytes_eq t p.name) (sym (same_texts q.name r.name e)) ∙ other)) ∙ there
with_at Greater true q p r ps e is other there rest =
    ap (found p.name) (with_step q r ps Greater e) ∙ found_step p.name r (with_preference q ps) true is ∙ sym (found_step p.name r ps true is) ∙ there
with_at Greater false q p r ps e is other there rest =
    ap (found p.name) (with_step q r ps Greater e) ∙ found_step p.name r (with_preference q ps) false is ∙ rest (sym (found_step p.name r ps false is) ∙ there)

with_kept : (q p : Preference) (ps : List Preference) → bytes_eq q.name p.name ≡ false → found p.name ps ≡ Some p → found p.name (with_preference q ps) ≡ Some p
with_kept q p [] other there = absurd (cc)
with_kept q p (r ∷ ps) other there = with_at (slug_cmp q.name r.name) (bytes_eq r.name p.name) q p r ps refl refl other there (with_kept q p ps other)

without_at : (o : Ordering) (b : Bool) (name : List ℕ) (p r : Preference) (ps : List Preference) → slug_cmp name r.name ≡ o → bytes_eq r.name p.name ≡ b → bytes_eq name p.name ≡ false → found p.name (r ∷ ps) ≡ Some p
    → (found p.name ps ≡ Some p → found p.name (without_name name ps) ≡ Some p) → found p.name (without_name name (r ∷ ps)) ≡ Some p
without_at Less b name p r ps e is other there rest = ap (found p.name) (without_step name r ps Less e) ∙ there
without_at Equal b name p r ps e is other there rest =
    ap (found p.name) (without_step name r ps Equal e)
    ∙ sym (found_step p.name r ps false (ap (λ (t : List ℕ). bytes_eq t p.name) (sym (same_texts name r.name e)) ∙ other)) ∙ there
without_at Greater true name p r ps e is other there rest =
    ap (found p.name) (without_step name r ps Greater e) ∙ found_step p.name r (without_name name ps) true is ∙ sym (found_step p.name r ps true is) ∙ there
without_at Greater false name p r ps e is other there rest =
    ap (found p.name) (without_step name r ps Greater e) ∙ found_step p.name r (without_name name ps) false is ∙ rest (sym (found_step p.name r ps false is) ∙ there)

without_kept : (name : List ℕ) (p : Preference) (ps : List Preference) → bytes_eq name p.name ≡ false → found p.name ps ≡ Some p → found p.name (without_name name ps) ≡ Some p
without_kept name p [] other there = absurd (cc)
without_kept name p (r ∷ ps) other there = without_at (slug_cmp name r.name) (bytes_eq r.name p.name) name p r ps refl refl other there (without_kept name p ps other)

pub set_kept : SetKeepsHeld
set_kept name None p ps free is = record { there = without_kept name p ps (apart name p ps free is.held is.there) is.there; held = is.held }
set_kept name (Some v) p ps free is =
    record { there = with_kept (record { name = name; value = v; hold = None }) p ps (apart name p ps free is.held is.there) is.there; held = is.held }
