-- Reading features and their variables one after the other, as a loop does; and what bindings that are read are.
use Rattle.std.proofs.Common.{◌≡◌, ℕ, suc, ◌+◌, ◌<◌, ◌≤◌, Bool, true, false, List as Seq, [], ◌∷◌, ◌++◌, length, get_or, map, drop, Option, Some, None, Result, Ok, Err, IsTrue, refl, sym, ap, ◌∙◌, subst, add-one, drop-cons}
use Rattle.std.specs.Prelude.{◌&&◌, ◌||◌, not, bytes_eq, option_and_then}
use Rattle.std.specs.List.{AllByRecursion}
use Rattle.std.proofs.lemmas.List.{drop_all, map-append}
use Rattle.std.proofs.lemmas.Bool.{or_parts}
use Rattle.sequences.proofs.Alls.{all_push}
use Rattle.json_tree.specs.Json as json
use Rattle.json_tree.specs.Json.{Json, Members, no_members, member, members_of}
use Rattle.json_tree.specs.Tree.{json_of, member_of}
use Rattle.json_tree.specs.declared.tree.Tree.{Tree}
use Rattle.plain_text.specs.Names.{is_name}
use Rattle.recipe_reader.specs.Outcome.{only_if}
use Rattle.enrol_states.specs.Order.{is_in}
use Rattle.enrol_states.proofs.Ordered.{bytes_turned}
use Rattle.pref_bindings.specs.declared.bindings.Binding.{Binding}
use Rattle.pref_bindings.specs.Bindings.{AreBindings, Differ, or_at_fault, preferences_of, with_feature, with_features, with_variable, with_variables}
use Rattle.pref_bindings.proofs.FoundBindings.{in_pushed}

here : (xs : Seq (Seq ℕ × Tree)) (i : ℕ) (x : Seq ℕ × Tree) → i < length xs → x ≡ get_or xs i x → drop i xs ≡ x ∷ drop (i + 1) xs
here xs i x h is = rw add-one (drop-cons xs i x h ∙ ap (λ y. y ∷ drop (suc i) xs) (sym is))

-- ---- the variables of a feature

-- the bindings with those of the members from the i-th on
abbrev pub variables_from : Seq ℕ → Seq Binding → ℕ → Seq (Seq ℕ × Tree) → Option (Seq Binding)
variables_from feature bs i xs = with_variables feature bs (members_of (map member_of (drop i xs)))

variables_step : (feature : Seq ℕ) (bs : Seq Binding) (xs : Seq (Seq ℕ × Tree)) (i : ℕ) (x : Seq ℕ × Tree) → i < length xs → x ≡ get_or xs i x
    → variables_from feature bs i xs ≡ option_and_then (λ more. variables_from feature more (i + 1) xs) (with_variable feature bs x.0 (json_of x.1))
variables_step feature bs xs i x h is = ap (λ ys. with_variables feature bs (members_of (map member_of ys))) (here xs i x h is)

pub variables_turn : (feature : Seq ℕ) (bs more : Seq Binding) (xs : Seq (Seq ℕ × Tree)) (i : ℕ) (x : Seq ℕ × Tree) (all : Option (Seq Binding)) → i < length xs → x ≡ get_or xs i x
    → with_variable feature bs x.0 (json_of x.1) ≡ Some more → variables_from feature bs i xs ≡ all → variables_from feature more (i + 1) xs ≡ all
variables_turn feature bs more xs i x all h is one so_far = sym (variables_step feature bs xs i x h is ∙ ap (option_and_then (λ cs. variables_from feature cs (i + 1) xs)) one) ∙ so_far

pub variables_fail : (feature : Seq ℕ) (bs : Seq Binding) (xs : Seq (Seq ℕ × Tree)) (i : ℕ) (x : Seq ℕ × Tree) (all : Option (Seq Binding)) → i < length xs → x ≡ get_or xs i x
    → with_variable feature bs x.0 (json_of x.1) ≡ None → variables_from feature bs i xs ≡ all → all ≡ None
variables_fail feature bs xs i x all h is one so_far = sym so_far ∙ variables_step feature bs xs i x h is ∙ ap (option_and_then (λ cs. variables_from feature cs (i + 1) xs)) one

pub variables_end : (feature : Seq ℕ) (bs : Seq Binding) (xs : Seq (Seq ℕ × Tree)) (i : ℕ) (all : Option (Seq Binding)) → length xs ≤ i → variables_from feature bs i xs ≡ all → all ≡ Some bs
variables_end feature bs xs i all h so_far = sym so_far ∙ ap (λ ys. with_variables feature bs (members_of (map member_of ys))) (drop_all i xs h)

-- ---- the features

-- the bindings with those of the features from the i-th on
abbrev pub features_from : Seq Binding → ℕ → Seq (Seq ℕ × Tree) → Result (Seq Binding) (Seq ℕ)
features_from bs i xs = with_features bs (members_of (map member_of (drop i xs)))

features_step : (bs : Seq Binding) (xs : Seq (Seq ℕ × Tree)) (i : ℕ) (x : Seq ℕ × Tree) → i < length xs → x ≡ get_or xs i x
    → features_from bs i xs ≡ or_at_fault x.0 (λ more. features_from more (i + 1) xs) (with_feature bs x.0 (json_of x.1))
features_step bs xs i x h is = ap (λ ys. with_features bs (members_of (map member_of ys))) (here xs i x h is)

pub features_turn : (bs more : Seq Binding) (xs : Seq (Seq ℕ × Tree)) (i : ℕ) (x : Seq ℕ × Tree) (all : Result (Seq Binding) (Seq ℕ)) → i < length xs → x ≡ get_or xs i x
    → with_feature bs x.0 (json_of x.1) ≡ Some more → features_from bs i xs ≡ all → features_from more (i + 1) xs ≡ all
features_turn bs more xs i x all h is one so_far = sym (features_step bs xs i x h is ∙ ap (or_at_fault x.0 (λ cs. features_from cs (i + 1) xs)) one) ∙ so_far

pub features_fail : (bs : Seq Binding) (xs : Seq (Seq ℕ × Tree)) (i : ℕ) (x : Seq ℕ × Tree) (all : Result (Seq Binding) (Seq ℕ)) → i < length xs → x ≡ get_or xs i x
    → with_feature bs x.0 (json_of x.1) ≡ None → features_from bs i xs ≡ all → all ≡ Err x.0
features_fail bs xs i x all h is one so_far = sym so_far ∙ features_step bs xs i x h is ∙ ap (or_at_fault x.0 (λ cs. features_from cs (i + 1) xs)) one

pub features_end : (bs : Seq Binding) (xs : Seq (Seq ℕ × Tree)) (i : ℕ) (all : Result (Seq Binding) (Seq ℕ)) → length xs ≤ i → features_from bs i xs ≡ all → all ≡ Ok bs
features_end bs xs i all h so_far = sym so_far ∙ ap (λ ys. with_features bs (members_of (map member_of ys))) (drop_all i xs h)

-- ---- what is read are bindings

differ_pushed : (ts : Seq (Seq ℕ)) (k : Seq ℕ) → Differ ts → is_in ts k ≡ false → Differ (ts ++ k ∷ [])
differ_pushed [] k differ new = (refl, tt)
differ_pushed (t ∷ ts) k differ new =
    (in_pushed t k ts ∙ both (is_in ts t) (bytes_eq k t) differ.0 (turned_false t k (or_parts (bytes_eq t k) (is_in ts k) new).0), differ_pushed ts k differ.1 (or_parts (bytes_eq t k) (is_in ts k) new).1) where
      both : (a b : Bool) → a ≡ false → b ≡ false → (a || b) ≡ false
      both a b h k = ap (λ c. c || b) h ∙ k

      turned_false : (a b : Seq ℕ) → bytes_eq a b ≡ false → bytes_eq b a ≡ false
      turned_false a b h = bytes_turned b a ∙ h

are_pushed : (bs cs : Seq Binding) (b : Binding) (named taken : Bool) → named ≡ is_name b.preference → taken ≡ is_in (preferences_of bs) b.preference → only_if (named && not taken) (bs ++ b ∷ []) ≡ Some cs → AreBindings bs → AreBindings cs
are_pushed bs cs b true false is_named is_new one are =
    let same : bs ++ b ∷ [] ≡ cs = cc in
    subst AreBindings same (record {
      names = all_push (λ c. IsTrue (is_name c.preference)) bs b are.names (sym is_named);
      once = subst Differ (sym (map-append (λ (c : Binding). c.preference) bs (b ∷ []))) (differ_pushed (preferences_of bs) b.preference are.once (sym is_new));
    })
are_pushed bs cs b true true is_named is_new one are = absurd cc
are_pushed bs cs b false taken is_named is_new one are = absurd cc

with_variable_are : (feature : Seq ℕ) (bs cs : Seq Binding) (variable : Seq ℕ) (x : Json) → with_variable feature bs variable x ≡ Some cs → AreBindings bs → AreBindings cs
with_variable_are feature bs cs variable json.null one are = absurd cc
with_variable_are feature bs cs variable (json.truth b) one are = absurd cc
with_variable_are feature bs cs variable (json.whole n) one are = absurd cc
with_variable_are feature bs cs variable json.odd one are = absurd cc
with_variable_are feature bs cs variable (json.text s) one are = are_pushed bs cs (record { feature = feature; variable = variable; preference = s }) (is_name s) (is_in (preferences_of bs) s) refl refl one are
with_variable_are feature bs cs variable (json.list xs) one are = absurd cc
with_variable_are feature bs cs variable (json.object ms) one are = absurd cc

with_variables_are : (feature : Seq ℕ) (bs cs : Seq Binding) (ms : Members) → with_variables feature bs ms ≡ Some cs → AreBindings bs → AreBindings cs
with_variables_are feature bs cs no_members one are = let same : bs ≡ cs = cc in subst AreBindings same are
with_variables_are feature bs cs (member variable x ms) one are = at (with_variable feature bs variable x) refl one (λ more rest are_more. with_variables_are feature more cs ms rest are_more) where
  at : (o : Option (Seq Binding)) → with_variable feature bs variable x ≡ o → option_and_then (λ more. with_variables feature more ms) o ≡ Some cs → ((more : Seq Binding) → with_variables feature more ms ≡ Some cs → AreBindings more → AreBindings cs) → AreBindings cs
  at None e rest again = absurd cc
  at (Some more) e rest again = again more rest (with_variable_are feature bs more variable x e are)

with_feature_are : (bs cs : Seq Binding) (feature : Seq ℕ) (x : Json) → with_feature bs feature x ≡ Some cs → AreBindings bs → AreBindings cs
with_feature_are bs cs feature json.null one are = absurd cc
with_feature_are bs cs feature (json.truth b) one are = absurd cc
with_feature_are bs cs feature (json.whole n) one are = absurd cc
with_feature_are bs cs feature json.odd one are = absurd cc
with_feature_are bs cs feature (json.text s) one are = absurd cc
with_feature_are bs cs feature (json.list xs) one are = absurd cc
with_feature_are bs cs feature (json.object ms) one are = with_variables_are feature bs cs ms one are

with_features_are : (bs cs : Seq Binding) (ms : Members) → with_features bs ms ≡ Ok cs → AreBindings bs → AreBindings cs
with_features_are bs cs no_members one are = let same : bs ≡ cs = cc in subst AreBindings same are
with_features_are bs cs (member feature x ms) one are = at (with_feature bs feature x) refl one (λ more rest are_more. with_features_are more cs ms rest are_more) where
  at : (o : Option (Seq Binding)) → with_feature bs feature x ≡ o → or_at_fault feature (λ more. with_features more ms) o ≡ Ok cs → ((more : Seq Binding) → with_features more ms ≡ Ok cs → AreBindings more → AreBindings cs) → AreBindings cs
  at None e rest again = absurd cc
  at (Some more) e rest again = again more rest (with_feature_are bs more feature x e are)

pub read_are : (cs : Seq Binding) (ms : Members) → with_features [] ms ≡ Ok cs → AreBindings cs
read_are cs ms one = with_features_are [] cs ms one (record { names = tt; once = tt })
