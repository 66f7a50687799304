-- The bindings that are read from an object stand by feature, and of one feature by variable.
use Rattle.std.proofs.Common.{◌≡◌, ℕ, Bool, true, false, List as Seq, [], ◌∷◌, ◌++◌, Option, Some, None, Ok, Less, refl, ap, ◌∙◌, subst}
use Rattle.std.specs.Prelude.{◌&&◌, not, option_and_then, ⊤}
use Rattle.std.specs.Cmp.Lexicographic.{nat_list_cmp_total}
use Rattle.std.specs.List.{AllByRecursion}
use Rattle.std.specs.List.Sorted.{IsStrictlySortedBy}
use Rattle.std.specs.Ordering.{ordering_then}
use Rattle.std.proofs.lemmas.Cmp.{tied_itself}
use Rattle.sequences.proofs.Alls.{all_so, all_push}
use Rattle.json_tree.specs.Json as json
use Rattle.json_tree.specs.Json.{Json, Members, no_members, member, AreSoundMembers, IsBelow, IsSound}
use Rattle.plain_text.specs.Names.{is_name}
use Rattle.recipe_reader.specs.Outcome.{only_if}
use Rattle.recipe_reader.specs.Payloads.{slug_cmp}
use Rattle.enrol_states.specs.Order.{is_in}
use Rattle.pref_bindings.specs.declared.bindings.Binding.{Binding}
use Rattle.pref_bindings.specs.Bindings.{AreByVariable, binding_cmp, or_at_fault, preferences_of, with_feature, with_features, with_variable, with_variables}

-- ---- one variable more

abbrev bound_to : Seq ℕ → Seq ℕ → Seq ℕ → Binding
bound_to feature variable preference = record { feature = feature; variable = variable; preference = preference }

-- a binding is below each that binds one of these variables of a feature
abbrev IsBefore : Seq ℕ → Members → Binding → Type 0
IsBefore feature no_members b = ⊤
IsBefore feature (member v x vs) b = (binding_cmp b (bound_to feature v []) ≡ Less) × IsBefore feature vs b

before_feature : (feature : Seq ℕ) (vs : Members) (b : Binding) → slug_cmp b.feature feature ≡ Less → IsBefore feature vs b
before_feature feature no_members b less = tt
before_feature feature (member v x vs) b less = (ap (λ o. ordering_then o (slug_cmp b.variable v)) less, before_feature feature vs b less)

before_others : (feature variable preference : Seq ℕ) (vs : Members) → IsBelow variable vs → IsBefore feature vs (bound_to feature variable preference)
before_others feature variable preference no_members below = tt
before_others feature variable preference (member v x vs) below =
    (ap (λ o. ordering_then o (slug_cmp variable v)) (tied_itself nat_list_cmp_total feature) ∙ below.0, before_others feature variable preference vs below.1)

pushed : (bs : Seq Binding) (b : Binding) → AreByVariable bs → AllByRecursion (λ c. binding_cmp c b ≡ Less) bs → AreByVariable (bs ++ b ∷ [])
unfolding IsStrictlySortedBy
pushed [] b order below = (tt, tt)
pushed (c ∷ bs) b order below = (all_push (λ x. binding_cmp c x ≡ Less) bs b order.0 below.0, pushed bs b order.1 below.1)

given_if : (b : Bool) (xs cs : Seq Binding) → only_if b xs ≡ Some cs → xs ≡ cs
given_if true xs cs one = cc
given_if false xs cs one = absurd cc

-- what one variable adds
added : (feature : Seq ℕ) (bs cs : Seq Binding) (variable : Seq ℕ) (x : Json) → with_variable feature bs variable x ≡ Some cs → (preference : Seq ℕ) × (bs ++ bound_to feature variable preference ∷ [] ≡ cs)
added feature bs cs variable json.null one = absurd cc
added feature bs cs variable (json.truth b) one = absurd cc
added feature bs cs variable (json.whole n) one = absurd cc
added feature bs cs variable json.odd one = absurd cc
added feature bs cs variable (json.text s) one = (s, given_if (is_name s && not (is_in (preferences_of bs) s)) (bs ++ bound_to feature variable s ∷ []) cs one)
added feature bs cs variable (json.list xs) one = absurd cc
added feature bs cs variable (json.object ms) one = absurd cc

-- ---- the variables of a feature

variables_order : (feature : Seq ℕ) (bs cs : Seq Binding) (vs : Members) → with_variables feature bs vs ≡ Some cs → AreSoundMembers vs → AreByVariable bs → AllByRecursion (IsBefore feature vs) bs → AreByVariable cs
variables_order feature bs cs no_members one sound order before = let same : bs ≡ cs = cc in subst AreByVariable same order
variables_order feature bs cs (member variable x vs) one sound order before =
    at (with_variable feature bs variable x) refl one (λ more rest order_more before_more. variables_order feature more cs vs rest sound.3 order_more before_more) where
      first : AllByRecursion (λ b. binding_cmp b (bound_to feature variable []) ≡ Less) bs
      first = all_so (IsBefore feature (member variable x vs)) (λ b. binding_cmp b (bound_to feature variable []) ≡ Less) bs (λ b both. both.0) before

      others : AllByRecursion (IsBefore feature vs) bs
      others = all_so (IsBefore feature (member variable x vs)) (IsBefore feature vs) bs (λ b both. both.1) before

      at : (o : Option (Seq Binding)) → with_variable feature bs variable x ≡ o → option_and_then (λ more. with_variables feature more vs) o ≡ Some cs
          → ((more : Seq Binding) → with_variables feature more vs ≡ Some cs → AreByVariable more → AllByRecursion (IsBefore feature vs) more → AreByVariable cs) → AreByVariable cs
      at None e rest again = absurd cc
      at (Some more) e rest again =
          let one_more = added feature bs more variable x e in
          let b = bound_to feature variable one_more.0 in
          again more rest (subst AreByVariable one_more.1 (pushed bs b order first))
          (subst (AllByRecursion (IsBefore feature vs)) one_more.1 (all_push (IsBefore feature vs) bs b others (before_others feature variable one_more.0 vs sound.1)))

-- what holds of the feature and of those before holds of each
variables_features : (P : Seq ℕ → Type 0) (feature : Seq ℕ) (bs cs : Seq Binding) (vs : Members) → with_variables feature bs vs ≡ Some cs → P feature → AllByRecursion (λ b. P b.feature) bs → AllByRecursion (λ b. P b.feature) cs
variables_features P feature bs cs no_members one is each = let same : bs ≡ cs = cc in subst (AllByRecursion (λ b. P b.feature)) same each
variables_features P feature bs cs (member variable x vs) one is each =
    at (with_variable feature bs variable x) refl one (λ more rest each_more. variables_features P feature more cs vs rest is each_more) where
      at : (o : Option (Seq Binding)) → with_variable feature bs variable x ≡ o → option_and_then (λ more. with_variables feature more vs) o ≡ Some cs
          → ((more : Seq Binding) → with_variables feature more vs ≡ Some cs → AllByRecursion (λ b. P b.feature) more → AllByRecursion (λ b. P b.feature) cs) → AllByRecursion (λ b. P b.feature) cs
      at None e rest again = absurd cc
      at (Some more) e rest again =
          let one_more = added feature bs more variable x e in
          again more rest (subst (AllByRecursion (λ b. P b.feature)) one_more.1 (all_push (λ b. P b.feature) bs (bound_to feature variable one_more.0) each is))

-- ---- the features

abbrev IsBelowAll : Members → Binding → Type 0
IsBelowAll ms b = IsBelow b.feature ms

record IsAfter (bs : Seq Binding) (ms : Members) : Type 0 where
  order : AreByVariable bs
  below : AllByRecursion (IsBelowAll ms) bs

feature_order : (bs cs : Seq Binding) (feature : Seq ℕ) (x : Json) (ms : Members) → with_feature bs feature x ≡ Some cs → IsSound x → IsBelow feature ms → IsAfter bs (member feature x ms) → IsAfter cs ms
feature_order bs cs feature json.null ms one sound below after = absurd cc
feature_order bs cs feature (json.truth b) ms one sound below after = absurd cc
feature_order bs cs feature (json.whole n) ms one sound below after = absurd cc
feature_order bs cs feature json.odd ms one sound below after = absurd cc
feature_order bs cs feature (json.text s) ms one sound below after = absurd cc
feature_order bs cs feature (json.list xs) ms one sound below after = absurd cc
feature_order bs cs feature (json.object vs) ms one sound below after =
    record {
      order =
          variables_order feature bs cs vs one sound after.order (all_so (IsBelowAll (member feature (json.object vs) ms)) (IsBefore feature vs) bs (λ b both. before_feature feature vs b both.0) after.below);
      below = variables_features (λ f. IsBelow f ms) feature bs cs vs one below (all_so (IsBelowAll (member feature (json.object vs) ms)) (IsBelowAll ms) bs (λ b both. both.1) after.below);
    }

features_order : (bs cs : Seq Binding) (ms : Members) → with_features bs ms ≡ Ok cs → AreSoundMembers ms → IsAfter bs ms → AreByVariable cs
features_order bs cs no_members one sound after = let same : bs ≡ cs = cc in subst AreByVariable same after.order
features_order bs cs (member feature x ms) one sound after = at (with_feature bs feature x) refl one (λ more rest after_more. features_order more cs ms rest sound.3 after_more) where
  at : (o : Option (Seq Binding)) → with_feature bs feature x ≡ o → or_at_fault feature (λ more. with_features more ms) o ≡ Ok cs → ((more : Seq Binding) → with_features more ms ≡ Ok cs → IsAfter more ms → AreByVariable cs) → AreByVariable cs
  at None e rest again = absurd cc
  at (Some more) e rest again = again more rest (feature_order bs more feature x ms e sound.2 sound.1 after)

none_after : (ms : Members) → IsAfter [] ms
unfolding IsStrictlySortedBy
none_after ms = record { order = tt; below = tt }

pub read_order : (cs : Seq Binding) (ms : Members) → with_features [] ms ≡ Ok cs → AreSoundMembers ms → AreByVariable cs
read_order cs ms one sound = features_order [] cs ms one sound (none_after ms)
