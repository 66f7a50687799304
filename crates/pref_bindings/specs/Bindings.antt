-- Which preferences the variables of features are bound to, and which bindings a tree is.
use Rattle.std.specs.Prelude.{◌≡◌, ℕ, ◌&&◌, not, false, List, [], ◌∷◌, ◌++◌, map, Option, Some, None, Result, Ok, Err, IsTrue, ⊤, bytes_eq, option_and_then}
use Rattle.std.specs.BTreeSet.{contains_by}
use Rattle.std.specs.List.{AllByRecursion, filter}
use Rattle.std.specs.List.Sorted.{IsStrictlySortedBy}
use Rattle.std.specs.Ordering.{ordering_then}
use Rattle.std.specs.declared.cmp.Ordering.{Ordering}
use Rattle.json_tree.specs.Json.{Json, text, object, Members, no_members, member}
use Rattle.plain_text.specs.Names.{is_name}
use Rattle.recipe_reader.specs.Outcome.{only_if}
use Rattle.recipe_reader.specs.Payloads.{slug_cmp}
use Rattle.enrol_states.specs.Order.{is_in}
use Rattle.pref_bindings.specs.declared.bindings.Binding.{Binding}
use Rattle.pref_bindings.specs.declared.bindings.Found.{Found}
use Rattle.pref_bindings.specs.declared.fault.BindingFault.{BindingFault}
use Rattle.pref_bindings.specs.declared.fault.BindingFault.TheVariants as faults

abbrev pub preferences_of : List Binding → List (List ℕ)
preferences_of bs = map (λ b. b.preference) bs

-- each text differs from those after it
abbrev pub Differ : List (List ℕ) → Type 0
Differ [] = ⊤
Differ (t ∷ ts) = (is_in ts t ≡ false) × Differ ts

-- each preference is a name, and none stands twice
pub record AreBindings (bs : List Binding) : Type 0 where
  pub names : AllByRecursion (λ b. IsTrue (is_name b.preference)) bs
  pub once : Differ (preferences_of bs)

-- by feature, and of one feature by variable
abbrev pub binding_cmp : Binding → Binding → Ordering
binding_cmp a b = ordering_then (slug_cmp a.feature b.feature) (slug_cmp a.variable b.variable)

-- in order by feature, and of one feature by variable, so that no variable stands twice
abbrev pub AreByVariable : List Binding → Type 0
AreByVariable bs = IsStrictlySortedBy binding_cmp bs

-- those of a feature
abbrev pub of_feature : List ℕ → List Binding → List Binding
of_feature feature bs = filter (λ b. bytes_eq b.feature feature) bs

-- ---- the bindings that a tree is: an object from features to objects from variables to preferences

-- the bindings with one more, where its preference is a name that no other has
abbrev pub with_binding : List Binding → Binding → Option (List Binding)
with_binding bs b = only_if (is_name b.preference && not (is_in (preferences_of bs) b.preference)) (bs ++ b ∷ [])

-- with a feature's variable, whose preference is a text
abbrev pub with_variable : List ℕ → List Binding → List ℕ → Json → Option (List Binding)
with_variable feature bs variable (text preference) = with_binding bs (record { feature = feature; variable = variable; preference = preference })
with_variable feature bs variable x = None

-- with each of a feature's variables
abbrev pub with_variables : List ℕ → List Binding → Members → Option (List Binding)
with_variables feature bs no_members = Some bs
with_variables feature bs (member variable x ms) = option_and_then (λ more. with_variables feature more ms) (with_variable feature bs variable x)

-- with a feature, which is an object of variables
abbrev pub with_feature : List Binding → List ℕ → Json → Option (List Binding)
with_feature bs feature (object ms) = with_variables feature bs ms
with_feature bs feature x = None

-- the bindings, where there are some, with what follows a feature; else the feature is at fault
abbrev pub or_at_fault : List ℕ → (List Binding → Result (List Binding) (List ℕ)) → Option (List Binding) → Result (List Binding) (List ℕ)
or_at_fault feature follows None = Err feature
or_at_fault feature follows (Some bs) = follows bs

-- with each feature; or the first feature with which there are no bindings
abbrev pub with_features : List Binding → Members → Result (List Binding) (List ℕ)
with_features bs no_members = Ok bs
with_features bs (member feature x ms) = or_at_fault feature (λ more. with_features more ms) (with_feature bs feature x)

-- the bindings of a tree; or the first feature at fault, which is the empty text where the tree is no object
unfoldable pub bindings_of : Json → Result (List Binding) (List ℕ)
bindings_of (object ms) = with_features [] ms
bindings_of x = Err []

-- want of memory is the one free answer
abbrev pub GivesBindings : Result (List Binding) BindingFault → Result (List Binding) (List ℕ) → Type 0
GivesBindings (Ok bs) read = read ≡ Ok bs
GivesBindings (Err (faults.BadBinding feature)) read = read ≡ Err feature
GivesBindings (Err faults.OutOfMemory) read = ⊤

-- ---- the bindings found so far

-- the set has the preferences of the bindings, and no others
abbrev pub HasPreferences : Found → Type 0
HasPreferences f = (name : List ℕ) → contains_by (slug_cmp name) f.preferences ≡ is_in (preferences_of f.bindings) name
