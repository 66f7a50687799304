-- When values and holds have one text.
use Rattle.std.proofs.Common.{◌≡◌, ◌++◌, ◌∷◌, List, ℕ, Bool, Option, Some, None, IsTrue, length, refl, sym, ap, ap₂}
use Rattle.std.specs.Prelude.{◌↔◌}
use Rattle.std.specs.Option.{option_eq}
use Rattle.json_tree.specs.Equal.{json_eq}
use Rattle.json_tree.specs.Equals.{trees-Decide}
use Rattle.json_tree.specs.Tree.{json_of}
use Rattle.json_tree.specs.declared.tree.Tree.{Tree}
use Rattle.pref_bindings.specs.Preferences.{IsValue, IsValueOrNone}
use Rattle.pref_bindings.specs.Rows.{before_text, hold_text, value_text}
use Rattle.pref_bindings.proofs.Values.{same_text_parts, same_values, some_text}

pub values_told : (v w : Tree) → IsValue v → IsValue w → IsTrue (json_eq (json_of v) (json_of w)) ↔ (value_text v ≡ value_text w)
values_told v w v_is w_is = (λ is. ap value_text ((trees-Decide v w).0 is), λ same. (trees-Decide v w).1 (same_values v w v_is w_is same))

pub before_told : (v w : Option Tree) → IsValueOrNone v → IsValueOrNone w → IsTrue (option_eq (λ s t. json_eq (json_of s) (json_of t)) v w) ↔ (before_text v ≡ before_text w)
before_told None None v_is w_is = (λ is. refl, λ same. refl)
before_told None (Some w) v_is w_is = (λ is. absurd cc, λ same. absurd (some_text w w_is (sym same)))
before_told (Some v) None v_is w_is = (λ is. absurd cc, λ same. absurd (some_text v v_is same))
before_told (Some v) (Some w) v_is w_is = values_told v w v_is w_is

-- holds of one holder are told apart by what was before
pub holds_told : (b : Bool) (h k : List ℕ) (v w : Option Tree) → h ≡ k → IsTrue b ↔ (before_text v ≡ before_text w) → IsTrue b ↔ (hold_text h v ≡ hold_text k w)
holds_told b h k v w same told =
    (λ is. ap₂ (λ (s : List ℕ) (t : List ℕ). hold_of s t) same (told.0 is), λ texts. told.1 (same_text_parts h k (before_text v) (before_text w) texts).1)
  where
    hold_of : List ℕ → List ℕ → List ℕ
    hold_of s t = length s ∷ (s ++ t)
