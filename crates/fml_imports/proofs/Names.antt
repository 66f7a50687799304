-- How names compare, and where one stands.
use Rattle.std.proofs.Common.{◌≡◌, ℕ, Bool, true, false, List, [], ◌∷◌, Option, Some, None, refl, sym, ◌∙◌}
use Rattle.std.specs.Prelude.{◌||◌, bytes_eq, is_some, option_map, suc, if◌then◌else◌}
use Rattle.std.proofs.lemmas.Map.Text.{is_eq-slice_cmp}
use Rattle.sequences.proofs.Texts.{is_eq-turned}
use Rattle.fml_types.specs.Named.{has_name, place}

pub turned : (a b : List ℕ) → bytes_eq a b ≡ bytes_eq b a
turned a b = sym (is_eq-slice_cmp a b) ∙ is_eq-turned a b

-- ---- where a name stands

is-placed : (b : Bool) (o : Option ℕ) (h : Bool) → is_some o ≡ h → is_some (if b then Some 0 else option_map suc o) ≡ (b || h)
is-placed true o h e = refl
is-placed false None h e = e
is-placed false (Some n) h e = e

pub placed : {T : Type 0} (name : List ℕ) (ps : List (List ℕ × T)) → is_some (place name ps) ≡ has_name name ps
placed name [] = refl
placed name (p ∷ ps) = is-placed (bytes_eq p.0 name) (place name ps) (has_name name ps) (placed name ps)
