-- The first default that doesn't fit, one more at a time.
use Rattle.std.proofs.Common.{◌≡◌, ℕ, suc, ◌+◌, ◌<◌, Bool, true, false, List, ◌∷◌, length, get_or, drop, Option, None, Some, sym, ap, ◌∙◌, add-one, drop-cons}
use Rattle.std.specs.Option.{option_or}
use Rattle.std.specs.Prelude.{option_map, if◌then◌else◌}
use Rattle.json_tree.specs.Tree.{json_of}
use Rattle.fml_types.specs.Shapes.{shape_of}
use Rattle.fml_types.specs.declared.manifest.DefaultEntry.{DefaultEntry}
use Rattle.fml_types.specs.declared.manifest.Field.{Field}
use Rattle.fml_types.specs.declared.manifest.TypeTable.{TypeTable}
use Rattle.fml_merge.specs.Faults.{default_fits, bad_field, entry_fits, bad_entry, first_owner}

drop_next : {A : Type 0} (xs : List A) (i : ℕ) (x : A) → i < length xs → x ≡ get_or xs i x → drop i xs ≡ x ∷ drop (i + 1) xs
drop_next xs i x h is = drop-cons xs i x h ∙ ap (λ y. y ∷ drop (suc i) xs) (sym is) ∙ ap (λ n. x ∷ drop n xs) (sym (add-one i))

-- ---- a field, of which it is known whether its default fits

module _ (types : TypeTable) (fs : List (List ℕ × Field)) (i : ℕ) (f : List ℕ × Field) (b : Bool) (h : i < length fs) (is : f ≡ get_or fs i f) (e : b ≡ default_fits types (shape_of f.1.field_type) f.1.default) where
  field_turn : bad_field types (drop i fs) ≡ (if b then bad_field types (drop (i + 1) fs) else Some f.0)
  field_turn = ap (bad_field types) (drop_next fs i f h is) ∙ ap (λ c. if c then bad_field types (drop (i + 1) fs) else Some f.0) (sym e)

  pub field_next : b ≡ true → bad_field types (drop (i + 1) fs) ≡ bad_field types (drop i fs)
  field_next fits = sym (field_turn ∙ ap (λ c. if c then bad_field types (drop (i + 1) fs) else Some f.0) fits)

  pub field_first : b ≡ false → Some f.0 ≡ bad_field types (drop i fs)
  field_first bad = sym (field_turn ∙ ap (λ c. if c then bad_field types (drop (i + 1) fs) else Some f.0) bad)

-- ---- an entry, of which it is known whether it fits

module _ (types : TypeTable) (vs : List (List ℕ × Field)) (es : List DefaultEntry) (i : ℕ) (d : DefaultEntry) (b : Bool) (h : i < length es) (is : d ≡ get_or es i d) (e : b ≡ entry_fits types vs (json_of d.value)) where
  entry_turn : bad_entry types vs i (drop i es) ≡ (if b then bad_entry types vs (i + 1) (drop (i + 1) es) else Some i)
  entry_turn =
      ap (bad_entry types vs i) (drop_next es i d h is) ∙ ap (λ c. if c then bad_entry types vs (suc i) (drop (i + 1) es) else Some i) (sym e)
      ∙ ap (λ n. if b then bad_entry types vs n (drop (i + 1) es) else Some i) (sym (add-one i))

  pub entry_next : b ≡ true → bad_entry types vs (i + 1) (drop (i + 1) es) ≡ bad_entry types vs i (drop i es)
  entry_next fits = sym (entry_turn ∙ ap (λ c. if c then bad_entry types vs (i + 1) (drop (i + 1) es) else Some i) fits)

  pub entry_first : b ≡ false → Some i ≡ bad_entry types vs i (drop i es)
  entry_first bad = sym (entry_turn ∙ ap (λ c. if c then bad_entry types vs (i + 1) (drop (i + 1) es) else Some i) bad)

-- ---- an object or a feature, of which the place of the first is known

module _ {T : Type 0} (bad_in : T → Option (List ℕ)) (ps : List (List ℕ × T)) (i : ℕ) (p : List ℕ × T) (o : Option (List ℕ)) (h : i < length ps) (is : p ≡ get_or ps i p) (e : o ≡ bad_in p.1) where
  owner_turn : first_owner bad_in (drop i ps) ≡ option_or (option_map (λ place. (p.0, place)) o) (first_owner bad_in (drop (i + 1) ps))
  owner_turn = ap (first_owner bad_in) (drop_next ps i p h is) ∙ ap (λ q. option_or (option_map (λ place. (p.0, place)) q) (first_owner bad_in (drop (i + 1) ps))) (sym e)

  pub owner_next : o ≡ None → first_owner bad_in (drop (i + 1) ps) ≡ first_owner bad_in (drop i ps)
  owner_next none = sym (owner_turn ∙ ap (λ q. option_or (option_map (λ place. (p.0, place)) q) (first_owner bad_in (drop (i + 1) ps))) none)

  pub owner_first : (place : List ℕ) → o ≡ Some place → Some (p.0, place) ≡ first_owner bad_in (drop i ps)
  owner_first place bad = sym (owner_turn ∙ ap (λ q. option_or (option_map (λ place. (p.0, place)) q) (first_owner bad_in (drop (i + 1) ps))) bad)
