-- What is laid over a value hangs on the zeros of the types inside its own alone.
use Rattle.std.proofs.Common.{◌≡◌, ℕ, Bool, true, false, List as Seq, Option as Maybe, Some, None, option_map, refl, ap, ap₂, ◌∙◌, subst}
use Rattle.std.specs.Prelude.{unwrap_or, if◌then◌else◌}
use Rattle.json_tree.specs.Json as json
use Rattle.json_tree.specs.Json.{Json}
use Rattle.fml_types.specs.Named.{found}
use Rattle.fml_types.specs.Shape as shape
use Rattle.fml_types.specs.Shape.{Shape}
use Rattle.fml_types.specs.Shapes.{shape_of}
use Rattle.fml_types.specs.declared.manifest.Field.{Field}
use Rattle.fml_types.specs.declared.manifest.ObjectDefinition.{ObjectDefinition}
use Rattle.fml_types.specs.declared.manifest.TypeTable.{TypeTable}
use Rattle.fml_value.specs.Fits.{type_of_field}
use Rattle.fml_value.specs.Kinds.{is_key}
use Rattle.fml_value.specs.Takes.{takes}
use Rattle.fml_value.specs.Typed.{TypedValue, truth, whole, present, list, item}
use Rattle.fml_merge.specs.Overlay.{pairs_in, fields_of, held, inside, text_value, item_type, type_under, value_with, put, with_member, laid, items_laid, members_laid, overlay_with}
use Rattle.fml_merge.proofs.Typing.{IsScope}

module _ (types : TypeTable) (y z : Shape → TypedValue) (P : Shape → Type 0) (scope : IsScope types P) (agree : (t : Shape) → P t → y t ≡ z t) where
  -- ---- the types inside

  item_scoped : (u : Shape) → P u → P (item_type u)
  item_scoped (shape.list t) p = scope.items t p
  item_scoped shape.boolean p = p
  item_scoped shape.int p = p
  item_scoped shape.string p = p
  item_scoped shape.text p = p
  item_scoped shape.image p = p
  item_scoped (shape.option t) p = p
  item_scoped (shape.map k t) p = p
  item_scoped (shape.named n) p = p

  entry_scoped : (t s : Shape) (b : Bool) → P t → (if b then Some t else None) ≡ Some s → P s
  entry_scoped t s true p e = let same : t ≡ s = cc in subst P same p
  entry_scoped t s false p e = absurd cc

  field_scoped : (n name : Seq ℕ) (s : Shape) (o : Maybe ObjectDefinition) → P (shape.named n) → found n types.objects ≡ o → type_of_field (fields_of o) name ≡ Some s → P s
  field_scoped n name s None p is e = absurd cc
  field_scoped n name s (Some o) p is e = one (found name o.fields) refl e
    where
      one : (f : Maybe Field) → found name o.fields ≡ f → option_map (λ (g : Field). shape_of g.field_type) f ≡ Some s → P s
      one None there h = absurd cc
      one (Some f) there h = let same : shape_of f.field_type ≡ s = cc in subst P same (scope.fields n o name f p is there)

  under_scoped : (u : Shape) → P u → (name : Seq ℕ) (s : Shape) → type_under types u name ≡ Some s → P s
  under_scoped (shape.map k t) p name s e = entry_scoped t s (is_key types k name) (scope.entries k t p) e
  under_scoped (shape.named n) p name s e = field_scoped n name s (found n types.objects) p refl e
  under_scoped shape.boolean p name s e = absurd cc
  under_scoped shape.int p name s e = absurd cc
  under_scoped shape.string p name s e = absurd cc
  under_scoped shape.text p name s e = absurd cc
  under_scoped shape.image p name s e = absurd cc
  under_scoped (shape.option t) p name s e = absurd cc
  under_scoped (shape.list t) p name s e = absurd cc

  -- ---- laid values

  inside_agree : (lay over : Shape → TypedValue → TypedValue) → ((u : Shape) (v : TypedValue) → P u → lay u v ≡ over u v) → (t : Shape) (base : TypedValue) → P t → inside y lay t base ≡ inside z over t base
  inside_agree lay over same (shape.option t) base p =
      ap present (inside_agree lay over same t (held base (y t)) (scope.inner t p) ∙ ap (λ w. inside z over t (held base w)) (agree t (scope.inner t p)))
  inside_agree lay over same shape.boolean base p = same shape.boolean base p
  inside_agree lay over same shape.int base p = same shape.int base p
  inside_agree lay over same shape.string base p = same shape.string base p
  inside_agree lay over same shape.text base p = same shape.text base p
  inside_agree lay over same shape.image base p = same shape.image base p
  inside_agree lay over same (shape.list t) base p = same (shape.list t) base p
  inside_agree lay over same (shape.map k t) base p = same (shape.map k t) base p
  inside_agree lay over same (shape.named n) base p = same (shape.named n) base p

  member_agree : (k : Seq ℕ) (x : Json) (es : Seq (Seq ℕ × TypedValue)) → ((u : Shape) (base : TypedValue) → P u → laid y types u base x ≡ laid z types u base x) → (o : Maybe Shape) → ((s : Shape) → o ≡ Some s → P s)
      → with_member y (λ t. takes types t x) (λ t v. laid y types t v x) k o es ≡ with_member z (λ t. takes types t x) (λ t v. laid z types t v x) k o es
  member_agree k x es lay None scoped = refl
  member_agree k x es lay (Some u) scoped =
      let p = scoped u refl in
      ap (λ w. if takes types u x then put k w es else es)
      (lay u (unwrap_or (found k es) (y u)) p ∙ ap (λ w. laid z types u (unwrap_or (found k es) w) x) (agree u p))

  mutual
    pub laid_agree : (x : Json) (t : Shape) (base : TypedValue) → P t → laid y types t base x ≡ laid z types t base x
    laid_agree json.null t base p = refl
    laid_agree (json.truth b) t base p = inside_agree (λ u v. truth b) (λ u v. truth b) (λ u v q. refl) t base p
    laid_agree (json.whole n) t base p = inside_agree (λ u v. whole n) (λ u v. whole n) (λ u v q. refl) t base p
    laid_agree json.odd t base p = refl
    laid_agree (json.text s) t base p = inside_agree (λ u v. text_value u s) (λ u v. text_value u s) (λ u v q. refl) t base p
    laid_agree (json.list xs) t base p =
        inside_agree (λ u v. list (items_laid y types (item_type u) xs)) (λ u v. list (items_laid z types (item_type u) xs)) (λ u v q. ap list (items_agree xs (item_type u) (item_scoped u q))) t base p
    laid_agree (json.object ms) t base p =
        inside_agree (λ u v. value_with u (members_laid y types (type_under types u) (pairs_in v) ms)) (λ u v. value_with u (members_laid z types (type_under types u) (pairs_in v) ms))
        (λ u v q. ap (value_with u) (members_agree ms (type_under types u) (under_scoped u q) (pairs_in v))) t base p

    items_agree : (xs : json.Items) (t : Shape) → P t → items_laid y types t xs ≡ items_laid z types t xs
    items_agree json.no_items t p = refl
    items_agree (json.item x xs) t p = ap₂ item (laid_agree x t (y t) p ∙ ap (λ w. laid z types t w x) (agree t p)) (items_agree xs t p)

    members_agree : (ms : json.Members) (type_of : Seq ℕ → Maybe Shape) → ((name : Seq ℕ) (s : Shape) → type_of name ≡ Some s → P s) → (es : Seq (Seq ℕ × TypedValue)) → members_laid y types type_of es ms ≡ members_laid z types type_of es ms
    members_agree json.no_members type_of scoped es = refl
    members_agree (json.member k x ms) type_of scoped es =
        members_agree ms type_of scoped (with_member y (λ t. takes types t x) (λ t v. laid y types t v x) k (type_of k) es)
        ∙ ap (λ fs. members_laid z types type_of fs ms) (member_agree k x es (λ u base p. laid_agree x u base p) (type_of k) (scoped k))

  pub overlay_agree : (x : Json) (t : Shape) → P t → overlay_with y types t (y t) x ≡ overlay_with z types t (z t) x
  overlay_agree x t p =
      ap (λ w. if takes types t x then w else y t) (laid_agree x t (y t) p) ∙ ap (λ w. if takes types t x then laid z types t w x else w) (agree t p)
