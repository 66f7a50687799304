-- The parts of values and of what is laid over them.
use Rattle.std.proofs.Common.{◌≡◌, ℕ, zero, suc, ◌<◌, Bool, true, false, List as Seq, [], ◌∷◌, length, map as over, get_or, take, Option as Maybe, Some, refl, sym, ap, ◌∙◌, subst, arith}
use Rattle.std.specs.Option.{option_to_list}
use Rattle.std.specs.Prelude.{bytes_eq, if◌then◌else◌}
use Rattle.std.specs.Cmp.Lexicographic.{slice_cmp, bytes_decides}
use Rattle.std.specs.Ordering.{nat_cmp}
use Rattle.std.specs.declared.cmp.Ordering.TheVariants.{Less}
use Rattle.json_tree.specs.Json as json
use Rattle.json_tree.specs.Json.{Json}
use Rattle.json_tree.specs.Tree.{json_of}
use Rattle.json_tree.specs.declared.tree.Tree.{Tree}
use Rattle.fml_types.specs.Named.{IsAbove, IsBelow, AreRising}
use Rattle.fml_types.specs.Shape as shape
use Rattle.fml_types.specs.Shape.{Shape}
use Rattle.fml_types.specs.declared.manifest.Field.{Field}
use Rattle.fml_types.specs.declared.manifest.TypeTable.{TypeTable}
use Rattle.fml_value.specs.Typed.{TypedValue, item, items_of, entries_of}
use Rattle.fml_value.specs.TypedOf.{entry_of}
use Rattle.fml_value.specs.declared.value.Value.{Value}
use Rattle.fml_merge.specs.Overlay.{pairs_of, held, laid, items_laid}
use Rattle.fml_merge.specs.Merging.{inside_laid, named}

pub pairs_kept : (es : Seq (Seq ℕ × TypedValue)) → pairs_of (entries_of es) ≡ es
pairs_kept [] = refl
pairs_kept (e ∷ es) = ap (λ l. e ∷ l) (pairs_kept es)

-- a tree laid over a value of an Option is laid over what that holds
pub option_laid : (zeros : Shape → TypedValue) (types : TypeTable) (t : Shape) (base : TypedValue) (x : Json) → inside_laid zeros types t (held base (zeros t)) x ≡ laid zeros types (shape.option t) base x
option_laid zeros types t base json.null = refl
option_laid zeros types t base (json.truth b) = refl
option_laid zeros types t base (json.whole n) = refl
option_laid zeros types t base json.odd = refl
option_laid zeros types t base (json.text s) = refl
option_laid zeros types t base (json.list xs) = refl
option_laid zeros types t base (json.object ms) = refl

pub laid_items : (zeros : Shape → TypedValue) (types : TypeTable) (t : Shape) (ts : Seq Tree) → items_of (over (λ u. laid zeros types t (zeros t) (json_of u)) ts) ≡ items_laid zeros types t (json.items_of (over json_of ts))
laid_items zeros types t [] = refl
laid_items zeros types t (u ∷ ts) = ap (λ l. item (laid zeros types t (zeros t) (json_of u)) l) (laid_items zeros types t ts)

-- an entry that is taken has the name
pub taken_has : (k : Seq ℕ) (es : Seq (Seq ℕ × TypedValue)) (o : Maybe (Seq ℕ × Value)) (p : Seq ℕ × Value) → over entry_of (option_to_list o) ≡ named k es → o ≡ Some p → p.0 ≡ k
taken_has k [] o p e is = absurd (cc (ap (λ (m : Maybe (Seq ℕ × Value)). over entry_of (option_to_list m)) is))
taken_has k (q ∷ es) o p e is = one (bytes_eq q.0 k) refl (sym (ap (λ (m : Maybe (Seq ℕ × Value)). over entry_of (option_to_list m)) is) ∙ e)
  where
    one : (b : Bool) → bytes_eq q.0 k ≡ b → entry_of p ∷ [] ≡ (if b then q ∷ [] else []) → p.0 ≡ k
    one true same h = (let here : entry_of p ≡ q = cc in ap (λ (r : Seq ℕ × TypedValue). r.0) here) ∙ (bytes_decides q.0 k).0 same
    one false other h = absurd cc

-- ---- names that rise

below_at : {T : Type 0} (k : Seq ℕ) (ps : Seq (Seq ℕ × T)) (i : ℕ) (d : Seq ℕ × T) → i < length ps → IsBelow k ps → slice_cmp nat_cmp k (get_or ps i d).0 ≡ Less
below_at k [] i d h below = absurd (omega arith)
below_at k (p ∷ ps) zero d h below = below.0
below_at k (p ∷ ps) (suc i) d h below = below_at k ps i d (omega arith) below.1

above_at : (v : Seq ℕ × Field → TypedValue) (ps : Seq (Seq ℕ × Field)) (i : ℕ) (d : Seq ℕ × Field) → i < length ps → AreRising ps → IsAbove (get_or ps i d).0 (over (λ f. (f.0, v f)) (take i ps))
above_at v [] i d h rising = absurd (omega arith)
above_at v (p ∷ ps) zero d h rising = tt
above_at v (p ∷ ps) (suc i) d h rising = (below_at p.0 ps i d (omega arith) rising.0, above_at v ps i d (omega arith) rising.1)

-- the name of a field is above those of the fields before it
pub above_before : (v : Seq ℕ × Field → TypedValue) (ps : Seq (Seq ℕ × Field)) (i : ℕ) (p : Seq ℕ × Field) → i < length ps → p ≡ get_or ps i p → AreRising ps → IsAbove p.0 (over (λ f. (f.0, v f)) (take i ps))
above_before v ps i p h is rising = subst (λ (q : Seq ℕ × Field). IsAbove q.0 (over (λ f. (f.0, v f)) (take i ps))) (sym is) (above_at v ps i p h rising)
