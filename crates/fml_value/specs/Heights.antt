-- Each value is less high than what holds it.
use Rattle.std.specs.Prelude.{ℕ, ◌≤◌, max, List as Seq, [], ◌∷◌, map}
use Rattle.std.proofs.Common.{arith}
use Rattle.fml_value.specs.Typed.{items_of, entries_of, height, items_height, entries_height}
use Rattle.fml_value.specs.TypedOf.{typed_of, entry_of}
use Rattle.fml_value.specs.declared.value.Value.{Value}
use Rattle.fml_value.specs.declared.value.Value.TheVariants.{Truth, Whole, Text, Absent, Present, List, Map, Variant, Object}
use Rattle.fml_value.specs.declared.value.Entries.TheDeep.{deep-Value, deep-Entries}
use Rattle.fml_value.specs.declared.value.Entries.TheInside.{Inside}
use denote.Param.Weighed.{most}

pub value_weight-le-height : (v : Value) → deep-Value v ≤ height (typed_of v)
value_weight-le-height (Truth b) = omega arith
value_weight-le-height (Whole n) = omega arith
value_weight-le-height (Text s) = omega arith
value_weight-le-height Absent = omega arith
value_weight-le-height (Present v) = omega arith
value_weight-le-height (List vs) = omega arith
value_weight-le-height (Map es) = omega arith
value_weight-le-height (Variant s) = omega arith
value_weight-le-height (Object es) = omega arith

pub items_weight-le-height : (vs : Seq Value) → most deep-Value vs ≤ items_height (items_of (map typed_of vs))
items_weight-le-height [] = omega arith
items_weight-le-height (v ∷ vs) = omega (arith, value_weight-le-height v, items_weight-le-height vs)

entries_weight-le-height : (weight : Seq ℕ × Value → ℕ) → ((e : Seq ℕ × Value) → weight e ≤ height (typed_of e.1)) → (es : Seq (Seq ℕ × Value)) → max (most weight es) 0 ≤ entries_height (entries_of (map entry_of es))
entries_weight-le-height weight h [] = omega arith
entries_weight-le-height weight h (e ∷ es) = omega (arith, h e, entries_weight-le-height weight h es)

pub deep_entries-le-height : (a : Inside) → deep-Entries a ≤ entries_height (entries_of (map entry_of a.pairs.items))
deep_entries-le-height a = entries_weight-le-height _ (λ e. omega (arith, value_weight-le-height e.1)) a.pairs.items
