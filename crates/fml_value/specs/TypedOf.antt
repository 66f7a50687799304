-- The value that a value of the program is.
use Rattle.std.specs.Prelude.{ℕ, List as Seq}
use Rattle.fml_value.specs.Typed as typed
use Rattle.fml_value.specs.Typed.{TypedValue, items_of, entries_of}
use Rattle.fml_value.specs.declared.value.Value.{Value}
use Rattle.fml_value.specs.declared.value.Value.TheVariants.{Truth, Whole, Text, Absent, Present, List, Map, Variant, Object}

abbrev pub typed_of : Value → TypedValue
typed_of (Truth b) = typed.truth b
typed_of (Whole n) = typed.whole n
typed_of (Text s) = typed.text s
typed_of Absent = typed.absent
typed_of (Present v) = typed.present v
typed_of (List vs) = typed.list (items_of vs)
typed_of (Map es) = typed.map (entries_of es)
typed_of (Variant s) = typed.variant s
typed_of (Object es) = typed.object (entries_of es)

abbrev pub entry_of : Seq ℕ × Value → Seq ℕ × TypedValue
entry_of e = (e.0, typed_of e.1)
