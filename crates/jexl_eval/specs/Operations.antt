-- What an operator makes of two values.
use Rattle.std.specs.Prelude.{ℤ, Bool, true, false, not, ◌++◌, Option, Some, None, Result, Ok, Err, if◌then◌else◌}
use Rattle.std.specs.declared.cmp.Ordering.{Ordering}
use Rattle.std.specs.declared.cmp.Ordering.TheVariants as orders
use Rattle.json_tree.specs.Json.{Json, null, truth, whole, text, list, Items, no_items}
use Rattle.json_tree.specs.Equal.{json_eq}
use Rattle.jexl_parser.specs.declared.node.BinarySign.{BinarySign}
use Rattle.jexl_parser.specs.declared.node.BinarySign.TheVariants as signs
use Rattle.jexl_value.specs.Meaning.{is_truthy, order_of}
use Rattle.jexl_eval.specs.Faults.{Fault, Kind, ◌>>=◌}
use Rattle.jexl_eval.specs.Numbers.{sum, difference, product, quotient, remainder, power}
use Rattle.jexl_eval.specs.Elements.{is_inside}

-- the truth that the left side decides alone
abbrev pub decided : BinarySign → Json → Option Bool
decided signs.And x = if is_truthy x then None else Some false
decided signs.Or x = if is_truthy x then Some true else None
decided _ x = None

abbrev pub is_less : Option Ordering → Bool
is_less (Some orders.Less) = true
is_less _ = false

abbrev pub is_at_most : Option Ordering → Bool
is_at_most (Some orders.Less) = true
is_at_most (Some orders.Equal) = true
is_at_most _ = false

-- the operators on whole numbers
abbrev pub calculated : BinarySign → ℤ → ℤ → Result ℤ Fault
calculated signs.Plus m n = sum m n
calculated signs.Minus m n = difference m n
calculated signs.Times m n = product m n
calculated signs.FloorDiv m n = quotient m n
calculated signs.Percent m n = remainder m n
calculated signs.Power m n = power m n
calculated _ m n = Err Kind

abbrev pub of_wholes : BinarySign → Json → Json → Result Json Fault
of_wholes o (whole m) (whole n) = calculated o m n >>= λ r. Ok (whole r)
of_wholes o x y = Err Kind

-- the sum of two whole numbers, or two texts joined
abbrev pub plus : Json → Json → Result Json Fault
plus (text s) (text t) = Ok (text (s ++ t))
plus x y = of_wholes signs.Plus x y

-- `&&` and `||` come here where the left side doesn't decide
abbrev pub operate : BinarySign → Json → Json → Result Json Fault
operate signs.And x y = Ok (truth (is_truthy y))
operate signs.Or x y = Ok (truth (is_truthy y))
operate signs.Equal x y = Ok (truth (json_eq x y))
operate signs.NotEqual x y = Ok (truth (not (json_eq x y)))
operate signs.Less x y = Ok (truth (is_less (order_of x y)))
operate signs.AtMost x y = Ok (truth (is_at_most (order_of x y)))
operate signs.Greater x y = Ok (truth (is_less (order_of y x)))
operate signs.AtLeast x y = Ok (truth (is_at_most (order_of y x)))
operate signs.Inside x y = Ok (truth (is_inside x y))
operate signs.Plus x y = plus x y
operate signs.Minus x y = of_wholes signs.Minus x y
operate signs.Times x y = of_wholes signs.Times x y
operate signs.FloorDiv x y = of_wholes signs.FloorDiv x y
operate signs.Percent x y = of_wholes signs.Percent x y
operate signs.Power x y = of_wholes signs.Power x y

-- the items that a filter goes over
abbrev pub filter_items : Json → Result Items Fault
filter_items (list xs) = Ok xs
filter_items null = Ok no_items
filter_items x = Err Kind
