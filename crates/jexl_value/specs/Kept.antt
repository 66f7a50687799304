-- Which JSON values are values of Jexl.
use Rattle.std.specs.Prelude.{FitsSigned, IsUtf8, ⊤}
use Rattle.std.specs.Int.{w64}
use Rattle.json_tree.specs.Json.{Json, null, truth, whole, odd, text, list, object, Items, no_items, item, Members, no_members, member, IsBelow}

-- no number is odd; each text is UTF-8, each whole number an `i64`, and the names of each object rise
abbrev mutual
  pub IsValue : Json → Type 0
  IsValue null = ⊤
  IsValue (truth b) = ⊤
  IsValue (whole n) = FitsSigned w64 n
  IsValue odd = ⊥
  IsValue (text s) = IsUtf8 s
  IsValue (list xs) = AreValues xs
  IsValue (object ms) = AreNamedValues ms

  pub AreValues : Items → Type 0
  AreValues no_items = ⊤
  AreValues (item x xs) = IsValue x × AreValues xs

  pub AreNamedValues : Members → Type 0
  AreNamedValues no_members = ⊤
  AreNamedValues (member k x ms) = IsUtf8 k × IsBelow k ms × IsValue x × AreNamedValues ms
