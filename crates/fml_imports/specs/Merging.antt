-- Names in order, to which others are added in their order.
use Rattle.std.specs.Prelude.{◌||◌, ℕ, suc, Bool, false, List as Seq, [], ◌∷◌, ⊤, bytes_eq, Result, Ok, Err, if◌then◌else◌}
use Rattle.std.specs.Cmp.Lexicographic.{slice_cmp}
use Rattle.std.specs.Ordering.{nat_cmp, is_lt}
use Rattle.fml_types.specs.Named.{IsAbove, has_name, with_name}
use Rattle.fml_imports.specs.declared.fault.JoinRefusal.{JoinRefusal}
use Rattle.fml_imports.specs.declared.fault.JoinRefusal.TheVariants.{DuplicateName}

-- the pairs with one more, whose name stands neither among them nor among the others
abbrev pub with_new : {T U : Type 0} → Seq (Seq ℕ × U) → Seq (Seq ℕ × T) → Seq ℕ × T → Result (Seq (Seq ℕ × T)) JoinRefusal
with_new others ps p = if has_name p.0 ps || has_name p.0 others then Err (DuplicateName p.0) else Ok (with_name p ps)

-- how many pairs come before the first that isn't below the name
abbrev pub count_below : {T : Type 0} → Seq ℕ → Seq (Seq ℕ × T) → ℕ
count_below name [] = 0
count_below name (p ∷ ps) = if is_lt (slice_cmp nat_cmp p.0 name) then suc (count_below name ps) else 0

-- whether the first pair has the name
abbrev pub is_first : {T : Type 0} → Seq ℕ → Seq (Seq ℕ × T) → Bool
is_first name [] = false
is_first name (p ∷ ps) = bytes_eq p.0 name

-- the first name, where there is one, is above each of these
abbrev pub IsFirstAbove : {T U : Type 0} → Seq (Seq ℕ × T) → Seq (Seq ℕ × U) → Type 0
IsFirstAbove ps [] = ⊤
IsFirstAbove ps (q ∷ qs) = IsAbove q.0 ps
