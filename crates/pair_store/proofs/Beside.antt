-- Two sides, seen from one of them.
use Rattle.std.proofs.Common.{◌≡◌, List, ℕ, refl}
use Rattle.host_model.specs.declared.side.Side.{Side}
use Rattle.host_model.specs.declared.side.Side.TheVariants.{Left, Right}
use Rattle.host_model.specs.Sides.{other, on}

-- what holds of a side and of the other one holds of each
pub both_sides : (P : Side → Type 0) (side : Side) → P side → P (other side) → (s : Side) → P s
both_sides P Left this that Left = this
both_sides P Left this that Right = that
both_sides P Right this that Left = that
both_sides P Right this that Right = this

pub on_other_twice : (side : Side) (l r : List ℕ) → on (other (other side)) l r ≡ on side l r
on_other_twice Left l r = refl
on_other_twice Right l r = refl

-- one of a pair is that of its side
pub on_of : (of : Side → List ℕ) (side : Side) → on side (of Left) (of Right) ≡ of side
on_of of Left = refl
on_of of Right = refl
