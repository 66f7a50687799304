-- A tree is kept where its height is small enough.
use Rattle.std.proofs.Common.{◌≡◌, ◌<◌, ◌≤◌, Bool, cond, Some, None, ap}
use Rattle.std.proofs.lemmas.Bool.{le-leb}
use Rattle.jexl_parser.specs.declared.node.TheConstants.{MAX_HEIGHT}
use Rattle.jexl_parser.specs.Tree.{Tree, height}
use Rattle.jexl_parser.specs.Seen.{fit}
use Rattle.jexl_parser.proofs.Seen.{fit_none}

pub too_tall : (t : Tree) → MAX_HEIGHT < height t → fit MAX_HEIGHT t ≡ None
too_tall t h = fit_none MAX_HEIGHT t h

pub low_enough : (t : Tree) → height t ≤ MAX_HEIGHT → fit MAX_HEIGHT t ≡ Some t
low_enough t h = ap (λ (b : Bool). cond b (Some t) None) (le-leb (height t) MAX_HEIGHT h)
