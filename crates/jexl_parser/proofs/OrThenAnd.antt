-- The tree of `a || b && c`.
use Rattle.std.proofs.Common.{List, ◌∷◌, ◌++◌, refl, subst, append_assoc}
use Rattle.jexl_lexer.specs.declared.token.TokenKind.{TokenKind}
use Rattle.jexl_lexer.specs.declared.token.Sign.TheVariants as signs
use Rattle.jexl_parser.specs.declared.node.BinarySign.TheVariants as binary
use Rattle.jexl_parser.specs.Tree.{Tree, Binary}
use Rattle.jexl_parser.specs.Grammar.{Expr, Level, Spells, plain, operation, tighter, sign}
use Rattle.jexl_parser.specs.Laws.{AndOrFromTheLeft}
use Rattle.jexl_parser.proofs.OneTree.{one_spelled}

pub and_or_from_the_left : AndOrFromTheLeft
and_or_from_the_left us vs ws a b c first second third =
    let tree : Tree = Binary binary.And (Binary binary.Or a b) c in
    let left : Spells (Level 1) (us ++ (sign signs.Or ∷ vs)) (Binary binary.Or a b) = operation (sign signs.Or) binary.Or refl (tighter first) second in
    let whole : Spells Expr ((us ++ (sign signs.Or ∷ vs)) ++ (sign signs.And ∷ ws)) tree = plain (operation (sign signs.And) binary.And refl left third) in
    let spelled : Spells Expr (us ++ (sign signs.Or ∷ (vs ++ (sign signs.And ∷ ws)))) tree = subst (λ (ts : List TokenKind). Spells Expr ts tree) (append_assoc us (sign signs.Or ∷ vs) (sign signs.And ∷ ws)) whole in
    record { spelled = spelled; only = λ t other. one_spelled _ t tree other spelled }
