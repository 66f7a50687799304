-- Reading past any number of `!`.
use Rattle.std.proofs.Common.{◌≡◌, ℕ, suc, ◌+◌, ◌-◌, ◌<◌, List, Option, Some, None, refl, sym, ap, ◌∙◌, arith, add-one}
use Rattle.jexl_lexer.specs.declared.token.Sign.TheVariants as signs
use Rattle.jexl_lexer.specs.declared.token.TokenKind.{TokenKind}
use Rattle.jexl_parser.specs.declared.node.TheConstants.{MAX_HEIGHT}
use Rattle.jexl_parser.specs.Seen.{Seen, seen_not}
use Rattle.jexl_parser.specs.Reading.{◌>>=◌, Read, AUnary, APostfix, Reader, after, unary_part, read_of}
use Rattle.jexl_parser.specs.Negations.{nots, read_with_nots}
use Rattle.jexl_parser.proofs.Agree.{read_step}

abbrev R : Reader
R = read_of MAX_HEIGHT

none_more : (r : Read) → r ≡ read_with_nots 0 r
none_more None = refl
none_more (Some x) = refl

-- before the first
pub bangs_begin : (ts : List TokenKind) → read_of MAX_HEIGHT AUnary ts ≡ read_with_nots 0 (read_of MAX_HEIGHT AUnary ts)
bangs_begin ts = none_more (R AUnary ts)

abbrev negated : Read → Read
negated r = r >>= λ a. Some (seen_not MAX_HEIGHT a.0, a.1)

one_more : (n : ℕ) (r : Read) → read_with_nots n (negated r) ≡ read_with_nots (suc n) r
one_more n None = refl
one_more n (Some x) = refl

-- past one more
pub bangs_on : (n : ℕ) (ts us : List TokenKind) (r : Read) → r ≡ read_with_nots n (read_of MAX_HEIGHT AUnary ts) → Some us ≡ after signs.Bang ts → r ≡ read_with_nots (n + 1) (read_of MAX_HEIGHT AUnary us)
bangs_on n ts us r e f =
    let step : R AUnary ts ≡ negated (R AUnary us) = read_step MAX_HEIGHT AUnary ts ∙ ap (λ (o : Option (List TokenKind)). unary_part MAX_HEIGHT R ts o) (sym f) in
    e ∙ ap (read_with_nots n) step ∙ one_more n (R AUnary us) ∙ ap (λ (m : ℕ). read_with_nots m (R AUnary us)) (sym (add-one n))

-- where no more stand
pub bangs_end : (n : ℕ) (ts : List TokenKind) (r : Read) → r ≡ read_with_nots n (read_of MAX_HEIGHT AUnary ts) → None ≡ after signs.Bang ts → r ≡ read_with_nots n (read_of MAX_HEIGHT APostfix ts)
bangs_end n ts r e f =
    let step : R AUnary ts ≡ R APostfix ts = read_step MAX_HEIGHT AUnary ts ∙ ap (λ (o : Option (List TokenKind)). unary_part MAX_HEIGHT R ts o) (sym f) in
    e ∙ ap (read_with_nots n) step

-- the outermost one comes last
pub nots_on : (m k : ℕ) (s t u : Seen) → u ≡ nots m s → 0 < m → k ≡ m - 1 → t ≡ seen_not MAX_HEIGHT s → u ≡ nots k t
nots_on m k s t u e l f g =
    let more : m ≡ suc k = omega arith in
    e ∙ ap (λ (i : ℕ). nots i s) more ∙ ap (nots k) (sym g)

pub nots_end : (m : ℕ) (s u : Seen) → u ≡ nots m s → m ≡ 0 → s ≡ u
nots_end m s u e z = sym (e ∙ ap (λ (i : ℕ). nots i s) z)
