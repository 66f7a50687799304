-- Sets of texts, and features that are added to one.
use Rattle.std.proofs.Common.{◌≡◌, ℕ, Bool, true, false, List, cond, not, ◌&&◌, ◌||◌, refl, sym, ap, ◌∙◌, subst}
use Rattle.std.specs.Prelude.{bytes_eq}
use Rattle.std.specs.Borrow.{Bor}
use Rattle.std.specs.BTreeSet.{BTreeSet, Updates}
use Rattle.std.specs.Ordering.{nat_cmp}
use Rattle.std.specs.Cmp.Lexicographic.{slice_cmp, bytes_decides}
use Rattle.std.specs.declared.cmp.Ordering.{Ordering}
use Rattle.std.proofs.lemmas.Map.Text.{is_eq-slice_cmp}
use Rattle.enrol_states.specs.Order.{is_in}
use Rattle.enrol_states.specs.TextSets.{has_text}

abbrev text_cmp : Bor (List ℕ) → Bor (List ℕ) → Ordering
text_cmp x y = slice_cmp nat_cmp x.now y.now

or_cond : (e b : Bool) → cond e true b ≡ (b || e)
or_cond true true = refl
or_cond true false = refl
or_cond false true = refl
or_cond false false = refl

pub has_text-insert : (s n : BTreeSet (Bor (List ℕ))) (key : Bor (List ℕ)) → Updates text_cmp s n key true → (t : List ℕ) → has_text n t ≡ (has_text s t || bytes_eq key.now t)
has_text-insert s n key u t = u.0 (record key { now = t }) ∙ ap (λ e. cond e true (has_text s t)) (is_eq-slice_cmp key.now t) ∙ or_cond (bytes_eq key.now t) (has_text s t)

apart_at : (b : Bool) (ts : List (List ℕ)) (s t : List ℕ) → bytes_eq s t ≡ b → is_in ts s ≡ false → b ≡ (b && not (is_in ts t))
apart_at true ts s t e none =
    let same : s ≡ t = (bytes_decides s t).0 e in
    sym (ap not (subst (λ u. is_in ts u ≡ false) same none))
apart_at false ts s t e none = refl

-- a text that isn't one of the list is none of its texts
pub apart_from : (ts : List (List ℕ)) (s t : List ℕ) → is_in ts s ≡ false → bytes_eq s t ≡ (bytes_eq s t && not (is_in ts t))
apart_from ts s t none = apart_at (bytes_eq s t) ts s t refl none

pub or_none : (h n : Bool) → h ≡ (h || (false && n))
or_none true n = refl
or_none false n = refl

pub one_more : (h a b n : Bool) → ((h || (a && n)) || (b && n)) ≡ (h || ((a || b) && n))
one_more true a b n = refl
one_more false true true true = refl
one_more false true true false = refl
one_more false true false true = refl
one_more false true false false = refl
one_more false false b n = refl

pub or_and : (a b n : Bool) → ((a && n) || (b && n)) ≡ ((a || b) && n)
or_and true true true = refl
or_and true true false = refl
or_and true false true = refl
or_and true false false = refl
or_and false b n = refl

pub and_or : (n a b : Bool) → ((n && a) || (n && b)) ≡ (n && (a || b))
and_or true a b = refl
and_or false a b = refl

pub and_none : (n : Bool) → (n && false) ≡ false
and_none true = refl
and_none false = refl
