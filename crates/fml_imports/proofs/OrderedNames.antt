-- Names that are put in order stay as they are where they are put in order again.
use Rattle.std.proofs.Common.{Ordering, ◌≡◌, ℕ, List, [], ◌∷◌, ◌++◌, Less, Equal, Greater, refl, sym, ap, ◌∙◌, subst, append_assoc, append-nil}
use Rattle.std.specs.Prelude.{⊤}
use Rattle.std.specs.BTreeSet.{insert_key}
use Rattle.std.specs.Cmp.Lexicographic.{slice_cmp}
use Rattle.std.specs.Ordering.{nat_cmp, match_ordering}
use Rattle.std.proofs.lemmas.Cmp.{nat_list_cmp_total}
use Rattle.sequences.proofs.Texts.{turned_down, turned_up}
use Rattle.fml_reader.specs.Features.{in_order}

-- the name is below each of these
abbrev IsUnder : List ℕ → List (List ℕ) → Type 0
IsUnder name [] = ⊤
IsUnder name (n ∷ ns) = (slice_cmp nat_cmp name n ≡ Less) × IsUnder name ns

abbrev IsOver : List ℕ → List (List ℕ) → Type 0
IsOver name [] = ⊤
IsOver name (n ∷ ns) = (slice_cmp nat_cmp n name ≡ Less) × IsOver name ns

abbrev Rise : List (List ℕ) → Type 0
Rise [] = ⊤
Rise (n ∷ ns) = IsUnder n ns × Rise ns

abbrev with : List (List ℕ) → List ℕ → List (List ℕ)
with ns name = insert_key (slice_cmp nat_cmp) ns name

lower : (a b : List ℕ) (ns : List (List ℕ)) → slice_cmp nat_cmp a b ≡ Less → IsUnder b ns → IsUnder a ns
lower a b [] less under = tt
lower a b (n ∷ ns) less under = (nat_list_cmp_total.trans a b n less under.0, lower a b ns less under.1)

under_with : (a name : List ℕ) (ns : List (List ℕ)) → slice_cmp nat_cmp a name ≡ Less → IsUnder a ns → IsUnder a (with ns name)
under_with a name [] less under = (less, tt)
under_with a name (n ∷ ns) less under =
    elim (slice_cmp nat_cmp name n) as (λ o. IsUnder a (match_ordering o (name ∷ n ∷ ns) (n ∷ ns) (n ∷ with ns name))) [
      | Less ↦ (less, under)
      | Equal ↦ under
      | Greater ↦ (under.0, under_with a name ns less under.1)
    ]

rise-with : (name n : List ℕ) (ns : List (List ℕ)) (o : Ordering) → slice_cmp nat_cmp name n ≡ o → Rise (n ∷ ns) → Rise (with ns name) → Rise (match_ordering o (name ∷ n ∷ ns) (n ∷ ns) (n ∷ with ns name))
rise-with name n ns Less e rise rest = ((e, lower name n ns e rise.0), rise)
rise-with name n ns Equal e rise rest = rise
rise-with name n ns Greater e rise rest = (under_with n name ns (turned_down name n e) rise.0, rest)

rise_with : (name : List ℕ) (ns : List (List ℕ)) → Rise ns → Rise (with ns name)
rise_with name [] rise = (tt, tt)
rise_with name (n ∷ ns) rise = rise-with name n ns (slice_cmp nat_cmp name n) refl rise (rise_with name ns rise.1)

order_rises : (names held : List (List ℕ)) → Rise held → Rise (in_order held names)
order_rises [] held rise = rise
order_rises (n ∷ ns) held rise = order_rises ns (with held n) (rise_with n held rise)

at_last : (name : List ℕ) (ns : List (List ℕ)) → IsOver name ns → with ns name ≡ ns ++ name ∷ []
at_last name [] over = refl
at_last name (n ∷ ns) over = ap (λ (o : Ordering). match_ordering o (name ∷ n ∷ ns) (n ∷ ns) (n ∷ with ns name)) (turned_up n name over.0) ∙ ap (λ l. n ∷ l) (at_last name ns over.1)

under_here : (a : List ℕ) (ns : List (List ℕ)) (name : List ℕ) (rest : List (List ℕ)) → IsUnder a (ns ++ name ∷ rest) → slice_cmp nat_cmp a name ≡ Less
under_here a [] name rest under = under.0
under_here a (n ∷ ns) name rest under = under_here a ns name rest under.1

over_before : (ns : List (List ℕ)) (name : List ℕ) (rest : List (List ℕ)) → Rise (ns ++ name ∷ rest) → IsOver name ns
over_before [] name rest rise = tt
over_before (n ∷ ns) name rest rise = (under_here n ns name rest rise.0, over_before ns name rest rise.1)

order_kept : (names held : List (List ℕ)) → Rise (held ++ names) → in_order held names ≡ held ++ names
order_kept [] held rise = sym (append-nil held)
order_kept (n ∷ ns) held rise =
    let joins = append_assoc held (n ∷ []) ns in
    ap (λ l. in_order l ns) (at_last n held (over_before held n ns rise)) ∙ order_kept ns (held ++ n ∷ []) (subst Rise (sym joins) rise) ∙ joins

pub ordered : (names : List (List ℕ)) → in_order [] (in_order [] names) ≡ in_order [] names
ordered names = order_kept (in_order [] names) [] (order_rises names [] tt)
