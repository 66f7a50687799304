-- Parts from their pieces.
use Rattle.std.proofs.Common.{◌≡◌, ℕ, ◌-◌, Bool, true, false, cond, List, length, Option, Some, None, Bor, refl, ap, ◌∙◌}
use Rattle.std.specs.Prelude.{ℤ, pos, ◌+ℤ◌, take, codes}
use Rattle.std.specs.Option.{option_copied}
use Rattle.std.specs.Ordering.{ordering_then, nat_cmp}
use Rattle.std.specs.Cmp.Lexicographic.{slice_cmp}
use Rattle.std.specs.declared.cmp.Ordering.{Ordering}
use Rattle.std.specs.declared.cmp.Ordering.TheVariants.{Less, Equal, Greater}
use Rattle.sequences.specs.Runs.{run}
use Rattle.version_compare.specs.Bytes.{is_string_byte}
use Rattle.version_compare.specs.Versions.{Part, finite_part, infinite_part, is_plus_in_front, is_star, missing_last, number_in_front, part_of, part_of_pieces, part_with_string, raised_part, string_cmp}
use Rattle.version_compare.proofs.RunLaws.{taken}

abbrev pub pieces : Option ℤ → Option (List ℕ) → ℤ → Option (List ℕ) → Part
pieces a b c d = record { number_a = a; string_b = b; number_c = c; string_d = d }

abbrev pub number_before : ℤ → List ℕ → ℤ × List ℕ
number_before n rest = (n, rest)

pub star_part : (bs : List ℕ) → true ≡ is_star bs → pieces None None (pos 0) None ≡ part_of bs
star_part bs e = ap (λ (t : Bool). cond t infinite_part (finite_part (number_in_front bs))) e

finite_is : (bs : List ℕ) (x : ℤ × List ℕ) → false ≡ is_star bs → x ≡ number_in_front bs → finite_part x ≡ part_of bs
finite_is bs x e f = ap finite_part f ∙ ap (λ (t : Bool). cond t infinite_part (finite_part (number_in_front bs))) e

pub plus_part : (bs rest : List ℕ) (n : ℤ) → false ≡ is_star bs → number_before n rest ≡ number_in_front bs → true ≡ is_plus_in_front rest → pieces (Some (n +ℤ pos 1)) (Some (codes "pre")) (pos 0) None ≡ part_of bs
plus_part bs rest n e f g =
    ap (λ (t : Bool). cond t (raised_part n) (part_with_string n (run is_string_byte rest))) g ∙ finite_is bs (number_before n rest) e f

pub string_part : (rest after string tail : List ℕ) (n m : ℤ) (p : Part) → p ≡ part_of_pieces n string (number_before m tail) → after ≡ (run is_string_byte rest).1 → string ≡ take (length rest - length after) rest → number_before m tail ≡ number_in_front after → p ≡ part_with_string n (run is_string_byte rest)
string_part rest after string tail n m p made ending front number =
    made ∙ ap (λ (w : List ℕ). part_of_pieces n w (number_before m tail)) (front ∙ taken is_string_byte rest after ending)
    ∙ ap (part_of_pieces n (run is_string_byte rest).0) (number ∙ ap number_in_front ending)

pub plain_part : (bs rest : List ℕ) (n : ℤ) (p : Part) → false ≡ is_star bs → number_before n rest ≡ number_in_front bs → false ≡ is_plus_in_front rest → p ≡ part_with_string n (run is_string_byte rest) → p ≡ part_of bs
plain_part bs rest n p e f g h = h ∙ ap (λ (t : Bool). cond t (raised_part n) (part_with_string n (run is_string_byte rest))) g ∙ finite_is bs (number_before n rest) e f

-- the order of two strings in memory is that of their bytes
pub string_cmp_seen : (x y : Option (Bor (List ℕ))) (o : Ordering) → o ≡ missing_last (λ s t. slice_cmp nat_cmp s.now t.now) x y → o ≡ string_cmp (option_copied x) (option_copied y)
string_cmp_seen None None o e = e
string_cmp_seen None (Some t) o e = e
string_cmp_seen (Some s) None o e = e
string_cmp_seen (Some s) (Some t) o e = e

pub then_assoc : (o p q : Ordering) → ordering_then (ordering_then o p) q ≡ ordering_then o (ordering_then p q)
then_assoc Less p q = refl
then_assoc Equal p q = refl
then_assoc Greater p q = refl
