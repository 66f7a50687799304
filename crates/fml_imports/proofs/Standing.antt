-- The files by name, as the loop over them goes on from the last to the first.
use Rattle.std.proofs.Common.{◌≡◌, ℕ, zero, suc, ◌-◌, ◌<◌, ◌≤◌, Bool, true, false, List, [], ◌∷◌, length, get_or, drop, drop-cons, Option, Some, None, refl, sym, ap, ◌∙◌, subst, arith}
use Rattle.std.proofs.lemmas.List.{drop_all}
use Rattle.std.specs.Prelude.{bytes_eq, cond, slice_get, if◌then◌else◌}
use Rattle.std.specs.BTreeMap.{BTreeMap, Updates, IsEmpty, is_at, get}
use Rattle.std.specs.Cmp.Lexicographic.{slice_cmp}
use Rattle.std.specs.Ordering.{nat_cmp}
use Rattle.std.specs.Map.{lookup}
use Rattle.std.proofs.lemmas.Map.Text.{is_eq-slice_cmp}
use Rattle.fml_imports.specs.Channels.{is_among}
use Rattle.fml_imports.specs.Imports.{channels_of}
use Rattle.fml_imports.specs.Standings.{StandsAt, IsStanding, AreStandings}
use Rattle.fml_imports.specs.declared.imports.Standing.{Standing}
use Rattle.fml_imports.specs.declared.joining.Linked.{Linked}

first-stands : (all : List Linked) (f : Linked) (s : Standing) (channels : List (List ℕ)) (o : Option Standing) (b : Bool) → StandsAt all s f f.module.channels → IsStanding all channels o → IsStanding all (if b then f.module.channels else channels) (cond b (Some s) o)
first-stands all f s channels o true here rest = (f, here)
first-stands all f s channels o false here rest = rest

pub stands_more : (all fs : List Linked) (f : Linked) (s : Standing) (old new : BTreeMap (List ℕ) Standing) → StandsAt all s f f.module.channels → AreStandings all fs old → Updates (slice_cmp nat_cmp) old new f.name (Some s) → AreStandings all (f ∷ fs) new
stands_more all fs f s old new here rest updates name =
    let got : get (slice_cmp nat_cmp) new name ≡ cond (bytes_eq f.name name) (Some s) (get (slice_cmp nat_cmp) old name) = updates.0 name ∙ ap (λ b. cond b (Some s) (get (slice_cmp nat_cmp) old name)) (is_eq-slice_cmp f.name name) in
    subst (IsStanding all (channels_of name (f ∷ fs))) (sym got) (first-stands all f s (channels_of name fs) (get (slice_cmp nat_cmp) old name) (bytes_eq f.name name) here (rest name))

-- no file is in the empty map
pub stands_none : (all : List Linked) (m : BTreeMap (List ℕ) Standing) → IsEmpty m → AreStandings all (drop (length all) all) m
stands_none all m empty name =
    let none : get (slice_cmp nat_cmp) m name ≡ None = ap (lookup (is_at (slice_cmp nat_cmp name))) empty in
    let nothing : channels_of name (drop (length all) all) ≡ [] = ap (channels_of name) (drop_all (length all) all (omega arith)) in
    subst (IsStanding all (channels_of name (drop (length all) all))) (sym none) nothing

pub at_place : {A : Type 0} (xs : List A) (i : ℕ) (x : A) → i < length xs → x ≡ get_or xs i x → slice_get xs i ≡ Some x
at_place [] i x h is = absurd (omega arith)
at_place (y ∷ ys) zero x h is = ap (λ z. Some z) (sym is)
at_place (y ∷ ys) (suc i) x h is = at_place ys i x (omega arith) is

pub stands_turn : (all : List Linked) (i : ℕ) (f : Linked) (s : Standing) (key : List ℕ) (old new : BTreeMap (List ℕ) Standing) → 0 < i → i ≤ length all → f ≡ get_or all (i - 1) f → s.place ≡ i - 1 → s.has_channel ≡ is_among f.channel f.module.channels
    → key ≡ f.name → AreStandings all (drop i all) old → Updates (slice_cmp nat_cmp) old new key (Some s) → AreStandings all (drop (i - 1) all) new
stands_turn all i f s key old new some within is place own same rest updates =
    let next : suc (i - 1) ≡ i = omega arith in
    let below : i - 1 < length all = omega arith in
    let grown : drop (i - 1) all ≡ f ∷ drop i all = drop-cons all (i - 1) f below ∙ ap (λ g. g ∷ drop (suc (i - 1)) all) (sym is) ∙ ap (λ k. f ∷ drop k all) next in
    let here : StandsAt all s f f.module.channels = record { place = ap (slice_get all) place ∙ at_place all (i - 1) f below is; same = refl; own = own } in
    subst (λ (fs : List Linked). AreStandings all fs new) (sym grown) (stands_more all (drop i all) f s old new here rest (subst (λ k. Updates (slice_cmp nat_cmp) old new k (Some s)) same updates))

-- ---- what the map says of a name

pub stands_absent : (all : List Linked) (channels : List (List ℕ)) (o : Option Standing) (c : List ℕ) → IsStanding all channels o → None ≡ o → false ≡ is_among c channels
stands_absent all channels o c stands is = let none : channels ≡ [] = subst (IsStanding all channels) (sym is) stands in ap (is_among c) (sym none)

pub stands_there : (all : List Linked) (channels : List (List ℕ)) (o : Option Standing) (s : Standing) (f : Linked) → IsStanding all channels o → Some s ≡ o → Some f ≡ slice_get all s.place → StandsAt all s f channels
stands_there all channels o s f stands is there =
    let found = subst (IsStanding all channels) (sym is) stands in
    let same : found.0 ≡ f = cc in
    subst (λ (g : Linked). StandsAt all s g channels) same found.1

pub stands_nowhere : (all : List Linked) (channels : List (List ℕ)) (o : Option Standing) (s : Standing) (b : Bool) → IsStanding all channels o → Some s ≡ o → None ≡ slice_get all s.place → false ≡ b
stands_nowhere all channels o s b stands is nowhere =
    let found = subst (IsStanding all channels) (sym is) stands in
    let there : slice_get all s.place ≡ Some found.0 = found.1.place in
    absurd cc
