-- Reading items and members one after the other, as a loop does.
use Rattle.std.proofs.Common.{◌≡◌, ℕ, suc, ◌+◌, ◌≤◌, ◌<◌, Bool, List, [], ◌∷◌, ◌++◌, map, length, get_or, drop, Result, Ok, Err, refl, sym, ap, ◌∙◌, append_assoc, add-one, drop-cons}
use Rattle.std.proofs.lemmas.List.{append-nil, drop_all}
use Rattle.std.specs.Prelude.{decimal}
use Rattle.json_tree.specs.Json.{Json, items_of, members_of}
use Rattle.json_tree.specs.Tree.{json_of, member_of}
use Rattle.json_tree.specs.declared.tree.Tree.{Tree}
use Rattle.fml_reader.specs.declared.fault.ModuleFault.{ModuleFault}
use Rattle.fml_reader.specs.declared.fault.ModuleFault.TheVariants as faults
use Rattle.fml_reader.specs.declared.fault.ModuleRefusal.{ModuleRefusal}
use Rattle.fml_reader.specs.Outcome.{◌>>=◌, under, Fails}
use Rattle.fml_reader.specs.Walks.{each_item, each_member, keyed}

-- what was read before, and what is still read
abbrev pub with_front : {A : Type 0} → List A → Result (List A) ModuleRefusal → Result (List A) ModuleRefusal
with_front front read = read >>= λ as'. Ok (front ++ as')

-- the trees from the i-th on
abbrev pub items_from : {A : Type 0} → (Json → Result A ModuleRefusal) → ℕ → List Tree → Result (List A) ModuleRefusal
items_from read i trees = each_item read i (items_of (map json_of (drop i trees)))

-- the pairs from the i-th on
abbrev pub members_from : {A : Type 0} → (List ℕ → Bool) → (Json → Result A ModuleRefusal) → ℕ → List (List ℕ × Tree) → Result (List (List ℕ × A)) ModuleRefusal
members_from test read i pairs = each_member test read (members_of (map member_of (drop i pairs)))

regroup : {A : Type 0} (front : List A) (a : A) (read : Result (List A) ModuleRefusal) → with_front front (read >>= λ as'. Ok (a ∷ as')) ≡ with_front (front ++ a ∷ []) read
regroup front a (Ok as') = ap (λ l. Ok l) (sym (append_assoc front (a ∷ []) as'))
regroup front a (Err r) = refl

fails_front : {A : Type 0} (e : ModuleFault) (front : List A) (read all : Result (List A) ModuleRefusal) → Fails e read → with_front front read ≡ all → Fails e all
fails_front faults.OutOfMemory front read all h so_far = tt
fails_front (faults.Refused refusal) front read all h so_far = sym so_far ∙ ap (with_front front) h

fails_first : {A B : Type 0} (e : ModuleFault) (first : Result A ModuleRefusal) (f : A → Result B ModuleRefusal) → Fails e first → Fails e (first >>= f)
fails_first faults.OutOfMemory first f h = tt
fails_first (faults.Refused refusal) first f h = ap (λ r. r >>= f) h

fails_at : {A : Type 0} (e : ModuleFault) (read other : Result A ModuleRefusal) → read ≡ other → Fails e other → Fails e read
fails_at faults.OutOfMemory read other same h = tt
fails_at (faults.Refused refusal) read other same h = same ∙ h

-- ---- items

item_front : {A : Type 0} (read : Json → Result A ModuleRefusal) (trees : List Tree) (i : ℕ) (t : Tree) → i < length trees → t ≡ get_or trees i t
    → items_from read i trees ≡ (under (decimal i) (read (json_of t)) >>= λ a. items_from read (i + 1) trees >>= λ as'. Ok (a ∷ as'))
item_front read trees i t h is =
    let here : drop i trees ≡ t ∷ drop (i + 1) trees = rw add-one (drop-cons trees i t h ∙ ap (λ x. x ∷ drop (suc i) trees) (sym is)) in
    ap (λ ts. each_item read i (items_of (map json_of ts))) here ∙ ap (λ j. under (decimal i) (read (json_of t)) >>= λ a. each_item read j (items_of (map json_of (drop (i + 1) trees))) >>= λ as'. Ok (a ∷ as')) (sym (add-one i))

pub item_turn : {A : Type 0} (read : Json → Result A ModuleRefusal) (trees : List Tree) (i : ℕ) (t : Tree) (front grown : List A) (a : A) (all : Result (List A) ModuleRefusal)
    → i < length trees → t ≡ get_or trees i t → grown ≡ front ++ a ∷ [] → under (decimal i) (read (json_of t)) ≡ Ok a
    → with_front front (items_from read i trees) ≡ all → with_front grown (items_from read (i + 1) trees) ≡ all
item_turn read trees i t front grown a all h is grows one so_far =
    let rest = items_from read (i + 1) trees in
    let step : items_from read i trees ≡ (rest >>= λ as'. Ok (a ∷ as')) = item_front read trees i t h is ∙ ap (λ r. r >>= λ b. rest >>= λ as'. Ok (b ∷ as')) one in
    ap (λ l. with_front l rest) grows ∙ sym (regroup front a rest) ∙ sym (ap (with_front front) step) ∙ so_far

pub item_fails : {A : Type 0} (read : Json → Result A ModuleRefusal) (e : ModuleFault) (trees : List Tree) (i : ℕ) (t : Tree) (front : List A) (all : Result (List A) ModuleRefusal)
    → i < length trees → t ≡ get_or trees i t → Fails e (under (decimal i) (read (json_of t))) → with_front front (items_from read i trees) ≡ all → Fails e all
item_fails read e trees i t front all h is one so_far =
    fails_front e front (items_from read i trees) all (fails_at e _ _ (item_front read trees i t h is) (fails_first e _ (λ a. items_from read (i + 1) trees >>= λ as'. Ok (a ∷ as')) one)) so_far

pub items_end : {A : Type 0} (read : Json → Result A ModuleRefusal) (trees : List Tree) (i : ℕ) (front : List A) (all : Result (List A) ModuleRefusal)
    → length trees ≤ i → with_front front (items_from read i trees) ≡ all → all ≡ Ok front
items_end read trees i front all h so_far =
    sym so_far ∙ ap (λ ts. with_front front (each_item read i (items_of (map json_of ts)))) (drop_all i trees h) ∙ ap (λ l. Ok l) (append-nil front)

-- ---- members

member_front : {A : Type 0} (test : List ℕ → Bool) (read : Json → Result A ModuleRefusal) (pairs : List (List ℕ × Tree)) (i : ℕ) (m : List ℕ × Tree) → i < length pairs → m ≡ get_or pairs i m
    → members_from test read i pairs ≡ (under m.0 (keyed (test m.0) (read (json_of m.1))) >>= λ a. members_from test read (i + 1) pairs >>= λ as'. Ok ((m.0, a) ∷ as'))
member_front test read pairs i m h is =
    let here : drop i pairs ≡ m ∷ drop (i + 1) pairs = rw add-one (drop-cons pairs i m h ∙ ap (λ x. x ∷ drop (suc i) pairs) (sym is)) in
    ap (λ ms. each_member test read (members_of (map member_of ms))) here

pub member_turn : {A : Type 0} (test : List ℕ → Bool) (read : Json → Result A ModuleRefusal) (pairs : List (List ℕ × Tree)) (i : ℕ) (m : List ℕ × Tree) (front grown : List (List ℕ × A)) (a : A) (all : Result (List (List ℕ × A)) ModuleRefusal)
    → i < length pairs → m ≡ get_or pairs i m → grown ≡ front ++ (m.0, a) ∷ [] → under m.0 (keyed (test m.0) (read (json_of m.1))) ≡ Ok a
    → with_front front (members_from test read i pairs) ≡ all → with_front grown (members_from test read (i + 1) pairs) ≡ all
member_turn test read pairs i m front grown a all h is grows one so_far =
    let rest = members_from test read (i + 1) pairs in
    let step : members_from test read i pairs ≡ (rest >>= λ as'. Ok ((m.0, a) ∷ as')) = member_front test read pairs i m h is ∙ ap (λ r. r >>= λ b. rest >>= λ as'. Ok ((m.0, b) ∷ as')) one in
    ap (λ l. with_front l rest) grows ∙ sym (regroup front (m.0, a) rest) ∙ sym (ap (with_front front) step) ∙ so_far

pub member_fails : {A : Type 0} (test : List ℕ → Bool) (read : Json → Result A ModuleRefusal) (e : ModuleFault) (pairs : List (List ℕ × Tree)) (i : ℕ) (m : List ℕ × Tree) (front : List (List ℕ × A)) (all : Result (List (List ℕ × A)) ModuleRefusal)
    → i < length pairs → m ≡ get_or pairs i m → Fails e (under m.0 (keyed (test m.0) (read (json_of m.1)))) → with_front front (members_from test read i pairs) ≡ all → Fails e all
member_fails test read e pairs i m front all h is one so_far =
    fails_front e front (members_from test read i pairs) all (fails_at e _ _ (member_front test read pairs i m h is) (fails_first e _ (λ a. members_from test read (i + 1) pairs >>= λ as'. Ok ((m.0, a) ∷ as')) one)) so_far

pub members_end : {A : Type 0} (test : List ℕ → Bool) (read : Json → Result A ModuleRefusal) (pairs : List (List ℕ × Tree)) (i : ℕ) (front : List (List ℕ × A)) (all : Result (List (List ℕ × A)) ModuleRefusal)
    → length pairs ≤ i → with_front front (members_from test read i pairs) ≡ all → all ≡ Ok front
members_end test read pairs i front all h so_far =
    sym so_far ∙ ap (λ ms. with_front front (each_member test read (members_of (map member_of ms)))) (drop_all i pairs h) ∙ ap (λ l. Ok l) (append-nil front)
