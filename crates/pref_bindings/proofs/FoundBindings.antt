-- The set beside bindings has their preferences.
use Rattle.std.proofs.Common.{◌≡◌, ℕ, Bool, true, false, List, [], ◌∷◌, ◌++◌, Less, Equal, Greater, refl, sym, ap, ◌∙◌}
use Rattle.std.specs.Prelude.{◌||◌, ◌&&◌, not, bytes_eq}
use Rattle.std.specs.BTreeMap.{is_at}
use Rattle.std.specs.BTreeSet.{insert_key}
use Rattle.std.specs.List.{list_any}
use Rattle.std.specs.Ordering.{is_eq, match_ordering}
use Rattle.std.specs.declared.cmp.Ordering.{Ordering}
use Rattle.std.proofs.lemmas.List.{map-append}
use Rattle.std.proofs.lemmas.Bool.{or_parts}
use Rattle.std.proofs.Math.Bool.{or_comm, or_assoc}
use Rattle.sequences.proofs.Texts.{is_eq-turned}
use Rattle.recipe_reader.specs.Payloads.{slug_cmp}
use Rattle.enrol_states.specs.Order.{is_in}
use Rattle.pref_bindings.specs.declared.bindings.Binding.{Binding}
use Rattle.pref_bindings.specs.Bindings.{preferences_of}

-- whether the keys have the name
abbrev pub holds : List (List ℕ) → List ℕ → Bool
holds keys name = list_any (is_at (slug_cmp name)) keys

holds-insert : (k q x : List ℕ) (xs inserted : List (List ℕ)) (o : Ordering) → is_eq o ≡ false → holds inserted q ≡ (holds xs q || bytes_eq k q) → holds (match_ordering o (k ∷ x ∷ xs) (x ∷ xs) (x ∷ inserted)) q ≡ (holds (x ∷ xs) q || bytes_eq k q)
holds-insert k q x xs inserted Less apart rest = ap (λ b. b || holds (x ∷ xs) q) (is_eq-turned q k) ∙ or_comm (bytes_eq k q) (holds (x ∷ xs) q)
holds-insert k q x xs inserted Equal apart rest = absurd cc
holds-insert k q x xs inserted Greater apart rest = ap (λ b. is_eq (slug_cmp q x) || b) rest ∙ sym (or_assoc (is_eq (slug_cmp q x)) (holds xs q) (bytes_eq k q))

-- a new key is there, and the others as before
holds_insert : (k q : List ℕ) (ks : List (List ℕ)) → holds ks k ≡ false → holds (insert_key slug_cmp ks k) q ≡ (holds ks q || bytes_eq k q)
holds_insert k q [] absent = ap (λ b. b || false) (is_eq-turned q k) ∙ or_comm (bytes_eq k q) false
holds_insert k q (x ∷ xs) absent =
    let apart : is_eq (slug_cmp k x) ≡ false = (or_parts (is_eq (slug_cmp k x)) (holds xs k) absent).0 in
    holds-insert k q x xs (insert_key slug_cmp xs k) (slug_cmp k x) apart (holds_insert k q xs (or_parts (is_eq (slug_cmp k x)) (holds xs k) absent).1)

pub in_pushed : (q k : List ℕ) (ts : List (List ℕ)) → is_in (ts ++ k ∷ []) q ≡ (is_in ts q || bytes_eq k q)
in_pushed q k [] = or_comm (bytes_eq k q) false
in_pushed q k (t ∷ ts) = ap (λ b. bytes_eq t q || b) (in_pushed q k ts) ∙ sym (or_assoc (bytes_eq t q) (is_in ts q) (bytes_eq k q))

-- one more preference in the set and among the bindings
pub found_next : (b : Binding) (keys more : List (List ℕ)) (bs longer : List Binding) → ((q : List ℕ) → holds keys q ≡ is_in (preferences_of bs) q) → is_in (preferences_of bs) b.preference ≡ false
    → more ≡ insert_key slug_cmp keys b.preference → longer ≡ bs ++ b ∷ [] → (q : List ℕ) → holds more q ≡ is_in (preferences_of longer) q
found_next b keys more bs longer met new is grows q =
    ap (λ ks. holds ks q) is ∙ holds_insert b.preference q keys (met b.preference ∙ new) ∙ ap (λ c. c || bytes_eq b.preference q) (met q) ∙ sym (in_pushed q b.preference (preferences_of bs))
    ∙ sym (ap (λ ts. is_in ts q) (ap preferences_of grows ∙ map-append (λ (c : Binding). c.preference) bs (b ∷ [])))

-- no preference in either
pub found_none : (keys : List (List ℕ)) (bs : List Binding) → keys ≡ [] → bs ≡ [] → (q : List ℕ) → holds keys q ≡ is_in (preferences_of bs) q
found_none keys bs no_key no_binding q = ap (λ ks. holds ks q) no_key ∙ sym (ap (λ cs. is_in (preferences_of cs) q) no_binding)

-- a preference that is free is none of the bindings'
pub free_is_new : (named taken : Bool) → (named && not taken) ≡ true → taken ≡ false
free_is_new true true h = absurd cc
free_is_new true false h = refl
free_is_new false taken h = absurd cc
