-- What the map beside the list of files has.
use Rattle.std.proofs.Common.{◌≡◌, ℕ, Bool, true, false, List, [], ◌∷◌, ◌++◌, Option, Some, None, refl, sym, ap, ◌∙◌, subst}
use Rattle.std.specs.Prelude.{◌||◌, bytes_eq, cond, is_some, if◌then◌else◌}
use Rattle.std.specs.BTreeMap.{BTreeMap, Updates, get}
use Rattle.std.specs.Cmp.Lexicographic.{slice_cmp, bytes_decides}
use Rattle.std.specs.Ordering.{nat_cmp}
use Rattle.std.proofs.lemmas.Map.Text.{is_eq-slice_cmp}
use Rattle.fml_types.specs.Named.{found, has_name}

found-some : {T : Type 0} (b h : Bool) (x : T) (o : Option T) → is_some o ≡ h → is_some (if b then Some x else o) ≡ (b || h)
found-some true h x o e = refl
found-some false h x o e = e

-- a name is there exactly where something stands under it
pub found_there : {T : Type 0} (name : List ℕ) (ps : List (List ℕ × T)) → is_some (found name ps) ≡ has_name name ps
found_there name [] = refl
found_there name (p ∷ ps) = found-some (bytes_eq p.0 name) (has_name name ps) p.1 (found name ps) (found_there name ps)

found-push : {T : Type 0} (b c : Bool) (x y : T) (o all : Option T) → all ≡ (if is_some o then o else if c then Some y else None) → (if b then Some x else all) ≡ (if is_some (if b then Some x else o) then (if b then Some x else o) else if c then Some y else None)
found-push true c x y o all e = refl
found-push false c x y o all e = e

-- what stands under a name in a list that is longer by one
pub found_push : {T : Type 0} (name : List ℕ) (ps : List (List ℕ × T)) (p : List ℕ × T) → found name (ps ++ p ∷ []) ≡ (if is_some (found name ps) then found name ps else if bytes_eq p.0 name then Some p.1 else None)
found_push name [] p = refl
found_push name (q ∷ qs) p = found-push (bytes_eq q.0 name) (bytes_eq p.0 name) q.1 p.1 (found name qs) (found name (qs ++ p ∷ [])) (found_push name qs p)

-- a new name takes no other's place
pub new_found : {T : Type 0} (b : Bool) (x : T) (o : Option T) → (b ≡ true → o ≡ None) → cond b (Some x) o ≡ (if is_some o then o else if b then Some x else None)
new_found true x o new = sym (ap (λ p. if is_some p then p else Some x) (new refl))
new_found false x None new = refl
new_found false x (Some y) new = refl

some-none : {T : Type 0} (o : Option T) → is_some o ≡ false → o ≡ None
some-none None h = refl
some-none (Some x) h = absurd cc

-- one more file in the map and in the list
pub met_next : (name channel : List ℕ) (old new : BTreeMap (List ℕ) (List ℕ)) (list longer : List (List ℕ × List ℕ)) → ((q : List ℕ) → get (slice_cmp nat_cmp) old q ≡ found q list) → has_name name list ≡ false
    → Updates (slice_cmp nat_cmp) old new name (Some channel) → longer ≡ list ++ (name, channel) ∷ [] → (q : List ℕ) → get (slice_cmp nat_cmp) new q ≡ found q longer
met_next name channel old new list longer met is_new updates grows q =
    let absent : bytes_eq name q ≡ true → found q list ≡ None = λ same. some-none (found q list) (found_there q list ∙ subst (λ n. has_name n list ≡ false) ((bytes_decides name q).0 same) is_new) in
    updates.0 q ∙ ap (λ b. cond b (Some channel) (get (slice_cmp nat_cmp) old q)) (is_eq-slice_cmp name q) ∙ ap (cond (bytes_eq name q) (Some channel)) (met q)
    ∙ new_found (bytes_eq name q) channel (found q list) absent ∙ sym (found_push q list (name, channel)) ∙ sym (ap (found q) grows)

-- whether a name is met
pub is_met : (name : List ℕ) (channels : BTreeMap (List ℕ) (List ℕ)) (list : List (List ℕ × List ℕ)) → ((q : List ℕ) → get (slice_cmp nat_cmp) channels q ≡ found q list) → is_some (get (slice_cmp nat_cmp) channels name) ≡ has_name name list
is_met name channels list met = ap is_some (met name) ∙ found_there name list
