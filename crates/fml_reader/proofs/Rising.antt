-- What is read of members whose keys rise stands under names that rise.
use Rattle.std.proofs.Common.{◌≡◌, ℕ, Bool, List, [], ◌∷◌, Result, Ok, Err, refl, sym, subst}
use Rattle.json_tree.specs.Json.{Json, Members, no_members, member, IsBelow as IsBelowMembers, AreSoundMembers}
use Rattle.fml_types.specs.Named.{IsBelow, AreRising}
use Rattle.fml_reader.specs.declared.fault.ModuleRefusal.{ModuleRefusal}
use Rattle.fml_reader.specs.Outcome.{◌>>=◌, under}
use Rattle.fml_reader.specs.Walks.{each_member, keyed}

abbrev done : {A : Type 0} → A → Result A ModuleRefusal
done x = Ok x

-- the first that is read, and the others
first_and_rest : {A : Type 0} (k : List ℕ) (one : Result A ModuleRefusal) (others : Result (List (List ℕ × A)) ModuleRefusal) (ps : List (List ℕ × A)) → (one >>= λ a. others >>= λ as'. Ok ((k, a) ∷ as')) ≡ Ok ps
    → (a : A) × (as' : List (List ℕ × A)) × (others ≡ Ok as') × (ps ≡ (k, a) ∷ as')
first_and_rest k (Ok a) (Ok as') ps e = (a, as', refl, cc)
first_and_rest k (Ok a) (Err d) ps e = absurd cc
first_and_rest k (Err d) others ps e = absurd cc

below : {A : Type 0} (test : List ℕ → Bool) (read : Json → Result A ModuleRefusal) (k : List ℕ) (ms : Members) (ps : List (List ℕ × A)) → each_member test read ms ≡ Ok ps → IsBelowMembers k ms → IsBelow k ps
below test read k no_members ps e h = let same : [] ≡ ps = cc in subst (IsBelow k) same tt
below test read k (member l x ms) ps e h =
    let split = first_and_rest l (under l (keyed (test l) (read x))) (each_member test read ms) ps e in
    subst (IsBelow k) (sym split.3) (h.0, below test read k ms split.1 split.2 h.1)

pub each_rises : {A : Type 0} (test : List ℕ → Bool) (read : Json → Result A ModuleRefusal) (ms : Members) (ps : List (List ℕ × A)) → each_member test read ms ≡ Ok ps → AreSoundMembers ms → AreRising ps
each_rises test read no_members ps e h = let same : [] ≡ ps = cc in subst AreRising same tt
each_rises test read (member k x ms) ps e h =
    let split = first_and_rest k (under k (keyed (test k) (read x))) (each_member test read ms) ps e in
    subst AreRising (sym split.3) (below test read k ms split.1 split.2 h.1, each_rises test read ms split.1 split.2 h.3)
