-- Names that get values, one after the other.
use Rattle.std.proofs.Common.{◌≡◌, ◌+◌, ◌<◌, ℕ, Bool, List, [], ◌∷◌, ◌++◌, map, length, get_or, take, Option, Some, None, Less, Equal, Greater, refl, sym, ap, ◌∙◌}
use Rattle.std.proofs.lemmas.Cmp.{tied_itself}
use Rattle.std.proofs.lemmas.List.{take_more, map-append}
use Rattle.std.specs.Cmp.Lexicographic.{slice_cmp, nat_list_cmp_total}
use Rattle.std.specs.Ordering.{nat_cmp}
use Rattle.json_tree.specs.Json.{Json, truth}
use Rattle.jexl_value.specs.Names.{beside, with_member}
use Rattle.enrol_states.specs.declared.state.State.{State}
use Rattle.app_context.specs.declared.context.Context.{Context}
use Rattle.app_context.specs.Attributes.{entered, with_enrolled, ArePrepared, enrolled_name, shared_attributes}

pub entered-append : (es fs : List (List ℕ × Option Json)) (ms : List (List ℕ × Json)) → entered (es ++ fs) ms ≡ entered fs (entered es ms)
entered-append [] fs ms = refl
entered-append ((name, None) ∷ es) fs ms = entered-append es fs ms
entered-append ((name, Some x) ∷ es) fs ms = entered-append es fs (with_member name x ms)

-- four lists of entries, one after the other
pub all_entered : (as' bs cs ds : List (List ℕ × Option Json)) (custom m0 m1 m2 m3 m4 : List (List ℕ × Json))
    → m0 ≡ custom → m1 ≡ entered as' m0 → m2 ≡ entered bs m1 → m3 ≡ entered cs m2 → m4 ≡ entered ds m3 → m4 ≡ entered (as' ++ (bs ++ (cs ++ ds))) custom
all_entered as' bs cs ds custom m0 m1 m2 m3 m4 e0 e1 e2 e3 e4 =
    e4 ∙ ap (entered ds) (e3 ∙ ap (entered cs) (e2 ∙ ap (entered bs) (e1 ∙ ap (entered as') e0)))
    ∙ sym (entered-append as' (bs ++ (cs ++ ds)) custom ∙ entered-append bs (cs ++ ds) (entered as' custom) ∙ entered-append cs ds (entered bs (entered as' custom)))

-- a name that gets a value twice has the later one
pub with_member-twice : (name : List ℕ) (x y : Json) (ms : List (List ℕ × Json)) → with_member name y (with_member name x ms) ≡ with_member name y ms
with_member-twice name x y [] = ap (λ o. beside o (name, y) (name, x) [] ((name, y) ∷ [])) (tied_itself nat_list_cmp_total name)
with_member-twice name x y (m ∷ ms) =
    elim (slice_cmp nat_cmp name m.0) as (λ o. slice_cmp nat_cmp name m.0 ≡ o
    → with_member name y (beside o (name, x) m ms (with_member name x ms)) ≡ beside o (name, y) m ms (with_member name y ms)) [
      | Less ↦ λ e. ap (λ o. beside o (name, y) (name, x) (m ∷ ms) (with_member name y (m ∷ ms))) (tied_itself nat_list_cmp_total name)
      | Equal ↦ λ e. ap (λ o. beside o (name, y) (name, x) ms (with_member name y ms)) (tied_itself nat_list_cmp_total name)
      | Greater ↦ λ e. ap (λ o. beside o (name, y) m (with_member name x ms) (with_member name y (with_member name x ms))) e ∙ ap (λ l. m ∷ l) (with_member-twice name x y ms)
    ] refl

-- whether the client is enrolled in one recipe gives way to whether it is in another
pub enrolled_again : (c : Context) (s : State) (now : ℕ) (one other : Bool) (ms : List (List ℕ × Json)) → ArePrepared c s now ms → with_enrolled other (with_enrolled one ms) ≡ with_enrolled other (shared_attributes c s now)
enrolled_again c s now one other ms prepared = with_member-twice enrolled_name (truth one) (truth other) ms ∙ prepared other

-- one more of a list of entries
pub more_entered : {X : Type 0} (f : X → List ℕ × Option Json) (xs : List X) (i : ℕ) (d : X) (ms made grown : List (List ℕ × Json))
    → i < length xs → made ≡ entered (map f (take i xs)) ms → grown ≡ entered (f (get_or xs i d) ∷ []) made → grown ≡ entered (map f (take (i + 1) xs)) ms
more_entered f xs i d ms made grown less before after =
    after ∙ ap (entered (f (get_or xs i d) ∷ [])) before ∙ sym (entered-append (map f (take i xs)) (f (get_or xs i d) ∷ []) ms)
    ∙ ap (λ es. entered es ms) (sym (map-append f (take i xs) (get_or xs i d ∷ []))) ∙ ap (λ ys. entered (map f ys) ms) (sym (take_more xs i d less))
