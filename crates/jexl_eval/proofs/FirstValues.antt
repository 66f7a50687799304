-- What is meant once a first value is had, by what is meant of the other parts.
use Rattle.std.proofs.Common.{◌≡◌, Bool, true, false, List, Option, Some, None, Result, Ok, refl, sym, ap, ◌∙◌, subst}
use Rattle.std.specs.Prelude.{if◌then◌else◌}
use Rattle.json_tree.specs.Json.{Json, Items, truth, list, items_of}
use Rattle.jexl_parser.specs.declared.node.BinarySign.{BinarySign}
use Rattle.jexl_value.specs.Meaning.{is_truthy}
use Rattle.jexl_eval.specs.declared.fault.EvalFault.{EvalFault}
use Rattle.jexl_eval.specs.declared.found.Found.{Found}
use Rattle.jexl_eval.specs.Elements.{index}
use Rattle.jexl_eval.specs.Faults.{Fault, ◌>>=◌}
use Rattle.jexl_eval.specs.FirstValues.{index_meant, filter_meant, operation_meant}
use Rattle.jexl_eval.specs.Gives.{Fails, Gives}
use Rattle.jexl_eval.specs.Meaning.{unless_decided, kept}
use Rattle.jexl_eval.specs.Operations.{decided, operate, filter_items}
use Rattle.jexl_eval.specs.Seen.{found_as_json}
use Rattle.jexl_eval.proofs.Faulting.{fails_then, then_ok, goes}

-- the key of an index
module _ (x : Json) (key : Result Json Fault) where
  pub key_fails : (f : EvalFault) → Fails f key → Fails f (index_meant x key)
  key_fails f h = fails_then f key (λ k. Ok (index x k)) h

  pub key_goes : (y : Json) (r : Result Found EvalFault) → key ≡ Ok y → Gives found_as_json r (Ok (index x y)) → Gives found_as_json r (index_meant x key)
  key_goes y r e h = goes (Gives found_as_json r) key y (λ k. Ok (index x k)) e h

-- the condition of a filter
module _ (condition : Json → Result Json Fault) (x : Json) where
  abbrev keep : Items → Result Json Fault
  keep xs = kept condition xs >>= λ ys. Ok (list (items_of ys))

  pub no_items_fails : (f : EvalFault) → Fails f (filter_items x) → Fails f (filter_meant condition x)
  no_items_fails f h = fails_then f (filter_items x) keep h

  pub condition_fails : (xs : Items) (f : EvalFault) → filter_items x ≡ Ok xs → Fails f (kept condition xs) → Fails f (filter_meant condition x)
  condition_fails xs f e h = goes (Fails f) (filter_items x) xs keep e (fails_then f (kept condition xs) (λ ys. Ok (list (items_of ys))) h)

  pub filter_ok : (xs : Items) (ys : List Json) → filter_items x ≡ Ok xs → kept condition xs ≡ Ok ys → filter_meant condition x ≡ Ok (list (items_of ys))
  filter_ok xs ys e h = then_ok (filter_items x) xs keep e ∙ then_ok (kept condition xs) ys (λ ys. Ok (list (items_of ys))) h

none_there : (o : Option Bool) → ((b : Bool) → o ≡ Some b → ⊥) → o ≡ None
none_there None h = refl
none_there (Some b) h = absurd (h b refl)

-- the right side of an operation
module _ (o : BinarySign) (x : Json) (right : Result Json Fault) where
  abbrev on_right : Option Bool → Result Json Fault
  on_right d = unless_decided d (right >>= λ y. operate o x y)

  pub left_decides : (d : Bool) → decided o x ≡ Some d → operation_meant o x right ≡ Ok (truth d)
  left_decides d is = ap on_right is

  pub right_fails : (d : Option Bool) (f : EvalFault) → d ≡ decided o x → ((b : Bool) → d ≡ Some b → ⊥) → Fails f right → Fails f (operation_meant o x right)
  right_fails d f is none h = subst (λ d. Fails f (on_right d)) (sym (none_there d none) ∙ is) (fails_then f right (λ y. operate o x y) h)

  pub right_goes : (d : Option Bool) (y : Json) (r : Result Found EvalFault) → d ≡ decided o x → ((b : Bool) → d ≡ Some b → ⊥) → right ≡ Ok y → Gives found_as_json r (operate o x y) → Gives found_as_json r (operation_meant o x right)
  right_goes d y r is none e h =
      subst (λ d. Gives found_as_json r (on_right d)) (sym (none_there d none) ∙ is) (goes (Gives found_as_json r) right y (λ y. operate o x y) e h)

-- a choice by a value
module _ (x : Json) (yes no : Result Json Fault) where
  pub first_chosen : (b : Bool) (r : Result Found EvalFault) → b ≡ is_truthy x → b ≡ true → Gives found_as_json r yes → Gives found_as_json r (if is_truthy x then yes else no)
  first_chosen b r is holds h = subst (λ d. Gives found_as_json r (if d then yes else no)) (sym holds ∙ is) h

  pub second_chosen : (b : Bool) (r : Result Found EvalFault) → b ≡ is_truthy x → b ≡ false → Gives found_as_json r no → Gives found_as_json r (if is_truthy x then yes else no)
  second_chosen b r is fails h = subst (λ d. Gives found_as_json r (if d then yes else no)) (sym fails ∙ is) h
