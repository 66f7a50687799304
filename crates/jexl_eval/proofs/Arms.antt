-- The meaning of each node by that of its parts.
use Rattle.std.proofs.Common.{◌≡◌, ℕ, Bool, List, [], Result, Ok, Err, refl, sym, ◌∙◌, subst}
use Rattle.std.specs.Prelude.{not, if◌then◌else◌}
use Rattle.json_tree.specs.Json.{Json, Members, truth, list, object, items_of, members_of}
use Rattle.jexl_parser.specs.declared.node.BinarySign.{BinarySign}
use Rattle.jexl_parser.specs.Tree as trees
use Rattle.jexl_parser.specs.Tree.{Tree, Trees, Pairs, Member, Index, Filter, Transform, Not, Binary, Choose, OrElse}
use Rattle.jexl_value.specs.Meaning.{is_truthy}
use Rattle.jexl_eval.specs.declared.fault.EvalFault.{EvalFault}
use Rattle.jexl_eval.specs.declared.found.Found.{Found}
use Rattle.jexl_eval.specs.Elements.{member}
use Rattle.jexl_eval.specs.Faults.{Fault, ◌>>=◌}
use Rattle.jexl_eval.specs.FirstValues.{members_meant, index_meant, filter_meant, operation_meant}
use Rattle.jexl_eval.specs.Gives.{Fails, Gives}
use Rattle.jexl_eval.specs.Meaning.{meaning, meanings, pair_meanings, transformed, with_members}
use Rattle.jexl_eval.specs.Seen.{found_as_json}
use Rattle.jexl_eval.proofs.Faulting.{fails_then, then_ok, goes}

module _ (has : List ℕ → Bool) (attributes : Members) (current : Json) where
  abbrev m : Tree → Result Json Fault
  m t = meaning has attributes current t

  -- what comes of the value of a first part
  abbrev filter_on : Tree → Json → Result Json Fault
  filter_on b x = filter_meant (λ y. meaning has attributes y b) x

  abbrev transform_on : List ℕ → Trees → Json → Result Json Fault
  transform_on name ts x = meanings has attributes current ts >>= λ xs. transformed has name attributes x xs

  abbrev choose_on : Tree → Tree → Json → Result Json Fault
  choose_on b c x = if is_truthy x then m b else m c

  abbrev or_else_on : Tree → Json → Result Json Fault
  or_else_on c x = if is_truthy x then Ok x else m c

  pub items_fail : (ts : Trees) (f : EvalFault) → Fails f (meanings has attributes current ts) → Fails f (m (trees.Items ts))
  items_fail ts f h = fails_then f (meanings has attributes current ts) (λ xs. Ok (list (items_of xs))) h

  pub items_ok : (ts : Trees) (xs : List Json) → meanings has attributes current ts ≡ Ok xs → m (trees.Items ts) ≡ Ok (list (items_of xs))
  items_ok ts xs e = then_ok (meanings has attributes current ts) xs (λ xs. Ok (list (items_of xs))) e

  object_of : (r : Result (List (List ℕ × Json)) Fault) → (members_meant r >>= λ ms. Ok (object (members_of ms))) ≡ (r >>= λ ms. Ok (object (members_of (with_members [] ms))))
  object_of (Ok ms) = refl
  object_of (Err f) = refl

  pub members_fail : (ps : Pairs) (f : EvalFault) → Fails f (members_meant (pair_meanings has attributes current ps)) → Fails f (m (trees.Members ps))
  members_fail ps f h =
      let values = pair_meanings has attributes current ps in
      subst (Fails f) (object_of values) (fails_then f (members_meant values) (λ ms. Ok (object (members_of ms))) h)

  pub members_ok : (ps : Pairs) (ms : List (List ℕ × Json)) → members_meant (pair_meanings has attributes current ps) ≡ Ok ms → m (trees.Members ps) ≡ Ok (object (members_of ms))
  members_ok ps ms e =
      let values = pair_meanings has attributes current ps in
      sym (object_of values) ∙ then_ok (members_meant values) ms (λ ms. Ok (object (members_of ms))) e

  pub member_fail : (a : Tree) (name : List ℕ) (f : EvalFault) → Fails f (m a) → Fails f (m (Member a name))
  member_fail a name f h = fails_then f (m a) (λ x. Ok (member name x)) h

  pub member_goes : (a : Tree) (name : List ℕ) (x : Json) (r : Result Found EvalFault) → m a ≡ Ok x → Gives found_as_json r (Ok (member name x)) → Gives found_as_json r (m (Member a name))
  member_goes a name x r e h = goes (Gives found_as_json r) (m a) x (λ x. Ok (member name x)) e h

  pub index_fail : (a b : Tree) (f : EvalFault) → Fails f (m a) → Fails f (m (Index a b))
  index_fail a b f h = fails_then f (m a) (λ x. index_meant x (m b)) h

  pub index_goes : (a b : Tree) (x : Json) (r : Result Found EvalFault) → m a ≡ Ok x → Gives found_as_json r (index_meant x (m b)) → Gives found_as_json r (m (Index a b))
  index_goes a b x r e h = goes (Gives found_as_json r) (m a) x (λ x. index_meant x (m b)) e h

  pub filter_fail : (a b : Tree) (f : EvalFault) → Fails f (m a) → Fails f (m (Filter a b))
  filter_fail a b f h = fails_then f (m a) (filter_on b) h

  pub filter_goes : (a b : Tree) (x : Json) (r : Result Found EvalFault) → m a ≡ Ok x → Gives found_as_json r (filter_meant (λ y. meaning has attributes y b) x) → Gives found_as_json r (m (Filter a b))
  filter_goes a b x r e h = goes (Gives found_as_json r) (m a) x (filter_on b) e h

  pub transform_fail : (a : Tree) (name : List ℕ) (ts : Trees) (f : EvalFault) → Fails f (m a) → Fails f (m (Transform a name ts))
  transform_fail a name ts f h = fails_then f (m a) (transform_on name ts) h

  pub arguments_fail : (a : Tree) (name : List ℕ) (ts : Trees) (x : Json) (f : EvalFault) → m a ≡ Ok x → Fails f (meanings has attributes current ts) → Fails f (m (Transform a name ts))
  arguments_fail a name ts x f e h = goes (Fails f) (m a) x (transform_on name ts) e (fails_then f (meanings has attributes current ts) (λ xs. transformed has name attributes x xs) h)

  pub transform_goes : (a : Tree) (name : List ℕ) (ts : Trees) (x : Json) (xs : List Json) (r : Result Found EvalFault) → m a ≡ Ok x → meanings has attributes current ts ≡ Ok xs
      → Gives found_as_json r (transformed has name attributes x xs) → Gives found_as_json r (m (Transform a name ts))
  transform_goes a name ts x xs r e d h = goes (Gives found_as_json r) (m a) x (transform_on name ts) e (goes (Gives found_as_json r) (meanings has attributes current ts) xs (λ xs. transformed has name attributes x xs) d h)

  pub not_fail : (a : Tree) (f : EvalFault) → Fails f (m a) → Fails f (m (Not a))
  not_fail a f h = fails_then f (m a) (λ x. Ok (truth (not (is_truthy x)))) h

  pub not_ok : (a : Tree) (x : Json) → m a ≡ Ok x → m (Not a) ≡ Ok (truth (not (is_truthy x)))
  not_ok a x e = then_ok (m a) x (λ x. Ok (truth (not (is_truthy x)))) e

  pub left_fail : (o : BinarySign) (a b : Tree) (f : EvalFault) → Fails f (m a) → Fails f (m (Binary o a b))
  left_fail o a b f h = fails_then f (m a) (λ x. operation_meant o x (m b)) h

  pub operation_goes : (o : BinarySign) (a b : Tree) (x : Json) (r : Result Found EvalFault) → m a ≡ Ok x → Gives found_as_json r (operation_meant o x (m b)) → Gives found_as_json r (m (Binary o a b))
  operation_goes o a b x r e h = goes (Gives found_as_json r) (m a) x (λ x. operation_meant o x (m b)) e h

  pub condition_fail : (a b c : Tree) (f : EvalFault) → Fails f (m a) → Fails f (m (Choose a b c))
  condition_fail a b c f h = fails_then f (m a) (choose_on b c) h

  pub choose_goes : (a b c : Tree) (x : Json) (r : Result Found EvalFault) → m a ≡ Ok x → Gives found_as_json r (if is_truthy x then m b else m c) → Gives found_as_json r (m (Choose a b c))
  choose_goes a b c x r e h = goes (Gives found_as_json r) (m a) x (choose_on b c) e h

  pub first_fail : (a c : Tree) (f : EvalFault) → Fails f (m a) → Fails f (m (OrElse a c))
  first_fail a c f h = fails_then f (m a) (or_else_on c) h

  pub or_else_goes : (a c : Tree) (x : Json) (r : Result Found EvalFault) → m a ≡ Ok x → Gives found_as_json r (if is_truthy x then Ok x else m c) → Gives found_as_json r (m (OrElse a c))
  or_else_goes a c x r e h = goes (Gives found_as_json r) (m a) x (or_else_on c) e h
