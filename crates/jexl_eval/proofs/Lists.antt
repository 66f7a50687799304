-- Lists and objects that are evaluated part by part, from the left.
use Rattle.std.proofs.Common.{◌≡◌, ℕ, ◌+◌, ◌<◌, ◌≤◌, Bool, true, false, List, [], ◌∷◌, ◌++◌, length, map, get_or, drop, Result, Ok, Err, refl, sym, ap, ◌∙◌, subst, append_assoc, append-nil}
use Rattle.std.proofs.lemmas.List.{drop_all}
use Rattle.std.specs.Prelude.{if◌then◌else◌}
use Rattle.json_tree.specs.Json.{Json, Members, items_of}
use Rattle.jexl_parser.specs.declared.node.Node.{Node}
use Rattle.jexl_parser.specs.View.{view, views, view_pairs}
use Rattle.jexl_value.specs.Meaning.{is_truthy}
use Rattle.jexl_value.specs.Names.{with_member}
use Rattle.jexl_value.specs.Value.{as_json}
use Rattle.jexl_value.specs.declared.value.Value.{Value}
use Rattle.jexl_eval.specs.declared.fault.EvalFault.{EvalFault}
use Rattle.jexl_eval.specs.Faults.{Fault, ◌>>=◌}
use Rattle.jexl_eval.specs.Gives.{Fails}
use Rattle.jexl_eval.specs.Meaning.{meaning, meanings, pair_meanings, kept, with_members}
use Rattle.jexl_eval.proofs.Faulting.{fails_then}
use Rattle.jexl_eval.proofs.Walking.{drop_next}

-- the values that were had, and those that are to come
abbrev pub onto : {A : Type 0} → List A → Result (List A) Fault → Result (List A) Fault
onto xs r = r >>= λ ys. Ok (xs ++ ys)

onto_more : {A : Type 0} (xs : List A) (x : A) (r : Result (List A) Fault) → onto xs (r >>= λ ys. Ok (x ∷ ys)) ≡ onto (xs ++ x ∷ []) r
onto_more xs x (Ok ys) = ap Ok (sym (append_assoc xs (x ∷ []) ys))
onto_more xs x (Err f) = refl

onto_none : {A : Type 0} (r : Result (List A) Fault) → r ≡ onto [] r
onto_none (Ok ys) = refl
onto_none (Err f) = refl

-- the members that were had, and those that are to come
abbrev pub into : List (List ℕ × Json) → Result (List (List ℕ × Json)) Fault → Result (List (List ℕ × Json)) Fault
into so_far r = r >>= λ ms. Ok (with_members so_far ms)

into_more : (so_far : List (List ℕ × Json)) (m : List ℕ × Json) (r : Result (List (List ℕ × Json)) Fault) → into so_far (r >>= λ ms. Ok (m ∷ ms)) ≡ into (with_member m.0 m.1 so_far) r
into_more so_far m (Ok ms) = refl
into_more so_far m (Err f) = refl

module _ (has : List ℕ → Bool) (attributes : Members) (current : Json) where
  abbrev pub of_nodes : List Node → Result (List Json) Fault
  of_nodes ns = meanings has attributes current (views ns)

  abbrev pub of_pairs : List (List ℕ × Node) → Result (List (List ℕ × Json)) Fault
  of_pairs ps = pair_meanings has attributes current (view_pairs ps)

  pub nodes_begin : (ns : List Node) (xs : List Json) → xs ≡ [] → of_nodes ns ≡ onto xs (of_nodes ns)
  nodes_begin ns xs e = onto_none (of_nodes ns) ∙ ap (λ ys. onto ys (of_nodes ns)) (sym e)

  pub nodes_turn : (ns : List Node) (i : ℕ) (n : Node) (xs new : List Json) (x : Json) → i < length ns → n ≡ get_or ns i n → meaning has attributes current (view n) ≡ Ok x → new ≡ xs ++ x ∷ []
      → onto xs (of_nodes (drop i ns)) ≡ onto new (of_nodes (drop (i + 1) ns))
  nodes_turn ns i n xs new x h is e pushed =
      ap (λ l. onto xs (of_nodes l)) (drop_next ns i n h is) ∙ ap (λ r. onto xs (r >>= λ y. of_nodes (drop (i + 1) ns) >>= λ ys. Ok (y ∷ ys))) e ∙ onto_more xs x (of_nodes (drop (i + 1) ns))
      ∙ ap (λ ys. onto ys (of_nodes (drop (i + 1) ns))) (sym pushed)

  pub nodes_fail : (ns : List Node) (i : ℕ) (n : Node) (xs : List Json) (f : EvalFault) → i < length ns → n ≡ get_or ns i n → Fails f (meaning has attributes current (view n))
      → Fails f (onto xs (of_nodes (drop i ns)))
  nodes_fail ns i n xs f h is e =
      subst (λ l. Fails f (onto xs (of_nodes l))) (sym (drop_next ns i n h is))
      (fails_then f (of_nodes (n ∷ drop (i + 1) ns)) (λ ys. Ok (xs ++ ys)) (fails_then f (meaning has attributes current (view n)) (λ y. of_nodes (drop (i + 1) ns) >>= λ ys. Ok (y ∷ ys)) e))

  pub nodes_end : (ns : List Node) (i : ℕ) (xs : List Json) → length ns ≤ i → onto xs (of_nodes (drop i ns)) ≡ Ok xs
  nodes_end ns i xs h = ap (λ l. onto xs (of_nodes l)) (drop_all i ns h) ∙ ap Ok (append-nil xs)

  pub pairs_begin : (ps : List (List ℕ × Node)) (ms : List (List ℕ × Json)) → ms ≡ [] → into [] (of_pairs ps) ≡ into ms (of_pairs ps)
  pairs_begin ps ms e = ap (λ m. into m (of_pairs ps)) (sym e)

  pub pairs_turn : (ps : List (List ℕ × Node)) (i : ℕ) (p : List ℕ × Node) (so_far new : List (List ℕ × Json)) (x : Json) → i < length ps → p ≡ get_or ps i p → meaning has attributes current (view p.1) ≡ Ok x
      → new ≡ with_member p.0 x so_far → into so_far (of_pairs (drop i ps)) ≡ into new (of_pairs (drop (i + 1) ps))
  pairs_turn ps i p so_far new x h is e put =
      ap (λ l. into so_far (of_pairs l)) (drop_next ps i p h is) ∙ ap (λ r. into so_far (r >>= λ y. of_pairs (drop (i + 1) ps) >>= λ ms. Ok ((p.0, y) ∷ ms))) e ∙ into_more so_far (p.0, x) (of_pairs (drop (i + 1) ps))
      ∙ ap (λ ms. into ms (of_pairs (drop (i + 1) ps))) (sym put)

  pub pairs_fail : (ps : List (List ℕ × Node)) (i : ℕ) (p : List ℕ × Node) (so_far : List (List ℕ × Json)) (f : EvalFault) → i < length ps → p ≡ get_or ps i p → Fails f (meaning has attributes current (view p.1))
      → Fails f (into so_far (of_pairs (drop i ps)))
  pairs_fail ps i p so_far f h is e =
      subst (λ l. Fails f (into so_far (of_pairs l))) (sym (drop_next ps i p h is))
      (fails_then f (of_pairs (p ∷ drop (i + 1) ps)) (λ ms. Ok (with_members so_far ms)) (fails_then f (meaning has attributes current (view p.1)) (λ y. of_pairs (drop (i + 1) ps) >>= λ ms. Ok ((p.0, y) ∷ ms)) e))

  pub pairs_end : (ps : List (List ℕ × Node)) (i : ℕ) (so_far : List (List ℕ × Json)) → length ps ≤ i → into so_far (of_pairs (drop i ps)) ≡ Ok so_far
  pairs_end ps i so_far h = ap (λ l. into so_far (of_pairs l)) (drop_all i ps h)

-- the items that a condition keeps
abbrev pub kept_of : (Json → Result Json Fault) → List Value → Result (List Json) Fault
kept_of condition vs = kept condition (items_of (map as_json vs))

onto_if : (b : Bool) (ks : List Json) (x : Json) (r : Result (List Json) Fault) → onto ks (r >>= λ ys. Ok (if b then x ∷ ys else ys)) ≡ onto (if b then ks ++ x ∷ [] else ks) r
onto_if true ks x r = onto_more ks x r
onto_if false ks x (Ok ys) = refl
onto_if false ks x (Err f) = refl

-- by the place in the list
module _ (condition : Json → Result Json Fault) (vs : List Value) where
  pub kept_begin : (ks : List Json) → ks ≡ [] → kept_of condition vs ≡ onto ks (kept_of condition vs)
  kept_begin ks e = onto_none (kept_of condition vs) ∙ ap (λ l. onto l (kept_of condition vs)) (sym e)

  pub kept_turn : (i : ℕ) (v : Value) (ks new : List Json) (t : Json) → i < length vs → v ≡ get_or vs i v → condition (as_json v) ≡ Ok t → new ≡ (if is_truthy t then ks ++ as_json v ∷ [] else ks)
      → onto ks (kept_of condition (drop i vs)) ≡ onto new (kept_of condition (drop (i + 1) vs))
  kept_turn i v ks new t h is e kept =
      let ws = drop (i + 1) vs in
      ap (λ l. onto ks (kept_of condition l)) (drop_next vs i v h is) ∙ ap (λ r. onto ks (r >>= λ y. kept_of condition ws >>= λ ys. Ok (if is_truthy y then as_json v ∷ ys else ys))) e
      ∙ onto_if (is_truthy t) ks (as_json v) (kept_of condition ws) ∙ ap (λ l. onto l (kept_of condition ws)) (sym kept)

  pub kept_fail : (i : ℕ) (v : Value) (ks : List Json) (f : EvalFault) → i < length vs → v ≡ get_or vs i v → Fails f (condition (as_json v)) → Fails f (onto ks (kept_of condition (drop i vs)))
  kept_fail i v ks f h is e =
      let ws = drop (i + 1) vs in
      subst (λ l. Fails f (onto ks (kept_of condition l))) (sym (drop_next vs i v h is))
      (fails_then f (kept_of condition (v ∷ ws)) (λ ys. Ok (ks ++ ys)) (fails_then f (condition (as_json v)) (λ y. kept_of condition ws >>= λ ys. Ok (if is_truthy y then as_json v ∷ ys else ys)) e))

  pub kept_end : (i : ℕ) (ks : List Json) → length vs ≤ i → onto ks (kept_of condition (drop i vs)) ≡ Ok ks
  kept_end i ks h = ap (λ l. onto ks (kept_of condition l)) (drop_all i vs h) ∙ ap Ok (append-nil ks)
