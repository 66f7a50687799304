-- A line that says a value or a manifest is the answer of one, with its text.
use Rattle.std.proofs.Common.{◌≡◌, ℕ, ◌++◌, List, [], ◌∷◌, get_or, refl, ap, subst, arith}
use Rattle.std.specs.Prelude.{codes}
use Rattle.std.proofs.lemmas.List.{append_cancel_left, append_cancel_right}
use Rattle.json_tree.specs.Bytes.{text_of}
use Rattle.json_tree.specs.Tree.{json_of}
use Rattle.json_tree.specs.declared.tree.Tree.{Tree}
use Rattle.client_words.specs.declared.answer.Answer.{Answer}
use Rattle.client_words.specs.declared.answer.Answer.TheVariants.{Okay, Fetched, Applied, Value, Shown, Manifest, Changes, Preferences, Refused}
use Rattle.client_words.specs.Answers.{answer_lines, change_line, changes_lines, fetched_lines, preference_line, preferences_lines, shown_lines}
use Rattle.client_words.specs.Refusals.{refusal_lines}
use Rattle.session_run.specs.Values.{value_line}
use Rattle.session_run.specs.WrittenManifests.{manifest_line}

-- ---- the first letter

abbrev pub first : List ℕ → ℕ
first text = get_or text 0 0

-- a value begins with `v`, a manifest with `m`, and no other answer with one of these
abbrev ByLetter : Answer → ℕ → Type 0
ByLetter answer letter = (letter ≡ 118 → (tree : Tree) × (answer ≡ Value tree)) × (letter ≡ 109 → (tree : Tree) × (answer ≡ Manifest tree))

neither : {answer : Answer} (letter : ℕ) → (letter ≡ 118 → ⊥) → (letter ≡ 109 → ⊥) → ByLetter answer letter
neither letter no_value no_manifest = (λ is. absurd (no_value is), λ is. absurd (no_manifest is))

by_letter : (answer : Answer) → ByLetter answer (first (answer_lines answer))
unfolding answer_lines fetched_lines shown_lines change_line changes_lines preference_line preferences_lines refusal_lines
by_letter (Value tree) = (λ is. (tree, refl), λ is. absurd (omega (arith, is)))
by_letter (Manifest tree) = (λ is. absurd (omega (arith, is)), λ is. (tree, refl))
by_letter Okay = neither 111 (λ is. omega (arith, is)) (λ is. omega (arith, is))
by_letter (Fetched kept skipped) = neither 102 (λ is. omega (arith, is)) (λ is. omega (arith, is))
by_letter (Applied enrolled rows) = neither 97 (λ is. omega (arith, is)) (λ is. omega (arith, is))
by_letter (Shown id experiments rollouts pending opted_out rows) = neither 105 (λ is. omega (arith, is)) (λ is. omega (arith, is))
by_letter (Changes []) = neither 101 (λ is. omega (arith, is)) (λ is. omega (arith, is))
by_letter (Changes (change ∷ changes)) = neither 99 (λ is. omega (arith, is)) (λ is. omega (arith, is))
by_letter (Preferences []) = neither 101 (λ is. omega (arith, is)) (λ is. omega (arith, is))
by_letter (Preferences (preference ∷ preferences)) = neither 112 (λ is. omega (arith, is)) (λ is. omega (arith, is))
by_letter (Refused refusal) = neither 114 (λ is. omega (arith, is)) (λ is. omega (arith, is))

-- ---- the text

-- the answer is that of a tree, with this text
pub record IsTree (of : Tree → Answer) (answer : Answer) (text : List ℕ) : Type 0 where
  pub tree : Tree
  pub is : answer ≡ of tree
  pub encoded : text_of (json_of tree) ≡ text

same_text : (word a b : List ℕ) → word ++ a ++ 10 ∷ [] ≡ word ++ b ++ 10 ∷ [] → a ≡ b
same_text word a b is = append_cancel_left word a b (append_cancel_right (word ++ a) (word ++ b) (10 ∷ []) is)

pub value_in : (answer : Answer) (text : List ℕ) → answer_lines answer ≡ value_line text → IsTree Value answer text
unfolding answer_lines
value_in answer text said =
    let found = (by_letter answer).0 (ap first said) in
    record { tree = found.0; is = found.1; encoded = same_text (codes "value ") (text_of (json_of found.0)) text (subst (λ (a : Answer). answer_lines a ≡ value_line text) found.1 said) }

pub manifest_in : (answer : Answer) (text : List ℕ) → answer_lines answer ≡ manifest_line text → IsTree Manifest answer text
unfolding answer_lines
manifest_in answer text said =
    let found = (by_letter answer).1 (ap first said) in
    record { tree = found.0; is = found.1; encoded = same_text (codes "manifest ") (text_of (json_of found.0)) text (subst (λ (a : Answer). answer_lines a ≡ manifest_line text) found.1 said) }
