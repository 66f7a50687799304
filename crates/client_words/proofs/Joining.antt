-- A line for each item, one after the other.
use Rattle.std.proofs.Common.{◌≡◌, ◌<◌, ◌≤◌, ℕ, ◌+◌, List, [], ◌∷◌, ◌++◌, length, take, get_or, sym, ◌∙◌, ap, append_assoc}
use Rattle.std.proofs.lemmas.List.{append-nil, take_more, take_all}
use Rattle.client_words.specs.Answers.{lines_for}

module _ {A : Type 0} (line : A → List ℕ) where
  lines_for-push : (items : List A) (item : A) → lines_for line (items ++ item ∷ []) ≡ lines_for line items ++ line item
  lines_for-push [] item = append-nil (line item)
  lines_for-push (first ∷ items) item = ap (λ (u : List ℕ). line first ++ u) (lines_for-push items item) ∙ sym (append_assoc (line first) (lines_for line items) (line item))

  -- an item more
  pub line_more : (items : List A) (i : ℕ) (item : A) (start before later : List ℕ) → i < length items → item ≡ get_or items i item → before ≡ start ++ lines_for line (take i items) → later ≡ before ++ line item → later ≡ start ++ lines_for line (take (i + 1) items)
  line_more items i item start before later within is placed pushed =
      let more : take (i + 1) items ≡ take i items ++ item ∷ [] = take_more items i item within ∙ ap (λ (x : A). take i items ++ x ∷ []) (sym is) in
      pushed ∙ ap (λ (u : List ℕ). u ++ line item) placed ∙ append_assoc start (lines_for line (take i items)) (line item)
      ∙ ap (λ (u : List ℕ). start ++ u) (sym (ap (lines_for line) more ∙ lines_for-push (take i items) item))

  -- all of them
  pub lines_all : (items : List A) (i : ℕ) (start later : List ℕ) → length items ≤ i → later ≡ start ++ lines_for line (take i items) → later ≡ start ++ lines_for line items
  lines_all items i start later whole placed = placed ∙ ap (λ (some : List A). start ++ lines_for line some) (take_all i items whole)
