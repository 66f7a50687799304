-- The changes of the row of the next number, and those of the rows behind it.
use Rattle.std.proofs.Common.{◌≡◌, ◌<◌, ◌≤◌, ◌^◌, ◌++◌, ◌∷◌, [], List, ℕ, Bool, true, false, refl, ap, ap₂, ◌∙◌}
use Rattle.std.specs.Prelude.{nat_lt, if◌then◌else◌}
use Rattle.std.specs.Cmp.Lexicographic.{bytes_decides}
use Rattle.std.proofs.lemmas.Bool.{lt-ltb, le-ltb}
use Rattle.sequences.proofs.Texts.{other_bytes}
use Rattle.row_batches.proofs.Joining.{Precede, between-append}
use Rattle.row_batches.proofs.Turns as turns
use Rattle.row_batches.specs.Between.{changes_between}
use Rattle.row_batches.specs.declared.change.RowChange.TheVariants.{Put, Delete}
use Rattle.row_batches.specs.declared.store_row.StoreRow.{StoreRow}
use Rattle.change_outbox.specs.declared.change.Change.{Change}
use Rattle.change_outbox.specs.Rows.{entry_rows, next_row, next_rows, number_text}
use Rattle.change_outbox.proofs.ByteOrder.{same_numbers}
use Rattle.change_outbox.proofs.Order.{next_below}

rows_at : (n : ℕ) (b : Bool) → nat_lt 1 n ≡ b → next_rows n ≡ (if b then next_row n ∷ [] else [])
rows_at n b is = ap (λ (t : Bool). if t then next_row n ∷ [] else []) is

one_row : (n : ℕ) → 1 < n → next_rows n ≡ next_row n ∷ []
one_row n more = rows_at n true (lt-ltb 1 n more)

no_row : (n : ℕ) → n ≤ 1 → next_rows n ≡ []
no_row n most = rows_at n false (le-ltb 1 n most)

between : (m n : ℕ) (olds news : List StoreRow) → next_rows m ≡ olds → next_rows n ≡ news → changes_between (next_rows m) (next_rows n) ≡ changes_between olds news
between m n olds news old new = ap₂ changes_between old new

pub next_new : (m n : ℕ) → m ≤ 1 → 1 < n → changes_between (next_rows m) (next_rows n) ≡ Put (next_row n) ∷ []
next_new m n most more = between m n [] (next_row n ∷ []) (no_row m most) (one_row n more)

pub next_gone : (m n : ℕ) → 1 < m → n ≤ 1 → changes_between (next_rows m) (next_rows n) ≡ Delete (120 ∷ []) ∷ []
next_gone m n more most = between m n (next_row m ∷ []) [] (one_row m more) (no_row n most)

pub next_none : (m n : ℕ) → m ≤ 1 → n ≤ 1 → changes_between (next_rows m) (next_rows n) ≡ []
next_none m n most least = between m n [] [] (no_row m most) (no_row n least)

pub next_same : (m n : ℕ) → m ≡ n → 1 < n → changes_between (next_rows m) (next_rows n) ≡ []
next_same m n same more =
    ap (λ k. changes_between (next_rows k) (next_rows n)) same ∙ between n n (next_row n ∷ []) (next_row n ∷ []) (one_row n more) (one_row n more)
    ∙ (turns.same (next_row n) (next_row n) [] [] ((bytes_decides (number_text n) (number_text n)).1 refl) refl).split

pub next_differs : (m n : ℕ) → (m ≡ n → ⊥) → 1 < m → 1 < n → m < 2 ^ 64 → n < 2 ^ 64 → changes_between (next_rows m) (next_rows n) ≡ Put (next_row n) ∷ []
next_differs m n other old_more more m_fits n_fits =
    between m n (next_row m ∷ []) (next_row n ∷ []) (one_row m old_more) (one_row n more)
    ∙ (turns.differs (next_row m) (next_row n) [] [] (other_bytes (number_text m) (number_text n) (λ same. other (same_numbers m n m_fits n_fits same))) refl).split

precede_at : (n : ℕ) (b : Bool) (cs : List Change) → Precede (if b then next_row n ∷ [] else []) (entry_rows cs)
precede_at n true cs = (next_below cs, tt)
precede_at n false cs = tt

pub joined : (m n : ℕ) (cs ds : List Change) → changes_between (next_rows m ++ entry_rows cs) (next_rows n ++ entry_rows ds) ≡ changes_between (next_rows m) (next_rows n) ++ changes_between (entry_rows cs) (entry_rows ds)
joined m n cs ds = between-append (entry_rows cs) (entry_rows ds) (next_rows m) (next_rows n) (precede_at m (nat_lt 1 m) ds) (precede_at n (nat_lt 1 n) cs)
