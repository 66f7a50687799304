-- Rows that are the same.
use Rattle.std.proofs.Common.{◌≡◌, ◌+◌, ◌<◌, ◌++◌, ◌∷◌, [], List, ℕ, length, get_or, take, ap, ap₂, sym, ◌∙◌, true}
use Rattle.std.specs.Prelude.{bytes_eq}
use Rattle.std.specs.Cmp.Lexicographic.{bytes_decides}
use Rattle.std.proofs.lemmas.List.{take_more, get_or_default}
use Rattle.row_batches.specs.declared.store_row.StoreRow.{StoreRow}

-- one row more
pub same_more : (rs ss : List StoreRow) (i : ℕ) (r s : StoreRow) → i < length rs → i < length ss → r ≡ get_or rs i r → s ≡ get_or ss i s → take i rs ≡ take i ss → r ≡ s → take (i + 1) rs ≡ take (i + 1) ss
same_more rs ss i r s r_in s_in r_is s_is before same =
    take_more rs i r r_in ∙ ap₂ (λ l q. l ++ q ∷ []) before (sym r_is ∙ same ∙ s_is) ∙ sym (take_more ss i s s_in)

-- rows of lists that are the same
pub same_at : (rs ss : List StoreRow) (i : ℕ) (r s : StoreRow) → i < length rs → r ≡ get_or rs i r → s ≡ get_or ss i s → rs ≡ ss → r ≡ s
same_at rs ss i r s within r_is s_is same = r_is ∙ get_or_default rs i r s within ∙ ap (λ l. get_or l i s) same ∙ sym s_is

pub row_same : (r s : StoreRow) → bytes_eq r.key s.key ≡ true → bytes_eq r.value s.value ≡ true → r ≡ s
row_same r s keys values = let k = (bytes_decides r.key s.key).0 keys in let v = (bytes_decides r.value s.value).0 values in (λ i. record { key = k i; value = v i })

pub same_key : (r s : StoreRow) → r ≡ s → bytes_eq r.key s.key ≡ true
same_key r s same = (bytes_decides r.key s.key).1 (ap (λ (q : StoreRow). q.key) same)

pub same_value : (r s : StoreRow) → r ≡ s → bytes_eq r.value s.value ≡ true
same_value r s same = (bytes_decides r.value s.value).1 (ap (λ (q : StoreRow). q.value) same)
