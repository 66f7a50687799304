-- The changes between maps that are joined of parts, where the keys of the first parts are below those of the second.
use Rattle.std.proofs.Common.{Less, Equal, Greater, ◌≡◌, List, [], ◌∷◌, ◌++◌, map, refl, ap, ◌∙◌, sym, append_assoc}
use Rattle.std.specs.List.{AllByRecursion}
use Rattle.std.specs.Ordering.{match_ordering}
use Rattle.row_batches.specs.Between.{put_where_differs, changes_from, changes_between}
use Rattle.row_batches.specs.Places.{AreAbove}
use Rattle.row_batches.specs.Rows.{key_cmp, key_of}
use Rattle.row_batches.specs.declared.change.RowChange.{RowChange}
use Rattle.row_batches.specs.declared.change.RowChange.TheVariants.{Put, Delete}
use Rattle.row_batches.specs.declared.store_row.StoreRow.{StoreRow}
use Rattle.sequences.proofs.Texts.{turned_up}

-- the keys of the first rows are below those of the second
abbrev pub Precede : List StoreRow → List StoreRow → Type 0
Precede rows behind = AllByRecursion (λ (r : StoreRow). AreAbove r.key (map key_of behind)) rows

abbrev rest_of : List StoreRow → List StoreRow → List RowChange
rest_of olds more = changes_between olds more

-- a new row that is below all old ones comes first
new_first : (new : StoreRow) (olds news : List StoreRow) → AreAbove new.key (map key_of olds) → changes_between olds (new ∷ news) ≡ Put new ∷ changes_between olds news
new_first new [] news above = refl
new_first new (old ∷ olds) news above =
    ap (λ o. match_ordering o (Delete old.key ∷ rest_of olds (new ∷ news)) (put_where_differs old new ++ rest_of olds news) (Put new ∷ changes_from old (λ more. rest_of olds more) news)) (turned_up new.key old.key above.0)

-- an old row that is below all new ones comes first
old_first : (old : StoreRow) (olds news : List StoreRow) → AreAbove old.key (map key_of news) → changes_between (old ∷ olds) news ≡ Delete old.key ∷ changes_between olds news
old_first old olds [] above = refl
old_first old olds (new ∷ news) above =
    ap (λ o. match_ordering o (Delete old.key ∷ rest_of olds (new ∷ news)) (put_where_differs old new ++ rest_of olds news) (Put new ∷ changes_from old (λ more. rest_of olds more) news)) above.0

module _ (olds_behind news_behind : List StoreRow) where
  puts_join : (news : List StoreRow) → Precede news olds_behind → changes_between olds_behind (news ++ news_behind) ≡ map Put news ++ changes_between olds_behind news_behind
  puts_join [] below = refl
  puts_join (new ∷ news) below = new_first new olds_behind (news ++ news_behind) below.0 ∙ ap (λ cs. Put new ∷ cs) (puts_join news below.1)

  from_join : (old : StoreRow) (olds news : List StoreRow) → AreAbove old.key (map key_of news_behind) → Precede news olds_behind
      → ((more : List StoreRow) → Precede more olds_behind → changes_between (olds ++ olds_behind) (more ++ news_behind) ≡ rest_of olds more ++ changes_between olds_behind news_behind)
      → changes_between (old ∷ (olds ++ olds_behind)) (news ++ news_behind) ≡ changes_from old (λ more. rest_of olds more) news ++ changes_between olds_behind news_behind
  from_join old olds [] above below rest = old_first old (olds ++ olds_behind) news_behind above ∙ ap (λ cs. Delete old.key ∷ cs) (rest [] tt)
  from_join old olds (new ∷ news) above below rest =
      elim (key_cmp old.key new.key) as (λ o. match_ordering o (Delete old.key ∷ rest_of (olds ++ olds_behind) (new ∷ (news ++ news_behind))) (put_where_differs old new ++ rest_of (olds ++ olds_behind) (news ++ news_behind)) (Put new ∷ changes_between (old ∷ (olds ++ olds_behind)) (news ++ news_behind))
      ≡ match_ordering o (Delete old.key ∷ rest_of olds (new ∷ news)) (put_where_differs old new ++ rest_of olds news) (Put new ∷ changes_from old (λ more. rest_of olds more) news) ++ changes_between olds_behind news_behind) [
        | Less ↦ ap (λ cs. Delete old.key ∷ cs) (rest (new ∷ news) below)
        | Equal ↦ ap (λ cs. put_where_differs old new ++ cs) (rest news below.1) ∙ sym (append_assoc (put_where_differs old new) (rest_of olds news) (changes_between olds_behind news_behind))
        | Greater ↦ ap (λ cs. Put new ∷ cs) (from_join old olds news above below.1 rest)
      ]

  pub between-append : (olds news : List StoreRow) → Precede olds news_behind → Precede news olds_behind
      → changes_between (olds ++ olds_behind) (news ++ news_behind) ≡ changes_between olds news ++ changes_between olds_behind news_behind
  between-append [] news old_below below = puts_join news below
  between-append (old ∷ olds) news old_below below =
      from_join old olds news old_below.0 below (λ more more_below. between-append olds more old_below.1 more_below)
