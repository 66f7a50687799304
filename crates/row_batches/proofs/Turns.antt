-- The steps of a walk over the rows of two maps.
use Rattle.std.proofs.Common.{Ordering, Less, Equal, Greater, ◌≡◌, Bool, true, false, List, [], ◌∷◌, ◌++◌, refl, ap, ◌∙◌, arith}
use Rattle.std.specs.Prelude.{bytes_eq, if◌then◌else◌}
use Rattle.std.specs.Ordering.{match_ordering}
use Rattle.row_batches.specs.Between.{put_where_differs, changes_between}
use Rattle.row_batches.specs.Rows.{key_cmp}
use Rattle.row_batches.specs.Steps.{IsTurn}
use Rattle.row_batches.specs.declared.change.RowChange.TheVariants.{Put, Delete}
use Rattle.row_batches.specs.declared.store_row.StoreRow.{StoreRow}

pub gone_last : (old : StoreRow) (olds : List StoreRow) → IsTurn (Delete old.key ∷ []) olds [] (old ∷ olds) []
gone_last old olds = record { split = refl; fewer = omega arith }

pub added_last : (new : StoreRow) (news : List StoreRow) → IsTurn (Put new ∷ []) [] news [] (new ∷ news)
added_last new news = record { split = refl; fewer = omega arith }

met : (old new : StoreRow) (olds news : List StoreRow) (o : Ordering) → key_cmp old.key new.key ≡ o
    → changes_between (old ∷ olds) (new ∷ news) ≡ match_ordering o (Delete old.key ∷ changes_between olds (new ∷ news)) (put_where_differs old new ++ changes_between olds news) (Put new ∷ changes_between (old ∷ olds) news)
met old new olds news o e = ap (λ p. match_ordering p (Delete old.key ∷ changes_between olds (new ∷ news)) (put_where_differs old new ++ changes_between olds news) (Put new ∷ changes_between (old ∷ olds) news)) e

pub gone : (old new : StoreRow) (olds news : List StoreRow) → key_cmp old.key new.key ≡ Less → IsTurn (Delete old.key ∷ []) olds (new ∷ news) (old ∷ olds) (new ∷ news)
gone old new olds news e = record { split = met old new olds news Less e; fewer = omega arith }

pub added : (old new : StoreRow) (olds news : List StoreRow) → key_cmp old.key new.key ≡ Greater → IsTurn (Put new ∷ []) (old ∷ olds) news (old ∷ olds) (new ∷ news)
added old new olds news e = record { split = met old new olds news Greater e; fewer = omega arith }

put_where : (old new : StoreRow) (olds news : List StoreRow) (b : Bool) → bytes_eq old.value new.value ≡ b → key_cmp old.key new.key ≡ Equal → changes_between (old ∷ olds) (new ∷ news) ≡ (if b then [] else Put new ∷ []) ++ changes_between olds news
put_where old new olds news b is e = met old new olds news Equal e ∙ ap (λ (c : Bool). (if c then [] else Put new ∷ []) ++ changes_between olds news) is

pub same : (old new : StoreRow) (olds news : List StoreRow) → bytes_eq old.value new.value ≡ true → key_cmp old.key new.key ≡ Equal → IsTurn [] olds news (old ∷ olds) (new ∷ news)
same old new olds news is e = record { split = put_where old new olds news true is e; fewer = omega arith }

pub differs : (old new : StoreRow) (olds news : List StoreRow) → bytes_eq old.value new.value ≡ false → key_cmp old.key new.key ≡ Equal → IsTurn (Put new ∷ []) olds news (old ∷ olds) (new ∷ news)
differs old new olds news is e = record { split = put_where old new olds news false is e; fewer = omega arith }
