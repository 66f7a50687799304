-- The rows of counts change where those of the names that may differ do, and are longer by as much.
use Rattle.std.proofs.Common.{◌≡◌, ◌+◌, ◌-◌, ◌≤◌, ℕ, List, length}
use Rattle.row_batches.specs.Batch.{puts_text}
use Rattle.row_batches.specs.Between.{changes_between}
use Rattle.event_counts.proofs.Rising.{rows_rise}
use Rattle.event_counts.specs.Rows.{row_of, rows_of}
use Rattle.event_counts.specs.Sound.{IsSound}
use Rattle.event_counts.specs.declared.name_counts.NameCounts.{NameCounts}
use Rattle.sequences.specs.ListParts.{part_of_new, part_of_old}
use Rattle.state_codec.proofs.ListParts as parts
use Rattle.client_state.specs.Changes.{IsNextEvents}
use Rattle.client_state.specs.declared.state_change.NextEvents.{NextEvents}

module _ (old : List NameCounts) (next : NextEvents) (is : IsNextEvents old next) where
  abbrev olds : List NameCounts
  olds = part_of_old next.part old

  abbrev news : List NameCounts
  news = part_of_new next.part next.counts

  pub part_told : IsSound old → changes_between (rows_of olds) (rows_of news) ≡ changes_between (rows_of old) (rows_of next.counts)
  part_told sound = parts.part_alone row_of next.part old next.counts is.part (rows_rise old sound.order) (rows_rise next.counts is.sound.order)

  module _ (before removed : ℕ) (before_is : before ≡ length (puts_text (rows_of old))) (removed_is : removed ≡ length (puts_text (rows_of olds))) where
    pub removed_short : removed ≤ before
    removed_short = parts.removed_short row_of next.part old next.counts is.part before removed before_is removed_is

    pub size_after : (added : ℕ) → added ≡ length (puts_text (rows_of news)) → before - removed + added ≡ length (puts_text (rows_of next.counts))
    size_after added added_is = parts.size_after row_of next.part old next.counts is.part before removed before_is removed_is added added_is
