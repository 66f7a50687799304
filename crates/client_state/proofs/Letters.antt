-- What holds of each row whose key begins with a part's letter holds of the part's rows.
use Rattle.std.proofs.Common.{◌∷◌, [], List, ℕ, Bool, true, false, Option, Some, None, map}
use Rattle.std.specs.Prelude.{nat_lt, if◌then◌else◌}
use Rattle.std.specs.List.{AllByRecursion}
use Rattle.row_batches.specs.declared.store_row.StoreRow.{StoreRow}
use Rattle.event_counts.specs.Rows as count_rows
use Rattle.event_counts.specs.declared.name_counts.NameCounts.{NameCounts}
use Rattle.change_outbox.specs.Contents.{Contents}
use Rattle.change_outbox.specs.Rows as change_rows
use Rattle.change_outbox.specs.Rows.{change_row, change_text, next_row, next_rows, number_text}
use Rattle.pref_bindings.specs.Rows.{hold_row, hold_rows, hold_text, value_row, value_rows, value_text}
use Rattle.pref_bindings.specs.declared.preference.Hold.{Hold}
use Rattle.pref_bindings.specs.declared.preference.Preference.{Preference}
use Rattle.state_codec.specs.Encoding.{row}
use Rattle.state_codec.proofs.Letters.{all_append, all_map}

module _ (P : StoreRow → Type 0) where
  pub events_all : (ns : List NameCounts) → ((rest value : List ℕ) → P (row (101 ∷ rest) value)) → AllByRecursion P (count_rows.rows_of ns)
  events_all ns each = all_map P count_rows.row_of ns (λ n. each n.name (count_rows.value_of n))

  hold_all : (name : List ℕ) (h : Option Hold) → ((rest value : List ℕ) → P (row (104 ∷ rest) value)) → AllByRecursion P (hold_row name h)
  hold_all name None each = tt
  hold_all name (Some h) each = (each name (hold_text h.holder h.before), tt)

  pub holds_all : (ps : List Preference) → ((rest value : List ℕ) → P (row (104 ∷ rest) value)) → AllByRecursion P (hold_rows ps)
  holds_all [] each = tt
  holds_all (p ∷ ps) each = all_append P (hold_row p.name p.hold) (hold_rows ps) (hold_all p.name p.hold each) (holds_all ps each)

  next_all : (b : Bool) (n : ℕ) → ((rest value : List ℕ) → P (row (120 ∷ rest) value)) → AllByRecursion P (if b then next_row n ∷ [] else [])
  next_all true n each = (each [] (number_text n), tt)
  next_all false n each = tt

  pub outbox_all : (o : Contents) → ((rest value : List ℕ) → P (row (120 ∷ rest) value)) → AllByRecursion P (change_rows.rows_of o)
  outbox_all o each =
      all_append P (next_rows o.next) (map change_row o.entries) (next_all (nat_lt 1 o.next) o.next each)
      (all_map P change_row o.entries (λ c. each (number_text c.number) (change_text c.kind c.slug c.branch)))

  pub values_all : (ps : List Preference) → ((rest value : List ℕ) → P (row (121 ∷ rest) value)) → AllByRecursion P (value_rows ps)
  values_all ps each = all_map P value_row ps (λ p. each p.name (value_text p.value))
