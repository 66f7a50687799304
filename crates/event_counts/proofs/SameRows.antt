-- Rows tell the counts that they keep.
use Rattle.std.proofs.Common.{◌≡◌, ◌<◌, ◌≤◌, ◌^◌, ◌++◌, ◌∷◌, [], List, ℕ, length, drop, ◌∙◌, ap, sym, refl, length-append, arith}
use Rattle.std.specs.List.{AllByRecursion}
use Rattle.row_batches.specs.declared.store_row.StoreRow.{StoreRow}
use Rattle.event_counts.specs.declared.interval.Interval.{Interval}
use Rattle.event_counts.specs.declared.name_counts.NameCounts.{NameCounts}
use Rattle.event_counts.specs.Laws.{Has728Bytes}
use Rattle.event_counts.specs.Rows.{list_bytes, moment_bytes, value_of, row_of, rows_of}
use Rattle.event_counts.specs.Sound.{AreCounts, HaveCounts, IsSoundName, IsSound}
use Rattle.event_counts.proofs.Bytes.{front_same, rest_same, moment_same, list_same, length-moment_bytes, length-list_bytes}

same_counts : (n m : NameCounts) → n.name ≡ m.name → n.latest ≡ m.latest → n.hours ≡ m.hours → n.days ≡ m.days → n.weeks ≡ m.weeks → n ≡ m
same_counts n m name latest hours days weeks = λ i. record { name = name i; latest = latest i; hours = hours i; days = days i; weeks = weeks i }

even_lists : (i : Interval) (xs ys : List ℕ) → AreCounts i xs → AreCounts i ys → length (list_bytes xs) ≡ length (list_bytes ys)
even_lists i xs ys counts others = omega (arith, length-list_bytes xs, length-list_bytes ys, counts.full, others.full)

one_list : (i : Interval) (xs ys : List ℕ) → AreCounts i xs → AreCounts i ys → list_bytes xs ≡ list_bytes ys → xs ≡ ys
one_list i xs ys counts others same = list_same xs ys (counts.full ∙ sym others.full) counts.room others.room same

-- the moment at the front of a value
pub latest_same : (n m : ℕ) (r t : List ℕ) → n < 2 ^ 64 → m < 2 ^ 64 → moment_bytes n ++ r ≡ moment_bytes m ++ t → n ≡ m
latest_same n m r t n_in m_in same = moment_same n m n_in m_in (front_same (moment_bytes n) (moment_bytes m) r t (length-moment_bytes n ∙ sym (length-moment_bytes m)) same)

-- ---- the fields of a value

pub record AreSame (n m : NameCounts) : Type 0 where
  pub latest : n.latest ≡ m.latest
  pub hours : n.hours ≡ m.hours
  pub days : n.days ≡ m.days
  pub weeks : n.weeks ≡ m.weeks

pub fields_same : (n m : NameCounts) → HaveCounts n → HaveCounts m → n.latest < 2 ^ 64 → m.latest < 2 ^ 64 → value_of n ≡ value_of m → AreSame n m
fields_same n m counts others n_in m_in same =
    let behind_hours_n : List ℕ = list_bytes n.days ++ list_bytes n.weeks in
    let behind_hours_m : List ℕ = list_bytes m.days ++ list_bytes m.weeks in
    let lists_n : List ℕ = list_bytes n.hours ++ behind_hours_n in
    let lists_m : List ℕ = list_bytes m.hours ++ behind_hours_m in
    let even : length (moment_bytes n.latest) ≡ length (moment_bytes m.latest) = length-moment_bytes n.latest ∙ sym (length-moment_bytes m.latest) in
    let lists : lists_n ≡ lists_m = rest_same (moment_bytes n.latest) (moment_bytes m.latest) lists_n lists_m even same in
    let even_hours = even_lists _ n.hours m.hours counts.hours others.hours in
    let behind : behind_hours_n ≡ behind_hours_m = rest_same (list_bytes n.hours) (list_bytes m.hours) behind_hours_n behind_hours_m even_hours lists in
    let even_days = even_lists _ n.days m.days counts.days others.days in
    record {
      latest = latest_same n.latest m.latest lists_n lists_m n_in m_in same;
      hours = one_list _ n.hours m.hours counts.hours others.hours (front_same (list_bytes n.hours) (list_bytes m.hours) behind_hours_n behind_hours_m even_hours lists);
      days = one_list _ n.days m.days counts.days others.days (front_same (list_bytes n.days) (list_bytes m.days) (list_bytes n.weeks) (list_bytes m.weeks) even_days behind);
      weeks = one_list _ n.weeks m.weeks counts.weeks others.weeks (rest_same (list_bytes n.days) (list_bytes m.days) (list_bytes n.weeks) (list_bytes m.weeks) even_days behind);
    }

pub same_value : (n m : NameCounts) → n.latest ≡ m.latest → n.hours ≡ m.hours → n.days ≡ m.days → n.weeks ≡ m.weeks → value_of n ≡ value_of m
same_value n m latest hours days weeks = λ i. moment_bytes (latest i) ++ (list_bytes (hours i) ++ (list_bytes (days i) ++ list_bytes (weeks i)))

value_same : (n m : NameCounts) → IsSoundName n → IsSoundName m → n.name ≡ m.name → value_of n ≡ value_of m → n ≡ m
value_same n m sound other name same =
    let latest_n : n.latest ≤ 253402300799 = sound.latest in
    let latest_m : m.latest ≤ 253402300799 = other.latest in
    let are = fields_same n m sound.lists other.lists (omega (arith, latest_n)) (omega (arith, latest_m)) same in
    same_counts n m name are.latest are.hours are.days are.weeks

-- one row, one name and its counts
pub row_same : (n m : NameCounts) → IsSoundName n → IsSoundName m → row_of n ≡ row_of m → n ≡ m
row_same n m sound other same =
    value_same n m sound other (ap (λ (r : StoreRow). drop 1 r.key) same) (ap (λ (r : StoreRow). r.value) same)

abbrev first_row : StoreRow → List StoreRow → StoreRow
first_row r [] = r
first_row r (q ∷ qs) = q

pub rows_same : (ns ms : List NameCounts) → AllByRecursion IsSoundName ns → AllByRecursion IsSoundName ms → rows_of ns ≡ rows_of ms → ns ≡ ms
rows_same [] [] sound other same = refl
rows_same [] (m ∷ ms) sound other same = absurd (cc)
rows_same (n ∷ ns) [] sound other same = absurd (cc)
rows_same (n ∷ ns) (m ∷ ms) sound other same =
    let head : n ≡ m = row_same n m sound.0 other.0 (ap (λ (l : List StoreRow). first_row (row_of n) l) same) in
    let tail : ns ≡ ms = rows_same ns ms sound.1 other.1 (ap (λ (l : List StoreRow). drop 1 l) same) in
    λ i. head i ∷ tail i

pub one_list_of_rows : (ns ms : List NameCounts) → IsSound ns → IsSound ms → rows_of ns ≡ rows_of ms → ns ≡ ms
one_list_of_rows ns ms sound other same = rows_same ns ms sound.names other.names same

length-value_of : (n : NameCounts) → HaveCounts n → length (value_of n) ≡ 728
length-value_of n lists =
    let hours = list_bytes n.hours in
    let days = list_bytes n.days in
    let weeks = list_bytes n.weeks in
    omega (arith, length-append (moment_bytes n.latest) (hours ++ (days ++ weeks)), length-append hours (days ++ weeks), length-append days weeks, length-moment_bytes n.latest, length-list_bytes n.hours, length-list_bytes n.days, length-list_bytes n.weeks, lists.hours.full, lists.days.full, lists.weeks.full)

pub length-value : (n : NameCounts) → IsSoundName n → length (value_of n) ≡ 728
length-value n sound = length-value_of n sound.lists

pub rows_have_728_bytes : (ns : List NameCounts) → AllByRecursion IsSoundName ns → AllByRecursion Has728Bytes (rows_of ns)
rows_have_728_bytes [] sound = tt
rows_have_728_bytes (n ∷ ns) sound = (length-value n sound.0, rows_have_728_bytes ns sound.1)
