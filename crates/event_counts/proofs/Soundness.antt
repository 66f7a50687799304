-- Counts stay sound.
use Rattle.std.proofs.Common.{◌≡◌, ℕ, zero, suc, ◌<◌, ◌≤◌, ◌^◌, List, [], ◌∷◌, ◌++◌, length, get_or, take, max, IsTrue, refl, sym, ap, ◌∙◌, subst, arith}
use Rattle.std.proofs.lemmas.List.{length-replicate}
use Rattle.std.specs.Prelude.{slice_set, replicate}
use Rattle.std.specs.List.{AllByRecursion, insert}
use Rattle.std.specs.List.Sorted.{IsStrictlySortedBy}
use Rattle.sequences.proofs.Alls.{all_at, all_append}
use Rattle.plain_text.specs.Names.{is_name}
use Rattle.event_counts.specs.declared.interval.Interval.{Interval}
use Rattle.event_counts.specs.declared.interval.Interval.TheVariants.{Hours, Days, Weeks}
use Rattle.event_counts.specs.declared.name_counts.NameCounts.{NameCounts}
use Rattle.event_counts.specs.Intervals.{entry_count, turns}
use Rattle.event_counts.specs.Kept.{moment_at, at_moment, no_counts, with_more, with_name}
use Rattle.event_counts.specs.Lists.{turned, raised}
use Rattle.event_counts.specs.Sound.{AreCounts, AreInOrder, IsSoundName, IsSound}
use Rattle.event_counts.specs.Places.{HasNameAt, BelongsAt}
use Rattle.event_counts.proofs.Found.{put_there, put_new, order-with, all-with}
use Rattle.event_counts.proofs.Turning.{length_of_turned}

abbrev Fits : ℕ → Type 0
Fits x = x < 2 ^ 32

-- ---- lists

zeros_fit : (n : ℕ) → AllByRecursion Fits (replicate n 0)
zeros_fit zero = tt
zeros_fit (suc n) = (omega arith, zeros_fit n)

fit-take : (n : ℕ) (xs : List ℕ) → AllByRecursion Fits xs → AllByRecursion Fits (take n xs)
fit-take zero xs fit = tt
fit-take (suc n) [] fit = tt
fit-take (suc n) (x ∷ xs) fit = (fit.0, fit-take n xs fit.1)

counts-turned : (i : Interval) (steps : ℕ) (xs : List ℕ) → AreCounts i xs → AreCounts i (turned steps xs)
unfolding turned
counts-turned i steps xs counts = record {
  full = length_of_turned steps xs ∙ counts.full;
  room = fit-take (length xs) (replicate steps 0 ++ xs) (all_append Fits (replicate steps 0) xs (zeros_fit steps) counts.room);
}

pub length-raised : (count : ℕ) (xs : List ℕ) → length (raised count xs) ≡ length xs
length-raised count [] = refl
length-raised count (x ∷ xs) = refl

fit-raised : (count : ℕ) (xs : List ℕ) → AllByRecursion Fits xs → AllByRecursion Fits (raised count xs)
fit-raised count [] fit = tt
fit-raised count (x ∷ xs) fit = (omega arith, fit.1)

counts-raised : (i : Interval) (count : ℕ) (xs : List ℕ) → AreCounts i xs → AreCounts i (raised count xs)
counts-raised i count xs counts = record { full = length-raised count xs ∙ counts.full; room = fit-raised count xs counts.room }

zero_counts : (i : Interval) → AreCounts i (replicate (entry_count i) 0)
zero_counts i = record { full = length-replicate {A = ℕ} (entry_count i) 0; room = zeros_fit (entry_count i) }

-- ---- the counts of a name

sound-no_counts : (name : List ℕ) (moment : ℕ) → IsTrue (is_name name) → moment ≤ 253402300799 → IsSoundName (no_counts name moment)
sound-no_counts name moment is most = record {
  name = is;
  latest = most;
  lists = record { hours = zero_counts Hours; days = zero_counts Days; weeks = zero_counts Weeks };
}

sound-at_moment : (moment : ℕ) (n : NameCounts) → IsSoundName n → moment ≤ 253402300799 → IsSoundName (at_moment moment n)
sound-at_moment moment n sound most = record {
  name = sound.name;
  latest = most;
  lists = record {
    hours = counts-turned Hours (turns Hours n.latest moment) n.hours sound.lists.hours;
    days = counts-turned Days (turns Days n.latest moment) n.days sound.lists.days;
    weeks = counts-turned Weeks (turns Weeks n.latest moment) n.weeks sound.lists.weeks;
  };
}

sound-with_more : (count : ℕ) (n : NameCounts) → IsSoundName n → IsSoundName (with_more count n)
sound-with_more count n sound = record {
  name = sound.name;
  latest = sound.latest;
  lists = record {
    hours = counts-raised Hours count n.hours sound.lists.hours;
    days = counts-raised Days count n.days sound.lists.days;
    weeks = counts-raised Weeks count n.weeks sound.lists.weeks;
  };
}

-- ---- the counts of all names

pub sound_none : (ns : List NameCounts) → ns ≡ [] → IsSound ns
unfolding IsStrictlySortedBy
sound_none ns is =
    let none : IsSound [] = record { most = omega arith; order = tt; names = tt } in
    subst IsSound (sym is) none

pub most_moment_at : (now : ℕ) (ns : List NameCounts) → now ≤ 253402300799 → AllByRecursion IsSoundName ns → moment_at now ns ≤ 253402300799
most_moment_at now [] most sound = most
most_moment_at now (n ∷ ns) most sound = let latest = sound.0.latest in most_moment_at (max now n.latest) ns (omega (arith, latest)) sound.1

length-slice_set : (ns : List NameCounts) (i : ℕ) (n : NameCounts) → length (slice_set ns i n) ≡ length ns
length-slice_set [] i n = refl
length-slice_set (o ∷ os) zero n = refl
length-slice_set (o ∷ os) (suc i) n = ap suc (length-slice_set os i n)

length-insert : (ns : List NameCounts) (i : ℕ) (n : NameCounts) → length (insert ns i n) ≡ suc (length ns)
length-insert [] zero n = refl
length-insert [] (suc i) n = refl
length-insert (o ∷ os) zero n = refl
length-insert (o ∷ os) (suc i) n = ap suc (length-insert os i n)

sound_with : (n : NameCounts) (ns made : List NameCounts) → IsSound ns → IsSoundName n → length made ≤ 64 → made ≡ with_name n ns → IsSound made
sound_with n ns made sound here most is = record {
  most = most;
  order = subst AreInOrder (sym is) (order-with n ns sound.order);
  names = subst (AllByRecursion IsSoundName) (sym is) (all-with IsSoundName n ns here sound.names);
}

pub sound_there : (name : List ℕ) (count moment : ℕ) (ns made : List NameCounts) (i : ℕ) (d : NameCounts) → IsSound ns → HasNameAt name ns i → moment ≤ 253402300799
    → made ≡ slice_set ns i (with_more count (at_moment moment (get_or ns i d))) → IsSound made
sound_there name count moment ns made i d sound at most is =
    let n : NameCounts = get_or ns i d in
    let r : NameCounts = with_more count (at_moment moment n) in
    let here : IsSoundName r = sound-with_more count (at_moment moment n) (sound-at_moment moment n (all_at IsSoundName ns i d at.within sound.names) most) in
    let len : length made ≡ length ns = ap (λ (l : List NameCounts). length l) is ∙ length-slice_set ns i r in
    sound_with r ns made sound here (omega (arith, len, sound.most)) (is ∙ put_there name count moment ns i d sound.order at)

pub sound_new : (name : List ℕ) (count moment : ℕ) (ns made : List NameCounts) (i : ℕ) → IsSound ns → BelongsAt name ns i → IsTrue (is_name name) → moment ≤ 253402300799 → length ns < 64
    → made ≡ insert ns i (with_more count (no_counts name moment)) → IsSound made
sound_new name count moment ns made i sound at is_so most less is =
    let r : NameCounts = with_more count (no_counts name moment) in
    let here : IsSoundName r = sound-with_more count (no_counts name moment) (sound-no_counts name moment is_so most) in
    let len : length made ≡ suc (length ns) = ap (λ (l : List NameCounts). length l) is ∙ length-insert ns i r in
    sound_with r ns made sound here (omega (arith, len, less)) (is ∙ put_new name count moment ns i at)
