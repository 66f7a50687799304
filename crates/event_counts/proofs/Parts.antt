-- What holds of sound counts holds of a part of them.
use Rattle.std.proofs.Common.{ℕ, ◌-◌, ◌≤◌, List, length, length-drop, drop, arith}
use Rattle.std.proofs.lemmas.List.{length-take}
use Rattle.std.proofs.lemmas.List.Elements.{All-drop, All-from_recursion, All-take, recursion_from_All}
use Rattle.std.specs.Prelude.{slice_range}
use Rattle.std.specs.List.{AllByRecursion}
use Rattle.event_counts.specs.declared.name_counts.NameCounts.{NameCounts}
use Rattle.event_counts.specs.Sound.{IsSound, IsSoundName}

pub part_sound : (ns : List NameCounts) (start end : ℕ) → IsSound ns → AllByRecursion IsSoundName (slice_range ns start end)
part_sound ns start end sound =
    recursion_from_All IsSoundName (slice_range ns start end) (All-take IsSoundName (end - start) (drop start ns) (All-drop IsSoundName start ns (All-from_recursion IsSoundName ns sound.names)))

pub part_short : (ns : List NameCounts) (start end : ℕ) → IsSound ns → length (slice_range ns start end) ≤ 64
part_short ns start end sound = omega (arith, length-take (end - start) (drop start ns), length-drop start ns, sound.most)
