-- The counts after an event, and when it isn't counted.
use Rattle.std.proofs.Common.{◌≡◌, ℕ, ◌<◌, ◌≤◌, List, length, get_or, Option, Some, None, Result, Ok, Err, IsTrue, sym, ap, ◌∙◌, subst}
use Rattle.std.specs.Prelude.{slice_set}
use Rattle.std.specs.List.{insert}
use Rattle.std.specs.Result.{IsErrAnd, IsErrOf}
use Rattle.plain_text.specs.Names.{is_name}
use Rattle.event_counts.specs.declared.fault.CountFault.{CountFault}
use Rattle.event_counts.specs.declared.fault.CountFault.TheVariants.{EventLimit, OutOfMemory}
use Rattle.event_counts.specs.declared.name_counts.NameCounts.{NameCounts}
use Rattle.event_counts.specs.Kept.{at_moment, counted_at, counted_in, moment_at, no_counts, with_more}
use Rattle.event_counts.specs.Places.{HasNameAt, BelongsAt}
use Rattle.event_counts.specs.Sound.{IsSound}
use Rattle.event_counts.proofs.Found.{counted_there, counted_new}
use Rattle.event_counts.proofs.Soundness.{most_moment_at, sound_there, sound_new}

-- the counts after an event of a name that is there
module _ (name : List ℕ) (count now moment : ℕ) (ns made : List NameCounts) (place : ℕ) (there more : NameCounts) (sound : IsSound ns) (latest : moment ≡ moment_at now ns)
    (at : HasNameAt name ns place) (here : there ≡ get_or ns place there) (raised : more ≡ with_more count (at_moment moment there)) (set : made ≡ slice_set ns place more) where
  replaced : made ≡ slice_set ns place (with_more count (at_moment moment (get_or ns place there)))
  replaced = set ∙ ap (λ n. slice_set ns place n) (raised ∙ ap (λ n. with_more count (at_moment moment n)) here)

  pub counted-there : made ≡ counted_in name count now ns
  counted-there = replaced ∙ counted_there name count moment ns place there sound.order at ∙ ap (λ m. counted_at m name count ns) latest

  pub sound-there : now ≤ 253402300799 → IsSound made
  sound-there most =
      let within : moment ≤ 253402300799 = subst (λ m. m ≤ 253402300799) (sym latest) (most_moment_at now ns most sound.names) in
      sound_there name count moment ns made place there sound at within replaced

-- the counts after the first event of a name
module _ (name : List ℕ) (count now moment : ℕ) (ns made : List NameCounts) (place : ℕ) (first : NameCounts) (latest : moment ≡ moment_at now ns) (at : BelongsAt name ns place)
    (raised : first ≡ with_more count (no_counts name moment)) (set : made ≡ insert ns place first) where
  inserted : made ≡ insert ns place (with_more count (no_counts name moment))
  inserted = set ∙ ap (λ n. insert ns place n) raised

  pub counted-new : made ≡ counted_in name count now ns
  counted-new = inserted ∙ counted_new name count moment ns place at ∙ ap (λ m. counted_at m name count ns) latest

  pub sound-new : IsSound ns → IsTrue (is_name name) → now ≤ 253402300799 → length ns < 64 → IsSound made
  sound-new sound named most room =
      let within : moment ≤ 253402300799 = subst (λ m. m ≤ 253402300799) (sym latest) (most_moment_at now ns most sound.names) in
      sound_new name count moment ns made place sound at named within room inserted

-- ---- the limit, where the name is there

abbrev pub IsLimit : {T : Type 0} → Result T CountFault → Option NameCounts → ℕ → Type 0
IsLimit r o len = (IsErrOf r EventLimit → (o ≡ None) × (64 ≤ len)) × ((o ≡ None) × (64 ≤ len) → IsErrOf r EventLimit)

pub no_limit : {T : Type 0} (counts : T) (o : Option NameCounts) (n : NameCounts) (len : ℕ) → o ≡ Some n → IsLimit {T = T} (Ok counts) o len
no_limit counts o n len is = (λ fault. absurd (cc), λ both. let none : o ≡ None = both.0 in absurd (cc))

pub no_memory : {T : Type 0} (r : Result T CountFault) (o : Option NameCounts) (n : NameCounts) (len : ℕ) → o ≡ Some n → IsErrAnd r (λ e. e ≡ OutOfMemory) → IsLimit r o len
no_memory (Ok counts) o n len is has = absurd has
no_memory (Err e) o n len is has = (λ fault. absurd (cc), λ both. let none : o ≡ None = both.0 in absurd (cc))
