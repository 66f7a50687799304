-- Each file that a listed file names is listed, for that channel.
use Rattle.std.proofs.Common.{◌≡◌, ℕ, zero, suc, ◌+◌, ◌-◌, ◌<◌, ◌≤◌, Bool, true, false, List, [], ◌∷◌, ◌++◌, length, Option, Some, None, Ok, Err, refl, sym, ap, ◌∙◌, subst, append_assoc, length-append, arith}
use Rattle.std.specs.Prelude.{All, nat_lt, bytes_eq, is_some, slice_get, if◌then◌else◌}
use Rattle.std.specs.Cmp.Lexicographic.{bytes_decides}
use Rattle.std.proofs.lemmas.List.{append-nil}
use Rattle.std.proofs.lemmas.Option.{slice_get_within}
use Rattle.std.specs.Option.{option_or}
use Rattle.std.proofs.lemmas.Bool.{or_right, or_left}
use Rattle.sequences.proofs.Texts.{bytes_same}
use Rattle.fml_types.specs.Named.{found, has_name}
use Rattle.fml_reader.specs.declared.module.Module.{Module}
use Rattle.fml_imports.proofs.Alls.{all_nil, all_cons, all_head, all_tail, all_map}
use Rattle.fml_link.specs.declared.fault.LinkRefusal.TheVariants as refusals
use Rattle.fml_link.specs.Files.{file_module, named_by, with_file, with_files, where_other, first_clash, with_named, after_file, list_after}
use Rattle.fml_link.specs.Outcome.{◌>>=◌, each}
use Rattle.fml_link.specs.Laws.{AreClosed}
use Rattle.fml_link.proofs.Linked.{bind_ok}
use Rattle.fml_link.proofs.Listing.{Listed, absent_short, IsAdded, files_keep, named_added, Begins, list_stay}
use Rattle.fml_link.proofs.FileLists.{turn_keeps, list_keeps, has_push}
use Rattle.fml_link.proofs.MetFiles.{found_there}

-- ---- what is in a list

found-longer : (b : Bool) (x y : List ℕ) (o all : Option (List ℕ)) → (o ≡ Some y → all ≡ Some y) → (if b then Some x else o) ≡ Some y → (if b then Some x else all) ≡ Some y
found-longer true x y o all more h = h
found-longer false x y o all more h = more h

found_longer : (name channel : List ℕ) (list more : Listed) → found name list ≡ Some channel → found name (list ++ more) ≡ Some channel
found_longer name channel [] more h = absurd cc
found_longer name channel (f ∷ fs) more h = found-longer (bytes_eq f.0 name) f.1 channel (found name fs) (found name (fs ++ more)) (found_longer name channel fs more) h

found_begun : (name channel : List ℕ) (list longer : Listed) → Begins list longer → found name list ≡ Some channel → found name longer ≡ Some channel
found_begun name channel list longer begins h = subst (λ l. found name l ≡ Some channel) (sym begins.1) (found_longer name channel list begins.0 h)

found_at : (name channel : List ℕ) (list : Listed) → found name list ≡ Some channel → (i : ℕ) × (slice_get list i ≡ Some (name, channel))
found_at name channel [] h = absurd cc
found_at name channel (f ∷ fs) h =
    elim (bytes_eq f.0 name) as (λ b. bytes_eq f.0 name ≡ b → (if b then Some f.1 else found name fs) ≡ Some channel → (i : ℕ) × (slice_get (f ∷ fs) i ≡ Some (name, channel))) [
      | true ↦ λ same there. let own : f.1 ≡ channel = cc in (0, ap (λ (g : List ℕ × List ℕ). Some g) (λ i. ((bytes_decides f.0 name).0 same i, own i)))
      | false ↦ λ apart there. let later = found_at name channel fs there in (suc later.0, later.1)
    ] refl h

-- ---- files that are added are in the list

file-there : (there room : Bool) (list : Listed) (f : List ℕ × List ℕ) (longer : Listed) → has_name f.0 list ≡ there → (if there then Ok list else if room then Ok (list ++ f ∷ []) else Err refusals.TooManyFiles) ≡ Ok longer → has_name f.0 longer ≡ true
file-there true room list f longer there h = let same : list ≡ longer = cc in subst (λ (l : Listed). has_name f.0 l ≡ true) same there
file-there false true list f longer there h =
    let same : list ++ f ∷ [] ≡ longer = cc in
    subst (λ (l : Listed). has_name f.0 l ≡ true) same (has_push f.0 f list ∙ or_right (has_name f.0 list) (bytes_eq f.0 f.0) (bytes_same f.0))
file-there false false list f longer there h = absurd cc

file_there : (list : Listed) (f : List ℕ × List ℕ) (longer : Listed) → with_file list f ≡ Ok longer → has_name f.0 longer ≡ true
file_there list f longer h = file-there (has_name f.0 list) (nat_lt (length list) 64) list f longer refl h

name_stays : (name : List ℕ) (fs list longer : Listed) → has_name name list ≡ true → with_files list fs ≡ Ok longer → has_name name longer ≡ true
name_stays name fs list longer there h =
    files_keep (λ l. has_name name l ≡ true) (λ (one : Listed) (f : List ℕ × List ℕ) (more : Listed) (kept : has_name name one ≡ true) (added : IsAdded one f more).
    subst (λ (l : Listed). has_name name l ≡ true) (sym added.2) (has_push name f one ∙ or_left (has_name name one) (bytes_eq f.0 name) kept)) fs list longer there h

abbrev AreThere : Listed → Listed → Type 0
AreThere list fs = All (λ (f : List ℕ × List ℕ). has_name f.0 list ≡ true) fs

files_there : (fs list longer : Listed) → with_files list fs ≡ Ok longer → AreThere longer fs
files_there [] list longer h = all_nil (λ (f : List ℕ × List ℕ). has_name f.0 longer ≡ true)
files_there (f ∷ fs) list longer h =
    let first = bind_ok (with_file list f) (λ l. each with_file l fs) longer h in
    all_cons (λ (f : List ℕ × List ℕ). has_name f.0 longer ≡ true) f fs (name_stays f.0 fs first.0 longer (file_there list f first.0 first.1) first.2) (files_there fs first.0 longer first.2)

-- ---- and they are listed for the channel that they are named with

abbrev AreListed : Listed → Listed → Type 0
AreListed list fs = All (λ (f : List ℕ × List ℕ). found f.0 list ≡ Some f.1) fs

same-channel : (name channel listed : List ℕ) (same : Bool) → bytes_eq listed channel ≡ same → (if same then None else Some name) ≡ None → listed ≡ channel
same-channel name channel listed true same h = (bytes_decides listed channel).0 same
same-channel name channel listed false same h = absurd cc

listed_for : (name channel : List ℕ) (o : Option (List ℕ)) → is_some o ≡ true → where_other name channel o ≡ None → o ≡ Some channel
listed_for name channel None there h = absurd cc
listed_for name channel (Some listed) there h = ap (λ c. Some c) (same-channel name channel listed (bytes_eq listed channel) refl h)

both_none : (a b : Option (List ℕ)) → option_or a b ≡ None → (a ≡ None) × (b ≡ None)
both_none None b h = (refl, h)
both_none (Some n) b h = absurd cc

all_listed : (list fs : Listed) → AreThere list fs → first_clash list fs ≡ None → AreListed list fs
all_listed list [] there h = all_nil (λ (f : List ℕ × List ℕ). found f.0 list ≡ Some f.1)
all_listed list (f ∷ fs) there h =
    let both = both_none (where_other f.0 f.1 (found f.0 list)) (first_clash list fs) h in
    all_cons (λ (f : List ℕ × List ℕ). found f.0 list ≡ Some f.1) f fs (listed_for f.0 f.1 (found f.0 list) (found_there f.0 list ∙ all_head (λ (f : List ℕ × List ℕ). has_name f.0 list ≡ true) f fs there) both.0)
    (all_listed list fs (all_tail (λ (f : List ℕ × List ℕ). has_name f.0 list ≡ true) f fs there) both.1)

named_listed : (fs list longer : Listed) → with_named list fs ≡ Ok longer → AreListed longer fs
named_listed fs list longer h = let added = named_added list fs longer h in all_listed longer fs (files_there fs list longer added.0) added.1

listed_begun : (fs list longer : Listed) → Begins list longer → AreListed list fs → AreListed longer fs
listed_begun fs list longer begins listed = all_map (λ (f : List ℕ × List ℕ). found f.0 list ≡ Some f.1) (λ (f : List ℕ × List ℕ). found f.0 longer ≡ Some f.1) fs (λ f one. found_begun f.0 f.1 list longer begins one) listed

-- ---- the list grows from file to file

-- what so many files leave is the beginning of what more of them leave
Grows : (List ℕ → Option (List ℕ)) → List ℕ → List ℕ → ℕ → Listed → Type 0
Grows file root channel n longer = (list : Listed) × (list_after file root channel n ≡ Ok list) × Begins list longer

list_grows : (file : List ℕ → Option (List ℕ)) (root channel : List ℕ) (n d m : ℕ) → m ≡ n + d → (longer : Listed) → list_after file root channel m ≡ Ok longer → Grows file root channel n longer
unfolding list_after Grows
list_grows file root channel n zero m is longer h = let same : m ≡ n = omega arith in (longer, subst (λ k. list_after file root channel k ≡ Ok longer) same h, ([], sym (append-nil longer)))
list_grows file root channel n (suc d) m is longer h =
    let next : m ≡ suc (n + d) = omega arith in
    let here : list_after file root channel (suc (n + d)) ≡ Ok longer = subst (λ k. list_after file root channel k ≡ Ok longer) next h in
    let before = bind_ok (list_after file root channel (n + d)) (λ l. after_file file l (slice_get l (n + d))) longer here in
    let grown = list_grows file root channel n d (n + d) refl before.0 before.1 in (
      grown.0,
      grown.1,
      turn_keeps (Begins grown.0) (λ (one : Listed) (f : List ℕ × List ℕ) (more : Listed) (kept : Begins grown.0 one) (added : IsAdded one f more).
          (kept.0 ++ f ∷ [], added.2 ∙ ap (λ l. l ++ f ∷ []) kept.1 ∙ append_assoc grown.0 kept.0 (f ∷ []))) file before.0 (slice_get before.0 (n + d)) longer grown.2 before.2,
    )

list_within : (file : List ℕ → Option (List ℕ)) (root channel : List ℕ) (list : Listed) → list_after file root channel 64 ≡ Ok list → length list ≤ 64
list_within file root channel list h =
    list_keeps (λ l. length l ≤ 64) (λ (one : Listed) (f : List ℕ × List ℕ) (more : Listed) (kept : length one ≤ 64) (added : IsAdded one f more).
    let counted : length more ≡ length one + length (f ∷ []) = ap length added.2 ∙ length-append one (f ∷ []) in omega (arith, added.1)) file root channel (omega arith) 64 list h

begun_at : (list more : Listed) (i : ℕ) (f : List ℕ × List ℕ) → slice_get list i ≡ Some f → slice_get (list ++ more) i ≡ Some f
begun_at [] more i f h = absurd cc
begun_at (g ∷ gs) more zero f h = h
begun_at (g ∷ gs) more (suc i) f h = begun_at gs more i f h

file-there-then : (file : List ℕ → Option (List ℕ)) (root channel : List ℕ) (i : ℕ) (f : List ℕ × List ℕ) (at whole : Listed) (there : Option (List ℕ × List ℕ))
    → i < 64 → list_after file root channel i ≡ Ok at → Begins at whole → list_after file root channel 64 ≡ Ok whole → slice_get whole i ≡ Some f → slice_get at i ≡ there → there ≡ Some f
file-there-then file root channel i f at whole None below so_far begins all here is =
    let left : ℕ = 64 - i in
    let stays : list_after file root channel 64 ≡ Ok at = list_stay file root channel at i left 64 (omega arith) (absent_short at i (sym is)) so_far in
    let same : at ≡ whole = cc in
    let none : slice_get whole i ≡ None = subst (λ l. slice_get l i ≡ None) same is in
    absurd cc
file-there-then file root channel i f at whole (Some g) below so_far begins all here is =
    let found : slice_get whole i ≡ Some g = subst (λ l. slice_get l i ≡ Some g) (sym begins.1) (begun_at at begins.0 i g is) in
    cc

-- a file of the whole list is there when its turn comes
pub there_at_turn : (file : List ℕ → Option (List ℕ)) (root channel : List ℕ) (i : ℕ) (f : List ℕ × List ℕ) (whole : Listed) → list_after file root channel 64 ≡ Ok whole → slice_get whole i ≡ Some f
    → (at : Listed) × (list_after file root channel i ≡ Ok at) × (slice_get at i ≡ Some f)
unfolding Grows
there_at_turn file root channel i f whole all here =
    let inside : i < length whole = slice_get_within whole i f here in
    let few : length whole ≤ 64 = list_within file root channel whole all in
    let left : ℕ = 64 - i in
    let begun = list_grows file root channel i left 64 (omega arith) whole all in
    (begun.0, begun.1, file-there-then file root channel i f begun.0 whole (slice_get begun.0 i) (omega (arith, inside, few)) begun.1 begun.2 all here refl)

-- the file at a place of the whole list is the one that adds those that it names there
file_at : (file : List ℕ → Option (List ℕ)) (root channel : List ℕ) (i : ℕ) (f : List ℕ × List ℕ) (at list whole : Listed) (there : Option (List ℕ × List ℕ)) (m : Module)
    → i < 64 → list_after file root channel i ≡ Ok at → slice_get at i ≡ there → after_file file at there ≡ Ok list → Begins at whole → Begins list whole → list_after file root channel 64 ≡ Ok whole
    → slice_get whole i ≡ Some f → file_module f.0 (file f.0) ≡ Ok m → AreListed whole (named_by f.1 m)
file_at file root channel i f at list whole None m below so_far is more first grown all here says =
    let left : ℕ = 64 - i in
    let stays : list_after file root channel 64 ≡ Ok at = list_stay file root channel at i left 64 (omega arith) (absent_short at i (sym is)) so_far in
    let same : at ≡ whole = cc in
    let none : slice_get whole i ≡ None = subst (λ l. slice_get l i ≡ None) same is in
    absurd cc
file_at file root channel i f at list whole (Some g) m below so_far is more first grown all here says =
    let found : slice_get whole i ≡ Some g = subst (λ l. slice_get l i ≡ Some g) (sym first.1) (begun_at at first.0 i g is) in
    let same : g ≡ f = cc in
    let read : file_module g.0 (file g.0) ≡ Ok m = subst (λ (n : List ℕ × List ℕ). file_module n.0 (file n.0) ≡ Ok m) (sym same) says in
    let adds : with_named at (named_by g.1 m) ≡ Ok list = sym (ap (λ r. r >>= λ k. with_named at (named_by g.1 k)) read) ∙ more in
    listed_begun (named_by f.1 m) list whole grown (subst (λ (n : List ℕ × List ℕ). AreListed list (named_by n.1 m)) same (named_listed (named_by g.1 m) at list adds))

pub list_is_closed : AreClosed
unfolding list_after Grows
list_is_closed file root channel whole all name own m listed says =
    let place = found_at name own whole listed in
    let i = place.0 in
    let inside : i < length whole = slice_get_within whole i (name, own) place.1 in
    let few : length whole ≤ 64 = list_within file root channel whole all in
    let below : i < 64 = omega (arith, inside, few) in
    let left : ℕ = 63 - i in
    let after = list_grows file root channel (suc i) left 64 (omega arith) whole all in
    let before = bind_ok (list_after file root channel i) (λ l. after_file file l (slice_get l i)) after.0 after.1 in
    let begun = list_grows file root channel i (suc left) 64 (omega arith) whole all in
    let same : begun.0 ≡ before.0 = cc in
    file_at file root channel i (name, own) before.0 after.0 whole (slice_get before.0 i) m below before.1 refl before.2 (subst (λ l. Begins l whole) same begun.2) after.2 all place.1 says
