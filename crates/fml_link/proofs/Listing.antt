-- The list of files, as the loop over it goes on.
use Rattle.std.proofs.Common.{◌≡◌, ℕ, zero, suc, ◌+◌, ◌-◌, ◌<◌, ◌≤◌, Bool, true, false, List, [], ◌∷◌, ◌++◌, length, take, Option, Some, None, Result, Ok, Err, inl, inr, refl, sym, ap, ◌∙◌, subst, add-one, append_assoc, length-append, arith}
use Rattle.std.specs.Prelude.{◌⊎◌, nat_lt, slice_get, if◌then◌else◌}
use Rattle.std.proofs.lemmas.Bool.Decides.{Decides-ltb}
use Rattle.std.proofs.lemmas.List.{append-nil, take_all, take_more, take-append-le}
use Rattle.std.proofs.lemmas.Option.{slice_get_past, slice_get_within, get_or_from_slice_get}
use Rattle.fml_types.specs.Named.{has_name}
use Rattle.fml_reader.specs.declared.module.Module.{Module}
use Rattle.fml_imports.specs.declared.joining.Linked.{Linked}
use Rattle.fml_link.specs.declared.fault.LinkFault.{LinkFault}
use Rattle.fml_link.specs.declared.fault.LinkRefusal.{LinkRefusal}
use Rattle.fml_link.specs.declared.fault.LinkRefusal.TheVariants as refusals
use Rattle.fml_link.specs.Files.{file_module, named_by, with_file, with_files, first_clash, without_clash, with_named, after_file, list_after, read_each, files_of}
use Rattle.fml_link.specs.Outcome.{◌>>=◌, each, Fails}
use Rattle.fml_link.proofs.Linked.{bind_ok, fails_at, fails_bind}

-- files, each with the channel that it is read for
abbrev pub Listed : Type 0
Listed = List (List ℕ × List ℕ)

-- ---- a file is there already, or is put at the end

abbrev pub IsAdded : Listed → List ℕ × List ℕ → Listed → Type 0
IsAdded list f longer = (has_name f.0 list ≡ false) × (length list < 64) × (longer ≡ list ++ f ∷ [])

file-added : (there room : Bool) (list : Listed) (f : List ℕ × List ℕ) (longer : Listed) → has_name f.0 list ≡ there → nat_lt (length list) 64 ≡ room
    → (if there then Ok list else if room then Ok (list ++ f ∷ []) else Err refusals.TooManyFiles) ≡ Ok longer → (longer ≡ list) ⊎ IsAdded list f longer
file-added true room list f longer among few h = inl cc
file-added false true list f longer among few h = inr (among, (Decides-ltb (length list) 64).0 few, cc)
file-added false false list f longer among few h = absurd cc

pub file_added : (list : Listed) (f : List ℕ × List ℕ) (longer : Listed) → with_file list f ≡ Ok longer → (longer ≡ list) ⊎ IsAdded list f longer
file_added list f longer h = file-added (has_name f.0 list) (nat_lt (length list) 64) list f longer refl refl h

-- what is kept by each file that is added is kept by all
pub files_keep : (P : Listed → Type 0) → ((list : Listed) (f : List ℕ × List ℕ) (longer : Listed) → P list → IsAdded list f longer → P longer) → (fs list longer : Listed) → P list → with_files list fs ≡ Ok longer → P longer
files_keep P step [] list longer kept h = let same : list ≡ longer = cc in subst P same kept
files_keep P step (f ∷ fs) list longer kept h =
    let first = bind_ok (with_file list f) (λ l. each with_file l fs) longer h in
    files_keep P step fs first.0 longer (elim (file_added list f first.0 first.1) [
      | inl same ↦ subst P (sym same) kept
      | inr added ↦ step list f first.0 kept added
    ]) first.2

unclashed : (list longer : Listed) (o : Option (List ℕ)) → without_clash list o ≡ Ok longer → (list ≡ longer) × (o ≡ None)
unclashed list longer None h = (cc, refl)
unclashed list longer (Some name) h = absurd cc

-- files that are named are added, and none clashes
pub named_added : (list fs longer : Listed) → with_named list fs ≡ Ok longer → (with_files list fs ≡ Ok longer) × (first_clash longer fs ≡ None)
unfolding with_named
named_added list fs longer h =
    let first = bind_ok (with_files list fs) (λ l. without_clash l (first_clash l fs)) longer h in
    let last = unclashed first.0 longer (first_clash first.0 fs) first.2 in
    (first.1 ∙ ap (λ l. Ok l) last.0, ap (λ l. first_clash l fs) (sym last.0) ∙ last.1)

pub named_keep : (P : Listed → Type 0) → ((list : Listed) (f : List ℕ × List ℕ) (longer : Listed) → P list → IsAdded list f longer → P longer) → (fs list longer : Listed) → P list → with_named list fs ≡ Ok longer → P longer
named_keep P step fs list longer kept h = files_keep P step fs list longer kept (named_added list fs longer h).0

-- the list is the beginning of the longer one
abbrev pub Begins : Listed → Listed → Type 0
Begins list longer = (more : Listed) × (longer ≡ list ++ more)

pub named_begin : (fs list longer : Listed) → with_named list fs ≡ Ok longer → Begins list longer
named_begin fs list longer h =
    named_keep (Begins list) (λ (one : Listed) (f : List ℕ × List ℕ) (more : Listed) (kept : Begins list one) (added : IsAdded one f more).
    (kept.0 ++ f ∷ [], added.2 ∙ ap (λ l. l ++ f ∷ []) kept.1 ∙ append_assoc list kept.0 (f ∷ []))) fs list longer ([], sym (append-nil list)) h

pub named_within : (fs list longer : Listed) → length list ≤ 64 → with_named list fs ≡ Ok longer → length longer ≤ 64
named_within fs list longer within h =
    named_keep (λ l. length l ≤ 64) (λ (one : Listed) (f : List ℕ × List ℕ) (more : Listed) (kept : length one ≤ 64) (added : IsAdded one f more).
    let counted : length more ≡ length one + length (f ∷ []) = ap length added.2 ∙ length-append one (f ∷ []) in omega (arith, added.1)) fs list longer within h

-- ---- a file adds those that it names

module _ (file : List ℕ → Option (List ℕ)) (root channel : List ℕ) where
  with_next : Listed → List ℕ × List ℕ → Result Listed LinkRefusal
  with_next list f = file_module f.0 (file f.0) >>= λ m. with_named list (named_by f.1 m)

  list_next : (n : ℕ) (list : Listed) (f : List ℕ × List ℕ) → list_after file root channel n ≡ Ok list → Some f ≡ slice_get list n → list_after file root channel (suc n) ≡ with_next list f
  unfolding list_after with_next
  list_next n list f so_far is = ap (λ r. r >>= λ l. after_file file l (slice_get l n)) so_far ∙ ap (after_file file list) (sym is)

  pub list_first : list_after file root channel 0 ≡ Ok ((root, channel) ∷ [])
  unfolding list_after
  list_first = refl

  pub list_turn : (now : List ℕ → Option (List ℕ)) (n : ℕ) (list longer : Listed) (f : List ℕ × List ℕ) (m : Module)
      → list_after file root channel n ≡ Ok list → Some f ≡ slice_get list n → now f.0 ≡ file f.0 → file_module f.0 (now f.0) ≡ Ok m → with_named list (named_by f.1 m) ≡ Ok longer → list_after file root channel (n + 1) ≡ Ok longer
  unfolding with_next
  list_turn now n list longer f m so_far is same one more =
      let read : file_module f.0 (file f.0) ≡ Ok m = ap (file_module f.0) (sym same) ∙ one in
      rw add-one (list_next n list f so_far is ∙ ap (λ r. r >>= λ m. with_named list (named_by f.1 m)) read ∙ more)

  -- a fault stays
  list_stay_failed : (e : LinkFault) (n d m : ℕ) → m ≡ n + d → Fails e (list_after file root channel n) → Fails e (list_after file root channel m)
  unfolding list_after
  list_stay_failed e n zero m is fails = let same : n ≡ m = omega arith in subst (λ k. Fails e (list_after file root channel k)) same fails
  list_stay_failed e n (suc d) m is fails =
      let next : suc (n + d) ≡ m = omega arith in
      subst (λ k. Fails e (list_after file root channel k)) next
      (fails_bind e (list_after file root channel (n + d)) (λ l. after_file file l (slice_get l (n + d))) (list_stay_failed e n d (n + d) refl fails))

  -- so does a list that no file is left of
  pub list_stay : (list : Listed) (n d m : ℕ) → m ≡ n + d → length list ≤ n → list_after file root channel n ≡ Ok list → list_after file root channel m ≡ Ok list
  unfolding list_after
  list_stay list n zero m is short so_far = let same : n ≡ m = omega arith in subst (λ k. list_after file root channel k ≡ Ok list) same so_far
  list_stay list n (suc d) m is short so_far =
      let next : suc (n + d) ≡ m = omega arith in
      subst (λ k. list_after file root channel k ≡ Ok list) next
      (ap (λ r. r >>= λ l. after_file file l (slice_get l (n + d))) (list_stay list n d (n + d) refl short so_far) ∙ ap (after_file file list) (slice_get_past list (n + d) (omega arith)))

-- ---- what the files say

pub read_push : (file : List ℕ → Option (List ℕ)) (list : Listed) (f : List ℕ × List ℕ) (files : List Linked) (m : Module) → read_each file list ≡ Ok files → file_module f.0 (file f.0) ≡ Ok m
    → read_each file (list ++ f ∷ []) ≡ Ok (files ++ record { name = f.0; channel = f.1; «module» = m } ∷ [])
read_push file [] f files m before one =
    let none : [] ≡ files = cc in
    ap (λ r. r >>= λ m. read_each file [] >>= λ fs. Ok (record { name = f.0; channel = f.1; «module» = m } ∷ fs)) one ∙ ap (λ l. Ok (l ++ record { name = f.0; channel = f.1; «module» = m } ∷ [])) none
read_push file (g ∷ gs) f files m before one =
    let first = bind_ok (file_module g.0 (file g.0)) (λ m. read_each file gs >>= λ fs. Ok (record { name = g.0; channel = g.1; «module» = m } ∷ fs)) files before in
    let others = bind_ok (read_each file gs) (λ fs. Ok (record { name = g.0; channel = g.1; «module» = first.0 } ∷ fs)) files first.2 in
    let same : record { name = g.0; channel = g.1; «module» = first.0 } ∷ others.0 ≡ files = cc in
    ap (λ r. r >>= λ m. read_each file (gs ++ f ∷ []) >>= λ fs. Ok (record { name = g.0; channel = g.1; «module» = m } ∷ fs)) first.1
    ∙ ap (λ r. r >>= λ fs. Ok (record { name = g.0; channel = g.1; «module» = first.0 } ∷ fs)) (read_push file gs f others.0 m others.1 one)
    ∙ ap (λ l. Ok (l ++ record { name = f.0; channel = f.1; «module» = m } ∷ [])) same

-- one more file among those that are read
pub one_more : (place : ℕ) (list longer fs : Listed) (f : List ℕ × List ℕ) → Some f ≡ slice_get list place → with_named list fs ≡ Ok longer → take (place + 1) longer ≡ take place list ++ f ∷ []
one_more place list longer fs f is more =
    let within : place < length list = slice_get_within list place f (sym is) in
    let begins = named_begin fs list longer more in
    ap (take (place + 1)) begins.1 ∙ take-append-le (place + 1) list begins.0 (omega arith) ∙ take_more list place f within ∙ ap (λ n. take place list ++ n ∷ []) (get_or_from_slice_get list place f f (sym is))

pub read_turn : (file now : List ℕ → Option (List ℕ)) (place : ℕ) (list longer fs : Listed) (f : List ℕ × List ℕ) (files : List Linked) (one : Linked) → Some f ≡ slice_get list place → now f.0 ≡ file f.0 → file_module f.0 (now f.0) ≡ Ok one.module
    → (one.name, one.channel) ≡ f → with_named list fs ≡ Ok longer → read_each file (take place list) ≡ Ok files → read_each file (take (place + 1) longer) ≡ Ok (files ++ one ∷ [])
read_turn file now place list longer fs f files one is same says listed more before =
    ap (read_each file) (one_more place list longer fs f is more) ∙ read_push file (take place list) f files one.module before (ap (file_module f.0) (sym same) ∙ says)
    ∙ ap (λ (g : List ℕ × List ℕ). Ok (files ++ record { name = g.0; channel = g.1; «module» = one.module } ∷ [])) (sym listed)

-- ---- where the loop ends

pub absent_short : {A : Type 0} (list : List A) (place : ℕ) → None ≡ slice_get list place → length list ≤ place
absent_short [] place h = omega arith
absent_short (n ∷ ns) zero h = absurd cc
absent_short (n ∷ ns) (suc place) h = omega (arith, absent_short ns place h)

module _ (file : List ℕ → Option (List ℕ)) (root channel : List ℕ) where
  pub listed_fails : (e : LinkFault) (now : List ℕ → Option (List ℕ)) (place : ℕ) (list : Listed) (f : List ℕ × List ℕ)
      → place < 64 → list_after file root channel place ≡ Ok list → Some f ≡ slice_get list place → now f.0 ≡ file f.0 → Fails e (file_module f.0 (now f.0)) → Fails e (files_of file root channel)
  unfolding with_next
  listed_fails e now place list f below so_far is same one =
      let left : ℕ = 63 - place in
      fails_bind e (list_after file root channel 64) (read_each file) (list_stay_failed file root channel e (suc place) left 64 (omega arith)
      (fails_at e (list_after file root channel (suc place)) (with_next file root channel list f) (sym (list_next file root channel place list f so_far is))
      (fails_bind e (file_module f.0 (file f.0)) (λ m. with_named list (named_by f.1 m)) (subst (λ b. Fails e (file_module f.0 b)) same one))))

  pub listed_full : (e : LinkFault) (now : List ℕ → Option (List ℕ)) (place : ℕ) (list : Listed) (f : List ℕ × List ℕ) (one : Linked)
      → place < 64 → list_after file root channel place ≡ Ok list → Some f ≡ slice_get list place → now f.0 ≡ file f.0 → file_module f.0 (now f.0) ≡ Ok one.module → (one.name, one.channel) ≡ f
      → Fails e (with_named list (named_by one.channel one.module)) → Fails e (files_of file root channel)
  unfolding with_next
  listed_full e now place list f one below so_far is same says listed more =
      let left : ℕ = 63 - place in
      let read : file_module f.0 (file f.0) ≡ Ok one.module = ap (file_module f.0) (sym same) ∙ says in
      let next : list_after file root channel (suc place) ≡ with_named list (named_by f.1 one.module) = list_next file root channel place list f so_far is ∙ ap (λ r. r >>= λ m. with_named list (named_by f.1 m)) read in
      let fails : Fails e (with_named list (named_by f.1 one.module)) = subst (λ (g : List ℕ × List ℕ). Fails e (with_named list (named_by g.1 one.module))) listed more in
      fails_bind e (list_after file root channel 64) (read_each file)
      (list_stay_failed file root channel e (suc place) left 64 (omega arith) (fails_at e (list_after file root channel (suc place)) (with_named list (named_by f.1 one.module)) (sym next) fails))

  -- no file is left
  listed_whole : (place : ℕ) (list : Listed) (files : List Linked) → place ≤ 64 → length list ≤ place → list_after file root channel place ≡ Ok list → read_each file (take place list) ≡ Ok files → files_of file root channel ≡ Ok files
  listed_whole place list files below short so_far read =
      let left : ℕ = 64 - place in
      ap (λ r. r >>= read_each file) (list_stay file root channel list place left 64 (omega arith) short so_far) ∙ ap (read_each file) (sym (take_all place list short)) ∙ read

  pub listed_none : (place : ℕ) (list : Listed) (files : List Linked) → place ≤ 64 → list_after file root channel place ≡ Ok list → read_each file (take place list) ≡ Ok files → None ≡ slice_get list place → files_of file root channel ≡ Ok files
  listed_none place list files below so_far read is = listed_whole place list files below (absent_short list place is) so_far read

  -- there is no room for one more
  pub listed_end : (place : ℕ) (list : Listed) (files : List Linked) → place ≤ 64 → 64 ≤ place → length list ≤ 64 → list_after file root channel place ≡ Ok list → read_each file (take place list) ≡ Ok files → files_of file root channel ≡ Ok files
  listed_end place list files below above few so_far read = listed_whole place list files below (omega arith) so_far read
