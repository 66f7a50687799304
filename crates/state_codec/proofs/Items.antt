-- The keys of items' rows, and when their values are the same.
use Rattle.std.proofs.Common.{◌≡◌, ◌∷◌, [], List, ℕ, Bool, true, false, IsTrue, Option, Some, All, refl, sym, ap, ◌∙◌}
use Rattle.std.specs.Bool.{Decides}
use Rattle.std.specs.Prelude.{◌↔◌}
use Rattle.std.proofs.lemmas.Bool.{false≢true}
use Rattle.std.proofs.lemmas.List.Elements.{All-cons, All-nil}
use Rattle.std.proofs.lemmas.Option.{same_Some}
use Rattle.json_tree.specs.Json as json
use Rattle.recipe_reader.specs.Equal.{recipe_eq}
use Rattle.recipe_reader.specs.Equals.{recipe_Decides}
use Rattle.recipe_reader.specs.Payloads.{AreValid}
use Rattle.recipe_reader.specs.Records.{record_json, IsValid}
use Rattle.recipe_reader.specs.declared.recipe.Recipe.{Recipe}
use Rattle.enrol_states.specs.Equal.{status_eq}
use Rattle.enrol_states.specs.Equals.{status_Decides}
use Rattle.enrol_states.specs.Statuses.{IsStatus}
use Rattle.enrol_states.specs.declared.status.Status.{Status}
use Rattle.row_batches.specs.Rows.{key_cmp}
use Rattle.state_codec.specs.Kinds.{letter}
use Rattle.state_values.specs.Reading.{recipe_in, status_in}
use Rattle.state_values.specs.Values.{recipe_text}
use Rattle.state_values.specs.Statuses.{status_bytes}
use Rattle.state_codec.specs.declared.row_kind.RowKind.{RowKind}
use Rattle.state_codec.specs.declared.row_kind.RowKind.TheVariants.{Coenrolling, Id, Live, Pending, OptedOut, Participation, IsPending, Status as status_kind, Installed, Updated, Version}
use Rattle.state_values.proofs.ValuesRead.{recipe_read, status_read}

-- keys of one letter compare by what follows it
pub tagged : (kind : RowKind) (a b : List ℕ) → key_cmp (letter kind ∷ a) (letter kind ∷ b) ≡ key_cmp a b
tagged Coenrolling a b = refl
tagged Id a b = refl
tagged Live a b = refl
tagged Pending a b = refl
tagged OptedOut a b = refl
tagged Participation a b = refl
tagged IsPending a b = refl
tagged status_kind a b = refl
tagged Installed a b = refl
tagged Updated a b = refl
tagged Version a b = refl

-- ---- values

-- what is read of its text is one where the texts are
one_text : {A : Type 0} (text : A → List ℕ) (read : List ℕ → Option A) (x y : A) → read (text x) ≡ Some x → read (text y) ≡ Some y → text x ≡ text y → x ≡ y
one_text text read x y x_read y_read same = same_Some x y (sym x_read ∙ ap read same ∙ y_read)

pub values_told : {A : Type 0} (text : A → List ℕ) (read : List ℕ → Option A) (x y : A) (test : Bool) → Decides test (x ≡ y) → read (text x) ≡ Some x → read (text y) ≡ Some y → IsTrue test ↔ (text x ≡ text y)
values_told text read x y test decides x_read y_read = (λ e. ap text (decides.0 e), λ same. decides.1 (one_text text read x y x_read y_read same))

pub statuses_told : (s t : Status) → IsStatus s → IsStatus t → IsTrue (status_eq s t) ↔ (status_bytes s ≡ status_bytes t)
statuses_told s t s_is t_is = values_told status_bytes status_in s t (status_eq s t) (status_Decides s t) (status_read s s_is) (status_read t t_is)

recipe_told : (r q : Recipe) → IsValid r → IsValid q → json.IsSound (record_json r) → json.IsSound (record_json q) → recipe_text r ≡ recipe_text q → r ≡ q
recipe_told r q r_is q_is r_sound q_sound = one_text recipe_text recipe_in r q (recipe_read r r_is r_sound) (recipe_read q q_is q_sound)

pub equal_texts : (r q : Recipe) → recipe_eq r q ≡ true → IsTrue true ↔ (recipe_text r ≡ recipe_text q)
equal_texts r q e = (λ _. ap recipe_text ((recipe_Decides r q).0 e), λ _. refl)

unequal : (x : Bool) → x ≡ false → x ≡ true → IsTrue false
unequal x is held = sym is ∙ held

pub other_texts : (r q : Recipe) → IsValid r → IsValid q → json.IsSound (record_json r) → json.IsSound (record_json q) → recipe_eq r q ≡ false → IsTrue false ↔ (recipe_text r ≡ recipe_text q)
other_texts r q r_is q_is r_sound q_sound e =
    (λ told. absurd (false≢true told), λ same. unequal (recipe_eq r q) e ((recipe_Decides r q).1 (recipe_told r q r_is q_is r_sound q_sound same)))

-- ---- what holds of each item

pub all_valid : (rs : List Recipe) → AreValid rs → All IsValid rs
all_valid [] valid = All-nil IsValid
all_valid (r ∷ rs) valid = All-cons IsValid r rs valid.0 (all_valid rs valid.1)
