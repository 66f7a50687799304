-- A text that isn't parsed is no id.
use Rattle.std.proofs.Common.{◌≡◌, List, ℕ, Option, Some, None, refl}
use Rattle.std.proofs.lemmas.Bool.{false≢true}
use Rattle.uuid.specs.Text.{parsed}
use Rattle.state_values.specs.Reading.{id_in}
use Rattle.state_values.proofs.values.id_in.Goals as goal

none_where : (o reading : Option (List ℕ)) → reading ≡ o → ((u : List ℕ) → reading ≡ Some u → ⊥) → reading ≡ None
none_where None reading is none = is
none_where (Some u) reading is none = absurd (none u is)

refused : (bytes : List ℕ) → ((u : List ℕ) → parsed bytes ≡ Some u → ⊥) → id_in bytes ≡ None
unfolding id_in
refused bytes none = none_where (parsed bytes) (parsed bytes) refl none

pub returns-in-Err : goal.returns-in-Err
returns-in-Err c = refused c.args.bytes.now (λ u is. absurd (false≢true (c.in-Err.ensures.ok.1 (u, is))))
