-- A word that is read as no id.
use Rattle.std.proofs.Common.{◌≡◌, List, ℕ, Option, Some, None, refl, sym, ap}
use Rattle.std.proofs.lemmas.Bool.{false≢true}
use Rattle.uuid.specs.Text.{parsed}
use Rattle.client_words.specs.Commands.{id_read, id_in}
use Rattle.client_words.proofs.arguments.id_in.Goals as goal

none_of : (o : Option (List ℕ)) → ((id : List ℕ) → o ≡ Some id → ⊥) → o ≡ None
none_of None never = refl
none_of (Some id) never = absurd (never id refl)

pub returns-in-Err : goal.returns-in-Err
unfolding id_in
returns-in-Err c = sym (ap id_read (none_of (parsed c.args.word.now) (λ id is. absurd (false≢true (c.in-Err.ensures.ok.1 (id, is))))))
