use Rattle.client_state.proofs.Empty.{empty_is_sound, empty_has_form}
use Rattle.client_state.proofs.laws.empty_parts.Goals as goal

pub returns-clause-forms : goal.returns-clause-forms
returns-clause-forms c e rows sound form = (empty_is_sound e sound, empty_has_form e rows form)
