use Rattle.std.proofs.Common.{◌≡◌, ap, ◌∙◌}
use Rattle.app_context.specs.Contexts.{text_of}
use Rattle.app_context.specs.Attributes.{shared_attributes, custom_attributes, text_entries, locale_entries, client_entries, enrolment_entries, entered, with_enrolled}
use Rattle.app_context.specs.declared.key.ContextKey.TheVariants.{Locale}
use Rattle.app_context.proofs.Entries.{all_entered}
use Rattle.app_context.proofs.targeting.shared_attributes.Goals as goal

pairs_are : (c : goal.In_ok-enter_enrolments) → c.enter_enrolments.new.pairs ≡ shared_attributes c.args.context.now c.args.state.now c.args.now
unfolding shared_attributes text_entries
pairs_are c =
    let context = c.args.context.now in
    let state = c.args.state.now in
    all_entered (text_entries context) (locale_entries (text_of Locale context)) (client_entries state c.args.now) (enrolment_entries state) (custom_attributes context.custom) c.in_ok-pairs.pairs c.enter_texts.new.pairs c.enter_locale.new.pairs c.enter_client.new.pairs c.enter_enrolments.new.pairs c.in_ok-pairs.ensures c.in_ok-enter_texts.ensures
    (c.in_ok-enter_locale.ensures ∙ ap (λ l. entered (locale_entries l) c.enter_texts.new.pairs) c.text.ensures) c.in_ok-enter_client.ensures c.in_ok-enter_enrolments.ensures

pub returns-clause-shared : goal.returns-clause-shared
returns-clause-shared c = pairs_are c

pub returns-clause-prepared : goal.returns-clause-prepared
returns-clause-prepared c = λ is_enrolled. ap (with_enrolled is_enrolled) (pairs_are c)
