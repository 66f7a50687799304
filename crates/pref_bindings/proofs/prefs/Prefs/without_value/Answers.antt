use Rattle.std.proofs.Common.{rules, ◌≡◌, ◌∙◌, length, sym, ap}
use Rattle.row_batches.specs.Batch.{puts_text}
use Rattle.pref_bindings.specs.Changes.{without_name}
use Rattle.pref_bindings.specs.Preferences.{holder_of}
use Rattle.pref_bindings.specs.Rows.{rows_of}
use Rattle.pref_bindings.proofs.HeldApart.{held_without_given}
use Rattle.pref_bindings.proofs.Sound.{without_given}
use Rattle.pref_bindings.proofs.prefs.Prefs.without_value.Goals as goal

pub invariant_of-result : goal.invariant_of-result
invariant_of-result c =
    let ps = c.self.inside.preferences in
    let seen : c.args.self.now ≡ ps = search rules in
    record {
      sized = record {
        sound = without_given c.args.name.now ps c.in_ok-next.next.list c.self.invariant.sized.sound c.in_ok-next.ensures.preferences;
        size =
            c.size_of_others-size.ensures.size ∙ ap (λ t. length (puts_text (rows_of (without_name t c.args.self.now)))) c.as_str.ensures.text ∙ ap (λ qs. length (puts_text (rows_of (without_name c.args.name.now qs)))) seen
            ∙ sym (ap (λ qs. length (puts_text (rows_of qs))) c.in_ok-next.ensures.preferences);
        bound = c.size_of_others-size.ensures.bound;
      };
      same = c.in_ok-held.ensures.cases ∙ held_without_given c.args.name.now ps c.self.inside.held c.in_ok-next.next.list (sym (ap (holder_of c.args.name.now) seen) ∙ c.requires) c.self.invariant.same c.in_ok-next.ensures.preferences;
    }
