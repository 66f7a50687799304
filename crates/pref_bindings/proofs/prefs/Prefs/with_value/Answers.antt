use Rattle.std.proofs.Common.{rules, ◌≡◌, ◌∙◌, length, sym, ap, arith}
use Rattle.row_batches.specs.Batch.{puts_text}
use Rattle.pref_bindings.specs.declared.preference.Preference.{Preference}
use Rattle.pref_bindings.specs.Changes.{without_name}
use Rattle.pref_bindings.specs.Preferences.{holder_of}
use Rattle.pref_bindings.specs.Rows.{rows_of}
use Rattle.pref_bindings.proofs.HeldApart.{held_with_given}
use Rattle.pref_bindings.proofs.RowSizes.{with_rows}
use Rattle.pref_bindings.proofs.Sound.{with_given}
use Rattle.pref_bindings.proofs.prefs.Prefs.with_value.Goals as goal

pub invariant_of-result : goal.invariant_of-result
invariant_of-result c =
    let ps = c.self.inside.preferences in
    let q = c.in_ok-preference.preference in
    let seen : c.args.self.now ≡ ps = search rules in
    let key : q.name ≡ c.args.name.now = ap (λ (p : Preference). p.name) c.in_ok-preference.ensures in
    let others : c.size_of_others-others.result ≡ length (puts_text (rows_of (without_name q.name ps))) =
    c.size_of_others-others.ensures.size ∙ ap (λ t. length (puts_text (rows_of (without_name t c.args.self.now)))) (c.as_str.ensures.text ∙ sym key) ∙ ap (λ qs. length (puts_text (rows_of (without_name q.name qs)))) seen in
    record {
      sized = record {
        sound = with_given c.args.name.now c.args.value.now q ps c.in_ok-next.next.list c.in_ok-preference.ensures c.requires.name c.requires.value c.self.invariant.sized.sound c.in_ok-next.ensures.preferences;
        size = omega (arith, c.in-Some.ensures.some, others, with_rows q ps, ap (λ qs. length (puts_text (rows_of qs))) c.in_ok-next.ensures.preferences);
        bound = c.in-Some.ensures.within;
      };
      same =
          c.in_ok-held.ensures.cases ∙ held_with_given c.args.name.now c.args.value.now q ps c.self.inside.held c.in_ok-next.next.list c.in_ok-preference.ensures (sym (ap (holder_of c.args.name.now) seen) ∙ c.requires.free) c.self.invariant.same
          c.in_ok-next.ensures.preferences;
    }
