use Rattle.std.proofs.Common.{rules, ◌≡◌, ◌∙◌, length, None, Some, sym, ap, arith}
use Rattle.row_batches.specs.Batch.{puts_text}
use Rattle.pref_bindings.specs.Changes.{without_name}
use Rattle.pref_bindings.specs.Preferences.{found}
use Rattle.pref_bindings.specs.Rows.{rows_of}
use Rattle.pref_bindings.proofs.RowSizes.{none_size, others_size}
use Rattle.pref_bindings.proofs.prefs.Prefs.size_of_others.Goals as goal

pub size_without-requires : goal.size_without-requires
size_without-requires c =
    let ps = c.self.inside.preferences in
    let seen : c.args.self.now ≡ ps = search rules in
    let there : Some c.in-Some.preference.now ≡ found c.args.name.now ps = c.in-Some.ensures ∙ ap (found c.args.name.now) seen in
    omega (arith, c.self.invariant.sized.size, others_size c.args.name.now ps c.in-Some.preference.now c.self.invariant.sized.sound.names there)

pub returns-in-Some-clause-size : goal.returns-in-Some-clause-size
returns-in-Some-clause-size c =
    let ps = c.self.inside.preferences in
    let seen : c.args.self.now ≡ ps = search rules in
    let there : Some c.in-Some.preference.now ≡ found c.args.name.now ps = c.in-Some.ensures ∙ ap (found c.args.name.now) seen in
    let left : c.size_without.result ≡ length (puts_text (rows_of (without_name c.args.name.now ps))) = omega (arith, c.self.invariant.sized.size, c.size_without.ensures, others_size c.args.name.now ps c.in-Some.preference.now c.self.invariant.sized.sound.names there) in
    left ∙ ap (λ qs. length (puts_text (rows_of (without_name c.args.name.now qs)))) (sym seen)

pub returns-in-None-clause-size : goal.returns-in-None-clause-size
returns-in-None-clause-size c =
    let ps = c.self.inside.preferences in
    let seen : c.args.self.now ≡ ps = search rules in
    let nowhere : None ≡ found c.args.name.now ps = c.in-None.ensures ∙ ap (found c.args.name.now) seen in
    c.self.invariant.sized.size ∙ sym (none_size c.args.name.now ps c.self.invariant.sized.sound.names nowhere) ∙ ap (λ qs. length (puts_text (rows_of (without_name c.args.name.now qs)))) (sym seen)
