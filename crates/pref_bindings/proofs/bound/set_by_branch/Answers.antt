use Rattle.std.proofs.Common.{◌≡◌, ◌<◌, List, length, get_or, take, sym, ap, ◌∙◌, subst, fold}
use Rattle.std.specs.List.{AllByRecursion, filter_map, flat_map}
use Rattle.std.proofs.lemmas.List.{take_all}
use Rattle.std.specs.Prelude.{IfOk, IsTrue}
use Rattle.plain_text.specs.Names.{is_name}
use Rattle.pref_bindings.specs.Bindings.{of_feature}
use Rattle.pref_bindings.specs.Bound.{in_order, setting_of, with_setting}
use Rattle.pref_bindings.specs.Changes.{Setting}
use Rattle.pref_bindings.proofs.BoundValues.{feature_next, named_own}
use Rattle.pref_bindings.proofs.SameSettings.{all_looked_up}
use Rattle.pref_bindings.proofs.bound.set_by_branch.Goals as goal

pub add_settings-requires-clause-names : goal.add_settings-requires-clause-names
add_settings-requires-clause-names c =
    let all = c.args.bindings.now in
    let feature = c.set-item.result.feature in
    let own : c.of_feature-own.result.now ≡ of_feature feature all = c.of_feature-own.ensures ∙ ap (λ t. of_feature t c.as_slice-all.result.now) c.as_str.ensures.text ∙ ap (of_feature feature) c.as_slice-all.ensures.bindings in
    subst (AllByRecursion (λ b. IsTrue (is_name b.preference))) (sym own) (named_own feature all c.as_slice-all.ensures.are.names)

pub loop-set-preserved : goal.loop-set-preserved
loop-set-preserved c =
    let m = c.args.manifest.now in
    let branch = c.args.branch.now in
    let all = c.args.bindings.now in
    let i = c.loop-set.set-index in
    let set = c.set-item.result in
    let same = c.as_slice-set-items.ensures in
    let own : c.of_feature-own.result.now ≡ of_feature set.feature all = c.of_feature-own.ensures ∙ ap (λ t. of_feature t c.as_slice-all.result.now) c.as_str.ensures.text ∙ ap (of_feature set.feature) c.as_slice-all.ensures.bindings in
    record {
      values =
          c.in_ok-add_settings.ensures.added ∙ ap (λ bs. fold with_setting c.loop-set.settings.entries (filter_map (setting_of m branch) bs)) own
          ∙ ap (λ vs. fold with_setting vs (filter_map (setting_of m branch) (of_feature set.feature all))) c.loop-set.invariant.values
          ∙ sym (feature_next m branch all i set (subst (λ fs. i < length fs) same c.loop-set-test.true) (c.set-item.is ∙ ap (λ fs. get_or fs i set) same));
      each = c.in_ok-add_settings.ensures.settings;
    }

pub returns-clause-values : goal.returns-clause-values
returns-clause-values c =
    let m = c.args.manifest.now in
    let branch = c.args.branch.now in
    let all = c.args.bindings.now in
    let i = c.loop-set.set-index in
    let whole : take i branch.features ≡ branch.features = subst (λ fs. take i fs ≡ fs) c.as_slice-set-items.ensures (take_all i c.as_slice-set-items.result.now c.loop-set-test.false) in
    subst (λ (values : List Setting). IfOk c.in_order.result (λ settings. settings ≡ values))
    (c.loop-set.invariant.values ∙ ap (λ fs. in_order (filter_map (setting_of m branch) (flat_map (λ f. of_feature f.feature all) fs))) whole ∙ all_looked_up m branch all c.as_slice-all.ensures.are.once)
    c.in_order.ensures.values
