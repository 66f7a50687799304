use Rattle.std.proofs.Common.{sym, ap, subst, ◌∙◌}
use Rattle.std.specs.Prelude.{not, if◌then◌else◌}
use Rattle.std.specs.List.{insert}
use Rattle.fml_types.specs.Named.{AreRising, IsPlace, has_name, with_name}
use Rattle.fml_types.proofs.Places.{apart, has_at, kept_with, rising_with}
use Rattle.fml_types.proofs.by_name.ByName.insert.Goals as goal

pub invariant_of-self-in-Err : goal.invariant_of-self-in-Err
invariant_of-self-in-Err g c =
    let named = subst (λ s. IsPlace s c.as_slice.result.now c.in-Err.place) c.as_str.ensures.text c.in-Err.ensures.absent in
    let here = subst (λ ps. IsPlace c.args.name ps c.in-Err.place) (c.as_slice.ensures.pairs ∙ sym c.self.view_is) named in
    subst AreRising (sym c.in_ok-insert-in-Err.ensures.items) (rising_with (c.args.name, c.args.value) c.self.inside.pairs.items c.in-Err.place c.self.invariant here)

pub returns-in-Ok-clause-ok : goal.returns-in-Ok-clause-ok
returns-in-Ok-clause-ok g c =
    let there = has_at c.as_str.result.now c.as_slice.result.now c.in-Ok.field-0 c.in-Ok.ensures.there in
    let has = ap (λ s. has_name s c.args.self.now) (sym c.as_str.ensures.text) ∙ ap (has_name c.as_str.result.now) (sym c.as_slice.ensures.pairs) ∙ there in
    sym (ap (λ b. if b then c.args.self.now else with_name (c.args.name, c.args.value) c.args.self.now) has)

pub returns-in-Ok-clause-is_new : goal.returns-in-Ok-clause-is_new
returns-in-Ok-clause-is_new g c =
    let there = has_at c.as_str.result.now c.as_slice.result.now c.in-Ok.field-0 c.in-Ok.ensures.there in
    sym (ap not (ap (λ s. has_name s c.args.self.now) (sym c.as_str.ensures.text) ∙ ap (has_name c.as_str.result.now) (sym c.as_slice.ensures.pairs) ∙ there))

pub returns-in_ok-insert-in-Err-clause-ok : goal.returns-in_ok-insert-in-Err-clause-ok
returns-in_ok-insert-in-Err-clause-ok g c =
    let named = subst (λ s. IsPlace s c.as_slice.result.now c.in-Err.place) c.as_str.ensures.text c.in-Err.ensures.absent in
    let here = subst (λ ps. IsPlace c.args.name ps c.in-Err.place) c.as_slice.ensures.pairs named in
    c.in_ok-insert-in-Err.ensures.items ∙ ap (λ ps. insert ps c.in-Err.place (c.args.name, c.args.value)) c.self.view_is ∙ kept_with (c.args.name, c.args.value) c.args.self.now c.in-Err.place here

pub returns-in_ok-insert-in-Err-clause-is_new : goal.returns-in_ok-insert-in-Err-clause-is_new
returns-in_ok-insert-in-Err-clause-is_new g c =
    let named = subst (λ s. IsPlace s c.as_slice.result.now c.in-Err.place) c.as_str.ensures.text c.in-Err.ensures.absent in
    let here = subst (λ ps. IsPlace c.args.name ps c.in-Err.place) c.as_slice.ensures.pairs named in
    sym (ap not (apart c.args.name c.args.self.now c.in-Err.place here))
