use Rattle.std.proofs.Common.{◌≡◌, List, ℕ, map, set, get_or, sym, ap, ◌∙◌, subst}
use Rattle.fml_types.specs.Named.{found}
use Rattle.fml_value.specs.Entries.{replaced, Stands}
use Rattle.fml_value.specs.TypedOf.{typed_of, entry_of}
use Rattle.fml_value.specs.declared.value.Value.{Value}
use Rattle.fml_value.proofs.Ordered.{replaced_none}
use Rattle.fml_value.proofs.Replacing.{value_before, names_after, rising_after}
use Rattle.fml_value.proofs.value.Entries.replace.Goals as goal

made : (items : List (List ℕ × Value)) (i : ℕ) (pair : List ℕ × Value) (before after : Value) → pair ≡ get_or items i pair → after ≡ before
    → set items i (pair.0, after) ≡ set items i ((get_or items i pair).0, before)
made items i pair before after is same = ap (λ (p : List ℕ × Value). set items i (p.0, after)) is ∙ ap (λ v. set items i ((get_or items i pair).0, v)) same

pub invariant_of-self : goal.invariant_of-self
invariant_of-self c =
    let items = c.self.inside.pairs.items in
    let stands : Stands c.args.name.now (map entry_of items) c.in-Ok.place = subst (λ es. Stands c.args.name.now es c.in-Ok.place) (sym c.self.view_is) c.in-Ok.ensures in
    rising_after c.args.name.now items c.in-Ok.place stands c.index_mut.result.now c.args.value (set items c.in-Ok.place (c.index_mut.result.now.0, c.replace.new.dest)) c.self.invariant
    (made items c.in-Ok.place c.index_mut.result.now c.args.value c.replace.new.dest c.index_mut.ensures.value c.replace.ensures.after)

pub returns-in-Ok-clause-old : goal.returns-in-Ok-clause-old
returns-in-Ok-clause-old c =
    let items = c.self.inside.pairs.items in
    let stands : Stands c.args.name.now (map entry_of items) c.in-Ok.place = subst (λ es. Stands c.args.name.now es c.in-Ok.place) (sym c.self.view_is) c.in-Ok.ensures in
    value_before c.args.name.now items c.in-Ok.place stands c.index_mut.result.now c.replace.result (c.replace.ensures.value ∙ ap (λ (p : List ℕ × Value). p.1) c.index_mut.ensures.value)
    ∙ ap (found c.args.name.now) c.self.view_is

pub returns-in-Ok-clause-new : goal.returns-in-Ok-clause-new
returns-in-Ok-clause-new c =
    let items = c.self.inside.pairs.items in
    let stands : Stands c.args.name.now (map entry_of items) c.in-Ok.place = subst (λ es. Stands c.args.name.now es c.in-Ok.place) (sym c.self.view_is) c.in-Ok.ensures in
    names_after c.args.name.now items c.in-Ok.place stands c.index_mut.result.now c.args.value (set items c.in-Ok.place (c.index_mut.result.now.0, c.replace.new.dest))
    (made items c.in-Ok.place c.index_mut.result.now c.args.value c.replace.new.dest c.index_mut.ensures.value c.replace.ensures.after)
    ∙ ap (replaced c.args.name.now (typed_of c.args.value)) c.self.view_is

pub returns-in-Err-clause-new : goal.returns-in-Err-clause-new
returns-in-Err-clause-new c = sym (replaced_none c.args.name.now (typed_of c.args.value) c.args.self.now c.in-Err.ensures.absent)
