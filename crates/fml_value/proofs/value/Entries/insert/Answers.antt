use Rattle.std.proofs.Common.{◌≡◌, ◌∷◌, ◌++◌, List, ℕ, map, set, take, drop, sym, ap, ◌∙◌, subst, Ok, Err}
use Rattle.std.proofs.lemmas.List.{map-set}
use Rattle.fml_types.specs.Named.{AreRising}
use Rattle.fml_value.specs.Entries.{with_entry, IsPlace}
use Rattle.fml_value.specs.TypedOf.{typed_of, entry_of}
use Rattle.fml_value.specs.declared.value.Value.{Value}
use Rattle.fml_value.proofs.Ordered.{rising_with, map-insert}
use Rattle.fml_value.proofs.value.Entries.insert.Goals as goal

pub invariant_of-self : goal.invariant_of-self
invariant_of-self c =
    let found = subst (λ n. IsPlace n c.args.self.now (Ok c.in-Ok.place)) c.as_str.ensures.text c.in-Ok.ensures in
    let kept = subst AreRising c.self.view_is c.self.invariant in
    let e : List ℕ × Value = (c.args.name, c.args.value) in
    let put : map entry_of (set c.self.inside.pairs.items c.in-Ok.place e) ≡ with_entry c.args.name (typed_of c.args.value) c.args.self.now =
    map-set entry_of c.self.inside.pairs.items c.in-Ok.place e ∙ ap (λ l. set l c.in-Ok.place (entry_of e)) c.self.view_is ∙ sym (found.entering (typed_of c.args.value)) in
    subst AreRising (sym put) (rising_with c.args.name (typed_of c.args.value) c.args.self.now kept)

pub invariant_of-self-in-Err : goal.invariant_of-self-in-Err
invariant_of-self-in-Err c =
    let found = subst (λ n. IsPlace n c.args.self.now (Err c.in-Err.place)) c.as_str.ensures.text c.in-Err.ensures in
    let kept = subst AreRising c.self.view_is c.self.invariant in
    let e : List ℕ × Value = (c.args.name, c.args.value) in
    let put : map entry_of c.insert.new.self.items ≡ with_entry c.args.name (typed_of c.args.value) c.args.self.now =
    ap (map entry_of) c.in_ok-insert-in-Err.ensures.items ∙ map-insert entry_of c.self.inside.pairs.items c.in-Err.place e
    ∙ ap (λ l. take c.in-Err.place l ++ entry_of e ∷ drop c.in-Err.place l) c.self.view_is ∙ sym (found.entering (typed_of c.args.value)) in
    subst AreRising (sym put) (rising_with c.args.name (typed_of c.args.value) c.args.self.now kept)

pub returns-in-Ok-clause-ok : goal.returns-in-Ok-clause-ok
returns-in-Ok-clause-ok c =
    let found = subst (λ n. IsPlace n c.args.self.now (Ok c.in-Ok.place)) c.as_str.ensures.text c.in-Ok.ensures in
    let e : List ℕ × Value = (c.args.name, c.args.value) in
    map-set entry_of c.self.inside.pairs.items c.in-Ok.place e ∙ ap (λ l. set l c.in-Ok.place (entry_of e)) c.self.view_is ∙ sym (found.entering (typed_of c.args.value))

pub returns-in_ok-insert-in-Err-clause-ok : goal.returns-in_ok-insert-in-Err-clause-ok
returns-in_ok-insert-in-Err-clause-ok c =
    let found = subst (λ n. IsPlace n c.args.self.now (Err c.in-Err.place)) c.as_str.ensures.text c.in-Err.ensures in
    let e : List ℕ × Value = (c.args.name, c.args.value) in
    ap (map entry_of) c.in_ok-insert-in-Err.ensures.items ∙ map-insert entry_of c.self.inside.pairs.items c.in-Err.place e
    ∙ ap (λ l. take c.in-Err.place l ++ entry_of e ∷ drop c.in-Err.place l) c.self.view_is ∙ sym (found.entering (typed_of c.args.value))
