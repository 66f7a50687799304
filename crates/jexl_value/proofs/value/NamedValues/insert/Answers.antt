use Rattle.std.proofs.Common.{◌≡◌, ◌∷◌, ◌++◌, List, ℕ, map, set, take, drop, sym, ap, ◌∙◌, subst, Ok, Err}
use Rattle.std.proofs.lemmas.List.{map-set}
use Rattle.json_tree.specs.Json.{members_of}
use Rattle.jexl_value.specs.Kept.{AreNamedValues}
use Rattle.jexl_value.specs.Names.{with_member, IsPlace}
use Rattle.jexl_value.specs.Value.{as_json, member_of}
use Rattle.jexl_value.specs.declared.value.Value.{Value}
use Rattle.jexl_value.proofs.Growing.{AreNamedValues-with, map-insert}
use Rattle.jexl_value.proofs.value.NamedValues.insert.Goals as goal

pub invariant_of-self : goal.invariant_of-self
invariant_of-self c =
    let found = subst (λ n. IsPlace n c.args.self.now (Ok c.in-Ok.place)) c.as_str.ensures.text c.in-Ok.ensures in
    let kept = subst (λ ms. AreNamedValues (members_of ms)) c.self.view_is c.self.invariant in
    let m : List ℕ × Value = (c.args.name, c.args.value) in
    let put : map member_of (set c.self.inside.pairs.items c.in-Ok.place m) ≡ with_member c.args.name (as_json c.args.value) c.args.self.now =
    map-set member_of c.self.inside.pairs.items c.in-Ok.place m ∙ ap (λ l. set l c.in-Ok.place (member_of m)) c.self.view_is ∙ sym (found.2 (as_json c.args.value)) in
    subst (λ ms. AreNamedValues (members_of ms)) (sym put) (AreNamedValues-with c.args.name (as_json c.args.value) c.args.self.now c.as_str-name.ensures.utf8 c.keeps.ensures.sound kept)

pub invariant_of-self-in-Err : goal.invariant_of-self-in-Err
invariant_of-self-in-Err c =
    let found = subst (λ n. IsPlace n c.args.self.now (Err c.in-Err.place)) c.as_str.ensures.text c.in-Err.ensures in
    let kept = subst (λ ms. AreNamedValues (members_of ms)) c.self.view_is c.self.invariant in
    let m : List ℕ × Value = (c.args.name, c.args.value) in
    let put : map member_of c.insert.new.self.items ≡ with_member c.args.name (as_json c.args.value) c.args.self.now =
    ap (map member_of) c.in_ok-insert-in-Err.ensures.items ∙ map-insert member_of c.self.inside.pairs.items c.in-Err.place m
    ∙ ap (λ l. take c.in-Err.place l ++ member_of m ∷ drop c.in-Err.place l) c.self.view_is ∙ sym (found.2 (as_json c.args.value)) in
    subst (λ ms. AreNamedValues (members_of ms)) (sym put) (AreNamedValues-with c.args.name (as_json c.args.value) c.args.self.now c.as_str-name.ensures.utf8 c.keeps.ensures.sound kept)

pub returns-in-Ok-clause-ok : goal.returns-in-Ok-clause-ok
returns-in-Ok-clause-ok c =
    let found = subst (λ n. IsPlace n c.args.self.now (Ok c.in-Ok.place)) c.as_str.ensures.text c.in-Ok.ensures in
    let m : List ℕ × Value = (c.args.name, c.args.value) in
    map-set member_of c.self.inside.pairs.items c.in-Ok.place m ∙ ap (λ l. set l c.in-Ok.place (member_of m)) c.self.view_is ∙ sym (found.2 (as_json c.args.value))

pub returns-in_ok-insert-in-Err-clause-ok : goal.returns-in_ok-insert-in-Err-clause-ok
returns-in_ok-insert-in-Err-clause-ok c =
    let found = subst (λ n. IsPlace n c.args.self.now (Err c.in-Err.place)) c.as_str.ensures.text c.in-Err.ensures in
    let m : List ℕ × Value = (c.args.name, c.args.value) in
    ap (map member_of) c.in_ok-insert-in-Err.ensures.items ∙ map-insert member_of c.self.inside.pairs.items c.in-Err.place m
    ∙ ap (λ l. take c.in-Err.place l ++ member_of m ∷ drop c.in-Err.place l) c.self.view_is ∙ sym (found.2 (as_json c.args.value))
