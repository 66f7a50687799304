use Rattle.std.proofs.Common.{◌≡◌, ℕ, List, [], ◌∷◌, ◌++◌, Some, rules, ap, ◌∙◌, subst}
use Rattle.std.specs.BTreeMap.{Updates}
use Rattle.std.specs.Cmp.Lexicographic.{slice_cmp}
use Rattle.std.specs.Ordering.{nat_cmp}
use Rattle.fml_link.proofs.MetFiles.{met_next}
use Rattle.fml_link.proofs.names.FileList.add_new.Goals as goal

pub returns-clause-met : goal.returns-clause-met
returns-clause-met c =
    let name : List ℕ = c.args.name.now in
    let channel : List ℕ = c.args.channel.now in
    let old = c.args.self.now.channels in
    let new = c.insert.new.self in
    let list = c.args.self.now.list in
    let first : c.in_ok-clone.field-0 ≡ name = search rules in
    let second : c.in_ok-clone-2.field-0 ≡ channel = search rules in
    let third : c.in_ok-clone-3.field-0 ≡ name = search rules in
    let fourth : c.in_ok-clone-4.field-0 ≡ channel = search rules in
    let updates = subst (λ (v : List ℕ). Updates (slice_cmp nat_cmp) old new c.in_ok-clone.field-0 (Some v)) second c.in_ok-insert.ensures.updates in
    met_next name channel old new list c.push.new.self c.requires.met c.requires.is_new (subst (λ (k : List ℕ). Updates (slice_cmp nat_cmp) old new k (Some channel)) first updates)
    (c.in_ok-push.ensures.ok ∙ ap (λ (n : List ℕ). list ++ (n, c.in_ok-clone-4.field-0) ∷ []) third ∙ ap (λ (d : List ℕ). list ++ (name, d) ∷ []) fourth)
