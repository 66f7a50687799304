use Rattle.std.proofs.Common.{◌≡◌, Bool, true, false, List, ℕ, ◌&&◌, ◌||◌, not, bytes_eq, refl, sym, ap, ◌∙◌, subst}
use Rattle.std.specs.BTreeSet.{BTreeSet}
use Rattle.std.specs.Borrow.{Bor}
use Rattle.std.specs.Cmp.Lexicographic.{bytes_decides}
use Rattle.std.proofs.Math.Bool.{or-false}
use Rattle.enrol_states.specs.TextSets.{has_text}
use Rattle.enrol_states.proofs.Sets.{has_text-insert}
use Rattle.enrol_conflicts.proofs.held.add_feature.Goals as goal

-- a text that may not be shared
alone : (set : BTreeSet (Bor (List ℕ))) (g f : List ℕ) (b : Bool) → bytes_eq g f ≡ b → has_text set g ≡ false → b ≡ (b && not (has_text set f))
alone set g f true e none = sym (ap not (subst (λ u. has_text set u ≡ false) ((bytes_decides g f).0 e) none))
alone set g f false e none = refl

-- one that may
spared : (set : BTreeSet (Bor (List ℕ))) (g f : List ℕ) (b : Bool) → bytes_eq g f ≡ b → has_text set g ≡ true → (b && not (has_text set f)) ≡ false
spared set g f true e there = ap not (subst (λ u. has_text set u ≡ true) ((bytes_decides g f).0 e) there)
spared set g f false e there = refl

pub returns-then-has_text : goal.returns-then-has_text
returns-then-has_text c = λ f.
    let there : has_text c.args.shared.now c.args.feature.now ≡ true = cc in
    sym (or-false (has_text c.args.held.now f)) ∙ ap (λ b. has_text c.args.held.now f || b) (sym (spared c.args.shared.now c.args.feature.now f (bytes_eq c.args.feature.now f) refl there))

pub returns : goal.returns
returns c = λ f.
    let none : has_text c.args.shared.now c.args.feature.now ≡ false = cc in
    has_text-insert c.args.held.now c.insert.new.self c.args.feature c.in_ok-insert.ensures.updates f
    ∙ ap (λ b. has_text c.args.held.now f || b) (alone c.args.shared.now c.args.feature.now f (bytes_eq c.args.feature.now f) refl none)
