-- Kinds are told apart.
use Rattle.std.proofs.Common.{◌≡◌, ℕ, zero, suc, true, refl, sym, ap, ◌∙◌}
use Rattle.std.specs.Bool.{Decides}
use Rattle.std.specs.Cmp.{unsigned_Decides}
use Rattle.recipe_reader.specs.Kinds.{kind_place, kind_eq}
use Rattle.recipe_reader.specs.declared.kinds.Kind.{Kind}
use Rattle.recipe_reader.specs.declared.kinds.Kind.TheVariants.{Experiment, Rollout}

kind_at : ℕ → Kind
kind_at zero = Experiment
kind_at (suc n) = Rollout

kind_back : (k : Kind) → kind_at (kind_place k) ≡ k
unfolding kind_at
kind_back Experiment = refl
kind_back Rollout = refl

pub kind_Decides : (k l : Kind) → Decides (kind_eq k l) (k ≡ l)
kind_Decides k l = (λ e. sym (kind_back k) ∙ ap kind_at ((unsigned_Decides (kind_place k) (kind_place l)).0 e) ∙ kind_back l, λ same. (unsigned_Decides (kind_place k) (kind_place l)).1 (ap kind_place same))

pub kind_itself : (k : Kind) → kind_eq k k ≡ true
kind_itself Experiment = refl
kind_itself Rollout = refl

pub kinds_both : (k l m : Kind) → kind_eq k l ≡ true → kind_eq k m ≡ true → kind_eq l m ≡ true
kinds_both k l m one two = (kind_Decides l m).1 (sym ((kind_Decides k l).0 one) ∙ (kind_Decides k m).0 two)

pub kinds_turned : (k l : Kind) → kind_eq k l ≡ kind_eq l k
kinds_turned Experiment Experiment = refl
kinds_turned Experiment Rollout = refl
kinds_turned Rollout Experiment = refl
kinds_turned Rollout Rollout = refl
