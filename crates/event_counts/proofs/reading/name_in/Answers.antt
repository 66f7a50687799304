-- The bytes of a name are a text.
use Rattle.std.proofs.Common.{◌≡◌, ◌-◌, false, List, ℕ, Result, Ok, Err, IsUtf8, length, take, drop, sym, ◌∙◌}
use Rattle.std.specs.Result.{MatchResult, is_ok}
use Rattle.plain_text.proofs.ShortNames.{IsUtf8-name}
use Rattle.event_counts.proofs.reading.name_in.Goals as goal

failed : {T E : Type 0} (r : Result T E) (P : T → Type 0) (Q : E → Type 0) → is_ok r ≡ false → MatchResult r P Q → ((e : E) → Q e → ⊥) → ⊥
failed (Ok t) P Q is which never = absurd (cc)
failed (Err e) P Q is which never = never e which

pub returns-in-101-clause-none : goal.returns-in-101-clause-none
returns-in-101-clause-none c = λ none name is same.
    let key : List ℕ = c.args.key.now in
    let utf8 : IsUtf8 (take (length key - 1) (drop 1 key)) = IsUtf8-name (take (length key - 1) (drop 1 key)) (sym c.is_name.ensures ∙ c.if-is_name.true) in
    failed c.from_utf8.result _ _ (sym c.ok.ensures.variant ∙ none) c.from_utf8.ensures.cases (λ e which. which.0 utf8)
