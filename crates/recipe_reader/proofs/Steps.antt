-- What a reading that did not fail tells of its steps.
use Rattle.std.proofs.Common.{◌≡◌, ℕ, List, Bool, true, false, Option, Some, None, Result, Ok, Err, refl, subst}
use Rattle.std.specs.Prelude.{◌&&◌, nat_le, option_and_then, codes}
use Rattle.json_tree.specs.Json.{Json, whole}
use Rattle.std.specs.Prelude.{pos}
use Rattle.recipe_reader.specs.declared.recipe.SkipReason.{SkipReason}
use Rattle.recipe_reader.specs.Outcome.{◌>>=◌, needed, only_if}
use Rattle.recipe_reader.specs.Values.{text_at, as_count, is_slug, is_sized, kept_if}
use Rattle.recipe_reader.specs.Parts.{slug_in, sized_text}
use Rattle.recipe_reader.specs.declared.recipe.SkipReason.TheVariants.{BadBucket}

abbrev done : {A : Type 0} → A → Result A SkipReason
done x = Ok x

pub ok_is : {A : Type 0} (x y : A) → done x ≡ done y → x ≡ y
ok_is x y e = cc

pub bind_ok : {A B : Type 0} (r : Result A SkipReason) (f : A → Result B SkipReason) (y : B) → (r >>= f) ≡ Ok y → (x : A) × (r ≡ Ok x) × (f x ≡ Ok y)
bind_ok (Ok x) f y e = (x, refl, e)
bind_ok (Err d) f y e = absurd cc

pub needed_ok : {A : Type 0} (r : SkipReason) (o : Option A) (a : A) → needed r o ≡ Ok a → o ≡ Some a
needed_ok r None a e = absurd cc
needed_ok r (Some b) a e = cc

pub only_if_ok : {A : Type 0} (b : Bool) (a c : A) → only_if b a ≡ Some c → (b ≡ true) × (a ≡ c)
only_if_ok true a c e = (refl, cc)
only_if_ok false a c e = absurd cc

pub slug_ok : (r : SkipReason) (x : Json) (s : List ℕ) → slug_in r x ≡ Ok s → is_slug s ≡ true
unfolding slug_in
slug_ok r x s e =
    let b = bind_ok (needed r (text_at (codes "slug") x)) (λ t. needed r (only_if (is_slug t) t)) s e in
    let g = only_if_ok (is_slug b.0) b.0 s (needed_ok r (only_if (is_slug b.0) b.0) s b.2) in
    subst (λ t. is_slug t ≡ true) g.1 g.0

pub slug_there : (r : SkipReason) (x : Json) (s : List ℕ) → text_at (codes "slug") x ≡ Some s → is_slug s ≡ true → slug_in r x ≡ Ok s
unfolding slug_in
slug_there r x s e k = rw (e, k) refl

pub sized_ok : (k : List ℕ) (low high : ℕ) (x : Json) (s : List ℕ) → sized_text k low high x ≡ Ok s → is_sized low high s ≡ true
unfolding sized_text
sized_ok k low high x s e =
    let b = bind_ok (needed BadBucket (text_at k x)) (λ t. needed BadBucket (only_if (is_sized low high t) t)) s e in
    let g = only_if_ok (is_sized low high b.0) b.0 s (needed_ok BadBucket (only_if (is_sized low high b.0) b.0) s b.2) in
    subst (λ t. is_sized low high t ≡ true) g.1 g.0

pub sized_there : (k : List ℕ) (low high : ℕ) (x : Json) (s : List ℕ) → text_at k x ≡ Some s → is_sized low high s ≡ true → sized_text k low high x ≡ Ok s
unfolding sized_text
sized_there k low high x s e t = rw (e, t) refl

abbrev pub is_between : ℕ → ℕ → ℕ → Bool
is_between low high n = nat_le low n && nat_le n high

pub count_ok : (low high : ℕ) (o : Option Json) (n : ℕ) → option_and_then (as_count low high) o ≡ Some n → is_between low high n ≡ true
count_ok low high (Some (whole (pos m))) n e =
    let g = only_if_ok (is_between low high m) m n e in
    subst (λ k. is_between low high k ≡ true) g.1 g.0
count_ok low high o n e = absurd cc

pub count_there : (low high n : ℕ) → is_between low high n ≡ true → only_if (is_between low high n) n ≡ Some n
count_there low high n e = rw e refl

kept_one : (test : List ℕ → Bool) (s : List ℕ) (b : Bool) → test s ≡ b → kept_if test (only_if b s) ≡ only_if b s
kept_one test s true e = rw e refl
kept_one test s false e = refl

pub kept_twice : (test : List ℕ → Bool) (o : Option (List ℕ)) → kept_if test (kept_if test o) ≡ kept_if test o
kept_twice test None = refl
kept_twice test (Some s) = kept_one test s (test s) refl
