-- What holds of each item.
use Rattle.std.proofs.Common.{◌≡◌, zero, suc, ◌+◌, List, [], ◌∷◌, ◌++◌, length, get_or, map, refl, arith}
use Rattle.std.specs.List.{flat_map}
use Rattle.std.specs.Prelude.{All}

pub all_nil : {A : Type 0} (P : A → Type 0) → All P []
all_nil P k d h = absurd (omega arith)

pub all_cons : {A : Type 0} (P : A → Type 0) (x : A) (xs : List A) → P x → All P xs → All P (x ∷ xs)
all_cons P x xs one others zero d h = one
all_cons P x xs one others (suc k) d h = others k d (omega arith)

pub all_head : {A : Type 0} (P : A → Type 0) (x : A) (xs : List A) → All P (x ∷ xs) → P x
all_head P x xs all = all 0 x (omega arith)

pub all_tail : {A : Type 0} (P : A → Type 0) (x : A) (xs : List A) → All P (x ∷ xs) → All P xs
all_tail P x xs all k d h = all (suc k) d (omega arith)

pub all_push : {A : Type 0} (P : A → Type 0) (xs : List A) (x : A) → All P xs → P x → All P (xs ++ x ∷ [])
all_push P [] x all one = all_cons P x [] one (all_nil P)
all_push P (y ∷ ys) x all one = all_cons P y (ys ++ x ∷ []) (all_head P y ys all) (all_push P ys x (all_tail P y ys all) one)

pub all_map : {A : Type 0} (P Q : A → Type 0) (xs : List A) → ((x : A) → P x → Q x) → All P xs → All Q xs
all_map P Q xs step all k d h = step (get_or xs k d) (all k d h)

pub length_push : {A : Type 0} (xs : List A) (x : A) → length (xs ++ x ∷ []) ≡ length xs + 1
length_push [] x = refl
length_push (y ∷ ys) x = omega (arith, length_push ys x)

pub all_append : {A : Type 0} (P : A → Type 0) (xs ys : List A) → All P xs → All P ys → All P (xs ++ ys)
all_append P [] ys first second = second
all_append P (x ∷ xs) ys first second = all_cons P x (xs ++ ys) (all_head P x xs first) (all_append P xs ys (all_tail P x xs first) second)

pub all_mapped : {A B : Type 0} (P : A → Type 0) (Q : B → Type 0) (f : A → B) (xs : List A) → ((x : A) → P x → Q (f x)) → All P xs → All Q (map f xs)
all_mapped P Q f [] step all = all_nil Q
all_mapped P Q f (x ∷ xs) step all = all_cons Q (f x) (map f xs) (step x (all_head P x xs all)) (all_mapped P Q f xs step (all_tail P x xs all))

pub all_flat : {A B : Type 0} (P : A → Type 0) (Q : B → Type 0) (f : A → List B) (xs : List A) → ((x : A) → P x → All Q (f x)) → All P xs → All Q (flat_map f xs)
all_flat P Q f [] step all = all_nil Q
all_flat P Q f (x ∷ xs) step all = all_append Q (f x) (flat_map f xs) (step x (all_head P x xs all)) (all_flat P Q f xs step (all_tail P x xs all))
