-- What some names mean beside other attributes.
use Rattle.std.proofs.Common.{◌≡◌, Bool, true, false, ◌||◌, codes, bytes_eq, refl}
use Rattle.std.specs.Prelude.{if◌then◌else◌}
use Rattle.jexl_transforms.specs.Meaning.{version_value, date_value, bucket_value}
use Rattle.jexl_transforms.specs.Laws.{NeedsNoAttributes}

one_of_three : {X : Type 0} (a b c : Bool) (x y z p q : X) → (a || (b || (c || false))) ≡ true
    → (if a then x else (if b then y else (if c then z else p))) ≡ (if a then x else (if b then y else (if c then z else q)))
one_of_three true b c x y z p q h = refl
one_of_three false true c x y z p q h = refl
one_of_three false false true x y z p q h = refl
one_of_three false false false x y z p q h = absurd (cc)

pub needs_no_attributes : NeedsNoAttributes
needs_no_attributes name attributes others subject arguments h =
    one_of_three (bytes_eq name (codes "versionCompare")) (bytes_eq name (codes "date")) (bytes_eq name (codes "bucketSample")) (version_value subject arguments) (date_value subject arguments) (bucket_value subject arguments) _ _ h
