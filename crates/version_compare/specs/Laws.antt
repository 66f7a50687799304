-- The law of the version order.
use Rattle.std.specs.Prelude.{◌≡◌, ℕ, List, IsTrue}
use Rattle.std.specs.Cmp.{IsTotalOrder}
use Rattle.std.specs.Ordering.{is_le}
use Rattle.std.specs.declared.cmp.Ordering.TheVariants.{Equal}
use Rattle.version_compare.specs.Versions.{version_order}

-- `total` says that two versions in the other places compare the other way round, that "less" is
-- transitive, and that equal versions compare alike with each third one
pub record IsVersionOrderTotal : Type 0 where
  pub total : IsTotalOrder version_order
  pub reflexive : (a : List ℕ) → version_order a a ≡ Equal
  pub transitive : (a b c : List ℕ) → IsTrue (is_le (version_order a b)) → IsTrue (is_le (version_order b c)) → IsTrue (is_le (version_order a c))
