-- Sampling over whole numbers without bound. A point is a number below 2 ^ 48.
use Rattle.std.specs.Prelude.{ℕ, ◌+◌, ◌-◌, ◌*◌, ◌/◌, ◌%◌, ◌^◌, ◌<◌, ◌≤◌, nat_lt, Bool, List, fold, length, sum, take}
use Rattle.sha2.specs.Sha256.{sha256}

-- the number that these bytes write, high byte first
abbrev pub big_endian : List ℕ → ℕ
big_endian bytes = fold (λ number byte. 256 * number + byte) 0 bytes

-- the number of the first six bytes of the SHA-256 digest (FIPS 180-4, 6.2)
abbrev pub point_of : List ℕ → ℕ
point_of bytes = big_endian (take 6 (sha256 bytes))

-- the bucket of a point, where `total` buckets share the points evenly
abbrev pub bucket_of : ℕ → ℕ → ℕ
bucket_of point total = point * total / 2 ^ 48

-- whether the bucket is less than `count` buckets after `start`, where bucket 0 comes after the last one
abbrev pub is_in_range : ℕ → ℕ → ℕ → ℕ → Bool
is_in_range point start count total = nat_lt ((bucket_of point total + total - start % total) % total) count

-- the sum of the ratios with index 0 to i
abbrev pub sum_through : List ℕ → ℕ → ℕ
sum_through ratios i = sum (take (i + 1) ratios)

-- i is the least index with point / 2 ^ 48 < (the sum of the ratios through i) / (the sum of all)
pub record IsBranch (point : ℕ) (ratios : List ℕ) (i : ℕ) : Type 0 where
  pub index : i < length ratios
  pub holds : point * sum ratios < 2 ^ 48 * sum_through ratios i
  pub least : (k : ℕ) → k < i → 2 ^ 48 * sum_through ratios k ≤ point * sum ratios
