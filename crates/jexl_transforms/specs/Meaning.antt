-- What a transform of each standard name gives for a subject and arguments.
use Rattle.std.specs.Prelude.{ℕ, ℤ, pos, neg_ℤ, Bool, List, [], ◌∷◌, codes, Option, Some, None, option_map, option_and_then, bytes_eq, if◌then◌else◌}
use Rattle.std.specs.List.{list_any}
use Rattle.std.specs.declared.cmp.Ordering.{Ordering}
use Rattle.std.specs.declared.cmp.Ordering.TheVariants.{Less, Equal, Greater}
use Rattle.json_tree.specs.Json.{Json, Members, truth, whole, text}
use Rattle.json_tree.specs.Bytes.{text_of}
use Rattle.plain_text.specs.Moments.{moment}
use Rattle.jexl_transforms.specs.declared.range.Range.{Range}
use Rattle.jexl_transforms.specs.Events.{event_sum_value, event_nonzero_value, event_seen_value}
use Rattle.jexl_transforms.specs.Numbers.{bound_of}
use Rattle.sampling.specs.Sampling.{point_of, is_in_range}
use Rattle.version_compare.specs.Versions.{version_order}

-- -1 for less, 0 for equal, 1 for greater
abbrev pub order_number : Ordering → ℤ
order_number Less = neg_ℤ (pos 1)
order_number Equal = pos 0
order_number Greater = pos 1

-- `versionCompare`: the order of a version and another one
abbrev pub version_value : Json → List Json → Option Json
version_value (text version) (text other ∷ []) = Some (whole (order_number (version_order version other)))
version_value subject arguments = None

-- `date`: the seconds of a moment, with no arguments
abbrev pub date_value : Json → List Json → Option Json
date_value (text written) [] = option_map whole (moment written)
date_value subject arguments = None

abbrev pub range : ℕ → ℕ → ℕ → Range
range start count total = record { start = start; count = count; total = total }

-- the start of a range of buckets, how many it has, and how many there are in all
abbrev pub range_of : List Json → Option Range
range_of (start ∷ count ∷ total ∷ []) =
    option_and_then (λ s. option_and_then (λ c. option_map (λ t. range s c t) (bound_of 1 total)) (bound_of 0 count)) (bound_of 0 start)
range_of arguments = None

-- whether the point's bucket is in the range
abbrev pub holds_point : Range → ℕ → Bool
holds_point r point = is_in_range point r.start r.count r.total

-- `bucketSample`: whether the point of any value's compact text is in a range of buckets
abbrev pub bucket_value : Json → List Json → Option Json
bucket_value subject arguments = option_map (λ r. truth (holds_point r (point_of (text_of subject)))) (range_of arguments)

-- the value that the transform of this name has beside these attributes, or none where it refuses the subject and the arguments
abbrev pub meaning : List ℕ → Members → Json → List Json → Option Json
meaning name attributes subject arguments =
    if bytes_eq name (codes "versionCompare") then version_value subject arguments
    else (if bytes_eq name (codes "date") then date_value subject arguments
    else (if bytes_eq name (codes "bucketSample") then bucket_value subject arguments
    else (if bytes_eq name (codes "eventSum") then event_sum_value attributes subject arguments
    else (if bytes_eq name (codes "eventCountNonZero") then event_nonzero_value attributes subject arguments
    else (if bytes_eq name (codes "eventLastSeen") then event_seen_value attributes subject arguments else None)))))

-- the names whose meaning doesn't depend on the attributes
abbrev pub names_by_subject : List (List ℕ)
names_by_subject = codes "versionCompare" ∷ codes "date" ∷ codes "bucketSample" ∷ []

-- the names that have a meaning
abbrev pub standard_names : List (List ℕ)
standard_names = codes "versionCompare" ∷ codes "date" ∷ codes "bucketSample" ∷ codes "eventSum" ∷ codes "eventCountNonZero" ∷ codes "eventLastSeen" ∷ []

-- the name is one of these
abbrev pub has_name : List ℕ → List (List ℕ) → Bool
has_name name names = list_any (bytes_eq name) names

abbrev pub is_standard : List ℕ → Bool
is_standard name = has_name name standard_names
