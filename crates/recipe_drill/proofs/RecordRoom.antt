-- How long a record's text is.
use Rattle.std.proofs.Common.{◌+◌, ◌*◌, ◌/◌, ◌%◌, ◌<◌, ◌≤◌, ℕ, zero, suc, Bool, true, false, cond, List, [], ◌∷◌, ◌++◌, length, decimal, codes, pos, ap, arith, length-append}
use Rattle.std.specs.Prelude.{◌==◌, nat_lt}
use Rattle.std.specs.Char.{digit_char}
use Rattle.std.specs.Fmt.{digits}
use Rattle.std.proofs.lemmas.Fmt.{length-decimal-le}
use Rattle.std.proofs.lemmas.List.Concat.{flat_map-cons}
use Rattle.json.specs.Print.{escape, escape_byte, escape_letter}
use Rattle.json_tree.specs.Json.{Json, truth, whole, text, list, items_of}
use Rattle.json_tree.specs.Bytes.{text_of}
use Rattle.json_length.proofs.Lengths.{length-quoted, length-object, length-list}
use Rattle.recipe_drill.specs.declared.draws.Draws.{Draws}
use Rattle.recipe_drill.specs.Records.{four_digits, slug, feature_name, namespace, targeting, value_json, feature_json, branch_json, branches_json, bucket_json, drawn_record}
use Rattle.recipe_drill.specs.Draws.{draws, drawn}

-- ---- texts: at most six bytes for each byte, and two quotes

cond-le : (a b : Bool) (xs ys zs : List ℕ) → length xs ≤ 6 → length ys ≤ 6 → length zs ≤ 6 → length (cond a xs (cond b ys zs)) ≤ 6
cond-le true b xs ys zs p q r = p
cond-le false true xs ys zs p q r = q
cond-le false false xs ys zs p q r = r

escape_byte-le : (x : ℕ) → length (escape_byte x) ≤ 6
unfolding escape_byte
escape_byte-le x = cond-le (nat_lt 0 (escape_letter x)) (nat_lt x 32) (92 ∷ escape_letter x ∷ []) (92 ∷ 117 ∷ 48 ∷ 48 ∷ digit_char (x / 16) ∷ digit_char (x % 16) ∷ []) (x ∷ []) (omega arith) (omega arith) (omega arith)

escape-le : (s : List ℕ) → length (escape s) ≤ 6 * length s
escape-le [] = omega arith
escape-le (x ∷ xs) = omega (arith, ap length (flat_map-cons escape_byte x xs), length-append (escape_byte x) (escape xs), escape_byte-le x, escape-le xs)

text-le : (s : List ℕ) → length (text_of (text s)) ≤ 2 + 6 * length s
text-le s = omega (arith, length-quoted s, escape-le s)

-- ---- the texts of a record

two_digits : (n : ℕ) → n < 100 → length (decimal n) ≤ 2
two_digits n small = length-decimal-le 2 n (omega arith) (omega (arith, small)) (omega (arith, small))

three_digits : (n : ℕ) → n < 1000 → length (decimal n) ≤ 3
three_digits n small = length-decimal-le 3 n (omega arith) (omega (arith, small)) (omega (arith, small))

five_digits : (n : ℕ) → n < 100000 → length (decimal n) ≤ 5
five_digits n small = length-decimal-le 5 n (omega arith) (omega (arith, small)) (omega (arith, small))

four_digits-le : (i : ℕ) → i < 2000 → length (decimal (i / 1000) ++ decimal (i / 100 % 10) ++ decimal (i / 10 % 10) ++ decimal (i % 10)) ≤ 8
four_digits-le i small =
    let a = decimal (i / 1000) in
    let b = decimal (i / 100 % 10) in
    let c = decimal (i / 10 % 10) in
    let d = decimal (i % 10) in
    omega (arith, length-append (a ++ b ++ c) d, length-append (a ++ b) c, length-append a b, two_digits (i / 1000) (omega (arith, small)), two_digits (i / 100 % 10) (omega arith), two_digits (i / 10 % 10) (omega arith), two_digits (i % 10) (omega arith))

slug-le : (i : ℕ) → i < 2000 → length (slug i) ≤ 14
unfolding slug
slug-le i small =
    let digits : length (four_digits i) ≤ 8 = four_digits-le i small in
    omega (arith, digits)

feature_name-le : (f : ℕ) → f < 40 → length (feature_name f) ≤ 7
unfolding feature_name
feature_name-le f small = omega (arith, two_digits f (omega (arith, small)))

namespace-le : (f : ℕ) → f < 40 → length (namespace f) ≤ 8
unfolding namespace
namespace-le f small = omega (arith, two_digits f (omega (arith, small)))

targeting-le : (v : ℕ) → v < 40 → length (targeting v) ≤ 41
unfolding targeting
targeting-le v small = omega (arith, length-append (decimal (90 + v)) (codes ".!') >= 0"), three_digits (90 + v) (omega (arith, small)))

-- ---- the parts of a record

value-le : (enabled : Bool) → length (text_of (value_json enabled)) ≤ 17
unfolding value_json escape_byte
value-le true = omega arith
value-le false = omega arith

truth-le : (b : Bool) → length (text_of (truth b)) ≤ 5
truth-le true = omega arith
truth-le false = omega arith

feature-le : (f : ℕ) (enabled : Bool) → f < 40 → length (text_of (feature_json f enabled)) ≤ 100
unfolding feature_json escape_byte
feature-le f enabled small =
    omega (arith, length-object ((codes "featureId", text (feature_name f)) ∷ (codes "value", value_json enabled) ∷ []) (omega arith), text-le (feature_name f), feature_name-le f small, value-le enabled)

branch-le : (name : List ℕ) (f : ℕ) (enabled : Bool) → length name ≤ 9 → f < 40 → length (text_of (branch_json name f enabled)) ≤ 210
unfolding branch_json escape_byte digits
branch-le name f enabled short small =
    let features = length-list (feature_json f enabled ∷ []) (omega arith) in
    omega (arith, length-object ((codes "features", list (items_of (feature_json f enabled ∷ []))) ∷ (codes "ratio", whole (pos 1)) ∷ (codes "slug", text name) ∷ []) (omega arith), features, feature-le f enabled small, text-le name, short)

branches-le : (f : ℕ) → f < 40 → length (text_of (branches_json f)) ≤ 423
unfolding branches_json
branches-le f small =
    omega (arith, length-list (branch_json (codes "control") f false ∷ branch_json (codes "treatment") f true ∷ []) (omega arith), branch-le (codes "control") f false (omega arith) small, branch-le (codes "treatment") f true (omega arith) small)

bucket-le : (f count : ℕ) → f < 40 → count < 100000 → length (text_of (bucket_json f count)) ≤ 150
unfolding bucket_json escape_byte digits
bucket-le f count small some =
    omega (arith, length-object ((codes "count", whole (pos count)) ∷ (codes "namespace", text (namespace f)) ∷ (codes "randomizationUnit", text (codes "nimbus_id")) ∷ (codes "start", whole (pos 0)) ∷ (codes "total", whole (pos 10000)) ∷ []) (omega arith), five_digits count some, text-le (namespace f), namespace-le f small)

-- ---- a record

-- what bounds its length
pub record IsSmall (d : Draws) : Type 0 where
  pub feature : d.feature < 40
  pub count : d.count < 100000
  pub version : d.version < 40

drawn-small : (start i : ℕ) → IsSmall (drawn start i)
drawn-small start i = record { feature = omega arith; count = omega arith; version = omega arith }

pub draws-small : (start i : ℕ) → IsSmall (draws start i)
unfolding draws
draws-small start zero = record { feature = (drawn-small start 0).feature; count = omega arith; version = omega arith }
draws-small start (suc i) = drawn-small start (suc i)

pub drawn_record-le : (d : Draws) (i : ℕ) → IsSmall d → i < 2000 → length (text_of (drawn_record d i)) ≤ 1200
unfolding drawn_record escape_byte
drawn_record-le d i small within =
    let members : List (List ℕ × Json) = (codes "appName", text (codes "fenix")) ∷ (codes "branches", branches_json d.feature) ∷ (codes "bucketConfig", bucket_json d.feature d.count) ∷ (codes "channel", text (codes "release")) ∷ (codes "isEnrollmentPaused", truth (d.pause == 0)) ∷ (codes "isRollout", truth (d.kind == 0)) ∷ (codes "schemaVersion", text (codes "1.12.0")) ∷ (codes "slug", text (slug i)) ∷ (codes "targeting", text (targeting d.version)) ∷ [] in
    omega (arith, length-object members (omega arith), branches-le d.feature small.feature, bucket-le d.feature d.count small.feature small.count, truth-le (d.pause == 0), truth-le (d.kind == 0), text-le (slug i), slug-le i within, text-le (targeting d.version), targeting-le d.version small.version)
