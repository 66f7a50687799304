-- The records of a drill.
use Rattle.std.specs.Prelude.{◌+◌, ◌/◌, ◌%◌, ◌==◌, ℕ, Bool, true, false, List, [], ◌∷◌, ◌++◌, pos, codes, decimal}
use Rattle.json_tree.specs.Json.{Json, truth, whole, text, list, object, items_of, members_of}
use Rattle.recipe_drill.specs.declared.draws.Draws.{Draws}
use Rattle.recipe_drill.specs.Draws.{draws}

-- the number in four digits
abbrev pub four_digits : ℕ → List ℕ
four_digits i = decimal (i / 1000) ++ decimal (i / 100 % 10) ++ decimal (i / 10 % 10) ++ decimal (i % 10)

unfoldable pub slug : ℕ → List ℕ
slug i = codes "drill-" ++ four_digits i

unfoldable pub feature_name : ℕ → List ℕ
feature_name f = codes "feat-" ++ decimal f

unfoldable pub namespace : ℕ → List ℕ
namespace f = codes "drill-" ++ decimal f

-- versions from 90 on
unfoldable pub targeting : ℕ → List ℕ
targeting v = codes "app_version|versionCompare('" ++ decimal (90 + v) ++ codes ".!') >= 0"

unfoldable pub value_json : Bool → Json
value_json enabled = object (members_of ((codes "enabled", truth enabled) ∷ []))

unfoldable pub feature_json : ℕ → Bool → Json
feature_json f enabled = object (members_of ((codes "featureId", text (feature_name f)) ∷ (codes "value", value_json enabled) ∷ []))

unfoldable pub branch_json : List ℕ → ℕ → Bool → Json
branch_json slug f enabled = object (members_of ((codes "features", list (items_of (feature_json f enabled ∷ []))) ∷ (codes "ratio", whole (pos 1)) ∷ (codes "slug", text slug) ∷ []))

unfoldable pub branches_json : ℕ → Json
branches_json f = list (items_of (branch_json (codes "control") f false ∷ branch_json (codes "treatment") f true ∷ []))

unfoldable pub bucket_json : ℕ → ℕ → Json
bucket_json f count = object (members_of ((codes "count", whole (pos count)) ∷ (codes "namespace", text (namespace f)) ∷ (codes "randomizationUnit", text (codes "nimbus_id")) ∷ (codes "start", whole (pos 0)) ∷ (codes "total", whole (pos 10000)) ∷ []))

-- the record of this number that has these draws
unfoldable pub drawn_record : Draws → ℕ → Json
drawn_record d i = object (members_of (
    (codes "appName", text (codes "fenix")) ∷
    (codes "branches", branches_json d.feature) ∷
    (codes "bucketConfig", bucket_json d.feature d.count) ∷
    (codes "channel", text (codes "release")) ∷
    (codes "isEnrollmentPaused", truth (d.pause == 0)) ∷
    (codes "isRollout", truth (d.kind == 0)) ∷
    (codes "schemaVersion", text (codes "1.12.0")) ∷
    (codes "slug", text (slug i)) ∷
    (codes "targeting", text (targeting d.version)) ∷
    []))

abbrev pub record_json : ℕ → ℕ → Json
record_json start i = drawn_record (draws start i) i
