-- The manifest that is made of what files define is the one that they are joined into.
use Rattle.std.proofs.Common.{◌≡◌, ℕ, Bool, List, map, Option, Result, Ok, sym, ap, ◌∙◌, subst}
use Rattle.fml_types.specs.declared.manifest.DefaultEntry.{DefaultEntry}
use Rattle.fml_types.specs.declared.manifest.Manifest.{Manifest}
use Rattle.fml_imports.specs.Channels.{is_among}
use Rattle.fml_imports.specs.Imports.{first_unknown_import}
use Rattle.fml_imports.specs.Joining.{root_channels, manifest_with, unknown_override, checked, made_of, joined}
use Rattle.fml_imports.specs.Outcome.{◌>>=◌, Gives}
use Rattle.fml_imports.specs.Overrides.{overrides_of}
use Rattle.fml_imports.specs.Tables.{Tables, tables_of, module_for}
use Rattle.fml_imports.specs.declared.fault.JoinFault.{JoinFault}
use Rattle.fml_imports.specs.declared.joining.Linked.{Linked}

pub joins : (files : List Linked) (asked channel : List ℕ) (t : Tables) (overrides : List (List ℕ × List DefaultEntry)) (m : Manifest) (known : Bool) (import override : Option (List ℕ)) (got : Result Manifest JoinFault)
    → asked ≡ channel → tables_of (map (module_for asked) files) ≡ Ok t → overrides ≡ overrides_of asked files → m ≡ manifest_with t overrides asked → known ≡ is_among asked (root_channels files) → import ≡ first_unknown_import files
    → override ≡ unknown_override overrides t → Gives got (checked m known import override) → Gives got (joined files channel)
unfolding joined
joins files asked channel t overrides m known import override got same tables over made has imports overridden gives =
    let first : checked m known import override ≡ checked (manifest_with t overrides asked) (is_among asked (root_channels files)) (first_unknown_import files) (unknown_override overrides t) =
    λ i. checked (made i) (has i) (imports i) (overridden i) in
    let second : made_of t overrides files asked ≡ made_of t (overrides_of asked files) files asked = ap (λ (os : List (List ℕ × List DefaultEntry)). made_of t os files asked) over in
    let third : joined files asked ≡ made_of t (overrides_of asked files) files asked = ap (λ r. r >>= λ u. made_of u (overrides_of asked files) files asked) tables in
    subst (Gives got) (first ∙ second ∙ sym third ∙ ap (joined files) same) gives
