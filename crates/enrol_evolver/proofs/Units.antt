-- The value of the unit that is sampled.
use Rattle.std.proofs.Common.{◌≡◌, ℕ, true, false, List, Some, ap}
use Rattle.std.specs.Prelude.{bytes_eq, if◌then◌else◌}
use Rattle.app_context.specs.Named.{text_with}
use Rattle.app_context.specs.declared.context.Context.{Context}
use Rattle.enrol_evolver.specs.Verdicts.{client_unit, unit_value}

pub by_id : (context : Context) (id unit : List ℕ) → bytes_eq unit client_unit ≡ true → unit_value context id unit ≡ Some id
by_id context id unit e = ap (λ b. if b then Some id else text_with unit context.units) e

pub by_name : (context : Context) (id unit : List ℕ) → bytes_eq unit client_unit ≡ false → unit_value context id unit ≡ text_with unit context.units
by_name context id unit e = ap (λ b. if b then Some id else text_with unit context.units) e
