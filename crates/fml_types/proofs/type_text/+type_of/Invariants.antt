use Rattle.std.proofs.Common.{◌+◌, ◌*◌}
use Rattle.fml_types.proofs.type_text.+type_of.Given as goal

abbrev pub decreases-bracketed : goal.decreases-bracketed
decreases-bracketed l = 3 * l.levels + 2

abbrev pub decreases-list_of : goal.decreases-list_of
decreases-list_of l = 3 * l.levels + 1

abbrev pub decreases-map_of : goal.decreases-map_of
decreases-map_of l = 3 * l.levels + 1

abbrev pub decreases-option_of : goal.decreases-option_of
decreases-option_of l = 3 * l.levels + 1

abbrev pub decreases-type_of : goal.decreases-type_of
decreases-type_of l = 3 * l.levels
