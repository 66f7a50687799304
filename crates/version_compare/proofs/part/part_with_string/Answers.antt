use Rattle.std.proofs.Common.{◌≡◌, rules}
use Rattle.version_compare.specs.Seen.{part_seen}
use Rattle.version_compare.specs.Versions.{part_of_pieces}
use Rattle.version_compare.proofs.Pieces.{number_before, string_part}
use Rattle.version_compare.proofs.part.part_with_string.Goals as goal

pub returns : goal.returns
returns c =
    let made : part_seen c.part_of_pieces.result ≡ part_of_pieces c.args.number_a c.before-2.result.now (number_before c.number_in_front-number_c.result.0 c.number_in_front-number_c.result.1.now) = search rules in
    string_part c.args.rest.now c.after_string-after.result.now c.before-2.result.now c.number_in_front-number_c.result.1.now c.args.number_a c.number_in_front-number_c.result.0 (part_seen c.part_of_pieces.result) made c.after_string-after.ensures c.before-2.ensures c.number_in_front-number_c.ensures.value
