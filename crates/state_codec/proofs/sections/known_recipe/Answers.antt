-- What is found among valid recipes is valid.
use Rattle.state_codec.proofs.Known.{known_valid}
use Rattle.state_codec.proofs.sections.known_recipe.Goals as goal

pub has_record-requires : goal.has_record-requires
has_record-requires c = known_valid c.in-Ok.slug.now c.args.known.now c.in-Some.recipe.now c.requires c.in-Some.ensures
