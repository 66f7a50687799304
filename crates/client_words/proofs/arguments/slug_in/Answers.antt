-- A word that is no slug fails to be one at a place.
use Rattle.std.proofs.Common.{inl, sym, ap, Err}
use Rattle.client_words.specs.Commands.{unless_bad, slug_in}
use Rattle.client_words.proofs.arguments.slug_in.Goals as goal

pub returns-in-Err-BadSlug : goal.returns-in-Err-BadSlug
unfolding slug_in
returns-in-Err-BadSlug c = inl (sym (ap (unless_bad c.args.word.now) ((c.in-Err-BadSlug.ensures.bad c.in-Err-BadSlug.place).0 (ap Err c.in-Err-BadSlug.field-0-is))))
