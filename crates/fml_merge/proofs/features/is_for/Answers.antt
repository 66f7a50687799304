use Rattle.std.proofs.Common.{sym, ap, ◌∙◌}
use Rattle.std.specs.Prelude.{bytes_eq}
use Rattle.std.specs.List.{list_any}
use Rattle.fml_merge.specs.Features.{is_for}
use Rattle.fml_merge.proofs.features.is_for.Goals as goal

pub returns-in-Some : goal.returns-in-Some
returns-in-Some c = c.is_among.ensures ∙ ap (list_any (bytes_eq c.args.channel.now)) c.as_slice.ensures ∙ sym (ap (is_for c.args.channel.now) c.in-Some.is)
