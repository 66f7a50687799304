use Rattle.std.proofs.Common.{◌≡◌, Option, Some, sym, ap, ◌∙◌}
use Rattle.std.specs.BTreeMap.{get}
use Rattle.std.specs.Cmp.Lexicographic.{slice_cmp}
use Rattle.std.specs.Ordering.{nat_cmp}
use Rattle.std.specs.Prelude.{slice_get}
use Rattle.std.proofs.lemmas.Option.{slice_get_past}
use Rattle.fml_imports.specs.Channels.{is_among}
use Rattle.fml_imports.specs.Imports.{channels_of}
use Rattle.fml_imports.specs.declared.imports.Standing.{Standing}
use Rattle.fml_imports.proofs.Standing.{at_place, stands_absent, stands_there, stands_nowhere}
use Rattle.fml_imports.proofs.imports.has_channel.Goals as goal

pub returns-in_default : goal.returns-in_default
returns-in_default c =
    let files = c.args.files.now in
    let path = c.args.import.now.path in
    let found : Option Standing = get (slice_cmp nat_cmp) c.args.standings.now path in
    stands_absent files (channels_of path files) found c.args.import.now.channel (c.requires path) c.in_default.ensures.value

pub returns-in_default-get : goal.returns-in_default-get
returns-in_default-get c =
    let files = c.args.files.now in
    let path = c.args.import.now.path in
    let found : Option Standing = get (slice_cmp nat_cmp) c.args.standings.now path in
    stands_nowhere files (channels_of path files) found c.in-Some.standing.now (is_among c.args.import.now.channel (channels_of path files)) (c.requires path) c.in-Some.ensures.value (sym (slice_get_past files c.in-Some.standing.now.place c.in_default-get.ensures.lookup.3))

pub has-requires : goal.has-requires
has-requires c =
    let files = c.args.files.now in
    let path = c.args.import.now.path in
    let found : Option Standing = get (slice_cmp nat_cmp) c.args.standings.now path in
    let there : Some c.in-Some-get.file.now ≡ slice_get files c.in-Some.standing.now.place = sym (at_place files c.in-Some.standing.now.place c.in-Some-get.file.now c.in-Some-get.ensures.lookup.3.0 c.in-Some-get.ensures.lookup.1) in
    (stands_there files (channels_of path files) found c.in-Some.standing.now c.in-Some-get.file.now (c.requires path) c.in-Some.ensures.value there).own

pub returns : goal.returns
returns c =
    let files = c.args.files.now in
    let path = c.args.import.now.path in
    let found : Option Standing = get (slice_cmp nat_cmp) c.args.standings.now path in
    let at : Some c.in-Some-get.file.now ≡ slice_get files c.in-Some.standing.now.place = sym (at_place files c.in-Some.standing.now.place c.in-Some-get.file.now c.in-Some-get.ensures.lookup.3.0 c.in-Some-get.ensures.lookup.1) in
    let there = stands_there files (channels_of path files) found c.in-Some.standing.now c.in-Some-get.file.now (c.requires path) c.in-Some.ensures.value at in
    c.has.ensures ∙ ap (is_among c.args.import.now.channel) (sym there.same)
