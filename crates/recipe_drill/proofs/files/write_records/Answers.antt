-- One record more, and all of them between their brackets.
use Rattle.std.proofs.Common.{◌≡◌, ◌<◌, ◌≤◌, ◌++◌, length, get_or, refl, ap, ◌∙◌, arith}
use Rattle.std.specs.List.{range_with_len}
use Rattle.std.proofs.lemmas.List.FromFn.{length-range_with_len, get_or-range_with_len}
use Rattle.std.proofs.lemmas.Result.{on_ok_weaker}
use Rattle.json_tree.specs.Tokens.{tokens_of}
use Rattle.json_tree.proofs.Tokens.{item_written, items_written}
use Rattle.recipe_drill.specs.Draws.{state_after}
use Rattle.recipe_drill.specs.Records.{drawn_record, record_json}
use Rattle.recipe_drill.proofs.files.write_records.Goals as goal

pub loop-index-init : goal.loop-index-init
unfolding state_after
loop-index-init c = record { state = refl; before = refl; tokens = refl }

pub loop-index-preserved : goal.loop-index-preserved
loop-index-preserved c = record {
  state = c.draws_of-draws.ensures.state;
  before = c.in_ok-write_record.ensures.before ∙ c.loop-index.invariant.before;
  tokens =
      let start = c.args.start in
      let i = c.loop-index.index in
      let numbers = range_with_len 0 c.args.count in
      let within : i < length numbers = omega (arith, c.loop-index-test.true, length-range_with_len 0 c.args.count) in
      let number : i ≡ get_or numbers i i = omega (arith, get_or-range_with_len 0 c.args.count i i c.loop-index-test.true) in
      let more = c.in_ok-write_record.ensures.tokens ∙ ap (λ d. c.loop-index.writer.tokens ++ tokens_of (drawn_record d i)) c.draws_of-draws.ensures.draws in
      item_written (record_json start) numbers i i _ _ _ within number more c.loop-index.invariant.tokens;
}

pub returns-clause-tokens : goal.returns-clause-tokens
returns-clause-tokens c =
    let numbers = range_with_len 0 c.args.count in
    let past : length numbers ≤ c.loop-index.index = omega (arith, c.loop-index-test.false, length-range_with_len 0 c.args.count) in
    on_ok_weaker c.end_array.result
    (λ closed. items_written (record_json c.args.start) numbers c.loop-index.index _ _ _ _ _ past c.in_ok-begin_array.ensures.ok c.loop-index.invariant.tokens closed refl)
    c.end_array.ensures.ok
