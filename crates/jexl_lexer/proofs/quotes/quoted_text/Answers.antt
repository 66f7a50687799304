use Rattle.std.proofs.Common.{◌≡◌, ℕ, List, ◌++◌, false, encode_utf8, subst, sym, rules}
use Rattle.std.specs.Prelude.{string_bytes, option_map}
use Rattle.jexl_lexer.specs.Scanning.{inside, with_bytes}
use Rattle.jexl_lexer.proofs.Quoting.{inside_after_plain, gather}
use Rattle.jexl_lexer.proofs.quotes.quoted_text.Goals as goal

pub loop-found-init : goal.loop-found-init
loop-found-init c =
    let first = inside_after_plain c.args.quote c.args.text.now c.split_plain.result.0.now c.split_plain.result.1.now c.split_plain.ensures.cut in
    let bytes : string_bytes c.push_str.new.self ≡ c.split_plain.result.0.now = search rules in
    record {
      text = search rules;
      same = subst (λ (w : List ℕ). inside c.args.quote false c.args.text.now ≡ option_map (with_bytes w) (inside c.args.quote false c.split_plain.result.1.now)) (sym bytes) first;
    }

pub loop-found-preserved : goal.loop-found-preserved
loop-found-preserved c =
    let all = inside c.args.quote false c.args.text.now in
    let here = inside c.args.quote false c.loop-found.rest.now in
    let after = inside c.args.quote false c.in-Some.after.now in
    let next = inside c.args.quote false c.split_plain-in-Some-found.result.1.now in
    let plain = c.split_plain-in-Some-found.result.0.now in
    let one : here ≡ option_map (with_bytes (encode_utf8 c.in-Some-found.c)) after = search rules in
    let run = inside_after_plain c.args.quote c.in-Some.after.now plain c.split_plain-in-Some-found.result.1.now c.split_plain-in-Some-found.ensures.cut in
    let grown = gather all after next (string_bytes c.loop-found.inner ++ encode_utf8 c.in-Some-found.c) plain (gather all here after (string_bytes c.loop-found.inner) (encode_utf8 c.in-Some-found.c) c.loop-found.invariant.same one) run in
    let bytes : string_bytes c.push_str-in-Some-found.new.self ≡ (string_bytes c.loop-found.inner ++ encode_utf8 c.in-Some-found.c) ++ plain = search rules in
    record {
      text = search rules;
      same = subst (λ (w : List ℕ). all ≡ option_map (with_bytes w) next) (sym bytes) grown;
    }
