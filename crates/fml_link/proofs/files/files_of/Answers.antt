use Rattle.std.proofs.Common.{◌≡◌, ◌≤◌, ℕ, List, [], ◌∷◌, ◌++◌, length, Ok, rules, refl, sym, ap, ◌∙◌, subst, arith}
use Rattle.std.specs.Prelude.{slice_get}
use Rattle.std.proofs.lemmas.Grind.{common_steps}
use Rattle.fml_imports.proofs.Alls.{all_nil, all_push}
use Rattle.fml_imports.specs.Sound.{IsRead, AreRead}
use Rattle.fml_imports.specs.declared.joining.Linked.{Linked}
use Rattle.fml_link.specs.Files.{named_by, with_named, files_of}
use Rattle.fml_link.specs.Outcome.{Fails}
use Rattle.fml_link.specs.declared.fault.LinkFault.{LinkFault}
use Rattle.fml_link.specs.Laws.{are_distinct}
use Rattle.fml_link.proofs.Asking.{root_stays_first, asked_longer, asked_all, asked_one_more}
use Rattle.fml_link.proofs.FileLists.{named_distinct}
use Rattle.fml_link.proofs.Listing.{named_within, list_first, list_turn, read_turn, listed_full, listed_none}
use Rattle.fml_link.proofs.files.files_of.Goals as goal

pub loop-place-init : goal.loop-place-init
loop-place-init g c = record {
  met = c.in_ok-list.ensures.met;
  few = subst (λ (l : List (List ℕ × List ℕ)). length l ≤ 64) (sym c.in_ok-list.ensures.list) (omega arith);
  first = ap (λ (l : List (List ℕ × List ℕ)). slice_get l 0) c.in_ok-list.ensures.list;
  distinct = ap are_distinct c.in_ok-list.ensures.list;
  listed = λ tells. list_first (g.F.Shelf.file c.args.shelf.now) c.args.root.now c.args.channel.now ∙ ap (λ l. Ok l) (sym c.in_ok-list.ensures.list);
  read = λ tells. ap (λ l. Ok l) (sym c.new-files.ensures);
  modules = subst AreRead (sym c.new-files.ensures) (all_nil (λ (f : Linked). IsRead f.module));
  files = λ tells other. refl;
  asked = refl;
  quiet = refl;
}

pub returns-in-None-clause-reads : goal.returns-in-None-clause-reads
returns-in-None-clause-reads g c = λ tells.
    listed_none (g.F.Shelf.file c.args.shelf.now) c.args.root.now c.args.channel.now c.loop-place.place c.loop-place.list.list c.loop-place.files (omega (arith, c.loop-place-test.true))
    (c.loop-place.invariant.listed tells) (c.loop-place.invariant.read tells) c.in-None.ensures

pub loop-place-preserved : goal.loop-place-preserved
loop-place-preserved g c =
    let file = g.F.Shelf.file c.args.shelf.now in
    let now = g.F.Shelf.file c.loop-place.shelf in
    let list = c.loop-place.list.list in
    let longer = c.add_named.new.self.list in
    let files = c.loop-place.files in
    let f : List ℕ × List ℕ = c.in-Some.listed.now in
    let one : Linked = c.in_ok-file-in-Some.file in
    let pushed : c.push.new.self ≡ files ++ one ∷ [] = c.in_ok-push-in-Some.ensures.ok in
    let listed : (one.name, one.channel) ≡ f = c.in_ok-file-in-Some.ensures.listed in
    let more : with_named list (named_by f.1 one.module) ≡ Ok longer = ap (λ (n : List ℕ × List ℕ). with_named list (named_by n.1 one.module)) (sym listed) ∙ c.in_ok-add_named-in-Some.ensures.leaves in
    record {
      met = c.in_ok-add_named-in-Some.ensures.met;
      few = named_within (named_by f.1 one.module) list longer c.loop-place.invariant.few more;
      first = root_stays_first (named_by f.1 one.module) list longer (c.args.root.now, c.args.channel.now) more c.loop-place.invariant.first;
      distinct = named_distinct (named_by f.1 one.module) list longer c.loop-place.invariant.distinct more;
      listed = λ tells. list_turn file c.args.root.now c.args.channel.now now c.loop-place.place list longer f one.module (c.loop-place.invariant.listed tells) c.in-Some.ensures (c.loop-place.invariant.files tells f.0) (c.in_ok-file-in-Some.ensures.reads tells) more;
      read = λ tells. read_turn file now c.loop-place.place list longer (named_by f.1 one.module) f files one c.in-Some.ensures (c.loop-place.invariant.files tells f.0) (c.in_ok-file-in-Some.ensures.reads tells) listed more (c.loop-place.invariant.read tells) ∙ ap (λ l. Ok l) (sym pushed);
      modules = subst AreRead (sym pushed) (all_push (λ (f : Linked). IsRead f.module) files one c.loop-place.invariant.modules c.in_ok-file-in-Some.ensures.read);
      files = λ tells other. c.in_ok-file-in-Some.ensures.files tells other ∙ c.loop-place.invariant.files tells other;
      asked = asked_longer g.F.Shelf.asks c.args.shelf.now c.loop-place.shelf c.linked_file.new.shelf (named_by f.1 one.module) list longer c.loop-place.place f c.in-Some.ensures more c.loop-place.invariant.asked c.in_ok-file-in-Some.ensures.asked;
      quiet = c.in_ok-file-in-Some.ensures.quiet (λ is. absurd cc) ∙ c.loop-place.invariant.quiet;
    }

pub returns-in-None-clause-asked : goal.returns-in-None-clause-asked
returns-in-None-clause-asked g c =
    let so_far = c.loop-place.invariant in
    asked_all g.F.Shelf c.args.root.now c.args.channel.now c.args.shelf.now c.loop-place.shelf c.loop-place.list.list c.loop-place.place so_far.first so_far.distinct so_far.few so_far.listed so_far.asked

pub returns-clause-asked : goal.returns-clause-asked
returns-clause-asked g c =
    let so_far = c.loop-place.invariant in
    asked_all g.F.Shelf c.args.root.now c.args.channel.now c.args.shelf.now c.loop-place.shelf c.loop-place.list.list c.loop-place.place so_far.first so_far.distinct so_far.few so_far.listed so_far.asked

pub returns-in_err-file-in-Some-clause-asked : goal.returns-in_err-file-in-Some-clause-asked
returns-in_err-file-in-Some-clause-asked g c =
    asked_one_more g.F.Shelf c.args.root.now c.args.channel.now c.args.shelf.now c.loop-place.shelf c.linked_file.new.shelf c.loop-place.list.list c.loop-place.place c.in-Some.listed.now
    c.loop-place.invariant.first c.loop-place.invariant.distinct c.loop-place.invariant.few c.loop-place.invariant.listed c.in-Some.ensures c.loop-place.invariant.asked c.in_err-file-in-Some.ensures.asked

pub returns-in_err-add_named-in-Some-clause-asked : goal.returns-in_err-add_named-in-Some-clause-asked
returns-in_err-add_named-in-Some-clause-asked g c =
    asked_one_more g.F.Shelf c.args.root.now c.args.channel.now c.args.shelf.now c.loop-place.shelf c.linked_file.new.shelf c.loop-place.list.list c.loop-place.place c.in-Some.listed.now
    c.loop-place.invariant.first c.loop-place.invariant.distinct c.loop-place.invariant.few c.loop-place.invariant.listed c.in-Some.ensures c.loop-place.invariant.asked c.in_ok-file-in-Some.ensures.asked

pub returns-in_err-push-in-Some-clause-asked : goal.returns-in_err-push-in-Some-clause-asked
returns-in_err-push-in-Some-clause-asked g c =
    asked_one_more g.F.Shelf c.args.root.now c.args.channel.now c.args.shelf.now c.loop-place.shelf c.linked_file.new.shelf c.loop-place.list.list c.loop-place.place c.in-Some.listed.now
    c.loop-place.invariant.first c.loop-place.invariant.distinct c.loop-place.invariant.few c.loop-place.invariant.listed c.in-Some.ensures c.loop-place.invariant.asked c.in_ok-file-in-Some.ensures.asked

pub returns-in_err-add_named-in-Some-clause-reads : goal.returns-in_err-add_named-in-Some-clause-reads
returns-in_err-add_named-in-Some-clause-reads g c = λ tells.
    let file = g.F.Shelf.file c.args.shelf.now in
    let now = g.F.Shelf.file c.loop-place.shelf in
    let f : List ℕ × List ℕ = c.in-Some.listed.now in
    let one : Linked = c.in_ok-file-in-Some.file in
    let fault : LinkFault = c.in_err-add_named-in-Some.field-0.0 in
    let fails : Fails fault (files_of file c.args.root.now c.args.channel.now) = listed_full file c.args.root.now c.args.channel.now fault now c.loop-place.place c.loop-place.list.list f one c.loop-place-test.true
    (c.loop-place.invariant.listed tells) c.in-Some.ensures (c.loop-place.invariant.files tells f.0) (c.in_ok-file-in-Some.ensures.reads tells) c.in_ok-file-in-Some.ensures.listed c.in_err-add_named-in-Some.ensures.leaves in
    first_of (search rules, grind (arith, common_steps))
