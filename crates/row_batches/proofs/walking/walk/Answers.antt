-- The change of the first rows comes first, and then those of the rows behind.
use Rattle.std.proofs.Common.{◌++◌, sym, ap, ◌∙◌}
use Rattle.row_batches.proofs.ItemWalks.{walked, gone, added, differs, same}
use Rattle.row_batches.proofs.walking.walk.Goals as goal

pub loop-old-preserved-in-Gone : goal.loop-old-preserved-in-Gone
loop-old-preserved-in-Gone g c =
    record {
      changes = walked _ _ _ _ _ _ _ c.loop-old.invariant.changes (gone c.in-Some.ensures.some c.in-Some-first_of.ensures.some c.in-Gone.ensures) c.in_ok-push-in-Gone.ensures.ok c.in_ok-delete_of-in-Gone.ensures;
      olds = c.in-Some.ensures.some.each;
      news = c.loop-old.invariant.news;
    }

pub loop-old-preserved-in-New : goal.loop-old-preserved-in-New
loop-old-preserved-in-New g c =
    record {
      changes = walked _ _ _ _ _ _ _ c.loop-old.invariant.changes (added c.in-Some.ensures.some c.in-Some-first_of.ensures.some c.in-New.ensures) c.in_ok-push-in-New.ensures.ok c.in_ok-put_of-in-New.ensures;
      olds = c.loop-old.invariant.olds;
      news = c.in-Some-first_of.ensures.some.each;
    }

pub loop-old-preserved-in-Differs : goal.loop-old-preserved-in-Differs
loop-old-preserved-in-Differs g c =
    record {
      changes = walked _ _ _ _ _ _ _ c.loop-old.invariant.changes (differs c.in-Some.ensures.some c.in-Some-first_of.ensures.some c.in-Differs.ensures) c.in_ok-push-in-Differs.ensures.ok c.in_ok-put_of-in-Differs.ensures;
      olds = c.in-Some.ensures.some.each;
      news = c.in-Some-first_of.ensures.some.each;
    }

pub loop-old-preserved : goal.loop-old-preserved
loop-old-preserved g c =
    record {
      changes = ap (λ cs. c.loop-old.changes ++ cs) (sym (same c.in-Some.ensures.some c.in-Some-first_of.ensures.some c.in-Same.ensures)) ∙ c.loop-old.invariant.changes;
      olds = c.in-Some.ensures.some.each;
      news = c.in-Some-first_of.ensures.some.each;
    }
