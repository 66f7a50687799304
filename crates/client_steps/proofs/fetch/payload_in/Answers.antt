-- What is kept is in order, valid and not too much.
use Rattle.json_tree.specs.Tree.{json_of}
use Rattle.client_steps.proofs.Payloads.{payload_length}
use Rattle.client_steps.proofs.fetch.payload_in.Goals as goal

pub returns-in-Ok-clause-kept : goal.returns-in-Ok-clause-kept
returns-in-Ok-clause-kept c = record {
  in_order = c.as_slice.ensures.in_order;
  limit = payload_length (json_of c.args.tree.now) c.in-Ok.payload c.in-Ok.ensures.reads;
  valid = c.in-Ok.ensures.valid;
}
