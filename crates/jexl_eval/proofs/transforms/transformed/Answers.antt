use Rattle.std.proofs.Common.{refl}
use Rattle.jexl_eval.proofs.transforms.transformed.Goals as goal

pub returns-in-Ok : goal.returns-in-Ok
returns-in-Ok g c = let h = c.in-Ok.ensures in rw (h.0, h.1) refl

pub returns-in-Err-UnknownTransform : goal.returns-in-Err-UnknownTransform
returns-in-Err-UnknownTransform g c = let h = rw c.in-Err-UnknownTransform.field-0-is at c.in-Err-UnknownTransform.ensures in rw h refl

pub returns-in-Err-BadArguments : goal.returns-in-Err-BadArguments
returns-in-Err-BadArguments g c = let h = rw c.in-Err-BadArguments.field-0-is at c.in-Err-BadArguments.ensures in rw (h.0, h.1) refl
