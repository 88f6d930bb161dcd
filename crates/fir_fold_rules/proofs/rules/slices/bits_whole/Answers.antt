use Rattle.std.proofs.Common.{refl}
use Rattle.fir_fold_rules.proofs.SliceRules.{bits_whole}
use Rattle.fir_fold_rules.proofs.rules.slices.bits_whole.Goals as goal

pub returns-then-is_whole : goal.returns-then-is_whole
returns-then-is_whole c = bits_whole c.args.ty c.args.a.now c.args.n c.args.m (c.if-is_whole.ensures refl).0 (c.if-is_whole.ensures refl).1
