use Rattle.fir_bits.proofs.Typing.{typed-ok}
use Rattle.fir_bits.proofs.values.apply.Goals as goal

pub apply_at-requires : goal.apply_at-requires
apply_at-requires c =
    rw (c.entry-a.ensures, c.entry-b.ensures, c.entry.ensures, c.entry-2.ensures) (typed-ok c.args.op c.args.args.now c.args.consts.now c.requires)
