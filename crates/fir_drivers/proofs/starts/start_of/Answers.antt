use Rattle.std.proofs.Common.{sym, ◌∙◌}
use Rattle.std.proofs.lemmas.Result.{IfOk-weaker}
use Rattle.fir_drivers.proofs.StartedLeaves.{other_starts, register_starts}
use Rattle.fir_drivers.proofs.starts.start_of.Goals as goal

pub returns-then-is_register-clause-stands : goal.returns-then-is_register-clause-stands
returns-then-is_register-clause-stands c =
    register_starts c.args.types.now c.args.registers.now c.args.net.now c.args.leaf c.new.result c.type_at.result
    (sym c.if-is_register.true ∙ c.is_register.ensures) c.new.ensures c.type_at.ensures

pub returns-clause-stands : goal.returns-clause-stands
returns-clause-stands c =
    IfOk-weaker c.zero_of.result _ _
    (λ r zero. other_starts c.args.types.now c.args.registers.now c.zero_of.new.net c.args.leaf r (sym c.if-is_register.false ∙ c.is_register.ensures) zero)
    c.zero_of.ensures.stands
