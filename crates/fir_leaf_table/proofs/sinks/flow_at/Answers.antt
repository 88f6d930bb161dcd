use Rattle.std.proofs.Common.{sym, ap, ◌∙◌}
use Rattle.std.specs.Prelude.{option_copied}
use Rattle.fir_leaf_table.proofs.DrivenWalks.{flow_read, none_read}
use Rattle.fir_leaf_table.proofs.sinks.flow_at.Goals as goal

pub returns-in-Some : goal.returns-in-Some
returns-in-Some c = λ modules whole d of at.
    c.of.ensures
    ∙ flow_read c.args.names.now modules whole of c.args.position d at c.in-Some.declaration.now
    (sym (ap option_copied c.in-Some.is) ∙ c.at.ensures)

pub returns-in-None : goal.returns-in-None
returns-in-None c = λ modules whole d of at.
    absurd (none_read c.args.names.now modules whole of c.args.position d at (sym (ap option_copied c.in-None.is) ∙ c.at.ensures))
