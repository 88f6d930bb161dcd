use Rattle.fir_names.proofs.GrownTables.{tabulates_noted}
use Rattle.fir_names.proofs.names.Names.with_noted.Goals as goal

pub returns : goal.returns
returns c = λ modules ds t. tabulates_noted modules c.args.self ds c.args.noted t
