use Rattle.ver_build.proofs.Rowed.{named_for_rows}
use Rattle.ver_build.proofs.laws.names_are_for_rows.Goals as goal

pub returns : goal.returns
returns c net t whole table = named_for_rows net t whole table
