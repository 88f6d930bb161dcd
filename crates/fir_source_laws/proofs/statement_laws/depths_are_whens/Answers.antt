use Rattle.fir_source_laws.proofs.DeclaredDepths.{depths_are_whens}
use Rattle.fir_source_laws.proofs.statement_laws.depths_are_whens.Goals as goal

pub returns : goal.returns
returns c = depths_are_whens
