use Rattle.fir_design_faults.proofs.MemoryFaults.{memory_faults_same}
use Rattle.fir_design_faults.proofs.clock_laws.memory_clocks_stand_by_path.Goals as goal

pub returns : goal.returns
returns c circuit s at f names types i =
    memory_faults_same circuit s names types i (c.terms_read_as_expressions.ensures circuit s names types i)
    (c.views_have_roles.ensures circuit s names types i).0 at f
