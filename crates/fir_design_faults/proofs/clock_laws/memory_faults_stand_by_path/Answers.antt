use Rattle.fir_design_faults.proofs.DesignMemoryFaults.{memory_faults}
use Rattle.fir_design_faults.proofs.clock_laws.memory_faults_stand_by_path.Goals as goal

pub returns : goal.returns
returns c = memory_faults c.memory_clocks_stand_by_path.ensures
