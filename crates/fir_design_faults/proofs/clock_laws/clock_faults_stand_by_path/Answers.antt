use Rattle.fir_design_faults.proofs.DesignClocks.{clock_faults}
use Rattle.fir_design_faults.proofs.clock_laws.clock_faults_stand_by_path.Goals as goal

pub returns : goal.returns
returns c = clock_faults
