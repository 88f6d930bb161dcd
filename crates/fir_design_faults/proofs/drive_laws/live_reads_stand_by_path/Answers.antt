use Rattle.fir_design_faults.proofs.WholeReads.{whole_reads}
use Rattle.fir_design_faults.proofs.drive_laws.live_reads_stand_by_path.Goals as goal

pub returns : goal.returns
returns c = whole_reads
