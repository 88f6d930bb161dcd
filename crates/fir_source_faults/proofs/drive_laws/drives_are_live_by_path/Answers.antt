use Rattle.fir_source_faults.proofs.ModuleDrives.{modules_drive}
use Rattle.fir_source_faults.proofs.ModuleReads.{modules_read}
use Rattle.fir_source_faults.proofs.drive_laws.drives_are_live_by_path.Goals as goal

pub returns : goal.returns
returns c = modules_drive modules_read
