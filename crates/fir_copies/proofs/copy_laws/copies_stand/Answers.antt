use Rattle.fir_copies.proofs.StandingCopies.{all_stand}
use Rattle.fir_copies.proofs.copy_laws.copies_stand.Goals as goal

pub returns : goal.returns
returns c = all_stand
