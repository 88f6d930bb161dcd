use Rattle.fir_copies.proofs.GivenLeaves.{all_given}
use Rattle.fir_copies.proofs.copy_laws.copies_give_all.Goals as goal

pub returns : goal.returns
returns c = all_given
