use Rattle.fir_design.proofs.SoundCircuits.{has_sound_designs}
use Rattle.fir_design.proofs.design_laws.has_sound_designs.Goals as goal

pub returns : goal.returns
returns c = has_sound_designs
