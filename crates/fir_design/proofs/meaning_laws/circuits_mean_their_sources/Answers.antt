use Rattle.fir_design.proofs.MeantSources.{circuits_mean}
use Rattle.fir_design.proofs.meaning_laws.circuits_mean_their_sources.Goals as goal

pub returns : goal.returns
returns c =
    circuits_mean c.has_sound_designs.ensures c.has_one_tree.ensures c.leaf_circuits_have_the_shape_of_their_sources.ensures c.leaf_circuits_allow_what_their_sources_allow.ensures
