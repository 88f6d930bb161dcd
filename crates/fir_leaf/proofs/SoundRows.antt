-- The designs of the rows are sound, and named, so the laws hold of them; and that of the chain is the design of its module.
use Rattle.std.proofs.Common.{refl}
use Rattle.fir_bits.specs.Literals.{least_width}
use Rattle.fir_meaning.specs.working.Designs.{IsDesignOf, elaborated}
use Rattle.fir_leaf.specs.working.SoundDesigns.{IsSound}
use Rattle.fir_leaf.specs.working.NamedDesigns.{IsNamed}
use Rattle.fir_leaf.proofs.TextTrees as text
use Rattle.fir_leaf.proofs.RowTrees.{design_of, main_module, modules_of}
use Rattle.fir_leaf.proofs.SoundTests.{sound_by_test}
use Rattle.fir_leaf.proofs.NamedTests.{named_by_test}

chain_sound : IsSound (design_of text.chain)
unfolding elaborated
chain_sound = sound_by_test (design_of text.chain) refl

in_when_sound : IsSound (design_of text.instance_in_a_when)
unfolding elaborated
in_when_sound = sound_by_test (design_of text.instance_in_a_when) refl

state_sound : IsSound (design_of text.state_order)
unfolding elaborated least_width
state_sound = sound_by_test (design_of text.state_order) refl

chain_named : IsNamed (design_of text.chain)
unfolding elaborated
chain_named = named_by_test (design_of text.chain) refl

in_when_named : IsNamed (design_of text.instance_in_a_when)
unfolding elaborated
in_when_named = named_by_test (design_of text.instance_in_a_when) refl

state_named : IsNamed (design_of text.state_order)
unfolding elaborated least_width
state_named = named_by_test (design_of text.state_order) refl

chain_is_of : IsDesignOf (modules_of text.chain) (main_module text.chain) (design_of text.chain)
unfolding elaborated
chain_is_of = (refl, refl, ((refl, refl, (tt, (tt, tt))), ((refl, refl, (tt, (tt, tt))), (tt, (tt, (tt, (tt, (tt, (tt, tt)))))))))
