-- Which leaves of a module statements may drive, by the flow of each (FIRRTL spec, "Flow", "Connects").
use Rattle.std.specs.Prelude.{List, map, flat_map, not, Bool}
use Rattle.fir_meaning.specs.Flows.{Flow, flow_under, is_source}
use Rattle.fir_meaning.specs.TypeLeaves.{TypeLeaf}
use Rattle.fir_meaning.specs.TypedScopes.{Known, TypedScope}
use Rattle.fir_meaning.specs.FoundTypes.{leaves_of_data}

abbrev pub may_be_driven : Flow → Bool → Bool
may_be_driven flow flip = not (is_source (flow_under flip flow))

abbrev pub driven_of : Known → List Bool
driven_of k = map (λ (l : TypeLeaf). may_be_driven k.flow l.flip) (leaves_of_data k.data_type)

-- of all that is declared
abbrev pub driven_in : TypedScope → List Bool
driven_in scope = flat_map driven_of scope
