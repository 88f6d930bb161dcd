-- What the code has found to meet in each module of a circuit.
use Rattle.std.specs.Prelude.{List, [], ◌∷◌, Vec}
use Rattle.std.specs.declared.alloc.Global.{Global}
use Rattle.fir_ast.specs.Types.{DataType}
use Rattle.fir_meaning.specs.Visibility.{at_head, behind_ports}
use Rattle.fir_infer_resets.specs.declared.meet.Meet.{Meet}
use Rattle.fir_meaning.specs.ResetJoins.{ResetModule}
use Rattle.fir_infer_resets.specs.working.Meetings.{Meeting, meetings_in_block}
use Rattle.fir_infer_resets.specs.working.Meets.{AreMeets}

-- what meets in a module
abbrev pub module_meetings : ResetModule → List Meeting
module_meetings m = meetings_in_block m (behind_ports at_head m.inside.ports) m.inside.body

-- module by module
abbrev pub AreMeetsByModule : List DataType → List (Vec Meet Global) → List ResetModule → Type 0
AreMeetsByModule ts [] [] = Unit {0}
AreMeetsByModule ts (v ∷ vs) (m ∷ ms) = AreMeets ts v.items (module_meetings m) × AreMeetsByModule ts vs ms
AreMeetsByModule ts _ _ = ⊥
