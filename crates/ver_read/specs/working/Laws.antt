-- Laws about the definitions.
use Rattle.std.specs.Prelude.{◌≡◌, ℕ, List, Result, Ok, Err}
use Rattle.fir_base.specs.declared.refused.Refused.{Refused}
use Rattle.fir_base.specs.declared.refused.Refused.TheVariants.{Fault, Memory}
use Rattle.ver_ast.specs.declared.place.VPlace.{VPlace}
use Rattle.ver_ast.specs.declared.tree.Verilog.{Verilog}
use Rattle.ver_ast.specs.Spells.{HasNames}
use Rattle.ver_ast.specs.Valid.{Valid}
use Rattle.ver_ast.specs.working.Laws.{with_places}
use Rattle.ver_emit.specs.Layout.{layout}
use Rattle.ver_fault.specs.declared.fault.VerFault.{VerFault}
use Rattle.ver_fault.specs.Faults.{VFault}
use Rattle.ver_read.specs.Reads.{IsTextOf, IsFaultOf}
use Rattle.ver_read.specs.working.Checked.{Reads}

-- a text that is refused for a fault spells no valid tree
abbrev pub RefusedIsNotValid : Type 0
RefusedIsNotValid = (bytes : List ℕ) (f : VFault) (v : Verilog) → IsFaultOf bytes f → IsTextOf bytes v → ⊥

-- the tree, places aside
abbrev pub IsReadBack : Verilog → Result Verilog (Refused VerFault) → Type 0
IsReadBack v (Ok u) = (places : List VPlace) × (u ≡ with_places v places)
IsReadBack v (Err (Fault f)) = ⊥
IsReadBack v (Err Memory) = Unit {0}

-- what is written of a valid tree, whose names are spelled as names, is read back as that tree
abbrev pub WrittenIsReadBack : Type 0
WrittenIsReadBack = (v : Verilog) → Valid v → HasNames v → (answer : Result Verilog (Refused VerFault)) → Reads (layout v) answer → IsReadBack v answer
