-- When tables and an order are those of a circuit; and what comes of its names.
use Rattle.std.specs.Prelude.{ℕ, List, Result, Ok, Err, Vec}
use Rattle.std.specs.declared.alloc.Global.{Global}
use Rattle.fir_base.specs.declared.refused.Refused.{Refused}
use Rattle.fir_base.specs.declared.refused.Refused.TheVariants.{Fault, Memory}
use Rattle.fir_ast.specs.declared.fault.FirFault.{FirFault}
use Rattle.fir_ast.specs.Circuits.{CircuitTree}
use Rattle.fir_ast.specs.working.CodeFaults.{fault_of}
use Rattle.fir_pass.specs.Law.{IsFirst}
use Rattle.fir_meaning.specs.Mentions.{module_names}
use Rattle.fir_meaning.specs.working.NameGroups.{HasNames}
use Rattle.fir_meaning.specs.SourceMeaning.{circuit_meaning}
use Rattle.fir_names.specs.working.ModuleOrder.{IsModuleOrder}
use Rattle.fir_names.specs.declared.names.Names.{Names}
use Rattle.fir_names.specs.working.Judged.{TabulatesEach}

pub record IsNamed (c : CircuitTree) (tables : List Names) (order : List ℕ) : Type 0 where
  pub clear : HasNames c
  pub tabulated : TabulatesEach (module_names c) tables c.modules
  pub ordered : IsModuleOrder c order

abbrev pub Judges : CircuitTree → Result (Vec Names Global × Vec ℕ Global) (Refused FirFault) → Type 0
Judges c (Ok (tables, order)) = IsNamed c tables.items order.items
Judges c (Err (Fault f)) = IsFirst 1 3 (circuit_meaning c) (fault_of f)
Judges c (Err Memory) = Unit {0}
