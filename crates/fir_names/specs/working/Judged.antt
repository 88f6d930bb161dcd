-- What comes of the walk over modules: their tables, or the first fault of names.
use Rattle.std.specs.Prelude.{◌≡◌, List, [], ◌∷◌, Result, Ok, Err, Some, Vec}
use Rattle.std.specs.declared.alloc.Global.{Global}
use Rattle.fir_base.specs.declared.refused.Refused.{Refused}
use Rattle.fir_base.specs.declared.refused.Refused.TheVariants.{Fault, Memory}
use Rattle.fir_ast.specs.declared.fault.FirFault.{FirFault}
use Rattle.fir_ast.specs.Statements.{PlacedName}
use Rattle.fir_ast.specs.Circuits.{ModuleTree}
use Rattle.fir_ast.specs.working.CodeFaults.{fault_of}
use Rattle.fir_pass.specs.Groups.{first_of}
use Rattle.fir_meaning.specs.Visibility.{declarations}
use Rattle.fir_meaning.specs.Mentions.{module_mentions, modules_mentions}
use Rattle.fir_meaning.specs.NameGroups.{faults_in}
use Rattle.fir_names.specs.declared.names.Names.{Names}
use Rattle.fir_names.specs.working.Tabulated.{Tabulates}

-- a table for each module
abbrev pub TabulatesEach : List PlacedName → List Names → List ModuleTree → Type 0
TabulatesEach modules [] [] = Unit {0}
TabulatesEach modules (t ∷ ts) (m ∷ ms) = Tabulates modules t (declarations m) × TabulatesEach modules ts ms
TabulatesEach modules _ _ = ⊥

abbrev pub JudgesModule : List PlacedName → ModuleTree → Result Names (Refused FirFault) → Type 0
JudgesModule modules m (Ok names) = (faults_in (module_mentions modules m) ≡ []) × Tabulates modules names (declarations m)
JudgesModule modules m (Err (Fault f)) = first_of (faults_in (module_mentions modules m)) ≡ Some (fault_of f)
JudgesModule modules m (Err Memory) = Unit {0}

abbrev pub JudgesModules : List PlacedName → List ModuleTree → Result (Vec Names Global) (Refused FirFault) → Type 0
JudgesModules modules ms (Ok tables) = (faults_in (modules_mentions modules [] ms) ≡ []) × TabulatesEach modules tables.items ms
JudgesModules modules ms (Err (Fault f)) = first_of (faults_in (modules_mentions modules [] ms)) ≡ Some (fault_of f)
JudgesModules modules ms (Err Memory) = Unit {0}
