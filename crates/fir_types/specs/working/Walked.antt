-- The walk over the statements of a module: what the code has met so far, and what stands before a place.
use Rattle.std.specs.Prelude.{◌≡◌, ℕ, ◌<◌, List, [], ◌∷◌, ◌++◌, map, length, slice_get, Option, Some, Result, Ok, Err}
use Rattle.std.specs.List.{AllByRecursion}
use Rattle.fir_base.specs.Lists.{In}
use Rattle.fir_base.specs.declared.refused.Refused.{Refused}
use Rattle.fir_ast.specs.declared.fault.FirFault.{FirFault}
use Rattle.fir_ast.specs.Types.{DataType}
use Rattle.fir_ast.specs.Circuits.{ModuleTree, PortTree}
use Rattle.fir_ast.specs.Faults.{Fault}
use Rattle.fir_meaning.specs.Components.{Declaration, Declarations, instance}
use Rattle.fir_meaning.specs.Visibility.{Before, behind_ports}
use Rattle.fir_meaning.specs.ComponentTypes.{instance_bundle}
use Rattle.fir_meaning.specs.TypeGroup.{scope_at}
use Rattle.fir_names.specs.declared.names.Names.{Names}
use Rattle.fir_names.specs.working.ModuleOrder.{find_number}
use Rattle.fir_names.specs.working.Numbered.{names_of}
use Rattle.fir_names.specs.working.Tabulated.{Tabulates}
use Rattle.fir_type_table.specs.declared.kind.TypeId.{TypeId}
use Rattle.fir_type_table.specs.working.Tables.{types_of}
use Rattle.fir_types.specs.declared.found.Found.{Found}
use Rattle.fir_types.specs.declared.found.Found.TheVariants as found
use Rattle.fir_types.specs.declared.scope.Scope.{Scope}
use Rattle.fir_types.specs.working.Seen.{found_type, seen}
use Rattle.fir_types.specs.working.Judged.{IsFirstOf}

-- the table has the type under the id
abbrev pub IsHeld : List DataType → Option Found → Type 0
IsHeld ts (Some (found.Type id is_bare)) = id.number < length ts
IsHeld ts found = Unit {0}

-- and the bundle of each module under its id
abbrev pub HoldsBundles : List DataType → List TypeId → List ModuleTree → Type 0
HoldsBundles ts [] [] = Unit {0}
HoldsBundles ts (id ∷ ids) (m ∷ ms) = (slice_get ts id.number ≡ Some (instance_bundle m)) × HoldsBundles ts ids ms
HoldsBundles ts _ _ = ⊥

-- the table of names is that of all that a module declares, and each instance is of a module that is there
pub record IsOfModule (modules : List ModuleTree) (names : Names) (whole : Declarations) : Type 0 where
  pub tabulated : Tabulates (names_of modules) names whole
  pub there : (d : Declaration) (name : List ℕ) → In whole d → d.component ≡ instance name → (k : ℕ) × (find_number (names_of modules) name ≡ Some k)

abbrev pub Begins : Declarations → Declarations → Type 0
Begins ds whole = (rest : Declarations) × (whole ≡ ds ++ rest)

-- the scope has the types of what is declared before the place
pub record Walks (modules : List ModuleTree) (bundles : List TypeId) (scope : Scope) (before : Before) : Type 0 where
  pub types : map (seen (types_of scope.table)) scope.declared.items ≡ map (λ k. k.data_type) (scope_at modules before)
  pub held : AllByRecursion (IsHeld (types_of scope.table)) scope.declared.items
  pub holds : HoldsBundles (types_of scope.table) bundles modules

-- no fault of the list is shown; or the fault is its first
abbrev pub Judges : {A : Type 0} → List Fault → Result A (Refused FirFault) → Type 0
Judges faults (Ok x) = faults ≡ []
Judges faults (Err e) = IsFirstOf faults e

-- the table has only grown
pub record GoesOnWith (ts : List DataType) (scope : Scope) : Type 0 where
  pub more : List DataType
  pub grown : types_of scope.table ≡ ts ++ more

-- and then the scope has what stands behind, in a table that has only grown
abbrev pub Passes : {A : Type 0} → List ModuleTree → List TypeId → Scope → Scope → List Fault → Before → Result A (Refused FirFault) → Type 0
Passes modules bundles old new faults after (Ok x) = (faults ≡ []) × Walks modules bundles new after × GoesOnWith (types_of old.table) new
Passes modules bundles old new faults after (Err e) = IsFirstOf faults e

-- ports are passed
pub record PassesPorts (old new : Scope) (ports : List PortTree) : Type 0 where
  pub walked : (modules : List ModuleTree) (bundles : List TypeId) (before : Before) → Walks modules bundles old before → Walks modules bundles new (behind_ports before ports)
  pub goes_on : GoesOnWith (types_of old.table) new

-- a type is put into the table, and found there
pub record Written (old new : Scope) (f : Found) (t : DataType) : Type 0 where
  pub declared : new.declared.items ≡ old.declared.items
  pub more : List DataType
  pub grown : types_of new.table ≡ types_of old.table ++ more
  pub held : IsHeld (types_of new.table) (Some f)
  pub is : found_type (types_of new.table) f ≡ t

-- and declared
pub record Declared (old new : Scope) (t : DataType) : Type 0 where
  pub found : Found
  pub declared : new.declared.items ≡ old.declared.items ++ Some found ∷ []
  pub more : List DataType
  pub grown : types_of new.table ≡ types_of old.table ++ more
  pub held : IsHeld (types_of new.table) (Some found)
  pub is : found_type (types_of new.table) found ≡ t

-- something is declared of that type, if of any, and the table stays
pub record DeclaredFound (old new : Scope) (t : Option DataType) : Type 0 where
  pub table : new.table ≡ old.table
  pub found : Option Found
  pub declared : new.declared.items ≡ old.declared.items ++ found ∷ []
  pub held : IsHeld (types_of old.table) found
  pub is : seen (types_of old.table) found ≡ t
