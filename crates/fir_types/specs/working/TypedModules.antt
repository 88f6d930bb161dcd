-- The modules of a circuit, and the types that the code has found of them.
use Rattle.std.specs.Prelude.{◌≡◌, ℕ, List, [], ◌∷◌, map, Option, None, Result, Ok, Err, Vec, slice_get, unwrap_or}
use Rattle.std.specs.List.{AllByRecursion}
use Rattle.std.specs.declared.alloc.Global.{Global}
use Rattle.fir_base.specs.declared.refused.Refused.{Refused}
use Rattle.fir_ast.specs.declared.fault.FirFault.{FirFault}
use Rattle.fir_ast.specs.Types.{DataType}
use Rattle.fir_ast.specs.Circuits.{ModuleTree, CircuitTree}
use Rattle.fir_meaning.specs.Visibility.{declarations}
use Rattle.fir_meaning.specs.ComponentTypes.{typed_scope}
use Rattle.fir_meaning.specs.TypeGroup.{module_type_faults, type_faults}
use Rattle.fir_type_table.specs.declared.kind.TypeId.{TypeId}
use Rattle.fir_type_table.specs.working.Tables.{types_of}
use Rattle.fir_type_table.specs.working.Saturated.{saturated}
use Rattle.fir_types.specs.declared.found.Found.{Found}
use Rattle.fir_types.specs.declared.findings.Findings.{Findings}
use Rattle.fir_types.specs.declared.note.Note.{Note}
use Rattle.fir_types.specs.declared.scope.Scope.{Scope}
use Rattle.fir_types.specs.working.Notes.{Note as Meant}
use Rattle.fir_types.specs.working.LeafNumbers.{first_leaves}
use Rattle.fir_types.specs.working.ModuleNotes.{circuit_notes, module_notes}
use Rattle.fir_types.specs.working.Noted.{Noted, note_seen, saturated_note}
use Rattle.fir_types.specs.working.Seen.{seen}
use Rattle.fir_types.specs.working.Judged.{IsFirstOf}
use Rattle.fir_types.specs.working.Walked.{GoesOnWith, HoldsBundles, IsHeld}

-- of each declaration of a module its type, in the order of the text
pub record HasModule (ts : List DataType) (modules : List ModuleTree) (m : ModuleTree) (found : List (Option Found)) : Type 0 where
  pub types : map (seen ts) found ≡ map (λ k. k.data_type) (typed_scope modules (declarations m))
  pub held : AllByRecursion (IsHeld ts) found

abbrev pub JudgesModule : List ModuleTree → List TypeId → List DataType → ModuleTree → Result (Scope × Vec Note Global) (Refused FirFault) → Type 0
JudgesModule modules bundles ts m (Ok (s, notes)) =
    (module_type_faults modules m ≡ []) × HasModule (types_of s.table) modules m s.declared.items × HoldsBundles (types_of s.table) bundles modules
    × GoesOnWith ts s × Noted (types_of s.table) [] notes.items (module_notes modules m)
JudgesModule modules bundles ts m (Err e) = IsFirstOf (module_type_faults modules m) e

-- for each module
abbrev pub HasModules : List DataType → List ModuleTree → List ModuleTree → List (Vec (Option Found) Global) → Type 0
HasModules ts modules [] [] = Unit {0}
HasModules ts modules (m ∷ ms) (v ∷ vs) = HasModule ts modules m v.items × HasModules ts modules ms vs
HasModules ts modules _ _ = ⊥

-- and the notes of each
abbrev pub HasNotes : List DataType → List ModuleTree → List ModuleTree → List (Vec Note Global) → Type 0
HasNotes ts modules [] [] = Unit {0}
HasNotes ts modules (m ∷ ms) (v ∷ vs) = Noted ts [] v.items (module_notes modules m) × HasNotes ts modules ms vs
HasNotes ts modules _ _ = ⊥

-- the types of all that each module declares
abbrev pub declared_types : CircuitTree → List (List (Option DataType))
declared_types c = map (λ m. map (λ k. k.data_type) (typed_scope c.modules (declarations m))) c.modules

abbrev pub found_types : List DataType → List (Vec (Option Found) Global) → List (List (Option DataType))
found_types ts = map (λ v. map (seen ts) v.items)

abbrev pub found_notes : List DataType → List (Vec Note Global) → List (List Meant)
found_notes ts = map (λ v. map (note_seen ts) v.items)

-- no fault of types stands in the circuit, and the code has the types of all that it declares and of all its expressions, and the numbers of leaves
pub record IsTyped (c : CircuitTree) (found : Findings) : Type 0 where
  pub clear : type_faults c ≡ []
  pub types : found_types (types_of found.table) found.declared.items ≡ declared_types c
  pub notes : found_notes (types_of found.table) found.notes.items ≡ map (map saturated_note) (circuit_notes c)
  pub leaves : map (λ v. v.items) found.first_leaves.items ≡ map (map saturated) (first_leaves c)

abbrev pub JudgesTypes : CircuitTree → Result Findings (Refused FirFault) → Type 0
JudgesTypes c (Ok found) = IsTyped c found
JudgesTypes c (Err e) = IsFirstOf (type_faults c) e

abbrev pub at_position : List (Option DataType) → ℕ → Option DataType
at_position ts position = unwrap_or (slice_get ts position) None

-- the type of a declaration of a module, by their numbers
abbrev pub type_declared : CircuitTree → ℕ → ℕ → Option DataType
type_declared c number position = at_position (unwrap_or (slice_get (declared_types c) number) []) position

-- and the number of its first leaf
abbrev pub leaf_declared : CircuitTree → ℕ → ℕ → Option ℕ
leaf_declared c number position = slice_get (unwrap_or (slice_get (first_leaves c) number) []) position
