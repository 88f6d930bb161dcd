-- What a memory stores has a type for each leaf of its data, as the leaves of a port of data have.
use Rattle.std.proofs.Common.{◌≡◌, List, [], ◌∷◌, ◌++◌, length, None, refl, ap, ◌∙◌, arith, append-nil}
use Rattle.fir_ast.specs.Types.{DataType}
use Rattle.fir_ast.specs.Statements.{MemoryPart, PlacedName, data_type, depth, reader}
use Rattle.fir_meaning.specs.Components as component
use Rattle.fir_meaning.specs.MemoryTypes.{memory_bundle}
use Rattle.fir_meaning.specs.SizedDeclarations.{NumberedModule}
use Rattle.fir_meaning.specs.SizedTypes.{numbered}
use Rattle.fir_meaning.specs.TypeLeaves.{leaf_count}
use Rattle.fir_meaning.specs.Visibility.{Before}
use Rattle.fir_meaning.specs.WidthExpressions.{Widths}
use Rattle.fir_meaning.specs.LeafTypes.{LeafType}
use Rattle.fir_meaning.specs.HeldTypes.{held_types}
use Rattle.fir_leaf.proofs.HeldCounts.{held_by_type}

-- by a memory of the data with one reader
pub data_held : (m : NumberedModule) → m.start.scope ≡ [] → (w : Widths) (before : Before) (n : PlacedName) (t : DataType)
    → length (held_types w (numbered None t)) ≡ leaf_count t
data_held m none w before n t =
    let parts : List MemoryPart = data_type n.place n.place t ∷ depth n.place 1 ∷ reader n.place (n ∷ []) ∷ [] in
    let held : List LeafType = held_types w (numbered None t) in
    let behind : length ((held ++ []) ++ []) ≡ length held = ap length (append-nil (held ++ []) ∙ append-nil held) in
    omega (arith, behind, held_by_type m none w before n (component.memory parts) (memory_bundle n.place parts t 1) refl)
