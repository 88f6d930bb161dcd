-- Leaves that are pushed one after another: each takes the next number, and one without a width is the unknown of its number, or known to be 0.
-- A node has unknowns for written widths too, but below vectors of length 0.
use Rattle.std.specs.Prelude.{ℕ, ◌+◌, List, [], ◌∷◌, ◌++◌, length, Option, Some, None}
use Rattle.fir_ast.specs.Types.{DataType, Fields}
use Rattle.fir_meaning.specs.WidthExpressions.{Width, unknown, Rule}
use Rattle.fir_meaning.specs.SizedTypes.{leaf_width, numbered, numbered_fields}
use Rattle.fir_meaning.specs.working.InferredTypes.{inferred, inferred_fields}
use Rattle.fir_names.specs.declared.declaration.Component.{Component}
use Rattle.fir_names.specs.declared.declaration.Component.TheVariants as code
use Rattle.fir_infer_widths.specs.declared.arena.Arena.{Arena}
use Rattle.fir_infer_widths.specs.declared.declared.Stage.{Stage}
use Rattle.fir_infer_widths.specs.declared.declared.Stage.TheVariants as stage
use Rattle.fir_infer_widths.specs.declared.leaves.Unknowns.{Unknowns}
use Rattle.fir_infer_widths.specs.declared.leaves.Unknowns.TheVariants as unknowns
use Rattle.fir_width.specs.working.FlatWidths.{flat, flat_fields}
use Rattle.fir_infer_widths.specs.working.Numbered.{Keeps}

-- a number where some widths are unknowns
abbrev pub numbers_from : Unknowns → ℕ → Option ℕ
numbers_from unknowns.Nowhere k = None
numbers_from _ k = Some k

-- the type of which each width that is not written is an unknown, and its fields
abbrev pub open_type : Unknowns → DataType → DataType
open_type unknowns.Everywhere t = inferred t
open_type _ t = t

abbrev pub open_fields : Unknowns → Fields → Fields
open_fields unknowns.Everywhere fs = inferred_fields fs
open_fields _ fs = fs

-- the width of a UInt or an SInt
abbrev pub number_width : Unknowns → ℕ → Option ℕ → Width
number_width unknowns.Everywhere k width = unknown k
number_width u k width = leaf_width (numbers_from u k) width

abbrev pub type_widths : Unknowns → DataType → ℕ → List Width
type_widths u t k = flat (numbered (numbers_from u k) (open_type u t))

abbrev pub field_widths : Unknowns → Fields → ℕ → List Width
field_widths u fs k = flat_fields (numbered_fields (numbers_from u k) (open_fields u fs))

-- these have the next numbers, and nothing else has changed
pub record Pushes (own : ℕ → List Width) (old new : Arena) : Type 0 where
  pub each : (meant : List Width) (rules : List Rule) → Keeps meant rules old → Keeps (meant ++ own (length meant)) rules new

-- those of a declaration in a stage, where it has such a type
abbrev pub stage_widths : Stage → Option Component → Option DataType → ℕ → List Width
stage_widths stage.Ports (Some (code.Port d)) (Some t) k = type_widths unknowns.Unwritten t k
stage_widths stage.Bodies (Some code.Wire) (Some t) k = type_widths unknowns.Unwritten t k
stage_widths stage.Bodies (Some code.Register) (Some t) k = type_widths unknowns.Unwritten t k
stage_widths stage.Bodies (Some code.Node) (Some t) k = type_widths unknowns.Everywhere t k
stage_widths stage.Bodies (Some code.Memory) (Some t) k = type_widths unknowns.Nowhere t k
stage_widths s c t k = []

-- and of declarations behind so many
abbrev pub walked_widths : Stage → (ℕ → Option Component) → ℕ → List (Option DataType) → ℕ → List Width
walked_widths s at position [] k = []
walked_widths s at position (t ∷ ts) k = stage_widths s (at position) t k ++ walked_widths s at (position + 1) ts (k + length (stage_widths s (at position) t k))
