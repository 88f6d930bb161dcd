-- The first leaf of a fault: one that is over, or an input without a width.
use Rattle.std.specs.Prelude.{ℕ, List, [], ◌∷◌, Bool, true, false, ◌&&◌, if◌then◌else◌, Option, Some, None}
use Rattle.fir_ast.specs.Types.{DataType, uint, sint}
use Rattle.fir_meaning.specs.LeafPaths.{LeafPath}
use Rattle.fir_meaning.specs.TypeLeaves.{turned}
use Rattle.fir_meaning.specs.WidthExpressions.{Widths}
use Rattle.fir_type_table.specs.working.Tables.{shown}
use Rattle.fir_infer_widths.specs.declared.first_leaf.Test.{Test}
use Rattle.fir_infer_widths.specs.declared.first_leaf.Test.TheVariants as test
use Rattle.fir_infer_widths.specs.working.NumberedLeaves.{NumberedLeaf}
use Rattle.fir_infer_widths.specs.working.SpotFaults.{is_over}

-- the path of the first leaf that passes a test
abbrev pub first_where : (NumberedLeaf → Bool) → List NumberedLeaf → Option LeafPath
first_where test [] = None
first_where test (l ∷ ls) = if test l then Some l.path else first_where test ls

-- by the width of its number
abbrev pub leaf_is_over : Widths → NumberedLeaf → Bool
leaf_is_over u l = is_over (u l.number)

-- by the width that its type says
abbrev pub says_over : DataType → Bool
says_over (uint (Some width)) = is_over width
says_over (sint (Some width)) = is_over width
says_over t = false

abbrev pub leaf_says_over : NumberedLeaf → Bool
leaf_says_over l = says_over l.ground_type

abbrev pub lacks_width : DataType → Bool
lacks_width (uint None) = true
lacks_width (sint None) = true
lacks_width t = false

-- where straight leaves are inputs, or flipped ones
abbrev pub is_unwritten_input : Bool → NumberedLeaf → Bool
is_unwritten_input inward l = turned inward l.flip && lacks_width l.ground_type

-- where types are shown without their widths, or with them
abbrev pub is_unwritten_shown : Bool → Bool → NumberedLeaf → Bool
is_unwritten_shown is_bare inward l = turned inward l.flip && lacks_width (shown is_bare l.ground_type)

-- the test that the code names
abbrev pub passes : Widths → Test → NumberedLeaf → Bool
passes u test.Over = leaf_is_over u
passes u (test.Unwritten is_bare inward) = is_unwritten_shown is_bare inward

-- a ground type alone
abbrev pub ground_leaf : ℕ → DataType → NumberedLeaf
ground_leaf number t = record { path = []; flip = false; number = number; ground_type = t }
