-- The leaves of the left side that a partial connect pairs: the left ones of its pairs (FIRRTL spec, "Partial Connects").
use Rattle.std.specs.Prelude.{ℕ, List, [], ◌++◌, map, Bool}
use Rattle.fir_ast.specs.Types.{DataType, Fields, no_fields, field}
use Rattle.fir_meaning.specs.LeafPaths.{named}
use Rattle.fir_meaning.specs.TypeLeaves.{TypeLeaf, under}
use Rattle.fir_meaning.specs.ConnectPairs.{Pair, partial_pairs}
use Rattle.fir_meaning.specs.Equivalence.{met}
use Rattle.fir_meaning.specs.Reaching.{field_of_type}

abbrev pub left_leaves : DataType → DataType → List TypeLeaf
left_leaves s t = map (λ (p : Pair). p.left) (partial_pairs s t)

-- those of a field, and of fields one by one
abbrev pub left_leaves_under : Bool → List ℕ → DataType → DataType → List TypeLeaf
left_leaves_under flip x s t = met [] (λ g. map (under flip (named x)) (left_leaves s g.data_type)) (field_of_type x t)

abbrev pub left_field_leaves : Fields → DataType → List TypeLeaf
left_field_leaves no_fields t = []
left_field_leaves (field p flip x begins s rest) t = left_leaves_under flip x s t ++ left_field_leaves rest t
