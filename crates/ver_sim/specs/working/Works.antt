-- What is computed, by number.
-- A width counts as 128 where it is more.
use Rattle.std.specs.Prelude.{ℕ, ◌==◌, List, [], ◌∷◌, ◌++◌, true, min, take, drop, slice_get, slice_index, if◌then◌else◌, Option, Some}
use Rattle.fir_bits.specs.Integers.{reading, bits_of, shifted_down}
use Rattle.ver_ast.specs.SideValues.{unary_value, binary_value, signed_value}
use Rattle.ver_sim.specs.declared.work.Work.{Work}
use Rattle.ver_sim.specs.declared.work.Work.TheVariants as work
use Rattle.ver_sim.specs.working.Operands.{operand_number, operand_places}

abbrev pub narrow : ℕ → ℕ
narrow width = min width 128

-- from the words of the state and the values of the nets
abbrev pub work_number : Work → List ℕ → List ℕ → Option ℕ
work_number (work.Show a) state values = Some (operand_number values a)
work_number (work.Unary op width a) state values = Some (unary_value op (narrow width) (operand_number values a))
work_number (work.Binary op width a b) state values = binary_value op (narrow width) (operand_number values a) (operand_number values b)
work_number (work.Signed op width a b) state values =
    signed_value op (narrow width) (reading true (narrow width) (operand_number values a)) (reading true (narrow width) (operand_number values b))
work_number (work.SignedShift from to a b) state values =
    Some (bits_of (narrow to) (shifted_down (reading true (narrow from) (operand_number values a)) (operand_number values b)))
work_number (work.Choose c a b) state values = Some (if operand_number values c == 1 then operand_number values a else operand_number values b)
work_number (work.Word base depth index) state values = slice_get (take depth (drop base state)) (operand_number values index)
work_number (work.Reset reset value word) state values = Some (if slice_index values reset == 1 then value else slice_index state word)

-- the places that are read
abbrev pub work_places : Work → List ℕ
work_places (work.Show a) = operand_places a
work_places (work.Unary op width a) = operand_places a
work_places (work.Binary op width a b) = operand_places a ++ operand_places b
work_places (work.Signed op width a b) = operand_places a ++ operand_places b
work_places (work.SignedShift from to a b) = operand_places a ++ operand_places b
work_places (work.Choose c a b) = operand_places c ++ (operand_places a ++ operand_places b)
work_places (work.Word base depth index) = operand_places index
work_places (work.Reset reset value word) = reset ∷ []
