-- Where an annotation block stands, as the code keeps it.
use Rattle.std.specs.Prelude.{ℕ}
use Rattle.fir_lex.specs.declared.annotation.Within.{Within as State}
use Rattle.fir_lex.specs.declared.annotation.Within.TheVariants as state
use Rattle.fir_lex.specs.working.Front.{Within, in_brackets, in_string}

abbrev pub within_of : State → Within
within_of (state.Brackets depth) = in_brackets depth
within_of (state.String escaped depth) = in_string escaped depth

abbrev pub depth_of : State → ℕ
depth_of (state.Brackets depth) = depth
depth_of (state.String escaped depth) = depth
