-- Width expressions, and rules for widths that are not written (FIRRTL spec, "Width Inference"): an unknown is at least as wide as what is connected to it,
-- and all unknowns are the least that satisfy all rules. Widths count in the numbers 0 to 128 and one value above them, 129, that stands for all that is over.
-- That widths end at 128, and that an unknown without a rule is 0, are each a choice of this project.
use Rattle.std.specs.Prelude.{ℕ, ◌≤◌, min, max, nat_lt, Bool, if◌then◌else◌, List}
use Rattle.fir_base.specs.Lists.{In}
use Rattle.fir_bits.specs.declared.operators.PrimOp.{PrimOp}
use Rattle.fir_bits.specs.Widths.{counted_width}

-- the width of each unknown, by its number
abbrev pub Widths : Type 0
Widths = ℕ → ℕ

-- a written width; an unknown by its number; an operation on one operand with two integers, and on two operands, each with the signedness of the first;
-- the greater of two; and what is over where its condition is over
pub data Width : Type 0 where
  known : ℕ → Width
  unknown : ℕ → Width
  single : PrimOp → Bool → Width → ℕ → ℕ → Width
  pair : PrimOp → Bool → Width → Width → Width
  greater : Width → Width → Width
  guarded : Width → Width → Width

abbrev pub width_under : Width → Widths → ℕ
width_under (known n) w = min n 129
width_under (unknown k) w = min (w k) 129
width_under (single op signed a n m) w = counted_width op signed (width_under a w) 0 n m
width_under (pair op signed a b) w = counted_width op signed (width_under a w) (width_under b w) 0 0
width_under (greater a b) w = max (width_under a w) (width_under b w)
width_under (guarded c a) w = if nat_lt (width_under c w) 129 then width_under a w else 129

-- an unknown is at least as wide as an expression
pub record Rule : Type 0 where
  pub number : ℕ
  pub at_least : Width

pub record MeetsRules (rules : List Rule) (w : Widths) : Type 0 where
  pub each : (r : Rule) → In rules r → width_under r.at_least w ≤ w r.number

-- the least assignment that meets all rules, unknown by unknown; one without a rule is 0
pub record IsLeastOf (rules : List Rule) (w : Widths) : Type 0 where
  pub meets : MeetsRules rules w
  pub least : (v : Widths) → MeetsRules rules v → (k : ℕ) → w k ≤ v k
