-- Bounds of unknown widths, and the least widths that meet them (FIRRTL spec, "Width Inference").
-- A width is one of 0 to 128 bits, or 129, which stands for all that is over. An assignment gives each unknown, by its number, such a width.
use Rattle.std.specs.Prelude.{◌≡◌, ℕ, ◌≤◌, ◌<◌, min, max, nat_lt, if◌then◌else◌, List, [], ◌∷◌, Some, slice_get}
use Rattle.fir_bits.specs.Widths.{counted_width}
use Rattle.fir_meaning.specs.WidthExpressions.{Widths}
use Rattle.fir_least_widths.specs.declared.bound.Term.{Term}
use Rattle.fir_least_widths.specs.declared.bound.Term.TheVariants.{Known, Same, Single, Pair, Greater, Guarded}
use Rattle.fir_least_widths.specs.declared.bound.Bound.{Bound}

-- the width of a term
abbrev pub term_width : Term → Widths → ℕ
term_width (Known n) w = min n 129
term_width (Same a) w = min (w a) 129
term_width (Single op signed a n m) w = counted_width op signed (w a) 0 n m
term_width (Pair op signed a b) w = counted_width op signed (w a) (w b) 0 0
term_width (Greater a b) w = min (max (w a) (w b)) 129
term_width (Guarded c a) w = if nat_lt (w c) 129 then min (w a) 129 else 129

-- the unknowns that a term reads
abbrev pub reads : Term → List ℕ
reads (Known n) = []
reads (Same a) = a ∷ []
reads (Single op signed a n m) = a ∷ []
reads (Pair op signed a b) = a ∷ b ∷ []
reads (Greater a b) = a ∷ b ∷ []
reads (Guarded c a) = c ∷ a ∷ []

-- the unknown is at least as wide as the term
abbrev pub Holds : Bound → Widths → Type 0
Holds b w = term_width b.term w ≤ w b.unknown

pub record MeetsBounds (bounds : List Bound) (w : Widths) : Type 0 where
  pub each : (i : ℕ) (b : Bound) → slice_get bounds i ≡ Some b → Holds b w

-- no widths that meet the bounds are below these anywhere
abbrev pub IsBelowAll : List Bound → Widths → Type 0
IsBelowAll bounds w = (v : Widths) → MeetsBounds bounds v → (k : ℕ) → w k ≤ v k

-- they meet the bounds, and none that do are less anywhere
pub record IsLeast (bounds : List Bound) (w : Widths) : Type 0 where
  pub meets : MeetsBounds bounds w
  pub least : IsBelowAll bounds w

-- a term reads unknowns below that number alone
abbrev pub TermWithin : Term → ℕ → Type 0
TermWithin (Known n) unknowns = Unit {0}
TermWithin (Same a) unknowns = a < unknowns
TermWithin (Single op signed a n m) unknowns = a < unknowns
TermWithin (Pair op signed a b) unknowns = (a < unknowns) × (b < unknowns)
TermWithin (Greater a b) unknowns = (a < unknowns) × (b < unknowns)
TermWithin (Guarded c a) unknowns = (c < unknowns) × (a < unknowns)

-- and so do all bounds, whose own unknowns are below it, too
pub record BoundsWithin (bounds : List Bound) (unknowns : ℕ) : Type 0 where
  pub unknown : (i : ℕ) (b : Bound) → slice_get bounds i ≡ Some b → b.unknown < unknowns
  pub term : (i : ℕ) (b : Bound) → slice_get bounds i ≡ Some b → TermWithin b.term unknowns
