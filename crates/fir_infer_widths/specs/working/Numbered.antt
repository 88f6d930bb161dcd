-- Width expressions under numbers, as bounds name them.
-- The list has the expression of each number. A leaf of a declaration has one of the first numbers: where its width is not written it is the unknown of
-- that number. An expression that is made of others has a bound of one operation on their numbers, and each rule for an unknown is a bound that says `Same`.
use Rattle.std.specs.Prelude.{◌≡◌, ℕ, ◌⊎◌, min, map, List, Bool, true, false}
use Rattle.fir_base.specs.Lists.{In}
use Rattle.fir_meaning.specs.WidthExpressions.{Width, known, unknown, single, pair, greater, guarded, Widths, width_under, Rule}
use Rattle.fir_width.specs.working.StandingWidths.{Has}
use Rattle.fir_least_widths.specs.declared.bound.Term.{Term}
use Rattle.fir_least_widths.specs.declared.bound.Term.TheVariants.{Known, Same, Single, Pair, Greater, Guarded}
use Rattle.fir_least_widths.specs.declared.bound.Bound.{Bound}
use Rattle.fir_infer_widths.specs.declared.arena.Arena.{Arena}

-- the term is the operation of the expression, on numbers of its parts
abbrev pub IsTermOf : List Width → Width → Term → Type 0
IsTermOf meant (known n) t = (m : ℕ) × (t ≡ Known m) × (min m 129 ≡ min n 129)
IsTermOf meant (unknown k) t = ⊥
IsTermOf meant (single op signed a n m) t = (i : ℕ) × (t ≡ Single op signed i n m) × Has meant i a
IsTermOf meant (pair op signed a b) t = (i j : ℕ) × (t ≡ Pair op signed i j) × Has meant i a × Has meant j b
IsTermOf meant (greater a b) t = (i j : ℕ) × (t ≡ Greater i j) × Has meant i a × Has meant j b
IsTermOf meant (guarded c a) t = (i j : ℕ) × (t ≡ Guarded i j) × Has meant i c × Has meant j a

-- an unknown stands under its own number, and each other expression has its bound
abbrev pub IsMade : List Width → List Bound → ℕ → Width → Type 0
IsMade meant bounds number (unknown k) = number ≡ k
IsMade meant bounds number e = (b : Bound) × In bounds b × (b.unknown ≡ number) × IsTermOf meant e b.term

-- a rule for an unknown, and its bound
pub record IsAsked (meant : List Width) (bounds : List Bound) (r : Rule) : Type 0 where
  pub giver : ℕ
  pub gives : Has meant giver r.at_least
  pub own : Has meant r.number (unknown r.number)
  pub bound : In bounds (record { unknown = r.number; term = Same giver })

-- a bound makes the expression of its number, or asks what a rule asks
pub record Makes (meant : List Width) (b : Bound) : Type 0 where
  pub made : Width
  pub has : Has meant b.unknown made
  pub term : IsTermOf meant made b.term

pub record Asks (meant : List Width) (rules : List Rule) (b : Bound) : Type 0 where
  pub giver : ℕ
  pub at_least : Width
  pub gives : Has meant giver at_least
  pub term : b.term ≡ Same giver
  pub rule : In rules (record { number = b.unknown; at_least = at_least })
  pub own : Has meant b.unknown (unknown b.unknown)

-- the bounds are those of the expressions and of the rules, and no others
pub record AreBoundsOf (meant : List Width) (rules : List Rule) (bounds : List Bound) : Type 0 where
  pub made : (number : ℕ) (e : Width) → Has meant number e → IsMade meant bounds number e
  pub asked : (r : Rule) → In rules r → IsAsked meant bounds r
  pub only : (b : Bound) → In bounds b → Makes meant b ⊎ Asks meant rules b

abbrev pub is_written : Width → Bool
is_written (unknown k) = false
is_written e = true

-- what the arena has: a mark for each number, and the bounds
pub record Keeps (meant : List Width) (rules : List Rule) (arena : Arena) : Type 0 where
  pub marks : arena.written.items ≡ map is_written meant
  pub bounds : AreBoundsOf meant rules arena.bounds.items

-- each number has the width of its expression
abbrev pub Agrees : List Width → Widths → Widths → Type 0
Agrees meant w u = (number : ℕ) (e : Width) → Has meant number e → u number ≡ width_under e w
