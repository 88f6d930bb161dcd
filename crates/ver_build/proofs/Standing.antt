-- Values that are where they are said to be, and nets of the tree that keep their equations.
-- A value stands where the net that it is in is declared with the width that is said, and it holds a number where that net's value gives it.
use Rattle.std.proofs.Common.{◌≡◌, ℕ, ◌^◌, ◌<◌, ◌≤◌, List, [], ◌∷◌}
use Rattle.std.specs.Prelude.{unwrap_or, IsSome}
use Rattle.std.specs.List.{AllByRecursion}
use Rattle.fir_base.specs.Lists.{EachIn}
use Rattle.fir_base.specs.Ticks.{Env}
use Rattle.fir_bits.specs.Values.{BitVector}
use Rattle.fir_bits.specs.working.Operators.{type_of}
use Rattle.fir_bits.specs.declared.types.NumTy.{NumTy}
use Rattle.fir_bits.specs.declared.values.Num.{Num}
use Rattle.ver_ast.specs.Nets.{SizedNet, Variable, width_among}
use Rattle.ver_ast.specs.Names.{rhs_names}
use Rattle.ver_build.proofs.SideValues.{side_value, sound_beside}
use Rattle.ver_ast.specs.SoundSides.{IsSoundSide}
use Rattle.ver_build.specs.declared.held.Part.{Part}
use Rattle.ver_build.specs.declared.held.Source.{Source}
use Rattle.ver_build.specs.declared.held.Source.TheVariants as source
use Rattle.ver_build.specs.declared.held.Held.{Held}
use Rattle.ver_build.specs.declared.right_sides.Inner.{Inner}
use Rattle.ver_build.specs.working.Held.{held_number}
use Rattle.ver_build.specs.working.Places.{source_name}

-- low bits of a declared net, for a value of w bits
pub record IsPart (nets : List SizedNet) (w : ℕ) (p : Part) : Type 0 where
  pub some : 1 ≤ p.kept
  pub within : p.kept ≤ p.own
  pub below : p.kept ≤ w
  pub declared : width_among nets p.name ≡ p.own

-- a number of w bits
pub record IsNumber (w : ℕ) (v : BitVector) : Type 0 where
  pub wide : v.width ≡ w
  pub below : v.number < 2 ^ w

abbrev pub IsSource : List SizedNet → ℕ → Source → Type 0
IsSource nets w (source.Number v) = IsNumber w v
IsSource nets w (source.Net p) = IsPart nets w p

pub record Stands (nets : List SizedNet) (h : Held) : Type 0 where
  pub narrow : h.width ≤ 128
  pub source : IsSource nets h.width h.source

-- as a value of that type
pub record StandsAs (nets : List SizedNet) (h : Held) (t : NumTy) : Type 0 where
  pub stands : Stands nets h
  pub signed : h.signed ≡ t.signed
  pub width : h.width ≡ t.width

-- the net of a value has a number of the net's width
abbrev pub FitsSource : Env → Source → Type 0
FitsSource env (source.Number v) = Unit {0}
FitsSource env (source.Net p) = env p.name < 2 ^ p.own

pub record Holds (nets : List SizedNet) (env : Env) (h : Held) (v : Num) : Type 0 where
  pub standing : StandsAs nets h (type_of v)
  pub below : FitsSource env h.source
  pub number : held_number env h ≡ v.value.number

-- one after the other
abbrev pub AllStand : List SizedNet → List Held → List NumTy → Type 0
AllStand nets [] [] = Unit {0}
AllStand nets (h ∷ hs) (t ∷ ts) = StandsAs nets h t × AllStand nets hs ts
AllStand nets _ _ = ⊥

abbrev pub AllHold : List SizedNet → Env → List Held → List Num → Type 0
AllHold nets env [] [] = Unit {0}
AllHold nets env (h ∷ hs) (v ∷ vs) = Holds nets env h v × AllHold nets env hs vs
AllHold nets env _ _ = ⊥

-- the net of a value is known
abbrev pub IsKnown : List (List ℕ) → Held → Type 0
IsKnown known h = EachIn (source_name h.source) known

abbrev pub DeclaresInners : List SizedNet → List Inner → Type 0
DeclaresInners nets = AllByRecursion (λ i. width_among nets i.name ≡ i.width)

abbrev pub FitsInners : Env → List Inner → Type 0
FitsInners env = AllByRecursion (λ i. env i.name < 2 ^ i.width)

-- the equations, where a right side without a value counts as 0
abbrev pub RestInners : List SizedNet → Env → List Inner → Type 0
RestInners nets env = AllByRecursion (λ i. env i.name ≡ unwrap_or (side_value nets env i.width i.rhs) 0)

abbrev pub HaveValues : List SizedNet → Env → List Inner → Type 0
HaveValues nets env = AllByRecursion (λ i. IsSome (side_value nets env i.width i.rhs))

pub record IsSoundInner (nets : List SizedNet) (i : Inner) : Type 0 where
  pub side : IsSoundSide nets [] i.width i.rhs
  pub some : 1 ≤ i.width
  pub narrow : i.width ≤ 128

-- so beside these arrays
pub record IsSoundAmong (nets : List SizedNet) (arrays : List Variable) (i : Inner) : Type 0 where
  pub side : IsSoundSide nets arrays i.width i.rhs
  pub some : 1 ≤ i.width
  pub narrow : i.width ≤ 128

pub sound_among : (nets : List SizedNet) (arrays : List Variable) (i : Inner) → IsSoundInner nets i → IsSoundAmong nets arrays i
sound_among nets arrays i is = record { side = sound_beside nets arrays i.width i.rhs is.side; some = is.some; narrow = is.narrow }

-- each right side reads what is known, and then its target is known
abbrev pub ReadsInTurn : List (List ℕ) → List Inner → Type 0
ReadsInTurn known [] = Unit {0}
ReadsInTurn known (i ∷ is) = EachIn (rhs_names i.rhs) known × ReadsInTurn (i.name ∷ known) is
