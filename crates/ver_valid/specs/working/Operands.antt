-- What the walk over an operand finds.
use Rattle.std.specs.Prelude.{◌≡◌, ℕ, ◌+◌, ◌-◌, ◌*◌, ◌^◌, ◌<◌, ◌≤◌, List}
use Rattle.ver_ast.specs.declared.tree.Constant.{Constant}
use Rattle.ver_ast.specs.Atoms.{AtomTree, AtomTrees}
use Rattle.ver_ast.specs.AtomForms.{constant_number}
use Rattle.ver_ast.specs.AtomWidths.{atom_width, joined_width}
use Rattle.ver_ast.specs.Nets.{SizedNet, width_among}
use Rattle.ver_ast.specs.SoundSides.{IsSound, AreSound, atom_depth, joined_depth}
use Rattle.ver_valid.specs.working.Declarations.{IsNarrow}

-- an operand of w bits in which at most so many braces are open
abbrev pub IsWithin : List SizedNet → ℕ → AtomTree → ℕ → Type 0
IsWithin nets braces a w = IsSound nets a × (atom_depth a ≤ braces) × (atom_width nets a ≡ w)

abbrev pub AreWithin : List SizedNet → ℕ → AtomTrees → Type 0
AreWithin nets braces more = AreSound nets more × (joined_depth more ≤ braces)

-- operands beside each other
abbrev pub AreJoined : List SizedNet → ℕ → AtomTrees → ℕ → Type 0
AreJoined nets braces more w = AreWithin nets braces more × (joined_width nets more ≡ w) × (w ≤ 128)

-- in the midst of them: so many bits stand before the rest, and all are sound where the rest is
pub record IsBefore (nets : List SizedNet) (braces : ℕ) (all rest : AtomTrees) (width : ℕ) : Type 0 where
  pub ahead : AreWithin nets braces rest → AreWithin nets braces all
  pub behind : AreWithin nets braces all → AreWithin nets braces rest
  pub sum : width + joined_width nets rest ≡ joined_width nets all

-- the bits from one down to another of a net that has a range
abbrev pub IsPart : List SizedNet → List ℕ → ℕ → ℕ → ℕ → Type 0
IsPart nets n hi lo w = (2 ≤ width_among nets n) × (lo ≤ hi) × (hi < width_among nets n) × (hi + 1 - lo ≡ w)

abbrev pub IsCopied : ℕ → ℕ → ℕ → Type 0
IsCopied count width w = (1 ≤ count) × (count * width ≡ w) × (w ≤ 128)

abbrev pub IsSoundConstant : Constant → Type 0
IsSoundConstant c = IsNarrow c.width × (constant_number c < 2 ^ c.width)
