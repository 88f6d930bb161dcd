-- What is known of an operand that has no fault.
use Rattle.std.specs.Prelude.{◌≡◌, List, drop}
use Rattle.ver_ast.specs.declared.place.VPlace.{VPlace}
use Rattle.ver_ast.specs.Atoms.{AtomTree}
use Rattle.ver_ast.specs.Grammar.{atom_tokens}
use Rattle.ver_ast.specs.SoundSides.{OperandRule, arithmetic, shift, comparison}
use Rattle.ver_check.specs.declared.side.Extent.{Extent}
use Rattle.ver_check.specs.declared.side.Rule.{Rule}
use Rattle.ver_check.specs.declared.side.Rule.TheVariants.{Arithmetic, Shift, Comparison}
use Rattle.ver_check.specs.Scopes.{Scope}
use Rattle.ver_places.specs.Places.{behind}
use Rattle.ver_check.specs.OperandFaults.{atom_bits}

-- how many bits it has, and the places behind its own
pub record HasExtent (scope : Scope) (a : AtomTree) (ps : List VPlace) (e : Extent) : Type 0 where
  pub bits : e.bits ≡ atom_bits scope a
  pub next : e.next.now ≡ behind (atom_tokens a) ps

-- the same of one in a `$signed`, whose place is the first
pub record HasSignedExtent (scope : Scope) (a : AtomTree) (ps : List VPlace) (e : Extent) : Type 0 where
  pub bits : e.bits ≡ atom_bits scope a
  pub next : e.next.now ≡ behind (atom_tokens a) (drop 1 ps)

abbrev pub rule_of : Rule → OperandRule
rule_of Arithmetic = arithmetic
rule_of Shift = shift
rule_of Comparison = comparison
