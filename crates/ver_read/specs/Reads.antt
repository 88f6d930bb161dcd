-- Which texts of the Verilog subset are taken, and for which fault the others are refused (IEEE 1364-2005, cut to the subset).
-- A text is taken where it spells a valid tree. Else the first fault counts: of the text; or else, in the tree that it spells, of what does not fit, in the order of
-- the text; or else of what nothing drives; or else of closed walks.
use Rattle.std.specs.Prelude.{◌≡◌, ◌⊎◌, ℕ, List, []}
use Rattle.ver_ast.specs.declared.tree.Verilog.{Verilog}
use Rattle.ver_ast.specs.Spells.{VSpells}
use Rattle.ver_ast.specs.Valid.{Valid}
use Rattle.ver_fault.specs.Faults.{VFault}
use Rattle.ver_parse.specs.Depths.{IsShallow}
use Rattle.ver_parse.specs.TextFaults.{TextFault}
use Rattle.ver_check.specs.TreeFaults.{misfits, undriven, BeginsWith}
use Rattle.ver_loop.specs.Loops.{ShowsLoop}

-- a text that is taken
pub record IsTextOf (bytes : List ℕ) (v : Verilog) : Type 0 where
  pub spelled : VSpells bytes v
  pub valid : Valid v

-- a text that has a tree, as nowhere in it are more than 256 braces open
pub record HasTree (bytes : List ℕ) (v : Verilog) : Type 0 where
  pub spelled : VSpells bytes v
  pub shallow : IsShallow spelled.tokens

-- the first of what does not fit; or else of what nothing drives; or else of closed walks
abbrev pub IsTreeFault : Verilog → VFault → Type 0
IsTreeFault v f =
    BeginsWith (misfits v) f
    ⊎ ((misfits v ≡ []) × BeginsWith (undriven v) f)
    ⊎ ((misfits v ≡ []) × (undriven v ≡ []) × ShowsLoop v f)

-- the first fault of a text, or else of its tree
abbrev pub IsFaultOf : List ℕ → VFault → Type 0
IsFaultOf bytes f = TextFault bytes f ⊎ ((v : Verilog) × HasTree bytes v × IsTreeFault v f)
