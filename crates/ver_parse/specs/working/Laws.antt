-- Laws about the definitions.
use Rattle.std.specs.Prelude.{◌≡◌, ◌⊎◌, ℕ, List, Option, None}
use Rattle.ver_ast.specs.declared.place.VPlace.{VPlace}
use Rattle.ver_ast.specs.declared.tree.Verilog.{Verilog}
use Rattle.ver_ast.specs.Pieces.{PlacedToken, HasTokens}
use Rattle.ver_fault.specs.Faults.{VFault}
use Rattle.ver_lex.specs.declared.bad_byte.BadByte.{BadByte}
use Rattle.ver_parse.specs.Fronts.{AreTokensOf}
use Rattle.ver_parse.specs.Depths.{IsShallow}
use Rattle.ver_parse.specs.TextFaults.{TokensFault, TextFault}

-- the tokens of a text, or those before its first byte that is in none, show one fault at most
abbrev pub TokensShowOneFault : Type 0
TokensShowOneFault =
    (end : VPlace) (ts : List PlacedToken) (bad : Option BadByte) (f g : VFault) → TokensFault end ts bad f → TokensFault end ts bad g → f ≡ g

-- and all tokens of a text that show one are of no tree that is within the limit
abbrev pub NoTreeBesideATokenFault : Type 0
NoTreeBesideATokenFault =
    (end : VPlace) (ts : List PlacedToken) (f : VFault) (v : Verilog) → AreTokensOf v ts → IsShallow ts → TokensFault end ts None f → ⊥

-- the bytes have tokens, those of the tree, and nowhere in them are more than 256 braces open
pub record SpellsTree (bytes : List ℕ) (v : Verilog) : Type 0 where
  pub tokens : List PlacedToken
  pub of_text : HasTokens bytes tokens
  pub spells : AreTokensOf v tokens
  pub shallow : IsShallow tokens

-- a text spells a tree, or it has a fault
abbrev pub TextHasTreeOrFault : Type 0
TextHasTreeOrFault = (bytes : List ℕ) → ((v : Verilog) × SpellsTree bytes v) ⊎ ((f : VFault) × TextFault bytes f)

-- and not both
abbrev pub NoTreeBesideAFault : Type 0
NoTreeBesideAFault = (bytes : List ℕ) (v : Verilog) (f : VFault) → SpellsTree bytes v → TextFault bytes f → ⊥

-- it shows one fault at most
abbrev pub TextShowsOneFault : Type 0
TextShowsOneFault = (bytes : List ℕ) (f g : VFault) → TextFault bytes f → TextFault bytes g → f ≡ g
