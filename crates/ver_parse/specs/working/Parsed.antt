-- What the parser answers.
use Rattle.std.specs.Prelude.{◌≡◌, None, Result, Ok, Err}
use Rattle.fir_base.specs.declared.refused.Refused.{Refused}
use Rattle.fir_base.specs.declared.refused.Refused.TheVariants.{Fault, Memory}
use Rattle.ver_ast.specs.declared.tree.Verilog.{Verilog}
use Rattle.ver_ast.specs.Pieces.{place_after}
use Rattle.ver_ast.specs.Spells.{places_of}
use Rattle.ver_fault.specs.declared.fault.VerFault.{VerFault}
use Rattle.ver_fault.specs.View.{vfault_of}
use Rattle.ver_lex.specs.working.Lexed.{Lexed}
use Rattle.ver_parse.specs.Fronts.{AreTokensOf}
use Rattle.ver_parse.specs.Depths.{IsShallow}
use Rattle.ver_parse.specs.TextFaults.{TokensFault}

-- the tokens are all of the text, they are those of the tree, and nowhere in them are more than 256 braces open
pub record IsTreeOf (t : Lexed) (v : Verilog) : Type 0 where
  pub whole : t.stop ≡ None
  pub spells : AreTokensOf v t.tokens
  pub places_are : v.places ≡ places_of t.tokens
  pub shallow : IsShallow t.tokens

-- the tree that the tokens spell; or the first fault of the text
abbrev pub Parsed : Lexed → Result Verilog (Refused VerFault) → Type 0
Parsed t (Ok v) = IsTreeOf t v
Parsed t (Err (Fault f)) = TokensFault (place_after t.text) t.tokens t.stop (vfault_of f)
Parsed t (Err Memory) = Unit {0}
