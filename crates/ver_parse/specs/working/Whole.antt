-- What the reader of all tokens answers.
use Rattle.std.specs.Prelude.{◌≡◌, List, [], ◌∷◌, if◌then◌else◌, Option, Some, None, Result, Ok, Err}
use Rattle.fir_base.specs.declared.refused.Refused.{Refused}
use Rattle.fir_base.specs.declared.refused.Refused.TheVariants.{Fault, Memory}
use Rattle.ver_ast.specs.Pieces.{place_after}
use Rattle.ver_fault.specs.declared.fault.VerFault.{VerFault}
use Rattle.ver_fault.specs.declared.fault.VerFault.TheVariants as fault
use Rattle.ver_lex.specs.declared.bad_byte.BadByte.{BadByte}
use Rattle.ver_lex.specs.working.Lexed.{Lexed}
use Rattle.ver_parse.specs.declared.stop.Stop.TheVariants as stop
use Rattle.std.specs.List.{AllByRecursion}
use Rattle.ver_ast.specs.declared.tree.Verilog.{Verilog}
use Rattle.ver_ast.specs.Grammar.{module_tokens}
use Rattle.ver_ast.specs.Pieces.{PlacedToken}
use Rattle.ver_ast.specs.Spells.{has_place, places_of}
use Rattle.ver_ast.specs.declared.place.VPlace.{VPlace}
use Rattle.ver_parse.specs.Fronts.{AreTokensOf}
use Rattle.ver_parse.specs.declared.stop.Stop.{Stop}
use Rattle.ver_parse.specs.working.Reading.{complete, read_on, whole}
use Rattle.ver_parse.specs.working.Reads.{IsStop}

-- the tree of the tokens
pub record IsRead (ts : List PlacedToken) (v : Verilog) : Type 0 where
  pub spells : AreTokensOf v ts
  pub places_are : v.places ≡ places_of ts
  pub complete : read_on 0 whole ts ≡ complete

abbrev pub ReadsWhole : List PlacedToken → Result Verilog Stop → Type 0
ReadsWhole ts (Ok v) = IsRead ts v
ReadsWhole ts (Err s) = IsStop s (read_on 0 whole ts)

-- the fault where the tokens end too early
abbrev pub end_fault : Lexed → Option BadByte → VerFault
end_fault t None = fault.Syntax (place_after t.text)
end_fault t (Some bad) = fault.Byte bad.place bad.byte

-- the fault where reading stops so
abbrev pub IsFaultOf : Lexed → Stop → Result Verilog (Refused VerFault) → Type 0
IsFaultOf t stop.AtEnd r = r ≡ Err (Fault (end_fault t t.stop))
IsFaultOf t (stop.Syntax p) r = r ≡ Err (Fault (fault.Syntax p))
IsFaultOf t (stop.Depth p) r = r ≡ Err (Fault (fault.Depth p))
IsFaultOf t stop.Memory r = r ≡ Err Memory

-- the place of a token, if it is one of those whose places a tree has
abbrev pub place_of : Option PlacedToken → List VPlace
place_of None = []
place_of (Some t) = if has_place t.token then t.place ∷ [] else []
