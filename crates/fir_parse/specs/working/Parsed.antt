-- What the parser answers.
use Rattle.std.specs.Prelude.{◌≡◌, Result, Ok, Err}
use Rattle.fir_base.specs.declared.refused.Refused.{Refused}
use Rattle.fir_base.specs.declared.refused.Refused.TheVariants.{Fault, Memory}
use Rattle.fir_ast.specs.declared.fault.FirFault.{FirFault}
use Rattle.fir_ast.specs.working.CodeFaults.{fault_of}
use Rattle.fir_ast.specs.declared.circuit.Circuit.{Circuit}
use Rattle.fir_ast.specs.working.Views.{circuit_of}
use Rattle.fir_lex.specs.TokensOf.{place_after}
use Rattle.fir_lex.specs.working.TokenText.{TokenText}
use Rattle.fir_ast.specs.declared.fault.FirFault.TheVariants.{Syntax}
use Rattle.fir_ast.specs.declared.place.Place.{Place}
use Rattle.fir_parse.specs.declared.stop.Stop.{Stop}
use Rattle.fir_parse.specs.declared.stop.Stop.TheVariants as stop
use Rattle.fir_parse.specs.working.Reading.{read}
use Rattle.fir_parse.specs.Limits.{everywhere}
use Rattle.fir_parse.specs.CircuitForms.{IsSpelled}
use Rattle.fir_parse.specs.Spells.{terminals}
use Rattle.fir_parse.specs.TextFaults.{IsFirstTextFault}

-- the tree that the tokens spell; or their first fault, and the tokens are handed back
abbrev pub Parsed : TokenText → Result Circuit (Refused (FirFault × TokenText)) → Type 0
Parsed t (Ok c) = IsSpelled everywhere (circuit_of c) (terminals t.tokens)
Parsed t (Err (Fault f)) = IsFirstTextFault (place_after t.text) (terminals t.tokens) (fault_of f.0) × (f.1 ≡ t)
Parsed t (Err Memory) = Unit {0}

-- the tree of the tokens, or why they stop, wherever the text's end stands
abbrev pub ReadWhole : TokenText → Result Circuit Stop → Type 0
ReadWhole t (Ok c) = (end : Place) → read end (terminals t.tokens) ≡ Ok (circuit_of c)
ReadWhole t (Err stop.AtEnd) = (end : Place) → read end (terminals t.tokens) ≡ Err (Syntax end)
ReadWhole t (Err (stop.Fault f)) = (end : Place) → read end (terminals t.tokens) ≡ Err f
ReadWhole t (Err stop.Memory) = Unit {0}
