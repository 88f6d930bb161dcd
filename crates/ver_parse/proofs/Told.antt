-- What the parser answers where reading stops.
use Rattle.std.proofs.Common.{◌≡◌, ◌⊎◌, inl, inr, ℕ, List, [], Option, Some, None, Result, Ok, Err, refl, sym, ap, subst, arith}
use Rattle.fir_base.specs.declared.refused.Refused.{Refused}
use Rattle.ver_ast.specs.declared.place.VPlace.{VPlace}
use Rattle.ver_ast.specs.declared.tree.Verilog.{Verilog}
use Rattle.ver_ast.specs.Pieces.{PlacedToken, place_after}
use Rattle.ver_fault.specs.Faults.{VFault}
use Rattle.ver_fault.specs.declared.fault.VerFault.{VerFault}
use Rattle.ver_fault.specs.View.{vfault_of}
use Rattle.ver_lex.specs.declared.bad_byte.BadByte.{BadByte}
use Rattle.ver_lex.specs.working.Lexed.{Lexed}
use Rattle.ver_parse.specs.declared.stop.Stop.{Stop}
use Rattle.ver_parse.specs.declared.stop.Stop.TheVariants as stop
use Rattle.ver_parse.specs.working.Parsed.{Parsed}
use Rattle.ver_parse.specs.TextFaults.{TokensFault, IsTokenFault, ShowsUnexpected, syntax_fault}
use Rattle.ver_parse.specs.working.Reading.{Outcome, unexpected, too_deep, ends, read_on, whole}
use Rattle.ver_parse.specs.working.Reads.{IsStop}
use Rattle.ver_parse.specs.working.Whole.{end_fault, IsFaultOf}
use Rattle.ver_parse.proofs.Stopping.{Stopped, stopped}
use Rattle.ver_parse.proofs.FirstFaults.{Passes, Begins, unexpected_at, too_deep_at, ends_at}

at_a_token : (end : VPlace) (ts : List PlacedToken) (bad : Option BadByte) (f : VFault) → IsTokenFault ts f → TokensFault end ts bad f
at_a_token end ts None f h = inl h
at_a_token end ts (Some b) f h = inl h

at_the_end : (t : Lexed) (bad : Option BadByte) → ShowsUnexpected (place_after t.text) t.tokens [] (syntax_fault (place_after t.text)) → TokensFault (place_after t.text) t.tokens bad (vfault_of (end_fault t bad))
at_the_end t None h = inr h
at_the_end t (Some b) h = inr (refl, h.begins, h.shallow)

read_so : (ts : List PlacedToken) (o : Outcome) → read_on 0 whole ts ≡ o → Stopped 0 whole ts o
read_so ts o h = stopped ts 0 whole o h (omega arith)

pub told : Passes → Begins → (t : Lexed) (s : Stop) (r : Result Verilog (Refused VerFault)) → IsStop s (read_on 0 whole t.tokens) → IsFaultOf t s r → Parsed t r
told passes begins t stop.AtEnd r h e = subst (λ x. Parsed t x) (sym e) (at_the_end t t.stop (ends_at passes begins (place_after t.text) t.tokens (read_so t.tokens ends h)))
told passes begins t (stop.Syntax p) r h e = subst (λ x. Parsed t x) (sym e) (at_a_token (place_after t.text) t.tokens t.stop _ (unexpected_at passes begins t.tokens p (read_so t.tokens (unexpected p) h)))
told passes begins t (stop.Depth p) r h e = subst (λ x. Parsed t x) (sym e) (at_a_token (place_after t.text) t.tokens t.stop _ (too_deep_at begins t.tokens p (read_so t.tokens (too_deep p) h)))
told passes begins t stop.Memory r h e = subst (λ x. Parsed t x) (sym e) tt
