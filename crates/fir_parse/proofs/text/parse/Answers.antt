use Rattle.std.proofs.Common.{◌≡◌, [], Err, refl, sym, ◌∙◌, subst, rules}
use Rattle.fir_ast.specs.working.Views.{circuit_of}
use Rattle.fir_ast.specs.declared.fault.FirFault.TheVariants.{Syntax}
use Rattle.fir_lex.specs.TokensOf.{place_after}
use Rattle.fir_lex.proofs.Places.{place_on}
use Rattle.fir_parse.specs.declared.stop.Stop.{Stop}
use Rattle.fir_parse.specs.declared.stop.Stop.TheVariants.{AtEnd, Fault}
use Rattle.fir_parse.specs.Limits.{everywhere}
use Rattle.fir_parse.specs.Spells.{terminals}
use Rattle.fir_parse.specs.working.Parsed.{ReadWhole}
use Rattle.fir_parse.proofs.FirstFaults.{first_fault}
use Rattle.fir_parse.proofs.FormsSpelled.{forms_found}
use Rattle.fir_parse.proofs.text.parse.Goals as goal

pub returns-in-Ok : goal.returns-in-Ok
returns-in-Ok c =
    let end = place_after c.args.tokens.text in
    forms_found everywhere end (terminals c.args.tokens.tokens) (circuit_of c.in-Ok.circuit) (c.in-Ok.ensures end)

pub returns-in-Err-AtEnd : goal.returns-in-Err-AtEnd
returns-in-Err-AtEnd c =
    let e : c.in-Err-AtEnd.field-0 ≡ AtEnd = search rules in
    let P : Stop → Type 0 = λ s. ReadWhole c.args.tokens (Err s) in
    let end = place_after c.args.tokens.text in
    let place : c.end-end.result ≡ end = c.end-end.ensures ∙ sym (place_on [] c.args.tokens.text) in
    (first_fault end (terminals c.args.tokens.tokens) (Syntax c.end-end.result) (rw place (subst P e c.in-Err-AtEnd.ensures end)), refl)

pub returns-in-Err-Fault : goal.returns-in-Err-Fault
returns-in-Err-Fault c =
    let e : c.in-Err-Fault.field-0 ≡ Fault c.in-Err-Fault.fault = search rules in
    let P : Stop → Type 0 = λ s. ReadWhole c.args.tokens (Err s) in
    let end = place_after c.args.tokens.text in
    (first_fault end (terminals c.args.tokens.tokens) c.in-Err-Fault.fault (subst P e c.in-Err-Fault.ensures end), refl)
