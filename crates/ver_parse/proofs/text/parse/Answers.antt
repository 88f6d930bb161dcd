use Rattle.std.proofs.Common.{[], sym, ap, ◌∙◌, inr, subst}
use Rattle.std.proofs.lemmas.List.{append-nil}
use Rattle.ver_ast.specs.Pieces.{place_after}
use Rattle.ver_fault.specs.View.{vfault_of}
use Rattle.ver_parse.specs.Fronts.{IsText}
use Rattle.ver_parse.specs.TextFaults.{TokensFault}
use Rattle.ver_parse.specs.working.Reading.{whole}
use Rattle.ver_parse.proofs.Shallow.{shallow}
use Rattle.ver_parse.proofs.Told.{told}
use Rattle.ver_parse.proofs.Passes.{passes}
use Rattle.ver_parse.proofs.Begins.{begins}
use Rattle.ver_parse.proofs.text.parse.Goals as goal

pub returns-in-None : goal.returns-in-None
returns-in-None c = record {
  whole = sym c.stop.ensures ∙ c.in-None.is;
  spells = c.in-Ok.ensures.spells;
  places_are = c.in-Ok.ensures.places_are;
  shallow = shallow c.args.tokens.now.tokens whole c.in-Ok.ensures.complete;
}

pub returns-in-Some : goal.returns-in-Some
returns-in-Some c =
    let ts = c.args.tokens.now.tokens in
    subst (λ o. TokensFault (place_after c.args.tokens.now.text) ts o (vfault_of c.byte_fault.result)) (sym (sym c.stop.ensures ∙ c.in-Some.is))
    (inr (ap vfault_of c.byte_fault.ensures, ([], subst IsText (sym (append-nil ts)) (c.in-Ok.tree, c.in-Ok.ensures.spells)), shallow ts whole c.in-Ok.ensures.complete))

pub returns-in-Err : goal.returns-in-Err
returns-in-Err c = told passes begins c.args.tokens.now c.in-Err.stop c.fault_of.result c.in-Err.ensures c.fault_of.ensures
