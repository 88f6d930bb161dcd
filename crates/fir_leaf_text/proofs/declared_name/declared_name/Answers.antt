use Rattle.std.proofs.Common.{Some, refl, sym, ap, ◌∙◌}
use Rattle.std.proofs.lemmas.Option.{slice_get_read}
use Rattle.fir_ast.specs.declared.circuit.Port.{Port}
use Rattle.fir_leaf_text.proofs.ModuleNames.{none_there, port_there, statement_there}
use Rattle.fir_leaf_text.proofs.declared_name.declared_name.Goals as goal

pub returns-then-position-ports : goal.returns-then-position-ports
returns-then-position-ports c =
    let m = c.args.part.now in
    let ports = c.as_slice-ports.result.now in
    let port = c.index-ports-position.result in
    ap (λ (p : Port). Some p.ident.name) (sym c.index-ports-position.is)
    ∙ port_there m ports m.body.items c.as_slice-ports.ensures.value refl c.args.position port
    (slice_get_read ports _ c.args.position port refl c.if-position-ports.true c.index-ports-position.is)

pub returns-in-Found : goal.returns-in-Found
returns-in-Found c =
    statement_there c.args.part.now c.as_slice-ports.result.now c.deref.result.now c.as_slice-ports.ensures.value c.deref.ensures.value c.args.position
    c.in-Found.name.now c.if-position-ports.false c.in-Found.ensures

pub returns-in-Left : goal.returns-in-Left
returns-in-Left c =
    none_there c.args.part.now c.as_slice-ports.result.now c.deref.result.now c.as_slice-ports.ensures.value c.deref.ensures.value c.args.position
    c.in-Left.field-0 c.if-position-ports.false c.in-Left.ensures
