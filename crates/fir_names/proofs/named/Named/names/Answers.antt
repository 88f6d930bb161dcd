use Rattle.std.proofs.Common.{◌∙◌, ap, subst, slice_get}
use Rattle.fir_ast.specs.declared.circuit.Circuit.{Circuit}
use Rattle.fir_ast.specs.working.Views.{circuit_of}
use Rattle.fir_meaning.specs.Mentions.{module_names}
use Rattle.fir_names.specs.working.Judged.{TabulatesEach}
use Rattle.fir_names.proofs.TablesByNumber.{item_is, lent_table}
use Rattle.fir_names.proofs.named.Named.names.Goals as goal

pub returns : goal.returns
returns c = λ m is.
    let tabulated = subst (λ (x : Circuit). TabulatesEach (module_names (circuit_of x)) c.self.inside.tables.items (circuit_of x).modules) c.self.view_is
    c.self.invariant.tabulated in
    lent_table (module_names (circuit_of c.args.self.now)) c.self.inside.tables.items (circuit_of c.args.self.now).modules tabulated c.args.module_number m is
    c.get.result
    (item_is c.deref.result.now c.args.module_number c.get.result c.get.ensures.lookup ∙ ap (λ ts. slice_get ts c.args.module_number) c.deref.ensures.value)
