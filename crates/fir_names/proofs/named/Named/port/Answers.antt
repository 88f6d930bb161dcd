use Rattle.std.proofs.Common.{◌≡◌, ◌∙◌, sym, ap, subst, map, slice_get, option_copied, option_map, Some}
use Rattle.fir_ast.specs.declared.circuit.Circuit.{Circuit}
use Rattle.fir_ast.specs.working.Views.{module_of, port_of}
use Rattle.fir_names.proofs.TablesByNumber.{item_is}
use Rattle.fir_names.proofs.PortEntries.{without_table, without_entry, without_port, without_module, with_port}
use Rattle.fir_names.proofs.named.Named.port.Goals as goal

pub returns-in_err-get : goal.returns-in_err-get
returns-in_err-get c = λ m is.
    let tree = c.self.inside.circuit in
    let here = subst (λ (x : Circuit). slice_get (map module_of x.modules.items) c.args.module_number ≡ Some m) (sym c.self.view_is) is in
    let tables = ap (λ ts. slice_get ts c.args.module_number) (sym c.deref.ensures.value)
    ∙ sym (item_is c.deref.result.now c.args.module_number c.get.result c.get.ensures.lookup) ∙ ap option_copied c.in_err-get.was in
    ap (λ r. option_map port_of (option_copied r)) c.from_residual.ensures
    ∙ without_table tree c.self.inside.tables.items c.self.inside.order.items c.self.invariant c.args.module_number c.args.name.now m here tables

pub returns-in_err-declaration : goal.returns-in_err-declaration
returns-in_err-declaration c = λ m is.
    let tree = c.self.inside.circuit in
    let here = subst (λ (x : Circuit). slice_get (map module_of x.modules.items) c.args.module_number ≡ Some m) (sym c.self.view_is) is in
    let table = ap (λ ts. slice_get ts c.args.module_number) (sym c.deref.ensures.value)
    ∙ sym (item_is c.deref.result.now c.args.module_number c.get.result c.get.ensures.lookup) ∙ ap option_copied c.in_ok-get.was in
    ap (λ r. option_map port_of (option_copied r)) c.from_residual-in_err-declaration.ensures
    ∙ without_entry tree c.self.inside.tables.items c.self.inside.order.items c.self.invariant c.args.module_number c.args.name.now m here
    c.in_ok-get.field-0.now table (sym c.find.ensures ∙ ap option_copied c.in_err-declaration.was)

pub returns-in_default : goal.returns-in_default
returns-in_default c = λ m is.
    let tree = c.self.inside.circuit in
    let here = subst (λ (x : Circuit). slice_get (map module_of x.modules.items) c.args.module_number ≡ Some m) (sym c.self.view_is) is in
    let table = ap (λ ts. slice_get ts c.args.module_number) (sym c.deref.ensures.value)
    ∙ sym (item_is c.deref.result.now c.args.module_number c.get.result c.get.ensures.lookup) ∙ ap option_copied c.in_ok-get.was in
    without_port tree c.self.inside.tables.items c.self.inside.order.items c.self.invariant c.args.module_number c.args.name.now m here
    c.in_ok-get.field-0.now table c.in_ok-declaration.declaration.now (sym c.find.ensures ∙ ap option_copied c.in_ok-declaration.was)
    c.in_default.not-Port

pub returns-in_err-part : goal.returns-in_err-part
returns-in_err-part c = λ m is.
    let tree = c.self.inside.circuit in
    let here = subst (λ (x : Circuit). slice_get (map module_of x.modules.items) c.args.module_number ≡ Some m) (sym c.self.view_is) is in
    let part = ap (λ ms. slice_get ms c.args.module_number) (sym c.as_slice.ensures.value)
    ∙ sym (item_is c.as_slice.result.now c.args.module_number c.get-2.result c.get-2.ensures.lookup) ∙ ap option_copied c.in_err-part.was in
    ap (λ r. option_map port_of (option_copied r)) c.from_residual-in_err-part.ensures
    ∙ without_module tree c.self.inside.tables.items c.self.inside.order.items c.self.invariant c.args.module_number c.args.name.now m here part

pub returns : goal.returns
returns c = λ m is.
    let tree = c.self.inside.circuit in
    let here = subst (λ (x : Circuit). slice_get (map module_of x.modules.items) c.args.module_number ≡ Some m) (sym c.self.view_is) is in
    let table = ap (λ ts. slice_get ts c.args.module_number) (sym c.deref.ensures.value)
    ∙ sym (item_is c.deref.result.now c.args.module_number c.get.result c.get.ensures.lookup) ∙ ap option_copied c.in_ok-get.was in
    let part = ap (λ ms. slice_get ms c.args.module_number) (sym c.as_slice.ensures.value)
    ∙ sym (item_is c.as_slice.result.now c.args.module_number c.get-2.result c.get-2.ensures.lookup) ∙ ap option_copied c.in_ok-part.was in
    let port = item_is c.as_slice-2.result.now c.in_ok-declaration.declaration.now.position c.get-3.result c.get-3.ensures.lookup
    ∙ ap (λ ps. slice_get ps c.in_ok-declaration.declaration.now.position) c.as_slice-2.ensures.value in
    ap (option_map port_of) port
    ∙ with_port tree c.self.inside.tables.items c.self.inside.order.items c.self.invariant c.args.module_number c.args.name.now m here
    c.in_ok-get.field-0.now table c.in_ok-declaration.declaration.now (sym c.find.ensures ∙ ap option_copied c.in_ok-declaration.was)
    c.in-Port.field-0 c.in-Port.is c.in_ok-part.part.now part
