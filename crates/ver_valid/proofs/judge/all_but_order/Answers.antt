use Rattle.std.proofs.Common.{List, refl, sym, subst, arith}
use Rattle.std.specs.List.{AllByRecursion}
use Rattle.ver_ast.specs.declared.tree.Port.{Port}
use Rattle.ver_ast.specs.declared.tree.Item.{Item}
use Rattle.ver_valid.specs.working.Walks.{AreNextItems, AreNextPorts, IsItemDriven, IsPortDriven, IsWalked, Reflects, assigned_names, no_items, no_ports, with_items, with_ports}
use Rattle.ver_valid.proofs.Judging.{judged_err, judged_same, denied_more}
use Rattle.ver_valid.proofs.judge.all_but_order.Goals as goal

pub returns-in_err-take_ports : goal.returns-in_err-take_ports
returns-in_err-take_ports c =
    let v = c.args.v.now in
    judged_err c.from_residual.result _ (IsWalked v) c.from_residual.ensures.1
    (denied_more _ (AreNextPorts (no_ports v) c.as_slice-ports.result.now) (IsWalked v)
    (λ w. subst (AreNextPorts (no_ports v)) (sym c.as_slice-ports.ensures) w.ports)
    (c.in_err-take_ports.ensures (no_ports v) refl (c.new-walk.ensures (no_ports v) refl refl)))

pub returns-in_err-take_items : goal.returns-in_err-take_items
returns-in_err-take_items c =
    let v = c.args.v.now in
    let ports = c.in_ok-take_ports.ensures (no_ports v) refl (c.new-walk.ensures (no_ports v) refl refl) in
    let known : Reflects c.take_ports.new.self (no_items v) =
    subst (λ (ps : List Port). Reflects c.take_ports.new.self (with_ports (no_ports v) ps)) c.as_slice-ports.ensures ports.1 in
    judged_err c.from_residual-in_err-take_items.result _ (IsWalked v) c.from_residual-in_err-take_items.ensures.1
    (denied_more _ (AreNextItems (no_items v) c.as_slice-items.result.now) (IsWalked v)
    (λ w. subst (AreNextItems (no_items v)) (sym c.as_slice-items.ensures) w.items) (c.in_err-take_items.ensures (no_items v) known))

pub returns : goal.returns
returns c =
    let v = c.args.v.now in
    let ports = c.in_ok-take_ports.ensures (no_ports v) refl (c.new-walk.ensures (no_ports v) refl refl) in
    let known : Reflects c.take_ports.new.self (no_items v) =
    subst (λ (ps : List Port). Reflects c.take_ports.new.self (with_ports (no_ports v) ps)) c.as_slice-ports.ensures ports.1 in
    let items = c.in_ok-take_items.ensures (no_items v) known in
    let whole : Reflects c.take_items.new.self v =
    subst (λ (is : List Item). Reflects c.take_items.new.self (with_items (no_items v) is)) c.as_slice-items.ensures items.1 in
    let room = whole.room in
    let ns = assigned_names v in
    judged_same c.all_driven.result (AllByRecursion (IsPortDriven ns) c.as_slice-ports.result.now × AllByRecursion (IsItemDriven ns) c.as_slice-items.result.now)
    (IsWalked v)
    (λ d. record {
      fine = record { once = whole.tells.once; narrow = whole.tells.narrow };
      few = omega arith;
      assigned_once = whole.assigned.once;
      written_once = whole.written.once;
      ports = subst (AreNextPorts (no_ports v)) c.as_slice-ports.ensures ports.0;
      items = subst (AreNextItems (no_items v)) c.as_slice-items.ensures items.0;
      outputs = subst (AllByRecursion (IsPortDriven ns)) c.as_slice-ports.ensures d.0;
      wires = subst (AllByRecursion (IsItemDriven ns)) c.as_slice-items.ensures d.1;
    })
    (λ w. (
      subst (AllByRecursion (IsPortDriven ns)) (sym c.as_slice-ports.ensures) w.outputs,
      subst (AllByRecursion (IsItemDriven ns)) (sym c.as_slice-items.ensures) w.wires,
    ))
    (c.all_driven.ensures ns whole.assigned)
