-- A tree without a fault, with an order of its processes, is valid, and a valid tree has no fault.
use Rattle.std.proofs.Common.{◌≡◌, List, [], refl}
use Rattle.ver_ast.specs.declared.tree.Verilog.{Verilog}
use Rattle.ver_ast.specs.Processes.{Process}
use Rattle.ver_ast.specs.Valid.{IsOrder, Valid}
use Rattle.ver_valid.specs.working.Walks.{AreNextItems, AreNextPorts, IsWalked, no_items, no_ports}
use Rattle.ver_valid.proofs.FromWalk.{valid_from}
use Rattle.ver_valid.proofs.ToWalk.{walked_from}
use Rattle.ver_places.specs.Places.{item_places, port_places}
use Rattle.ver_check.specs.TreeFaults.{before_items, behind_all, items_faults, misfits, nothing_before, ports_faults, undriven}
use Rattle.ver_check.specs.working.Laws.{IsShallow}
use Rattle.ver_check.proofs.DueNames.{all_driven, due_driven, none_undriven, outputs_driven, wires_driven}
use Rattle.ver_check.proofs.Faultless.{first_empty, second_empty}
use Rattle.ver_check.proofs.OwnFaults.{none_of_both}
use Rattle.ver_check.proofs.StepsBehind.{Stands}
use Rattle.ver_check.proofs.WalksBehind.{faultless_items, faultless_ports, sound_items, sound_ports, stands_first, stands_items, stands_ports}

module _ (v : Verilog) where
  pub behind_ports : AreNextPorts (no_ports v) v.ports → Stands (before_items v) (no_items v)
  behind_ports h = stands_ports nothing_before (no_ports v) v.ports (port_places v) refl (stands_first v) h

  behind_whole : AreNextPorts (no_ports v) v.ports → AreNextItems (no_items v) v.items → Stands (behind_all v) v
  behind_whole h k = stands_items (before_items v) (no_items v) v.items (item_places v) (behind_ports h) k

  walked : IsShallow v → misfits v ≡ [] → undriven v ≡ [] → IsWalked v
  walked shallow e u =
      let fs = ports_faults nothing_before v.ports (port_places v) in
      let gs = items_faults (before_items v) v.items (item_places v) in
      let ports = faultless_ports nothing_before (no_ports v) v.ports (port_places v) refl (stands_first v) (first_empty fs gs e) in
      let items = faultless_items (before_items v) (no_items v) v.items (item_places v) (behind_ports ports) shallow (second_empty fs gs e) in
      let s = behind_whole ports items in
      let driven = all_driven (behind_all v) v s.mirrors u in
      record {
        fine = s.fine;
        few = s.few;
        assigned_once = s.assigned_once;
        written_once = s.written_once;
        ports = ports;
        items = items;
        outputs = outputs_driven v driven;
        wires = wires_driven v driven;
      }

  pub faultless_is_valid : IsShallow v → misfits v ≡ [] → undriven v ≡ [] → ((order : List Process) × IsOrder v order) → Valid v
  faultless_is_valid shallow e u ordered = valid_from v (walked shallow e u) ordered

  pub valid_is_faultless : Valid v → (misfits v ≡ []) × (undriven v ≡ []) × ((order : List Process) × IsOrder v order)
  valid_is_faultless h =
      let w = walked_from v h in (
        none_of_both (ports_faults nothing_before v.ports (port_places v)) (items_faults (before_items v) v.items (item_places v))
            (sound_ports nothing_before (no_ports v) v.ports (port_places v) refl (stands_first v) w.ports)
            (sound_items (before_items v) (no_items v) v.items (item_places v) (behind_ports w.ports) w.items),
        none_undriven (behind_all v) v (behind_whole w.ports w.items).mirrors (due_driven v w.outputs w.wires),
        h.ordered,
      )
