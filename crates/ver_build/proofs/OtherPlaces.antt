-- A tree that is built for a net is built for it with other places too: what is asked of it speaks of its name, its ports and its items alone.
use Rattle.std.proofs.Common.{ℕ, List}
use Rattle.fir_net.specs.Rows.{ArrayRow, Row, Word}
use Rattle.ver_ast.specs.declared.place.VPlace.{VPlace}
use Rattle.ver_ast.specs.declared.tree.Verilog.{Verilog}
use Rattle.ver_ast.specs.working.Laws.{with_places, PlacesCountForNothing}
use Rattle.ver_build.specs.NamedFor.{IsNamedFor}
use Rattle.ver_build.specs.Arranged.{IsArranged}
use Rattle.ver_build.specs.working.Laws.{BuiltHasAnyPlaces}

named_too : (name : List ℕ) (rows : List Row) (words : List Word) (arrays : List ArrayRow) (v : Verilog) (places : List VPlace)
    → IsNamedFor name rows words arrays v → IsNamedFor name rows words arrays (with_places v places)
named_too name rows words arrays v places h = record {
  circuit = h.circuit;
  ports = h.ports;
  state = h.state;
  array_state = h.array_state;
  named_leaves = h.named_leaves;
  named_wires = h.named_wires;
  spelled = record { of_module = h.spelled.of_module; of_ports = h.spelled.of_ports; of_items = h.spelled.of_items };
}

abbrev arranged_too : (v : Verilog) (places : List VPlace) → IsArranged v → IsArranged (with_places v places)
arranged_too v places h = record {
  always = h.always;
  by_kind = h.by_kind;
  assigns_in_order = h.assigns_in_order;
  after_what_is_read = h.after_what_is_read;
  clock_assigns_in_order = h.clock_assigns_in_order;
  with_block = h.with_block;
  with_writes = h.with_writes;
  blocks_in_order = h.blocks_in_order;
}

pub has_any_places : PlacesCountForNothing → BuiltHasAnyPlaces
has_any_places same net v places h =
    let alike = same v places in
    record {
      named = named_too _ _ _ _ v places h.named;
      arranged = arranged_too v places h.arranged;
      with_blocks = h.with_blocks;
      valid = alike.0.0 h.valid;
      shapes = h.shapes;
      one = alike.1.0 h.one;
      allows = λ state tick shown clocks after.
          let here = alike.2 state tick shown clocks after in
          let there = h.allows state tick shown clocks after in
          (λ a. there.0 (here.1 a), λ a. here.0 (there.1 a));
    }
