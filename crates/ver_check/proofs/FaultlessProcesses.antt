-- Of a tree without a fault enough is known for a search for an order of its processes, however many braces are open in its operands.
use Rattle.std.proofs.Common.{◌≡◌, ℕ, List, [], ◌∷◌, true, false, refl, sym, ap, ◌∙◌, inl, inr, ⊎_elim, subst}
use Rattle.fir_base.specs.Lists.{In, EachIn}
use Rattle.fir_base.specs.Words.{is_among}
use Rattle.fir_base.proofs.Each.{all_at}
use Rattle.fir_base.proofs.Members.{in_flat_map_from, in_map}
use Rattle.ver_ast.specs.declared.tree.Verilog.{Verilog}
use Rattle.ver_ast.specs.declared.tree.Assign.{Assign}
use Rattle.ver_ast.specs.declared.tree.Item.{Item}
use Rattle.ver_ast.specs.declared.tree.Item.TheVariants as item
use Rattle.ver_ast.specs.declared.tree.Resetting.{Resetting}
use Rattle.ver_ast.specs.Names.{rhs_names}
use Rattle.ver_ast.specs.Nets.{AlwaysBlock, SizedNet, assigns, block_reset, blocks, item_block, names_of, nets, output_clocks, regs, resets}
use Rattle.ver_ast.proofs.Chosen.{is_named}
use Rattle.ver_valid.specs.working.Scopes.{driven_nets}
use Rattle.ver_valid.specs.working.Walks.{no_items, no_ports}
use Rattle.ver_valid.proofs.Ready.{IsReady}
use Rattle.ver_valid.proofs.TreeMembers.{assign_at}
use Rattle.ver_places.specs.Places.{item_places, port_places}
use Rattle.ver_check.specs.TreeFaults.{before_items, behind_all, items_faults, misfits, nothing_before, ports_faults, undriven}
use Rattle.ver_check.proofs.DueNames.{AreDriven, all_driven, outputs_driven, wires_driven}
use Rattle.ver_check.proofs.Faultless.{first_empty, second_empty}
use Rattle.ver_check.proofs.FaultlessTrees.{behind_ports}
use Rattle.ver_check.proofs.Mirrors.{bits_net, bits_register, clock_output_in, output_in, wire_in}
use Rattle.ver_check.proofs.ReadNames.{HaveBits, IsKnown, items_known}
use Rattle.ver_check.proofs.StepsBehind.{Stands}
use Rattle.ver_check.proofs.WalksBehind.{faultless_ports, faultless_stands, stands_first}

module _ (v : Verilog) where
  block_at : (i : Item) (c : AlwaysBlock) (b : Resetting) → In (item_block i) c → In (block_reset c) b → i ≡ item.Resetting b
  block_at (item.Wire n) c b m k = absurd m
  block_at (item.Reg n) c b m k = absurd m
  block_at (item.Array a) c b m k = absurd m
  block_at (item.Assign a) c b m k = absurd m
  block_at (item.Always x) c b (inl e) k = absurd (subst (λ (d : AlwaysBlock). In (block_reset d) b) (sym e) k)
  block_at (item.Always x) c b (inr m) k = absurd m
  block_at (item.Resetting x) c b (inl e) k =
      ⊎_elim (λ (s : x ≡ b). ap item.Resetting s) (λ (no : ⊥). absurd no) (subst (λ (d : AlwaysBlock). In (block_reset d) b) (sym e) k)
  block_at (item.Resetting x) c b (inr m) k = absurd m
  block_at (item.Writing x) c b (inl e) k = absurd (subst (λ (d : AlwaysBlock). In (block_reset d) b) (sym e) k)
  block_at (item.Writing x) c b (inr m) k = absurd m

  -- an asynchronous block is an item
  pub reset_at : (b : Resetting) → In (resets v) b → In v.items (item.Resetting b)
  reset_at b m =
      let c = in_flat_map_from block_reset (blocks v) b m in
      let i = in_flat_map_from item_block v.items c.0 c.1 in
      subst (In v.items) (block_at i.0 c.0 b i.2 c.2) i.1

module _ (v : Verilog) (faultless : misfits v ≡ []) (driven_all : undriven v ≡ []) where
  ports_none : ports_faults nothing_before v.ports (port_places v) ≡ []
  ports_none = first_empty _ (items_faults (before_items v) v.items (item_places v)) faultless

  items_none : items_faults (before_items v) v.items (item_places v) ≡ []
  items_none = second_empty (ports_faults nothing_before v.ports (port_places v)) _ faultless

  stands : Stands (behind_all v) v
  stands =
      faultless_stands (before_items v) (no_items v) v.items (item_places v)
      (behind_ports v (faultless_ports nothing_before (no_ports v) v.ports (port_places v) refl (stands_first v) ports_none)) items_none

  due : AreDriven v
  due = all_driven (behind_all v) v stands.mirrors driven_all

  known : (i : Item) → In v.items i → IsKnown (behind_all v).scope i
  known i m = all_at (IsKnown (behind_all v).scope) v.items (items_known (before_items v) v.items (item_places v) items_none) i m

  net_names : (ns : List (List ℕ)) → HaveBits (behind_all v).scope ns → EachIn ns (names_of (nets v))
  net_names [] h = tt
  net_names (n ∷ ns) h =
      (in_map (λ (s : SizedNet). s.0) (nets v) (n, h.0.0) (bits_net (behind_all v) v stands.mirrors stands.fine n h.0.0 h.0.1), net_names ns h.1)

  assign_known : (a : Assign) → In (assigns v) a → ((w : ℕ) × In (driven_nets v) (a.target, w)) × EachIn (rhs_names a.rhs) (names_of (nets v))
  assign_known a m = let r = assign_at v a m in by r.1 (known (item.Assign a) r.0)
    where
      by : is_among (output_clocks v) a.target ≡ false → IsKnown (behind_all v).scope (item.Assign a)
          → ((w : ℕ) × In (driven_nets v) (a.target, w)) × EachIn (rhs_names a.rhs) (names_of (nets v))
      by other (inl e) =
          let yes : is_among (output_clocks v) a.target ≡ true =
          is_named (output_clocks v) a.target (clock_output_in (behind_all v) v stands.mirrors stands.fine a.target e) in
          absurd (let f : true ≡ false = sym yes ∙ other in cc)
      by other (inr (((w, inl e), h))) = ((w, wire_in (behind_all v) v stands.mirrors stands.fine a.target w e), net_names (rhs_names a.rhs) h)
      by other (inr (((w, inr e), h))) = ((w, output_in (behind_all v) v stands.mirrors stands.fine a.target w e), net_names (rhs_names a.rhs) h)

  reset_known : (b : Resetting) → In (resets v) b → In (nets v) (b.reset, 1) × In (regs v) (b.target, b.value.width)
  reset_known b m =
      let h = known (item.Resetting b) (reset_at v b m) in (
        bits_net (behind_all v) v stands.mirrors stands.fine b.reset 1 h.0,
        bits_register (behind_all v) v stands.mirrors stands.fine b.target b.value.width h.1,
      )

  pub faultless_ready : IsReady v
  faultless_ready = record {
    fine = stands.fine;
    assigned_once = stands.assigned_once;
    written_once = stands.written_once;
    outputs = outputs_driven v due;
    wires_driven = wires_driven v due;
    assign_of = λ a m. (assign_known a m).0;
    assign_reads = λ a m. (assign_known a m).1;
    reset_of = reset_known;
  }
