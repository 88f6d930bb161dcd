-- A valid tree is judged so by the walk.
use Rattle.std.proofs.Common.{◌≡◌, ℕ, ◌+◌, List, [], ◌++◌, map, flat_map, Bool, true, false, refl, sym, ◌∙◌, inl, inr, ⊎_elim, subst}
use Rattle.fir_base.specs.Lists.{In, Distinct}
use Rattle.fir_base.specs.Words.{is_among}
use Rattle.fir_base.specs.declared.direction.Direction.{Direction}
use Rattle.fir_base.specs.declared.direction.Direction.TheVariants.{Input as InputPort, Output as OutputPort}
use Rattle.fir_base.proofs.Each.{all_from}
use Rattle.fir_base.proofs.Members.{in_map, in_map_from, in_left, in_right, in_flat_map}
use Rattle.ver_ast.specs.declared.tree.Verilog.{Verilog}
use Rattle.ver_ast.specs.declared.tree.Port.{Port}
use Rattle.ver_ast.specs.declared.tree.Assign.{Assign}
use Rattle.ver_ast.specs.declared.tree.Item.{Item}
use Rattle.ver_ast.specs.declared.tree.Item.TheVariants as item
use Rattle.ver_ast.specs.Nets.{SizedNet, Variable, plain_block, resetting_block, writing_block, item_block, input_nets, output_nets, output_clocks, wires, regs, nets, assigns, clock_assigns, targets, names_of}
use Rattle.ver_ast.specs.Valid.{Valid}
use Rattle.ver_ast.proofs.Chosen.{among}
use Rattle.ver_ast.proofs.Nets.{net_is_source_or_driven}
use Rattle.ver_valid.specs.declared.declared.Declared.{Declared}
use Rattle.ver_valid.specs.declared.declared.Declared.TheVariants.{ClockInput, ClockOutput, Input, Output, Wire, Register, Array}
use Rattle.ver_valid.specs.working.Declarations.{entries, port_entry, port_kind, item_entries, IsNarrow, IsNarrowKind}
use Rattle.ver_valid.specs.working.Kinds.{net_width, sized, array_entry}
use Rattle.ver_valid.specs.working.Scopes.{IsFine, driven_nets}
use Rattle.ver_valid.specs.working.Walks.{IsNextAssign, IsPortDriven, IsItemDriven, IsOutputDriven, IsWalked, assigned_names, no_items}
use Rattle.ver_valid.proofs.Entries.{nets_are, arrays_are}
use Rattle.ver_valid.proofs.Fine.{fine_width}
use Rattle.ver_valid.proofs.Times.{entries_once, assigned_once}
use Rattle.ver_valid.proofs.Behind.{IsSoundItem, items_walked, fine_before}
use Rattle.ver_valid.proofs.BehindPorts.{port_names, IsPlainPort, port_names_are, ports_walked}
use Rattle.ver_valid.proofs.DrivenKinds.{driven_is_net}
use Rattle.ver_valid.proofs.TreeMembers.{assign_at, clock_assign_at, in_assigns, in_clock_assigns, target_in, wire_in, output_in, clock_output_in}

module _ (v : Verilog) (h : Valid v) where
  net_here : (n : List ℕ) (d : Declared) (w : ℕ) → In (entries v) (n, d) → In {A = SizedNet} (sized net_width (n, d)) (n, w) → IsNarrow w
  net_here n d w m i = h.narrow n w (subst (λ (xs : List SizedNet). In xs (n, w)) (sym (nets_are v)) (in_flat_map (sized net_width) (entries v) (n, d) (n, w) m i))

  narrow_entry : (n : List ℕ) (d : Declared) → In (entries v) (n, d) → IsNarrowKind d
  narrow_entry n ClockInput m = tt
  narrow_entry n ClockOutput m = tt
  narrow_entry n (Input w) m = net_here n (Input w) w m (inl refl)
  narrow_entry n (Output w) m = net_here n (Output w) w m (inl refl)
  narrow_entry n (Wire w) m = net_here n (Wire w) w m (inl refl)
  narrow_entry n (Register w) m = net_here n (Register w) w m (inl refl)
  narrow_entry n (Array w last) m =
      let k : Variable = record { name = n; width = w; depth = last + 1 } in
      h.narrow_words k (subst (λ (xs : List Variable). In xs k) (sym (arrays_are v)) (in_flat_map array_entry (entries v) (n, Array w last) k m (inl refl)))

  fine : IsFine v
  fine = record { once = entries_once v h.declared_once; narrow = λ e m. narrow_entry e.0 e.1 m }

  assigned_net : (n : List ℕ) → In (targets (assigns v)) n → In (assigned_names v) n
  assigned_net n m =
      let a = in_map_from (λ (a : Assign). a.target) (assigns v) n m in
      subst (In (assigned_names v)) a.2 (target_in v a.0 (assign_at v a.0 a.1).0)

  assigned_clock : (n : List ℕ) → In (targets (clock_assigns v)) n → In (assigned_names v) n
  assigned_clock n m =
      let a = in_map_from (λ (a : Assign). a.target) (clock_assigns v) n m in
      subst (In (assigned_names v)) a.2 (target_in v a.0 (clock_assign_at v a.0 a.1).0)

  -- an assign of a net drives a wire or an output of its width
  drives_net : (a : Assign) → In (assigns v) a → (w : ℕ) → In (nets v) (a.target, w) → In (driven_nets v) (a.target, w)
  drives_net a m w net =
      let target = in_map (λ (a : Assign). a.target) (assigns v) a m in
      ⊎_elim
      (λ (source : In (input_nets v ++ regs v) (a.target, w)). absurd (h.undriven_sources a.target (in_map (λ (s : SizedNet). s.0) (input_nets v ++ regs v) (a.target, w) source) target))
      (λ (i : In (names_of (driven_nets v)) a.target).
      let s = in_map_from (λ (s : SizedNet). s.0) (driven_nets v) a.target i in
      let own : In (driven_nets v) (a.target, s.0.1) = subst (λ (x : List ℕ). In (driven_nets v) (x, s.0.1)) s.2 s.1 in
      let one = fine_width v fine a.target w net in
      let two = fine_width v fine a.target s.0.1 (driven_is_net v fine.once a.target s.0.1 own) in
      subst (λ (x : ℕ). In (driven_nets v) (a.target, x)) (sym two ∙ one) own)
      (net_is_source_or_driven v (a.target, w) net)

  sound_assign : (a : Assign) → In v.items (item.Assign a) → (b : Bool) → is_among (output_clocks v) a.target ≡ b → IsNextAssign v a
  sound_assign a m true e = inl (among (output_clocks v) a.target e, h.clock_sides a (in_clock_assigns v a m e))
  sound_assign a m false e =
      let own = in_assigns v a m e in
      let s = h.sound_assigns a own in
      inr (s.0, drives_net a own s.0 s.1, s.2)

  sound_item : (i : Item) → In v.items i → IsSoundItem v i
  sound_item (item.Wire n) m = tt
  sound_item (item.Reg n) m = tt
  sound_item (item.Array a) m = tt
  sound_item (item.Assign a) m = sound_assign a m (is_among (output_clocks v) a.target) refl
  sound_item (item.Always b) m = h.sound_blocks (plain_block b) (in_flat_map item_block v.items (item.Always b) (plain_block b) m (inl refl))
  sound_item (item.Resetting b) m = h.sound_blocks (resetting_block b) (in_flat_map item_block v.items (item.Resetting b) (resetting_block b) m (inl refl))
  sound_item (item.Writing b) m = h.sound_blocks (writing_block b) (in_flat_map item_block v.items (item.Writing b) (writing_block b) m (inl refl))

  driven_output : (p : Port) → In v.ports p → (d : Direction) (b : Bool) → p.direction ≡ d → p.is_clock ≡ b → IsOutputDriven (assigned_names v) d p.name
  driven_output p m InputPort b d e = tt
  driven_output p m OutputPort true d e = assigned_clock p.name (h.driven_clocks p.name (clock_output_in v p m d e))
  driven_output p m OutputPort false d e =
      assigned_net p.name (h.driven p.name (in_map (λ (s : SizedNet). s.0) (driven_nets v) (p.name, p.width)
      (in_right (wires v) (output_nets v) (p.name, p.width) (output_in v p m d e))))

  driven_item : (i : Item) → In v.items i → IsItemDriven (assigned_names v) i
  driven_item (item.Wire n) m =
      assigned_net n.name (h.driven n.name (in_map (λ (s : SizedNet). s.0) (driven_nets v) (n.name, n.width)
      (in_left (wires v) (output_nets v) (n.name, n.width) (wire_in v n m))))
  driven_item _ m = tt

  narrow_port : (p : Port) → In v.ports p → IsNarrowKind (port_kind p)
  narrow_port p m =
      narrow_entry p.name (port_kind p) (in_left (map port_entry v.ports) (flat_map item_entries v.items) (port_entry p) (in_map port_entry v.ports p m))

  pub walked_from : IsWalked v
  walked_from = record {
    fine = fine;
    few = h.few_words;
    assigned_once = assigned_once v h.driven_once;
    written_once = h.written_once;
    ports =
        ports_walked v [] v.ports (subst Distinct (port_names_are v) (fine_before (no_items v) v.items fine).once)
        (all_from (λ (p : Port). IsNarrowKind (port_kind p)) v.ports narrow_port) (all_from IsPlainPort v.ports h.plain_clocks);
    items =
        items_walked (no_items v) v.items (port_names v.ports) (λ n m. subst (λ ns. In ns n) (sym (port_names_are v)) m) fine h.few_words
        (assigned_once v h.driven_once) h.written_once h.declared_before (all_from (IsSoundItem v) v.items sound_item);
    outputs = all_from (IsPortDriven (assigned_names v)) v.ports (λ p m. driven_output p m p.direction p.is_clock refl refl);
    wires = all_from (IsItemDriven (assigned_names v)) v.items driven_item;
  }
