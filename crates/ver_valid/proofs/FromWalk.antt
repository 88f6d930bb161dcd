-- What the walk has judged is all that a valid tree is but an order; and with it the processes are such as the search for an order asks.
use Rattle.std.proofs.Common.{◌≡◌, ℕ, List, ◌++◌, true, false, sym, ◌∙◌, inl, inr, ⊎_elim, subst}
use Rattle.std.specs.List.{AllByRecursion}
use Rattle.std.proofs.lemmas.Bool.{false_from_ne_true}
use Rattle.fir_base.specs.Lists.{In}
use Rattle.fir_base.specs.Words.{is_among}
use Rattle.fir_base.specs.declared.direction.Direction.{Direction}
use Rattle.fir_base.specs.declared.direction.Direction.TheVariants.{Input as InputPort, Output as OutputPort}
use Rattle.fir_base.proofs.Each.{all_at}
use Rattle.fir_base.proofs.Members.{in_map, in_map_from, in_either, in_flat_map_from}
use Rattle.ver_ast.specs.declared.tree.Verilog.{Verilog}
use Rattle.ver_ast.specs.declared.tree.Assign.{Assign}
use Rattle.ver_ast.specs.declared.tree.Item.{Item}
use Rattle.ver_ast.specs.declared.tree.Item.TheVariants as item
use Rattle.ver_ast.specs.Nets.{SizedNet, Variable, AlwaysBlock, input_nets, output_nets, output_clocks, wires, regs, nets, arrays, assigns, clock_assigns, targets, blocks, item_block, names_of}
use Rattle.ver_ast.specs.Processes.{Process}
use Rattle.ver_ast.specs.Valid.{Valid, DeclaredBefore, IsSoundBlock, IsClockSide, IsOrder}
use Rattle.ver_ast.specs.SoundSides.{IsSoundSide}
use Rattle.ver_ast.proofs.Chosen.{among, is_named}
use Rattle.ver_valid.specs.declared.declared.Declared.{Declared}
use Rattle.ver_valid.specs.declared.declared.Declared.TheVariants.{Array}
use Rattle.ver_valid.specs.working.Declarations.{entries, IsNarrow, IsNarrowKind}
use Rattle.ver_valid.specs.working.Kinds.{array_of, array_entry}
use Rattle.ver_valid.specs.working.Scopes.{IsFine, driven_nets}
use Rattle.ver_valid.specs.working.Walks.{IsPortDriven, IsItemDriven, IsOutputDriven, IsWalked, assigned_names, no_items, no_ports}
use Rattle.ver_valid.proofs.Entries.{arrays_are}
use Rattle.ver_valid.proofs.Fine.{fine_narrow}
use Rattle.ver_valid.proofs.DrivenKinds.{driven_is_net, not_both, not_source}
use Rattle.ver_valid.proofs.Times.{kinds_once, targets_once}
use Rattle.ver_valid.proofs.Behind.{IsSoundItem, walked_items}
use Rattle.ver_valid.proofs.BehindPorts.{port_names, IsPlainPort, port_names_are, plain_ports}
use Rattle.ver_valid.proofs.TreeMembers.{assign_at, clock_assign_at, in_assigns, in_clock_assigns, assigned_at, wire_at, output_at, clock_output_at}

narrow_array : (n : List ℕ) (d : Declared) (k : Variable) → In (array_of n d) k → IsNarrowKind d → IsNarrow k.width
narrow_array n (Array x last) k (inl e) h = subst (λ (y : Variable). IsNarrow y.width) e h
narrow_array n (Array x last) k (inr i) h = absurd i
narrow_array n _ k i h = absurd i

output_assigned : (ns : List (List ℕ)) (d : Direction) (n : List ℕ) → d ≡ OutputPort → IsOutputDriven ns d n → In ns n
output_assigned ns InputPort n e h = cc
output_assigned ns OutputPort n e h = h

module _ (v : Verilog) (fine : IsFine v) where
  driven_name : (n : List ℕ) → (w : ℕ) × In (driven_nets v) (n, w) → In (assigned_names v) n → In (targets (assigns v)) n
  driven_name n net m =
      let r = assigned_at v n m in
      let other : is_among (output_clocks v) r.0.target ≡ false =
      false_from_ne_true (is_among (output_clocks v) r.0.target)
      (λ t. not_both v fine.once n net.0 net.1 (subst (In (output_clocks v)) r.2 (among (output_clocks v) r.0.target t))) in
      subst (In (targets (assigns v))) r.2 (in_map (λ (a : Assign). a.target) (assigns v) r.0 (in_assigns v r.0 r.1 other))

  -- what has to be driven is
  module _ (outputs : AllByRecursion (IsPortDriven (assigned_names v)) v.ports) (wires_driven : AllByRecursion (IsItemDriven (assigned_names v)) v.items) where
    pub all_driven : (n : List ℕ) → In (names_of (wires v ++ output_nets v)) n → In (targets (assigns v)) n
    all_driven n m =
        let r = in_map_from (λ (s : SizedNet). s.0) (wires v ++ output_nets v) n m in
        let net : In (driven_nets v) (n, r.0.1) = subst (λ (x : List ℕ). In (driven_nets v) (x, r.0.1)) r.2 r.1 in
        driven_name n (r.0.1, net)
        (⊎_elim
        (λ (i : In (wires v) r.0).
        let q = wire_at v r.0 i in
        subst (In (assigned_names v)) (q.2 ∙ r.2) (all_at (IsItemDriven (assigned_names v)) v.items wires_driven (item.Wire q.0) q.1))
        (λ (i : In (output_nets v) r.0).
        let q = output_at v r.0 i in
        subst (In (assigned_names v)) (q.3 ∙ r.2)
        (output_assigned (assigned_names v) q.0.direction q.0.name q.2 (all_at (IsPortDriven (assigned_names v)) v.ports outputs q.0 q.1)))
        (in_either (wires v) (output_nets v) r.0 r.1))

  -- and nothing else that has bits
  module _ (driven_by : (a : Assign) → In (assigns v) a → (w : ℕ) × In (driven_nets v) (a.target, w)) where
    pub sources_undriven : (n : List ℕ) → In (names_of (input_nets v ++ regs v)) n → In (targets (assigns v)) n → ⊥
    sources_undriven n m k =
        let s = in_map_from (λ (s : SizedNet). s.0) (input_nets v ++ regs v) n m in
        let a = in_map_from (λ (a : Assign). a.target) (assigns v) n k in
        let r = driven_by a.0 a.1 in
        not_source v fine.once s.0 r.0 (subst (λ (x : List ℕ). In (driven_nets v) (x, r.0)) (a.2 ∙ sym s.2) r.1) s.1

module _ (v : Verilog) (is : IsWalked v) where
  judged : DeclaredBefore (port_names v.ports) v.items × AllByRecursion (IsSoundItem v) v.items
  judged =
      walked_items (no_items v) v.items (port_names v.ports) (λ n m. subst (λ ns. In ns n) (port_names_are v) m) is.fine is.items

  sound_at : (i : Item) → In v.items i → IsSoundItem v i
  sound_at i m = all_at (IsSoundItem v) v.items judged.1 i m

  -- an assign that is none of a clock output drives a wire or an output
  pub net_assign : (a : Assign) → In (assigns v) a → (w : ℕ) × In (driven_nets v) (a.target, w) × IsSoundSide (nets v) (arrays v) w a.rhs
  net_assign a m =
      let r = assign_at v a m in
      ⊎_elim
      (λ (h : In (output_clocks v) a.target × IsClockSide v a.rhs). absurd (let t = is_named (output_clocks v) a.target h.0 in let f = r.1 in cc))
      (λ (h : (w : ℕ) × In (driven_nets v) (a.target, w) × IsSoundSide (nets v) (arrays v) w a.rhs). h)
      (sound_at (item.Assign a) r.0)

  clock_assign : (a : Assign) → In (clock_assigns v) a → IsClockSide v a.rhs
  clock_assign a m =
      let r = clock_assign_at v a m in
      ⊎_elim
      (λ (h : In (output_clocks v) a.target × IsClockSide v a.rhs). h.1)
      (λ (h : (w : ℕ) × In (driven_nets v) (a.target, w) × IsSoundSide (nets v) (arrays v) w a.rhs).
      absurd (not_both v is.fine.once a.target h.0 h.1 (among (output_clocks v) a.target r.1)))
      (sound_at (item.Assign a) r.0)

  clocks_driven : (n : List ℕ) → In (output_clocks v) n → In (targets (clock_assigns v)) n
  clocks_driven n m =
      let q = clock_output_at v n m in
      let r = assigned_at v n
      (subst (In (assigned_names v)) q.3 (output_assigned (assigned_names v) q.0.direction q.0.name q.2 (all_at (IsPortDriven (assigned_names v)) v.ports is.outputs q.0 q.1))) in
      let own : is_among (output_clocks v) r.0.target ≡ true = is_named (output_clocks v) r.0.target (subst (In (output_clocks v)) (sym r.2) m) in
      subst (In (targets (clock_assigns v))) r.2 (in_map (λ (a : Assign). a.target) (clock_assigns v) r.0 (in_clock_assigns v r.0 r.1 own))

  block_of : (i : Item) (b : AlwaysBlock) → In (item_block i) b → IsSoundItem v i → IsSoundBlock v b
  block_of (item.Always x) b (inl e) h = subst (IsSoundBlock v) e h
  block_of (item.Always x) b (inr m) h = absurd m
  block_of (item.Resetting x) b (inl e) h = subst (IsSoundBlock v) e h
  block_of (item.Resetting x) b (inr m) h = absurd m
  block_of (item.Writing x) b (inl e) h = subst (IsSoundBlock v) e h
  block_of (item.Writing x) b (inr m) h = absurd m
  block_of _ b m h = absurd m

  pub all_blocks : (b : AlwaysBlock) → In (blocks v) b → IsSoundBlock v b
  all_blocks b m = let r = in_flat_map_from item_block v.items b m in block_of r.0 b r.2 (sound_at r.0 r.1)

  narrow_words : (k : Variable) → In (arrays v) k → IsNarrow k.width
  narrow_words k m =
      let r = in_flat_map_from array_entry (entries v) k (subst (λ (xs : List Variable). In xs k) (arrays_are v) m) in
      narrow_array r.0.0 r.0.1 k r.2 (is.fine.narrow r.0 r.1)

  pub valid_from : ((order : List Process) × IsOrder v order) → Valid v
  valid_from ordered = record {
    declared_once = kinds_once v is.fine.once;
    declared_before = judged.0;
    plain_clocks = λ p m c. all_at IsPlainPort v.ports (plain_ports (no_ports v) v.ports is.ports) p m c;
    narrow = λ n w m. fine_narrow v is.fine n w m;
    narrow_words = narrow_words;
    few_words = is.few;
    sound_assigns = λ a m. let r = net_assign a m in (r.0, driven_is_net v is.fine.once a.target r.0 r.1, r.2);
    driven_once = targets_once v is.assigned_once;
    driven = all_driven v is.fine is.outputs is.wires;
    driven_clocks = clocks_driven;
    clock_sides = clock_assign;
    undriven_sources = sources_undriven v is.fine (λ a m. let r = net_assign a m in (r.0, r.1));
    sound_blocks = all_blocks;
    written_once = is.written_once;
    ordered = ordered;
  }
