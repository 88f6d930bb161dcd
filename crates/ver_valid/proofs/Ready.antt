-- The processes of a tree of which enough is known, as of one that the walk has judged: no two have one target, none has that of an input or of a register
-- without an asynchronous block, and each reads inputs, registers and targets.
use Rattle.std.proofs.Common.{◌≡◌, ℕ, List, [], ◌∷◌, ◌++◌, map, flat_map, true, false, not, refl, sym, ap, ◌∙◌, inl, inr, ⊎_elim, subst}
use Rattle.std.specs.List.{AllByRecursion}
use Rattle.std.proofs.lemmas.List.{map-append}
use Rattle.std.proofs.lemmas.Simd.{map-map}
use Rattle.fir_base.specs.Lists.{In, Distinct, EachIn}
use Rattle.fir_base.specs.Words.{is_among}
use Rattle.fir_base.proofs.Each.{each_more}
use Rattle.fir_base.proofs.Members.{in_map, in_map_from, in_left, in_right, in_either, in_flat_map, in_flat_map_from}
use Rattle.fir_base.proofs.Twins.{distinct_left, distinct_right, distinct_joined}
use Rattle.ver_ast.specs.declared.tree.Verilog.{Verilog}
use Rattle.ver_ast.specs.declared.tree.Assign.{Assign}
use Rattle.ver_ast.specs.declared.tree.Resetting.{Resetting}
use Rattle.ver_ast.specs.Nets.{SizedNet, AlwaysBlock, plain_block, resetting_block, writing_block, input_nets, output_nets, wires, regs, plain_regs, nets, assigns, clock_assigns, targets, blocks, block_target, block_targets, block_reset, resets, reset_targets, first_array, width_among, names_of}
use Rattle.ver_ast.specs.Processes.{Process, assigning, showing, processes, target, process_targets, process_reads}
use Rattle.ver_ast.specs.Names.{rhs_atoms, rhs_names}
use Rattle.ver_ast.specs.Valid.{IsResetting, IsSoundBlock}
use Rattle.ver_ast.proofs.Chosen.{choose, chosen, in_or_not, is_named}
use Rattle.ver_ast.proofs.Nets.{net_is_source_or_driven}
use Rattle.ver_ast.proofs.Parts.{named_left, named_right, named_either}
use Rattle.ver_ast.proofs.Processes.{by_kind}
use Rattle.ver_valid.specs.working.Scopes.{IsFine, driven_nets}
use Rattle.ver_valid.specs.working.Walks.{IsItemDriven, IsPortDriven, IsWalked, assigned_names, written_names}
use Rattle.ver_valid.proofs.DrivenKinds.{input_no_register}
use Rattle.ver_valid.proofs.Fine.{width_of_net}
use Rattle.ver_valid.proofs.Times.{targets_once}
use Rattle.ver_valid.proofs.KnownNames.{atoms_among}
use Rattle.ver_valid.proofs.FromWalk.{all_blocks, all_driven, net_assign, sources_undriven}

reset_part : (c : AlwaysBlock) (b : Resetting) → In (block_reset c) b → In (block_target c) b.target
reset_part (plain_block a) b m = absurd m
reset_part (resetting_block a) b (inl e) = inl (ap (λ (x : Resetting). x.target) e)
reset_part (resetting_block a) b (inr m) = absurd m
reset_part (writing_block a) b m = absurd m

resets_named : (bs : List AlwaysBlock) (n : List ℕ) → In (map (λ (b : Resetting). b.target) (flat_map block_reset bs)) n → In (block_targets bs) n
resets_named bs n m =
    let b = in_map_from (λ (b : Resetting). b.target) (flat_map block_reset bs) n m in
    let c = in_flat_map_from block_reset bs b.0 b.1 in
    in_flat_map block_target bs c.0 n c.1 (subst (In (block_target c.0)) b.2 (reset_part c.0 b.0 c.2))

resets_once : (bs : List AlwaysBlock) → Distinct (block_targets bs) → Distinct (map (λ (b : Resetting). b.target) (flat_map block_reset bs))
resets_once [] d = tt
resets_once ((plain_block a) ∷ bs) d = resets_once bs d.1
resets_once ((resetting_block a) ∷ bs) d = (λ m. d.0 (resets_named bs a.target m), resets_once bs d.1)
resets_once ((writing_block a) ∷ bs) d = resets_once bs (distinct_right (first_array a.writes) (block_targets bs) d)

-- what the search for an order asks of a tree
pub record IsReady (v : Verilog) : Type 0 where
  pub fine : IsFine v
  pub assigned_once : Distinct (assigned_names v)
  pub written_once : Distinct (written_names v)
  pub outputs : AllByRecursion (IsPortDriven (assigned_names v)) v.ports
  pub wires_driven : AllByRecursion (IsItemDriven (assigned_names v)) v.items
  pub assign_of : (a : Assign) → In (assigns v) a → (w : ℕ) × In (driven_nets v) (a.target, w)
  pub assign_reads : (a : Assign) → In (assigns v) a → EachIn (rhs_names a.rhs) (names_of (nets v))
  pub reset_of : (b : Resetting) → In (resets v) b → In (nets v) (b.reset, 1) × In (regs v) (b.target, b.value.width)

-- so is a tree that the walk has judged
module _ (v : Verilog) (is : IsWalked v) where
  resetting_at : (b : Resetting) → In (resets v) b → IsResetting v b
  resetting_at b m = let t = in_flat_map_from block_reset (blocks v) b m in by t.0 t.2 (all_blocks v is t.0 t.1)
    where
      by : (c : AlwaysBlock) → In (block_reset c) b → IsSoundBlock v c → IsResetting v b
      by (plain_block a) n h = absurd n
      by (resetting_block a) n h = ⊎_elim (λ (e : a ≡ b). subst (IsResetting v) e h) (λ (no : ⊥). absurd no) n
      by (writing_block a) n h = absurd n

  pub ready : IsReady v
  ready = record {
    fine = is.fine;
    assigned_once = is.assigned_once;
    written_once = is.written_once;
    outputs = is.outputs;
    wires_driven = is.wires;
    assign_of = λ a m. let r = net_assign v is a m in (r.0, r.1);
    assign_reads = λ a m.
        let r = net_assign v is a m in
        atoms_among (nets v) (names_of (nets v))
        (λ n h. in_map (λ (s : SizedNet). s.0) (nets v) (n, width_among (nets v) n) (width_of_net (nets v) n h)) (rhs_atoms a.rhs) r.2.operands;
    reset_of = λ b m. let r = resetting_at b m in (r.bit, r.register);
  }

module _ (v : Verilog) (is : IsReady v) where
  targets_are : process_targets (processes v) ≡ targets (assigns v) ++ reset_targets v
  targets_are =
      map-append target (map assigning (assigns v)) (map showing (resets v))
      ∙ rw (map-map target assigning (assigns v), map-map target showing (resets v)) refl

  pub targets_distinct : Distinct (process_targets (processes v))
  targets_distinct =
      let all : Distinct (targets (assigns v) ++ targets (clock_assigns v)) =
      subst Distinct (map-append (λ (a : Assign). a.target) (assigns v) (clock_assigns v)) (targets_once v is.assigned_once) in
      subst Distinct (sym targets_are)
      (distinct_joined (targets (assigns v)) (reset_targets v) (distinct_left (targets (assigns v)) (targets (clock_assigns v)) all)
      (resets_once (blocks v) is.written_once)
      (λ n m k.
      let b = in_map_from (λ (b : Resetting). b.target) (resets v) n k in
      let r = is.reset_of b.0 b.1 in
      let reg : In (names_of (input_nets v ++ regs v)) b.0.target =
      in_map (λ (s : SizedNet). s.0) (input_nets v ++ regs v) (b.0.target, b.0.value.width) (in_right (input_nets v) (regs v) (b.0.target, b.0.value.width) r.1) in
      sources_undriven v is.fine is.assign_of n (subst (In (names_of (input_nets v ++ regs v))) b.2 reg) m))

  abbrev readable : List (List ℕ)
  readable = names_of (input_nets v ++ plain_regs v) ++ process_targets (processes v)

  source_readable : (s : SizedNet) → In (input_nets v ++ plain_regs v) s → In readable s.0
  source_readable s m =
      in_left (names_of (input_nets v ++ plain_regs v)) (process_targets (processes v)) s.0 (in_map (λ (s : SizedNet). s.0) (input_nets v ++ plain_regs v) s m)

  target_readable : (n : List ℕ) → In (targets (assigns v) ++ reset_targets v) n → In readable n
  target_readable n m =
      in_right (names_of (input_nets v ++ plain_regs v)) (process_targets (processes v)) n (subst (λ ns. In ns n) (sym targets_are) m)

  -- a net is an input or a register without an asynchronous block, or the target of a process
  net_readable : (s : SizedNet) → In (nets v) s → In readable s.0
  net_readable s m =
      ⊎_elim
      (λ (i : In (input_nets v ++ regs v) s). ⊎_elim
      (λ (j : In (input_nets v) s). source_readable s (in_left (input_nets v) (plain_regs v) s j))
      (λ (j : In (regs v) s). ⊎_elim
      (λ (k : In (reset_targets v) s.0). target_readable s.0 (in_right (targets (assigns v)) (reset_targets v) s.0 k))
      (λ (k : is_among (reset_targets v) s.0 ≡ false).
      source_readable s (in_right (input_nets v) (plain_regs v) s (choose (λ (r : SizedNet). not (is_among (reset_targets v) r.0)) (regs v) s j (ap not k))))
      (in_or_not (reset_targets v) s.0))
      (in_either (input_nets v) (regs v) s i))
      (λ (i : In (names_of (wires v ++ output_nets v)) s.0). target_readable s.0 (in_left (targets (assigns v)) (reset_targets v) s.0 (all_driven v is.fine is.outputs is.wires_driven s.0 i)))
      (net_is_source_or_driven v s m)

  name_readable : (n : List ℕ) → In (names_of (nets v)) n → In readable n
  name_readable n m = let s = in_map_from (λ (s : SizedNet). s.0) (nets v) n m in subst (In readable) s.2 (net_readable s.0 s.1)

  pub reads_known : (p : Process) → In (processes v) p → EachIn (process_reads p) readable
  reads_known =
      by_kind v (λ p. EachIn (process_reads p) readable)
      (λ a m. each_more (rhs_names a.rhs) (names_of (nets v)) readable name_readable (is.assign_reads a m))
      (λ b m. (net_readable (b.reset, 1) (is.reset_of b m).0, tt))

  -- what a process drives is no input and no register without an asynchronous block
  pub target_no_source : (n : List ℕ) → In (process_targets (processes v)) n → In (names_of (input_nets v ++ plain_regs v)) n → ⊥
  target_no_source n m k =
      ⊎_elim
      (λ (t : In (targets (assigns v)) n). sources_undriven v is.fine is.assign_of n (all_regs k) t)
      (λ (t : In (reset_targets v) n). ⊎_elim
      (λ (i : In (names_of (input_nets v)) n). input_or_register t i)
      (λ (i : In (names_of (plain_regs v)) n). plain_or_reset t i)
      (named_either (input_nets v) (plain_regs v) n k))
      (in_either (targets (assigns v)) (reset_targets v) n (subst (λ ns. In ns n) targets_are m))
    where
      all_regs : In (names_of (input_nets v ++ plain_regs v)) n → In (names_of (input_nets v ++ regs v)) n
      all_regs i =
          ⊎_elim (λ (j : In (names_of (input_nets v)) n). named_left (input_nets v) (regs v) n j)
          (λ (j : In (names_of (plain_regs v)) n).
          let s = in_map_from (λ (s : SizedNet). s.0) (plain_regs v) n j in
          let c = chosen (λ (r : SizedNet). not (is_among (reset_targets v) r.0)) (regs v) s.0 s.1 in
          named_right (input_nets v) (regs v) n (subst (In (names_of (regs v))) s.2 (in_map (λ (s : SizedNet). s.0) (regs v) s.0 c.0)))
          (named_either (input_nets v) (plain_regs v) n i)

      plain_or_reset : In (reset_targets v) n → In (names_of (plain_regs v)) n → ⊥
      plain_or_reset t j =
          let s = in_map_from (λ (s : SizedNet). s.0) (plain_regs v) n j in
          let c = chosen (λ (r : SizedNet). not (is_among (reset_targets v) r.0)) (regs v) s.0 s.1 in
          let yes : is_among (reset_targets v) s.0.0 ≡ true = is_named (reset_targets v) s.0.0 (subst (In (reset_targets v)) (sym s.2) t) in
          let no : false ≡ true = ap not (sym yes) ∙ c.1 in
          absurd (cc)

      input_or_register : In (reset_targets v) n → In (names_of (input_nets v)) n → ⊥
      input_or_register t i =
          let b = in_map_from (λ (b : Resetting). b.target) (resets v) n t in
          let s = in_map_from (λ (s : SizedNet). s.0) (input_nets v) n i in
          input_no_register v is.fine.once s.0 (b.0.value.width) s.1 (subst (λ (x : List ℕ). In (regs v) (x, b.0.value.width)) (b.2 ∙ sym s.2) (is.reset_of b.0 b.1).1)
