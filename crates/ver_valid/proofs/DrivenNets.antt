-- A net that a process drives is no input and no register without an asynchronous block, and each other net that is read is driven by a process.
use Rattle.std.proofs.Common.{◌≡◌, ℕ, List, [], ◌∷◌, ◌++◌, Bool, true, false, refl, sym, ap, ◌∙◌, inl, inr, ◌⊎◌, ⊎_elim, subst}
use Rattle.std.specs.Prelude.{slice_get, Option, Some, None, is_some, map, not, ◌||◌, ◌&&◌, if◌then◌else◌}
use Rattle.std.proofs.lemmas.List.{map-append}
use Rattle.fir_base.specs.Lists.{In}
use Rattle.fir_base.specs.Words.{is_among}
use Rattle.fir_base.proofs.Members.{in_map, in_map_from, in_either}
use Rattle.ver_ast.specs.declared.tree.Verilog.{Verilog}
use Rattle.ver_ast.specs.declared.tree.Assign.{Assign}
use Rattle.ver_ast.specs.declared.tree.Resetting.{Resetting}
use Rattle.ver_ast.specs.Nets.{SizedNet, input_nets, regs, plain_regs, names_of, reset_targets, assigns, resets, targets}
use Rattle.ver_ast.specs.Processes.{assigning, showing, target, processes, process_targets}
use Rattle.ver_ast.proofs.Chosen.{chosen, choose, among, is_named}
use Rattle.ver_ast.proofs.Parts.{named_left, named_right, named_either}
use Rattle.ver_valid.specs.declared.drivers.Drivers.{Drivers}
use Rattle.ver_valid.specs.working.Numbered.{number_in}
use Rattle.ver_valid.specs.working.Drivers.{driver_in, AreDrivers}
use Rattle.ver_valid.proofs.Numbering.{has_among}

assign_targets_are : (all : List Assign) → map target (map assigning all) ≡ targets all
assign_targets_are [] = refl
assign_targets_are (a ∷ all) = ap (λ (ns : List (List ℕ)). a.target ∷ ns) (assign_targets_are all)

block_targets_are : (bs : List Resetting) → map target (map showing bs) ≡ map (λ b. b.target) bs
block_targets_are [] = refl
block_targets_are (b ∷ bs) = ap (λ (ns : List (List ℕ)). b.target ∷ ns) (block_targets_are bs)

-- the targets of the processes
pub process_targets_are : (v : Verilog) → process_targets (processes v) ≡ targets (assigns v) ++ reset_targets v
process_targets_are v =
    map-append target (map assigning (assigns v)) (map showing (resets v))
    ∙ ap (λ (ns : List (List ℕ)). ns ++ map target (map showing (resets v))) (assign_targets_are (assigns v))
    ∙ ap (λ (ns : List (List ℕ)). targets (assigns v) ++ ns) (block_targets_are (resets v))

-- what is driven from the tick and the state
abbrev pub source_names : Verilog → List (List ℕ)
source_names v = names_of (input_nets v ++ plain_regs v)

by_process : (i r b : Bool) (t : Option ℕ) (k : ℕ) → (if i || (r && not b) then None else t) ≡ Some k → (i ≡ false) × ((r && not b) ≡ false) × (t ≡ Some k)
by_process true r b t k e = absurd (cc)
by_process false true true t k e = (refl, refl, e)
by_process false true false t k e = absurd (cc)
by_process false false b t k e = (refl, refl, e)

by_none : (i r b : Bool) (t : Option ℕ) → (if i || (r && not b) then None else t) ≡ None → (i ≡ true) ⊎ (((r ≡ true) × (b ≡ false)) ⊎ (t ≡ None))
by_none true r b t e = inl refl
by_none false true true t e = inr (inr e)
by_none false true false t e = inr (inl (refl, refl))
by_none false false b t e = inr (inr e)

module _ (v : Verilog) (d : Drivers) (t : AreDrivers v d) where
  is_input : (n : List ℕ) → is_some (number_in d.inputs n) ≡ is_among (names_of (input_nets v)) n
  is_input = has_among (names_of (input_nets v)) d.inputs t.inputs

  is_register : (n : List ℕ) → is_some (number_in d.registers n) ≡ is_among (names_of (regs v)) n
  is_register = has_among (names_of (regs v)) d.registers t.registers

  has_block : (n : List ℕ) → is_some (number_in d.blocks n) ≡ is_among (reset_targets v) n
  has_block = has_among (reset_targets v) d.blocks t.blocks

  -- a register without an asynchronous block has a number as a register, and none as a block
  plain_number : (n : List ℕ) → In (names_of (plain_regs v)) n → (is_some (number_in d.registers n) && not (is_some (number_in d.blocks n))) ≡ true
  plain_number n m =
      let first = λ (s : SizedNet). s.0 in
      let s = in_map_from first (plain_regs v) n m in
      let c = chosen (λ (r : SizedNet). not (is_among (reset_targets v) r.0)) (regs v) s.0 s.1 in
      let register : is_some (number_in d.registers n) ≡ true =
      is_register n ∙ is_named (names_of (regs v)) n (subst (In (names_of (regs v))) s.2 (in_map first (regs v) s.0 c.0)) in
      let free : not (is_some (number_in d.blocks n)) ≡ true =
      ap not (has_block n) ∙ ap (λ (m : List ℕ). not (is_among (reset_targets v) m)) (sym s.2) ∙ c.1 in
      ap (λ (b : Bool). b && not (is_some (number_in d.blocks n))) register ∙ free

  -- what a process drives
  pub driven : (n : List ℕ) (k : ℕ) → driver_in d n ≡ Some k → (In (source_names v) n → ⊥) × (slice_get (process_targets (processes v)) k ≡ Some n)
  driven n k e =
      let r = by_process (is_some (number_in d.inputs n)) (is_some (number_in d.registers n)) (is_some (number_in d.blocks n)) (number_in d.processes n) k e in (
        λ m.
            ⊎_elim
            (λ (o : In (names_of (input_nets v)) n).
            let yes : is_some (number_in d.inputs n) ≡ true = is_input n ∙ is_named (names_of (input_nets v)) n o in
            let no : true ≡ false = sym yes ∙ r.0 in
            cc)
            (λ (o : In (names_of (plain_regs v)) n).
            let no : true ≡ false = sym (plain_number n o) ∙ r.1 in
            cc)
            (named_either (input_nets v) (plain_regs v) n m),
        t.processes.found n k r.2,
      )

  -- what no process drives
  pub undriven : (n : List ℕ) → driver_in d n ≡ None → In (source_names v ++ process_targets (processes v)) n → In (source_names v) n
  undriven n e m =
      ⊎_elim
      (λ (o : In (source_names v) n). o)
      (λ (o : In (process_targets (processes v)) n). ⊎_elim
      (λ (i : is_some (number_in d.inputs n) ≡ true).
      named_left (input_nets v) (plain_regs v) n (among (names_of (input_nets v)) n (sym (is_input n) ∙ i)))
      (λ (c : ((is_some (number_in d.registers n) ≡ true) × (is_some (number_in d.blocks n) ≡ false)) ⊎ (number_in d.processes n ≡ None)). ⊎_elim
      (λ (r : (is_some (number_in d.registers n) ≡ true) × (is_some (number_in d.blocks n) ≡ false)). plain n r.0 r.1)
      (λ (none : number_in d.processes n ≡ None). absurd (t.processes.missed n none o))
      c)
      (by_none (is_some (number_in d.inputs n)) (is_some (number_in d.registers n)) (is_some (number_in d.blocks n)) (number_in d.processes n) e))
      (in_either (source_names v) (process_targets (processes v)) n m)
    where
      plain : (n : List ℕ) → is_some (number_in d.registers n) ≡ true → is_some (number_in d.blocks n) ≡ false → In (source_names v) n
      plain n r b =
          let first = λ (s : SizedNet). s.0 in
          let s = in_map_from first (regs v) n (among (names_of (regs v)) n (sym (is_register n) ∙ r)) in
          let free : not (is_among (reset_targets v) s.0.0) ≡ true =
          ap (λ (m : List ℕ). not (is_among (reset_targets v) m)) s.2 ∙ ap not (sym (has_block n) ∙ b) in
          named_right (input_nets v) (plain_regs v) n
          (subst (In (names_of (plain_regs v))) s.2
          (in_map first (plain_regs v) s.0 (choose (λ (q : SizedNet). not (is_among (reset_targets v) q.0)) (regs v) s.0 s.1 free)))
