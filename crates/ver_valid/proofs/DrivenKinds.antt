-- What a wire or an output is declared as: it is a net, and no clock output, no input and no register.
use Rattle.std.proofs.Common.{◌≡◌, ℕ, List, ◌++◌, flat_map, true, sym, ap, ◌∙◌, ⊎_elim, subst}
use Rattle.std.specs.Prelude.{Option, Some}
use Rattle.fir_base.specs.Lists.{In, Distinct}
use Rattle.fir_base.proofs.Members.{in_either}
use Rattle.ver_ast.specs.declared.tree.Verilog.{Verilog}
use Rattle.ver_ast.specs.Nets.{SizedNet, input_nets, output_nets, output_clocks, wires, regs, nets}
use Rattle.ver_valid.specs.declared.declared.Declared.{Declared}
use Rattle.ver_valid.specs.declared.declared.Declared.TheVariants.{ClockOutput, Input, Output, Wire, Register}
use Rattle.ver_valid.specs.working.Declarations.{entries, entry_names, kind_among}
use Rattle.ver_valid.specs.working.Kinds.{net_width, register_width, driven_width, input_width, output_width, wire_width, is_clock_output, sized}
use Rattle.ver_valid.specs.working.Scopes.{driven_nets}
use Rattle.ver_valid.proofs.Entries.{nets_are, inputs_are, outputs_are, wires_are, regs_are, output_clocks_are}
use Rattle.ver_valid.proofs.EntryKinds.{sized_kind, kind_sized, chosen_kind}

driven_wire : (d : Declared) (w : ℕ) → wire_width d ≡ Some w → driven_width d ≡ Some w
driven_wire (Wire x) w e = e
driven_wire _ w e = cc

driven_output : (d : Declared) (w : ℕ) → output_width d ≡ Some w → driven_width d ≡ Some w
driven_output (Output x) w e = e
driven_output _ w e = cc

net_driven : (d : Declared) (w : ℕ) → driven_width d ≡ Some w → net_width d ≡ Some w
net_driven (Wire x) w e = e
net_driven (Output x) w e = e
net_driven _ w e = cc

no_input : (d : Declared) (w u : ℕ) → driven_width d ≡ Some w → input_width d ≡ Some u → ⊥
no_input (Input x) w u e f = cc
no_input _ w u e f = cc

no_register : (d : Declared) (w u : ℕ) → driven_width d ≡ Some w → register_width d ≡ Some u → ⊥
no_register (Register x) w u e f = cc
no_register _ w u e f = cc

input_or_register : (d : Declared) (w u : ℕ) → input_width d ≡ Some w → register_width d ≡ Some u → ⊥
input_or_register (Register x) w u e f = cc
input_or_register _ w u e f = cc

no_clock : (d : Declared) (w : ℕ) → driven_width d ≡ Some w → is_clock_output d ≡ true → ⊥
no_clock ClockOutput w e f = cc
no_clock _ w e f = cc

module _ (v : Verilog) (once : Distinct (entry_names (entries v))) where
  kind_of_size : (width : Declared → Option ℕ) (ns : List SizedNet) → ns ≡ flat_map (sized width) (entries v) → (n : List ℕ) (w : ℕ) → In ns (n, w)
      → (d : Declared) × (kind_among (entries v) n ≡ Some d) × (width d ≡ Some w)
  kind_of_size width ns are n w m = sized_kind width (entries v) once n w (subst (λ (xs : List SizedNet). In xs (n, w)) are m)

  pub driven_kind : (n : List ℕ) (w : ℕ) → In (driven_nets v) (n, w) → (d : Declared) × (kind_among (entries v) n ≡ Some d) × (driven_width d ≡ Some w)
  driven_kind n w m =
      ⊎_elim
      (λ (i : In (wires v) (n, w)). let r = kind_of_size wire_width (wires v) (wires_are v) n w i in (r.0, r.1, driven_wire r.0 w r.2))
      (λ (i : In (output_nets v) (n, w)). let r = kind_of_size output_width (output_nets v) (outputs_are v) n w i in (r.0, r.1, driven_output r.0 w r.2))
      (in_either (wires v) (output_nets v) (n, w) m)

  pub driven_is_net : (n : List ℕ) (w : ℕ) → In (driven_nets v) (n, w) → In (nets v) (n, w)
  driven_is_net n w m =
      let r = driven_kind n w m in
      subst (λ (xs : List SizedNet). In xs (n, w)) (sym (nets_are v))
      (kind_sized net_width (entries v) once n r.0 w r.1 (net_driven r.0 w r.2))

  pub not_both : (n : List ℕ) (w : ℕ) → In (driven_nets v) (n, w) → In (output_clocks v) n → ⊥
  not_both n w m k =
      let r = driven_kind n w m in
      let s = chosen_kind is_clock_output (entries v) once n (subst (λ (xs : List (List ℕ)). In xs n) (output_clocks_are v) k) in
      let same : s.0 ≡ r.0 = let a = r.1 in let b = s.1 in cc in
      no_clock r.0 w r.2 (ap is_clock_output (sym same) ∙ s.2)

  pub not_source : (s : SizedNet) (w : ℕ) → In (driven_nets v) (s.0, w) → In (input_nets v ++ regs v) s → ⊥
  not_source s w m k =
      let r = driven_kind s.0 w m in
      ⊎_elim
      (λ (i : In (input_nets v) s).
      let q = kind_of_size input_width (input_nets v) (inputs_are v) s.0 s.1 i in
      let same : q.0 ≡ r.0 = let a = r.1 in let b = q.1 in cc in
      no_input r.0 w s.1 r.2 (ap input_width (sym same) ∙ q.2))
      (λ (i : In (regs v) s).
      let q = kind_of_size register_width (regs v) (regs_are v) s.0 s.1 i in
      let same : q.0 ≡ r.0 = let a = r.1 in let b = q.1 in cc in
      no_register r.0 w s.1 r.2 (ap register_width (sym same) ∙ q.2))
      (in_either (input_nets v) (regs v) s k)

  pub input_no_register : (s : SizedNet) (w : ℕ) → In (input_nets v) s → In (regs v) (s.0, w) → ⊥
  input_no_register s w m k =
      let q = kind_of_size input_width (input_nets v) (inputs_are v) s.0 s.1 m in
      let r = kind_of_size register_width (regs v) (regs_are v) s.0 w k in
      let same : q.0 ≡ r.0 = let a = r.1 in let b = q.1 in cc in
      input_or_register r.0 s.1 w (ap input_width (sym same) ∙ q.2) r.2
