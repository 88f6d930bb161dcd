-- How the nets are made of inputs, outputs, wires and registers.
use Rattle.std.proofs.Common.{◌≡◌, List, [], ◌++◌, refl, sym, inl, inr, ◌⊎◌, ⊎_elim, subst}
use Rattle.std.specs.Prelude.{flat_map}
use Rattle.std.proofs.lemmas.List.{map-append}
use Rattle.fir_base.specs.declared.direction.Direction.{Direction}
use Rattle.fir_base.specs.declared.direction.Direction.TheVariants.{Input, Output}
use Rattle.fir_base.specs.Lists.{In, Distinct}
use Rattle.fir_base.proofs.Members.{in_map, in_left, in_right, in_either}
use Rattle.fir_base.proofs.Twins.{distinct_left, distinct_right, apart, distinct_joined}
use Rattle.ver_ast.specs.declared.tree.Verilog.{Verilog}
use Rattle.ver_ast.specs.declared.tree.Port.{Port}
use Rattle.ver_ast.specs.declared.tree.Item.{Item}
use Rattle.ver_ast.specs.declared.tree.Item.TheVariants as item
use Rattle.ver_ast.specs.Nets.{SizedNet, port_net, input_net, output_net, item_net, wire_net, reg_net, input_nets, output_nets, wires, regs, port_nets, nets, names_of}
use Rattle.ver_ast.proofs.Parts.{part_in, part_named, part_once, split_in}

abbrev as_input : Port → List SizedNet
as_input p = input_net p.direction p

abbrev as_output : Port → List SizedNet
as_output p = output_net p.direction p

abbrev item_nets : Verilog → List SizedNet
item_nets v = flat_map item_net v.items

by_direction : (d : Direction) (p : Port) → (input_net d p ≡ port_net p) ⊎ (input_net d p ≡ [])
by_direction Input p = inl refl
by_direction Output p = inr refl

input_part : (p : Port) → (as_input p ≡ port_net p) ⊎ (as_input p ≡ [])
input_part p = by_direction p.direction p

reg_part : (i : Item) → (reg_net i ≡ item_net i) ⊎ (reg_net i ≡ [])
reg_part (item.Wire n) = inr refl
reg_part (item.Reg n) = inl refl
reg_part (item.Array a) = inr refl
reg_part (item.Assign a) = inr refl
reg_part (item.Always b) = inr refl
reg_part (item.Resetting b) = inr refl
reg_part (item.Writing b) = inr refl

pub reg_is_net : (v : Verilog) (s : SizedNet) → In (regs v) s → In (nets v) s
reg_is_net v s m = in_right (port_nets v) (item_nets v) s (part_in item_net reg_net reg_part v.items s m)

-- an input or a register is a net
pub source_is_net : (v : Verilog) (s : SizedNet) → In (input_nets v ++ regs v) s → In (nets v) s
source_is_net v s m =
    ⊎_elim
    (λ (n : In (input_nets v) s). in_left (port_nets v) (item_nets v) s (part_in port_net as_input input_part v.ports s n))
    (λ (n : In (regs v) s). reg_is_net v s n)
    (in_either (input_nets v) (regs v) s m)

-- where each net is declared once, so is each input and register
pub sources_distinct : (v : Verilog) → Distinct (names_of (nets v)) → Distinct (names_of (input_nets v ++ regs v))
sources_distinct v d =
    let first = λ (s : SizedNet). s.0 in
    let ports = names_of (port_nets v) in
    let items = names_of (item_nets v) in
    let whole : Distinct (ports ++ items) = subst Distinct (map-append first (port_nets v) (item_nets v)) d in
    subst Distinct (sym (map-append first (input_nets v) (regs v)))
    (distinct_joined (names_of (input_nets v)) (names_of (regs v))
    (part_once port_net as_input input_part v.ports (distinct_left ports items whole))
    (part_once item_net reg_net reg_part v.items (distinct_right ports items whole))
    (λ n m o. apart ports items whole n (part_named port_net as_input input_part v.ports n m) (part_named item_net reg_net reg_part v.items n o)))

in_direction : (d : Direction) (p : Port) (s : SizedNet) → In (port_net p) s → In (input_net d p) s ⊎ In (output_net d p) s
in_direction Input p s m = inl m
in_direction Output p s m = inr m

wire_or_reg : (i : Item) (s : SizedNet) → In (item_net i) s → In (wire_net i) s ⊎ In (reg_net i) s
wire_or_reg (item.Wire n) s m = inl m
wire_or_reg (item.Reg n) s m = inr m
wire_or_reg (item.Array a) s m = absurd m
wire_or_reg (item.Assign a) s m = absurd m
wire_or_reg (item.Always b) s m = absurd m
wire_or_reg (item.Resetting b) s m = absurd m
wire_or_reg (item.Writing b) s m = absurd m

-- a net is an input or a register, or else a wire or an output
pub net_is_source_or_driven : (v : Verilog) (s : SizedNet) → In (nets v) s → In (input_nets v ++ regs v) s ⊎ In (names_of (wires v ++ output_nets v)) s.0
net_is_source_or_driven v s m =
    let first = λ (q : SizedNet). q.0 in
    ⊎_elim
    (λ (n : In (port_nets v) s). ⊎_elim
    (λ (o : In (input_nets v) s). inl (in_left (input_nets v) (regs v) s o))
    (λ (o : In (output_nets v) s). inr (in_map first (wires v ++ output_nets v) s (in_right (wires v) (output_nets v) s o)))
    (split_in port_net as_input as_output (λ p t o. in_direction p.direction p t o) v.ports s n))
    (λ (n : In (item_nets v) s). ⊎_elim
    (λ (o : In (wires v) s). inr (in_map first (wires v ++ output_nets v) s (in_left (wires v) (output_nets v) s o)))
    (λ (o : In (regs v) s). inl (in_right (input_nets v) (regs v) s o))
    (split_in item_net wire_net reg_net wire_or_reg v.items s n))
    (in_either (port_nets v) (item_nets v) s m)
