-- What a tree declares, kind by kind, is read off its entries.
use Rattle.std.proofs.Common.{◌≡◌, ℕ, List, [], ◌∷◌, ◌++◌, map, flat_map, Bool, true, false, if◌then◌else◌, refl, sym, ap, ◌∙◌, append_assoc, append-nil}
use Rattle.fir_base.specs.declared.direction.Direction.{Direction}
use Rattle.fir_base.specs.declared.direction.Direction.TheVariants.{Input, Output}
use Rattle.ver_ast.specs.declared.tree.Verilog.{Verilog}
use Rattle.ver_ast.specs.declared.tree.Port.{Port}
use Rattle.ver_ast.specs.declared.tree.Item.{Item}
use Rattle.ver_ast.specs.declared.tree.Item.TheVariants as item
use Rattle.ver_ast.specs.Nets.{port_net, input_net, output_net, input_clock, output_clock, wire_net, reg_net, item_net, item_array, input_nets, output_nets, clocks, output_clocks, wires, regs, nets, arrays}
use Rattle.ver_valid.specs.working.Declarations.{Entry, entries, port_entry, item_entries, kind_of}
use Rattle.ver_valid.specs.working.Kinds.{net_width, register_width, input_width, output_width, wire_width, is_clock_input, is_clock_output, sized, chosen, array_entry}

pub flat_append : {X A : Type 0} → (f : X → List A) (xs ys : List X) → flat_map f (xs ++ ys) ≡ flat_map f xs ++ flat_map f ys
flat_append f [] ys = refl
flat_append f (x ∷ xs) ys = rw (flat_append f xs ys, append_assoc) refl

-- what is read of each port, and of each item, is read of its entries
of_ports : {A : Type 0} → (f : Port → List A) (g : Entry → List A) → ((p : Port) → f p ≡ g (port_entry p)) → (ps : List Port)
    → flat_map f ps ≡ flat_map g (map port_entry ps)
of_ports f g h [] = refl
of_ports f g h (p ∷ ps) = rw (h p, of_ports f g h ps) refl

of_items : {A : Type 0} → (f : Item → List A) (g : Entry → List A) → ((i : Item) → f i ≡ flat_map g (item_entries i)) → (is : List Item)
    → flat_map f is ≡ flat_map g (flat_map item_entries is)
of_items f g h [] = refl
of_items f g h (i ∷ is) = rw (h i, of_items f g h is) (sym (flat_append g (item_entries i) (flat_map item_entries is)))

of_tree : {A : Type 0} → (f : Port → List A) (k : Item → List A) (g : Entry → List A) → ((p : Port) → f p ≡ g (port_entry p))
    → ((i : Item) → k i ≡ flat_map g (item_entries i)) → (v : Verilog) → flat_map f v.ports ++ flat_map k v.items ≡ flat_map g (entries v)
of_tree f k g h j v =
    rw (of_ports f g h v.ports, of_items k g j v.items) (sym (flat_append g (map port_entry v.ports) (flat_map item_entries v.items)))

-- of ports and items of which nothing is read
abbrev none_of : {X : Type 0} → (A : Type 0) → X → List A
none_of A x = []

nothing : {X : Type 0} → (A : Type 0) → (xs : List X) → flat_map (none_of A) xs ≡ []
nothing A [] = refl
nothing A (x ∷ xs) = nothing A xs

only_ports : {A : Type 0} → (f : Port → List A) (g : Entry → List A) → ((p : Port) → f p ≡ g (port_entry p))
    → ((i : Item) → [] ≡ flat_map g (item_entries i)) → (v : Verilog) → flat_map f v.ports ≡ flat_map g (entries v)
only_ports {A} f g h j v =
    sym (append-nil (flat_map f v.ports)) ∙ ap (λ ys. flat_map f v.ports ++ ys) (sym (nothing A v.items)) ∙ of_tree f (none_of A) g h j v

only_items : {A : Type 0} → (k : Item → List A) (g : Entry → List A) → ((p : Port) → [] ≡ g (port_entry p))
    → ((i : Item) → k i ≡ flat_map g (item_entries i)) → (v : Verilog) → flat_map k v.items ≡ flat_map g (entries v)
only_items {A} k g h j v = ap (λ xs. xs ++ flat_map k v.items) (sym (nothing A v.ports)) ∙ of_tree (none_of A) k g h j v

net_port : (b : Bool) (d : Direction) (n : List ℕ) (w : ℕ) → (if b then [] else ((n, w) ∷ [])) ≡ sized net_width (n, kind_of b d w)
net_port true Input n w = refl
net_port true Output n w = refl
net_port false Input n w = refl
net_port false Output n w = refl

net_item : (i : Item) → item_net i ≡ flat_map (sized net_width) (item_entries i)
net_item (item.Wire n) = refl
net_item _ = refl

pub nets_are : (v : Verilog) → nets v ≡ flat_map (sized net_width) (entries v)
nets_are v = of_tree port_net item_net (sized net_width) (λ p. net_port p.is_clock p.direction p.name p.width) net_item v

input_port : (b : Bool) (d : Direction) (p : Port) → p.is_clock ≡ b → input_net d p ≡ sized input_width (p.name, kind_of b d p.width)
input_port true Input p e = rw e refl
input_port true Output p e = refl
input_port false Input p e = rw e refl
input_port false Output p e = refl

input_item : (i : Item) → [] ≡ flat_map (sized input_width) (item_entries i)
input_item (item.Wire n) = refl
input_item _ = refl

pub inputs_are : (v : Verilog) → input_nets v ≡ flat_map (sized input_width) (entries v)
inputs_are v = only_ports (λ p. input_net p.direction p) (sized input_width) (λ p. input_port p.is_clock p.direction p refl) input_item v

output_port : (b : Bool) (d : Direction) (p : Port) → p.is_clock ≡ b → output_net d p ≡ sized output_width (p.name, kind_of b d p.width)
output_port true Input p e = refl
output_port true Output p e = rw e refl
output_port false Input p e = refl
output_port false Output p e = rw e refl

output_item : (i : Item) → [] ≡ flat_map (sized output_width) (item_entries i)
output_item (item.Wire n) = refl
output_item _ = refl

pub outputs_are : (v : Verilog) → output_nets v ≡ flat_map (sized output_width) (entries v)
outputs_are v = only_ports (λ p. output_net p.direction p) (sized output_width) (λ p. output_port p.is_clock p.direction p refl) output_item v

clock_port : (b : Bool) (d : Direction) (p : Port) → p.is_clock ≡ b → input_clock d p ≡ chosen is_clock_input (p.name, kind_of b d p.width)
clock_port true Input p e = rw e refl
clock_port true Output p e = refl
clock_port false Input p e = rw e refl
clock_port false Output p e = refl

clock_item : (i : Item) → [] ≡ flat_map (chosen is_clock_input) (item_entries i)
clock_item (item.Wire n) = refl
clock_item _ = refl

pub clocks_are : (v : Verilog) → clocks v ≡ flat_map (chosen is_clock_input) (entries v)
clocks_are v = only_ports (λ p. input_clock p.direction p) (chosen is_clock_input) (λ p. clock_port p.is_clock p.direction p refl) clock_item v

clock_output_port : (b : Bool) (d : Direction) (p : Port) → p.is_clock ≡ b
    → output_clock d p ≡ chosen is_clock_output (p.name, kind_of b d p.width)
clock_output_port true Input p e = refl
clock_output_port true Output p e = rw e refl
clock_output_port false Input p e = refl
clock_output_port false Output p e = rw e refl

clock_output_item : (i : Item) → [] ≡ flat_map (chosen is_clock_output) (item_entries i)
clock_output_item (item.Wire n) = refl
clock_output_item _ = refl

pub output_clocks_are : (v : Verilog) → output_clocks v ≡ flat_map (chosen is_clock_output) (entries v)
output_clocks_are v =
    only_ports (λ p. output_clock p.direction p) (chosen is_clock_output) (λ p. clock_output_port p.is_clock p.direction p refl) clock_output_item v

module _ {A : Type 0} (f : Entry → List A) (clear : (n : List ℕ) (b : Bool) (d : Direction) (w : ℕ) → [] ≡ f (n, kind_of b d w)) where
  of_items_alone : (k : Item → List A) → ((i : Item) → k i ≡ flat_map f (item_entries i)) → (v : Verilog) → flat_map k v.items ≡ flat_map f (entries v)
  of_items_alone k h v = only_items k f (λ p. clear p.name p.is_clock p.direction p.width) h v

wire_port : (n : List ℕ) (b : Bool) (d : Direction) (w : ℕ) → [] ≡ sized wire_width (n, kind_of b d w)
wire_port n true Input w = refl
wire_port n true Output w = refl
wire_port n false Input w = refl
wire_port n false Output w = refl

wire_item : (i : Item) → wire_net i ≡ flat_map (sized wire_width) (item_entries i)
wire_item (item.Wire n) = refl
wire_item _ = refl

pub wires_are : (v : Verilog) → wires v ≡ flat_map (sized wire_width) (entries v)
wires_are v = of_items_alone (sized wire_width) wire_port wire_net wire_item v

register_port : (n : List ℕ) (b : Bool) (d : Direction) (w : ℕ) → [] ≡ sized register_width (n, kind_of b d w)
register_port n true Input w = refl
register_port n true Output w = refl
register_port n false Input w = refl
register_port n false Output w = refl

register_item : (i : Item) → reg_net i ≡ flat_map (sized register_width) (item_entries i)
register_item (item.Wire n) = refl
register_item _ = refl

pub regs_are : (v : Verilog) → regs v ≡ flat_map (sized register_width) (entries v)
regs_are v = of_items_alone (sized register_width) register_port reg_net register_item v

array_port : (n : List ℕ) (b : Bool) (d : Direction) (w : ℕ) → [] ≡ array_entry (n, kind_of b d w)
array_port n true Input w = refl
array_port n true Output w = refl
array_port n false Input w = refl
array_port n false Output w = refl

array_item : (i : Item) → item_array i ≡ flat_map array_entry (item_entries i)
array_item (item.Wire n) = refl
array_item _ = refl

pub arrays_are : (v : Verilog) → arrays v ≡ flat_map array_entry (entries v)
arrays_are v = of_items_alone array_entry array_port item_array array_item v
