-- The outputs of a tree whose ports are a source's have the widths of the source's outputs.
use Rattle.std.proofs.Common.{◌≡◌, ℕ, zero, suc, List, [], ◌∷◌, map, Bool, true, false, cond, refl, sym, ap, ◌∙◌, arith}
use Rattle.std.proofs.lemmas.Bool.{lt-ltb, ne_eqb}
use Rattle.std.proofs.lemmas.List.{map-id}
use Rattle.std.proofs.lemmas.List.Concat.{flat_map_single}
use Rattle.std.proofs.lemmas.List.Folds.{flat_map-map}
use Rattle.std.specs.Prelude.{◌&&◌, filter, flat_map, if◌then◌else◌, nat_eq, nat_lt}
use Rattle.fir_base.specs.declared.direction.Direction.{Direction}
use Rattle.fir_base.specs.declared.direction.Direction.TheVariants.{Input, Output}
use Rattle.ver_words.specs.declared.signal.Signal.{Signal}
use Rattle.ver_words.specs.declared.signal.Signal.TheVariants.{Bits, Clock}
use Rattle.ver_ast.specs.declared.tree.Port.{Port}
use Rattle.ver_ast.specs.declared.tree.Verilog.{Verilog}
use Rattle.ver_ast.specs.Nets.{SizedNet, output_net, output_nets, widths_of}
use Rattle.ver_sim.proofs.PairLists.{chosen_parts, list_parts, map_parts}
use Rattle.fir_net.specs.Rows.{PortKind, Row, row, row_kinds}
use Rattle.ver_build.specs.Ports.{port_kinds, port_signal}
use Rattle.fir_meaning.specs.LeafTypes.{LeafType, a_clock, has_bits, number, number_type}
use Rattle.fir_meaning.specs.SourceCircuits.{PlacedLeaf, is_sink_role, main_ports, widths_of_leaves}
use Rattle.fir_meaning.specs.SourceDesigns.{SourceDesign}
use Rattle.fir_meaning.specs.SourceRoles.{SourceRole, sink, source}
use Rattle.fir_flatten.specs.SourceRows.{leaf_name, role_row, source_rows}
use Rattle.fir_outcome.specs.Sources.{output_widths}

-- the width of an output of bits
abbrev shown_width : Direction → Signal → List ℕ
shown_width Output (Bits w) = w ∷ []
shown_width _ _ = []

abbrev kind_width : PortKind → List ℕ
kind_width k = shown_width k.0 k.1

abbrev row_width : Row → List ℕ
row_width r = shown_width r.direction r.signal

port_width : (d : Direction) (p : Port) → shown_width d (port_signal p) ≡ widths_of (output_net d p)
port_width Input p = refl
port_width Output p =
    elim p.is_clock as (λ (b : Bool). shown_width Output (if b then Clock else Bits p.width) ≡ widths_of (if b then [] else ((p.name, p.width) ∷ [])))
    [ true ↦ refl | false ↦ refl ]

tree_widths : (ps : List Port) → flat_map kind_width (map (λ (p : Port). (p.direction, port_signal p)) ps) ≡ widths_of (flat_map (λ (p : Port). output_net p.direction p) ps)
tree_widths ps =
    flat_map-map kind_width (λ (p : Port). (p.direction, port_signal p)) ps
    ∙ (λ i. flat_map (λ (p : Port). port_width p.direction p i) ps)
    ∙ map_parts (λ (n : SizedNet). n.1) (λ (p : Port). output_net p.direction p) ps

number_width : (w : ℕ) (name : List ℕ) → flat_map row_width (row name Output w) ≡ (if nat_lt 0 w then w ∷ [] else [])
number_width zero name = refl
number_width (suc n) name =
    let wide : nat_lt 0 (suc n) ≡ true = lt-ltb 0 (suc n) (omega arith) in
    let some : nat_eq (suc n) 0 ≡ false = ne_eqb (suc n) 0 (λ (e : suc n ≡ 0). cc) in
    rw (wide, some) refl

role_width : (r : SourceRole) (h : LeafType) (name : List ℕ)
    → flat_map row_width (role_row r h name) ≡ (if is_sink_role r && has_bits h then (number_type h).width ∷ [] else [])
role_width source (number t) name =
    elim (nat_eq t.width 0) as (λ (b : Bool). flat_map row_width (if b then [] else (record { name = name; direction = Input; signal = Bits t.width } ∷ [])) ≡ [])
    [ true ↦ refl | false ↦ refl ]
role_width source a_clock name = refl
role_width sink (number t) name = number_width t.width name
role_width sink a_clock name = refl
role_width _ h name = refl

abbrev leaf_row : PlacedLeaf → List Row
leaf_row p = role_row p.leaf.role p.leaf.holds (leaf_name p)

abbrev is_output : PlacedLeaf → Bool
is_output p = is_sink_role p.leaf.role && has_bits p.leaf.holds

leaf_width : (p : PlacedLeaf) → flat_map row_width (leaf_row p) ≡ widths_of_leaves (filter is_output (p ∷ []))
leaf_width p =
    role_width p.leaf.role p.leaf.holds (leaf_name p)
    ∙ elim (is_output p) as (λ (b : Bool). (if b then (number_type p.leaf.holds).width ∷ [] else []) ≡ widths_of_leaves (cond b (p ∷ []) []))
    [ true ↦ refl | false ↦ refl ]

source_widths : (ps : List PlacedLeaf) → flat_map kind_width (row_kinds (flat_map leaf_row ps)) ≡ widths_of_leaves (filter is_output ps)
source_widths ps =
    flat_map-map kind_width (λ (r : Row). (r.direction, r.signal)) (flat_map leaf_row ps)
    ∙ sym (list_parts row_width leaf_row ps)
    ∙ (λ i. flat_map (λ (p : PlacedLeaf). leaf_width p i) ps)
    ∙ map_parts (λ (p : PlacedLeaf). (number_type p.leaf.holds).width) (λ (p : PlacedLeaf). filter is_output (p ∷ [])) ps
    ∙ ap widths_of_leaves (chosen_parts is_output (λ (p : PlacedLeaf). p ∷ []) ps)
    ∙ ap (λ (qs : List PlacedLeaf). widths_of_leaves (filter is_output qs)) (flat_map_single (λ (p : PlacedLeaf). p) ps ∙ map-id ps)

pub same_widths : (t : SourceDesign) (v : Verilog) → port_kinds v ≡ row_kinds (source_rows t) → widths_of (output_nets v) ≡ output_widths t
same_widths t v same = sym (tree_widths v.ports) ∙ ap (flat_map kind_width) same ∙ source_widths (main_ports t)
