-- The faults of a tree, in the order of the text (IEEE 1364-2005, 3.7, 4.2, 4.9, 5.4, 6.1, 9.2, 12.3): those of its ports and items, each beside what stands before
-- it, and what nothing drives.
use Rattle.std.specs.Prelude.{◌≡◌, ℕ, ◌+◌, List, [], ◌∷◌, ◌++◌, map, flat_map, drop, Bool, not, ◌&&◌, Option, Some, None, if◌then◌else◌}
use Rattle.fir_base.specs.Words.{is_among}
use Rattle.ver_ast.specs.declared.place.VPlace.{VPlace}
use Rattle.ver_ast.specs.declared.tree.Verilog.{Verilog}
use Rattle.ver_ast.specs.declared.tree.Port.{Port}
use Rattle.ver_ast.specs.declared.tree.Write.{Write}
use Rattle.ver_ast.specs.declared.tree.Edge.{Edge}
use Rattle.ver_ast.specs.declared.tree.Item.{Item}
use Rattle.ver_ast.specs.declared.tree.Item.TheVariants as item
use Rattle.ver_ast.specs.Grammar.{port_tokens, item_tokens}
use Rattle.ver_fault.specs.Faults.{VFault}
use Rattle.ver_check.specs.FaultForms.{undriven_fault}
use Rattle.fir_base.specs.declared.direction.Direction.{Direction}
use Rattle.fir_base.specs.declared.direction.Direction.TheVariants.{Input, Output}
use Rattle.ver_check.specs.declared.kind.Kind.{Kind}
use Rattle.ver_check.specs.declared.kind.Kind.TheVariants as kind
use Rattle.ver_check.specs.Scopes.{Declaration, is_driven}
use Rattle.ver_places.specs.Places.{place_at, range_places, behind, port_places, item_places}
use Rattle.ver_check.specs.ItemFaults.{Before, Driver, port_faults, item_faults, at_array}

-- nothing stands before
abbrev pub nothing_before : Before
nothing_before = record { scope = []; assigned = []; written = []; words = 0 }

abbrev pub with_declared : Before → Declaration → Before
with_declared before d = record before { scope = before.scope ++ d ∷ [] }

-- the place of a port's name
abbrev pub port_place : Port → List VPlace → VPlace
port_place p ps = place_at ((if p.is_clock then 2 else 1) + range_places p.width) ps

abbrev pub kind_by : Bool → Direction → ℕ → Kind
kind_by is_clock Input w = if is_clock then kind.ClockInput else kind.Input w
kind_by is_clock Output w = if is_clock then kind.ClockOutput else kind.Output w

abbrev pub behind_port : Before → Port → List VPlace → Before
behind_port before p ps = with_declared before (record { name = p.name; kind = kind_by p.is_clock p.direction p.width; place = port_place p ps })

-- a declaration whose word has the first of these places
abbrev pub behind_net : Before → Kind → ℕ → List ℕ → List VPlace → Before
behind_net before k width n ps = with_declared before (record { name = n; kind = k; place = place_at (1 + range_places width) ps })

abbrev pub with_words : Before → ℕ → Before
with_words before more = record before { words = before.words + more }

abbrev pub with_assigned : Before → List ℕ → VPlace → Before
with_assigned before n p = record before { assigned = before.assigned ++ record { name = n; place = p } ∷ [] }

abbrev pub with_written : Before → List ℕ → VPlace → Before
with_written before n p = record before { written = before.written ++ record { name = n; place = p } ∷ [] }

-- a block without a write is that of no array
abbrev pub behind_writes : Before → List Write → List VPlace → Before
behind_writes before [] ps = before
behind_writes before (w ∷ ws) ps = with_written before w.array (place_at 0 (at_array before w ps))

-- the place of the register in an asynchronous block
abbrev pub reset_place : Option Edge → List VPlace → VPlace
reset_place None ps = place_at 5 ps
reset_place (Some e) ps = place_at 8 ps

abbrev pub behind_item : Before → Item → List VPlace → Before
behind_item before (item.Wire n) ps = behind_net before (kind.Wire n.width) n.width n.name ps
behind_item before (item.Reg n) ps = behind_net before (kind.Register n.width) n.width n.name ps
behind_item before (item.Array a) ps = with_words (behind_net before (kind.Array a.width) a.width a.name ps) (a.last + 1)
behind_item before (item.Assign a) ps = with_assigned before a.target (place_at 1 ps)
behind_item before (item.Always b) ps = with_written before b.target (place_at 3 ps)
behind_item before (item.Resetting b) ps = with_written before b.target (reset_place b.edge ps)
behind_item before (item.Writing b) ps = behind_writes before b.writes (drop 4 ps)

-- of ports that have the first of these places, and what stands behind them
abbrev pub ports_faults : Before → List Port → List VPlace → List VFault
ports_faults before [] ps = []
ports_faults before (p ∷ rest) ps = port_faults before p ps ++ ports_faults (behind_port before p ps) rest (behind (port_tokens p) ps)

abbrev pub behind_ports : Before → List Port → List VPlace → Before
behind_ports before [] ps = before
behind_ports before (p ∷ rest) ps = behind_ports (behind_port before p ps) rest (behind (port_tokens p) ps)

abbrev pub items_faults : Before → List Item → List VPlace → List VFault
items_faults before [] ps = []
items_faults before (i ∷ rest) ps = item_faults before i ps ++ items_faults (behind_item before i ps) rest (behind (item_tokens i) ps)

abbrev pub behind_items : Before → List Item → List VPlace → Before
behind_items before [] ps = before
behind_items before (i ∷ rest) ps = behind_items (behind_item before i ps) rest (behind (item_tokens i) ps)

abbrev pub before_items : Verilog → Before
before_items v = behind_ports nothing_before v.ports (port_places v)

abbrev pub behind_all : Verilog → Before
behind_all v = behind_items (before_items v) v.items (item_places v)

-- of ports and items, in the order of the text
abbrev pub misfits : Verilog → List VFault
misfits v = ports_faults nothing_before v.ports (port_places v) ++ items_faults (before_items v) v.items (item_places v)

-- what has no assign, in the order of the text
abbrev pub is_assigned : List Driver → Declaration → Bool
is_assigned assigned d = is_among (map (λ x. x.name) assigned) d.name

abbrev pub undriven_of : Before → List VFault
undriven_of all = flat_map (λ d. if is_driven d.kind && not (is_assigned all.assigned d) then undriven_fault d.place d.name ∷ [] else []) all.scope

abbrev pub undriven : Verilog → List VFault
undriven v = undriven_of (behind_all v)

-- the first of a list
abbrev pub BeginsWith : List VFault → VFault → Type 0
BeginsWith fs f = (rest : List VFault) × (fs ≡ f ∷ rest)
