-- The faults of ports and items, each beside what stands before it, in the order of the text (IEEE 1364-2005, 3.7, 4.2, 4.9, 6.1, 9.2, 9.4, 12.3).
use Rattle.std.specs.Prelude.{ℕ, ◌+◌, List, [], ◌∷◌, ◌++◌, drop, nat_eq, nat_lt, Option, Some, None, if◌then◌else◌}
use Rattle.std.specs.Str.{bytes_eq}
use Rattle.ver_ast.specs.declared.place.VPlace.{VPlace}
use Rattle.ver_ast.specs.declared.tree.Port.{Port}
use Rattle.ver_ast.specs.declared.tree.Array.{Array}
use Rattle.ver_ast.specs.declared.tree.Assign.{Assign}
use Rattle.ver_ast.specs.declared.tree.Always.{Always}
use Rattle.ver_ast.specs.declared.tree.Edge.{Edge}
use Rattle.ver_ast.specs.declared.tree.Resetting.{Resetting}
use Rattle.ver_ast.specs.declared.tree.Write.{Write}
use Rattle.ver_ast.specs.declared.tree.Writing.{Writing}
use Rattle.ver_ast.specs.declared.tree.Item.{Item}
use Rattle.ver_ast.specs.declared.tree.Item.TheVariants as item
use Rattle.ver_ast.specs.AtomForms.{constant_number}
use Rattle.ver_ast.specs.Grammar.{atom_tokens, write_tokens}
use Rattle.ver_fault.specs.Faults.{VFault}
use Rattle.ver_check.specs.FaultForms.{undeclared_fault, kind_fault, twice_fault}
use Rattle.ver_check.specs.Scopes.{Declaration, Scope, declaration_of, kind_of, kind_bits, register_bits, word_bits, bits_of}
use Rattle.ver_check.specs.declared.kind.Kind.{Kind}
use Rattle.ver_check.specs.declared.kind.Kind.TheVariants as kind
use Rattle.ver_places.specs.Places.{place_at, range_places, behind}
use Rattle.ver_check.specs.OperandFaults.{name_faults, is_narrow, is_constant_fit, width_faults, own_faults, atom_faults}
use Rattle.ver_check.specs.SideFaults.{side_faults, truth_faults, clock_faults, clock_side_faults, misplaced_faults}

-- a name that has a driver, and where it stands in the first one
pub record Driver : Type 0 where
  pub name : List ℕ
  pub place : VPlace

-- what stands before an item: the names that are declared, those that assigns and that blocks drive, and how many words all arrays have
pub record Before : Type 0 where
  pub scope : Scope
  pub assigned : List Driver
  pub written : List Driver
  pub words : ℕ

abbrev pub driver_of : List Driver → List ℕ → Option Driver
driver_of [] name = None
driver_of (d ∷ ds) name = if bytes_eq name d.name then Some d else driver_of ds name

-- a name that is declared, or driven, before
abbrev pub declared_faults : VPlace → List ℕ → Option Declaration → List VFault
declared_faults p n None = []
declared_faults p n (Some d) = twice_fault p n d.place ∷ []

abbrev pub driven_faults : VPlace → List ℕ → Option Driver → List VFault
driven_faults p n None = []
driven_faults p n (Some d) = twice_fault p n d.place ∷ []

-- a range of 2 to 128 bits, which shows at its number that it is none; where no range is written the width is 1
abbrev pub range_faults : ℕ → VPlace → List VFault
range_faults width p = if is_narrow width then [] else kind_fault p ∷ []

abbrev pub no_range_faults : ℕ → VPlace → List VFault
no_range_faults width p = if nat_eq width 1 then [] else kind_fault p ∷ []

module _ (before : Before) where
  -- the name of a declaration whose word has the first of these places
  abbrev pub named_faults : ℕ → List ℕ → List VPlace → List VFault
  named_faults width n ps =
      range_faults width (place_at 2 ps) ++ declared_faults (place_at (1 + range_places width) ps) n (declaration_of before.scope n)

  -- a clock has no range: one that has shows it there
  abbrev pub clock_port_faults : ℕ → List ℕ → List VPlace → List VFault
  clock_port_faults width n ps =
      no_range_faults width (place_at 2 ps) ++ declared_faults (place_at (2 + range_places width) ps) n (declaration_of before.scope n)

  abbrev pub port_faults : Port → List VPlace → List VFault
  port_faults p ps = if p.is_clock then clock_port_faults p.width p.name ps else named_faults p.width p.name ps

  -- all arrays have at most 4194304 words: the one that passes them shows it at the number of its last word
  abbrev pub array_faults : Array → List VPlace → List VFault
  array_faults a ps =
      named_faults a.width a.name ps
      ++ (if nat_lt 4194304 (before.words + (a.last + 1)) then kind_fault (place_at (4 + range_places a.width) ps) ∷ [] else [])

  -- of a target that is declared as what an assign may drive, with so many bits
  abbrev pub net_assign_faults : ℕ → Assign → List VPlace → List VFault
  net_assign_faults w a ps =
      truth_faults w a.rhs (place_at 1 ps) ++ driven_faults (place_at 1 ps) a.target (driver_of before.assigned a.target)
      ++ side_faults before.scope w a.rhs (drop 2 ps)

  abbrev pub clock_assign_faults : Assign → List VPlace → List VFault
  clock_assign_faults a ps =
      driven_faults (place_at 1 ps) a.target (driver_of before.assigned a.target) ++ clock_side_faults before.scope a.rhs (place_at 2 ps)

  -- by what the target is declared as, and where; an input has its driver outside
  abbrev pub assign_faults_by : Option Declaration → Assign → List VPlace → List VFault
  assign_faults_by None a ps = undeclared_fault (place_at 1 ps) a.target ∷ []
  assign_faults_by (Some d) a ps = of_kind d.kind
    where
      of_kind : Kind → List VFault
      of_kind kind.ClockInput = twice_fault (place_at 1 ps) a.target d.place ∷ []
      of_kind kind.ClockOutput = clock_assign_faults a ps
      of_kind (kind.Input w) = truth_faults w a.rhs (place_at 1 ps) ++ twice_fault (place_at 1 ps) a.target d.place ∷ []
      of_kind (kind.Output w) = net_assign_faults w a ps
      of_kind (kind.Wire w) = net_assign_faults w a ps
      of_kind (kind.Register w) = kind_fault (place_at 1 ps) ∷ []
      of_kind (kind.Array w) = kind_fault (place_at 1 ps) ∷ []

  abbrev pub assign_faults : Assign → List VPlace → List VFault
  assign_faults a ps = assign_faults_by (declaration_of before.scope a.target) a ps

  -- the register that a block writes, which no other block does
  abbrev pub register_faults : List ℕ → VPlace → List VFault
  register_faults n p = name_faults register_bits p n (kind_of before.scope n) ++ driven_faults p n (driver_of before.written n)

  abbrev pub always_faults : Always → List VPlace → List VFault
  always_faults b ps =
      clock_faults (place_at 2 ps) b.clock (kind_of before.scope b.clock) ++ register_faults b.target (place_at 3 ps)
      ++ atom_faults before.scope (bits_of register_bits before.scope b.target) b.source (drop 4 ps)

  -- a reset is a net of one bit
  abbrev pub reset_faults : List ℕ → VPlace → List VFault
  reset_faults n p = name_faults kind_bits p n (kind_of before.scope n) ++ width_faults (Some 1) (bits_of kind_bits before.scope n) p

  -- the name of before stands there again
  abbrev pub again_faults : List ℕ → List ℕ → VPlace → List VFault
  again_faults first n p = if bytes_eq first n then [] else misplaced_faults p n (kind_of before.scope n)

  -- what stands from the reset's name on: the reset, `if`, the reset again, the register, the constant
  abbrev pub tested_faults : Resetting → List VPlace → List VFault
  tested_faults b ps =
      reset_faults b.reset (place_at 0 ps) ++ again_faults b.reset b.tested (place_at 2 ps) ++ register_faults b.target (place_at 3 ps)
      ++ own_faults (bits_of register_bits before.scope b.target) (Some b.value.width) (is_constant_fit b.value.width (constant_number b.value)) (place_at 4 ps)

  abbrev pub edge_faults : Resetting → Edge → List VPlace → List VFault
  edge_faults b e ps =
      clock_faults (place_at 2 ps) e.clock (kind_of before.scope e.clock) ++ tested_faults b (drop 5 ps)
      ++ again_faults b.target e.target (place_at 11 ps)
      ++ atom_faults before.scope (bits_of register_bits before.scope b.target) e.source (drop 12 ps)

  abbrev pub resetting_faults_by : Option Edge → Resetting → List VPlace → List VFault
  resetting_faults_by None b ps = tested_faults b (drop 2 ps)
  resetting_faults_by (Some e) b ps = edge_faults b e ps

  abbrev pub resetting_faults : Resetting → List VPlace → List VFault
  resetting_faults b ps = resetting_faults_by b.edge b ps

  -- the index and the word of a write, from its array's place on
  abbrev pub written_faults : Write → List VPlace → List VFault
  written_faults w ps =
      atom_faults before.scope None w.index (drop 2 ps)
      ++ atom_faults before.scope (bits_of word_bits before.scope w.array) w.source (behind (atom_tokens w.index) (drop 2 ps))

  -- the places of a write from its array's on
  abbrev pub at_array : Write → List VPlace → List VPlace
  at_array w ps = behind (atom_tokens w.condition) (drop 1 ps)

  -- the first write of a block, to an array that no other block writes
  abbrev pub first_write_faults : Write → List VPlace → List VFault
  first_write_faults w ps =
      atom_faults before.scope (Some 1) w.condition (drop 1 ps)
      ++ name_faults word_bits (place_at 0 (at_array w ps)) w.array (kind_of before.scope w.array)
      ++ driven_faults (place_at 0 (at_array w ps)) w.array (driver_of before.written w.array) ++ written_faults w (at_array w ps)

  -- a further write, to the same array
  abbrev pub next_write_faults : List ℕ → Write → List VPlace → List VFault
  next_write_faults first w ps =
      atom_faults before.scope (Some 1) w.condition (drop 1 ps) ++ again_faults first w.array (place_at 0 (at_array w ps))
      ++ written_faults w (at_array w ps)

  abbrev pub more_writes_faults : List ℕ → List Write → List VPlace → List VFault
  more_writes_faults first [] ps = []
  more_writes_faults first (w ∷ ws) ps = next_write_faults first w ps ++ more_writes_faults first ws (behind (write_tokens w) ps)

  abbrev pub writes_faults : List Write → List VPlace → List VFault
  writes_faults [] ps = []
  writes_faults (w ∷ ws) ps = first_write_faults w ps ++ more_writes_faults w.array ws (behind (write_tokens w) ps)

  abbrev pub writing_faults : Writing → List VPlace → List VFault
  writing_faults b ps = clock_faults (place_at 2 ps) b.clock (kind_of before.scope b.clock) ++ writes_faults b.writes (drop 4 ps)

  -- of an item that has the first of these places
  abbrev pub item_faults : Item → List VPlace → List VFault
  item_faults (item.Wire n) ps = named_faults n.width n.name ps
  item_faults (item.Reg n) ps = named_faults n.width n.name ps
  item_faults (item.Array a) ps = array_faults a ps
  item_faults (item.Assign a) ps = assign_faults a ps
  item_faults (item.Always b) ps = always_faults b ps
  item_faults (item.Resetting b) ps = resetting_faults b ps
  item_faults (item.Writing b) ps = writing_faults b ps
