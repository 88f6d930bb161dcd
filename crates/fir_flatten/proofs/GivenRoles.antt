-- What gives the leaves of a plain design their values in its net: inputs; for numbers reads that stand for whole terms, which may drive the leaf; and for clocks a
-- clock leaf that is read as it is, or no clock.
use Rattle.std.proofs.Common.{◌≡◌, ℕ, List, [], ◌∷◌, length, Bool, Option, Some, None, option_map, refl, sym, ap, ◌∙◌, subst}
use Rattle.fir_base.proofs.Elements.{there}
use Rattle.fir_bits.specs.declared.types.NumTy.{NumTy}
use Rattle.fir_bits.specs.declared.values.Num.{Num}
use Rattle.fir_leaf_circuit.specs.declared.leaf.LeafType.{LeafType as TypeOfCode}
use Rattle.fir_leaf_circuit.specs.declared.leaf.LeafType.TheVariants.{Clock, Number}
use Rattle.fir_leaf_circuit.specs.declared.leaf.ReadingRole.{ReadingRole}
use Rattle.fir_leaf_circuit.specs.working.Seen.{reading_seen, type_seen}
use Rattle.fir_leaf_types.specs.working.TypedModules.{IsRoleTyped, held_in}
use Rattle.fir_meaning.specs.working.LeafBlocks.{LeafBlock}
use Rattle.fir_meaning.specs.working.LeafCircuits.{LeafCircuit}
use Rattle.fir_ast.specs.declared.statements.ReadUnderWrite.{ReadUnderWrite}
use Rattle.fir_meaning.specs.LeafTypes.{a_clock, number}
use Rattle.fir_meaning.specs.working.LeafModules.{LeafModule, LeafReset, Reading, Role, computed, pipe, reading, register, sink, source}
use Rattle.fir_memory_types.specs.working.TypedMemories.{AreMemoriesTyped, IsClockTyped, IsMemoryRoleTyped, IsReadingTyped}
use Rattle.fir_connect.specs.working.CircuitModules.{as_module}
use Rattle.fir_connect.specs.working.Lowered.{one_bit}
use Rattle.fir_connect.specs.working.NetRoles.{NetReset as ResetMeant, NetRole as RoleMeant, net_reset, net_role, net_types}
use Rattle.fir_connect.specs.working.NetRoles as meant
use Rattle.fir_connect.specs.working.NetTerms.{NetTerm, leaf, term_type, value}
use Rattle.fir_net.specs.declared.node.Node.{Node}
use Rattle.fir_net.specs.declared.node.Node.TheVariants as node
use Rattle.fir_net.specs.declared.reads.Read.{Read}
use Rattle.fir_net.specs.declared.reads.Read.TheVariants as read
use Rattle.fir_merge.specs.declared.bound.Bound.{Bound}
use Rattle.fir_merge.specs.working.Bounds.{StandsFor}
use Rattle.fir_merge.specs.working.NodeTerms.{IsBelow, ReadBefore, chosen_term, node_term, read_term, terms}
use Rattle.fir_merge.proofs.GrownTerms.{node_there}
use Rattle.fir_flat.specs.working.FlatCircuits.{NamesClock}
use Rattle.fir_flat.specs.working.WholeRoles.{IsResetWhole, IsRoleWhole, IsWholeIn, MayDrive}
use Rattle.fir_whens.specs.declared.net_role.NetReset.{NetReset}
use Rattle.fir_whens.specs.declared.net_role.NetRole.{NetRole}
use Rattle.fir_whens.specs.declared.net_role.NetRole.TheVariants as code
use Rattle.fir_whens.specs.working.StandingRoles.{ResetStands, RoleStands}
use Rattle.fir_flatten.specs.working.FlatDesigns.{IsClear, IsClockLeaf, IsClockTerm}
use Rattle.fir_flatten.specs.working.FlatRoles.{clock_named}

-- what a memory's port reads, of words of a type
pub record Reads (c : LeafCircuit) (u : NumTy) (e : ReadingRole) (r : Reading) : Type 0 where
  pub alike : reading_seen e ≡ r
  pub typed : IsReadingTyped c.leaves c.arrays (number u) (reading_seen e)

-- what it has read at the last edge of a clock
pub record ReadsLate (c : LeafCircuit) (u : NumTy) (e : ReadingRole) (clock : ℕ) (under : ReadUnderWrite) (r : Reading) (k : ℕ) (v : ReadUnderWrite)
    : Type 0 where
  pub reads : Reads c u e r
  pub same_clock : clock ≡ k
  pub moment : under ≡ v
  pub typed : IsClockTyped c.leaves clock

-- by when a bound stands for a term
module _ (c : LeafCircuit) (Stands : Bound → NetTerm → Type 0) where
  -- the clock of a register, which is a leaf that is read as it is
  pub record IsClockOf (b : Bound) (t : NetTerm) : Type 0 where
    pub clock : ℕ
    pub is_leaf : IsClockLeaf c (Some clock)
    pub reads : b.read ≡ read.Leaf clock
    pub is : t ≡ leaf clock

  -- what gives a leaf its clock
  pub record GivesClock (b : Bound) (t : NetTerm) : Type 0 where
    pub stands : Stands b t
    pub clock : Option ℕ
    pub names : NamesClock t clock
    pub is_leaf : IsClockLeaf c clock
    pub reads : clock_named b.read ≡ clock

  pub record Drives (u : NumTy) (b : Bound) (t : NetTerm) : Type 0 where
    pub stands : Stands b t
    pub may : MayDrive (as_module c) u t

  -- the reset of a register
  pub record Resets (u : NumTy) (r : NetReset) (q : ResetMeant) : Type 0 where
    pub alike : r.is_async ≡ q.is_async
    pub condition : Stands r.condition q.condition
    pub whole : IsWholeIn (as_module c) q.condition
    pub has_one_bit : term_type (net_types (as_module c)) q.condition ≡ one_bit
    pub init : Drives u r.init q.init

  abbrev pub MayReset : NumTy → Option NetReset → Option ResetMeant → Type 0
  MayReset u None None = Unit {0}
  MayReset u (Some r) (Some q) = Resets u r q
  MayReset u _ _ = ⊥

  -- a leaf by what it holds, what the code gives it, and its role in the net
  abbrev pub IsGiven : TypeOfCode → NetRole → RoleMeant → Type 0
  IsGiven Clock code.Source meant.source = Unit {0}
  IsGiven (Number u) code.Source meant.source = Unit {0}
  IsGiven Clock (code.Driven b) (meant.driven t) = GivesClock b t
  IsGiven Clock (code.Computed b) (meant.computed t) = GivesClock b t
  IsGiven (Number u) (code.Driven b) (meant.driven t) = Drives u b t
  IsGiven (Number u) (code.Computed b) (meant.computed t) = Drives u b t
  IsGiven (Number u) (code.Register clock reset next) (meant.register k q t) = IsClockOf clock k × MayReset u reset q × Drives u next t
  IsGiven (Number u) (code.Reading e) (meant.reading r) = Reads c u e r
  IsGiven (Number u) (code.Pipe e clock under) (meant.pipe r k v) = ReadsLate c u e clock under r k v
  IsGiven _ _ _ = ⊥

-- a node stands for no leaf
no_choice : (known : List NetTerm) (rs : List Read) (signed : Bool) (width y : ℕ) → chosen_term known rs signed width ≡ leaf y → ⊥
no_choice known [] signed width y e = cc
no_choice known (c ∷ []) signed width y e = cc
no_choice known (c ∷ a ∷ []) signed width y e = cc
no_choice known (c ∷ a ∷ b ∷ []) signed width y e = cc
no_choice known (c ∷ a ∷ b ∷ d ∷ rs) signed width y e = cc

no_node : (known : List NetTerm) (n : Node) (y : ℕ) → node_term known n ≡ leaf y → ⊥
no_node known (node.Literal v) y e = cc
no_node known (node.Operation o) y e = cc
no_node known (node.Mux m) y e = no_choice known m.reads m.signed m.width y e

leaf_read : (nodes : List Node) (r : Read) (y : ℕ) → ReadBefore 0 nodes → IsBelow (length nodes) r → read_term (terms nodes) r ≡ leaf y → r ≡ read.Leaf y
leaf_read nodes (read.Leaf x) y before below e = let same : x ≡ y = cc in ap read.Leaf same
leaf_read nodes (read.Node k) y before below e =
    let found = there nodes k below in
    absurd (no_node (terms nodes) found.0 y (sym (node_there nodes k found.0 before found.1) ∙ e))

-- what stands for a value is no leaf
value_read : (known : List NetTerm) (r : Read) (v : Num) → read_term known r ≡ value v → clock_named r ≡ None
value_read known (read.Leaf x) v e = cc
value_read known (read.Node k) v e = refl

-- where the leaf holds a number, its role is made of whole terms
abbrev pub IsWholeWhere : LeafModule → TypeOfCode → RoleMeant → Type 0
IsWholeWhere m Clock q = Unit {0}
IsWholeWhere m (Number u) q = IsRoleWhole m u q

module _ (c : LeafCircuit) (nodes : List Node) (before : ReadBefore 0 nodes) where
  abbrev stands : Bound → NetTerm → Type 0
  stands b t = StandsFor (net_types (as_module c)) nodes b t

  clock_given : (t : NetTerm) (b : Bound) → IsClockTerm c t → stands b t → GivesClock c stands b t
  clock_given t b clear h = record {
    stands = h;
    clock = clear.0;
    names = clear.1;
    is_leaf = clear.2;
    reads = by clear.0 clear.1;
  }
    where
      by : (k : Option ℕ) → NamesClock t k → clock_named b.read ≡ k
      by None names = value_read (terms nodes) b.read names.0 (h.term ∙ names.1)
      by (Some y) names = ap clock_named (leaf_read nodes b.read y before h.below (h.term ∙ names))

  register_clock : (t : NetTerm) (b : Bound) → (y : ℕ) × (t ≡ leaf y) × IsClockLeaf c (Some y) → stands b t → IsClockOf c stands b t
  register_clock t b clear h = record {
    clock = clear.0;
    is_leaf = clear.2;
    reads = leaf_read nodes b.read clear.0 before h.below (h.term ∙ clear.1);
    is = clear.1;
  }

  reset_given : (u : NumTy) (reset : Option LeafReset) (r : Option NetReset)
      → ResetStands (net_types (as_module c)) nodes r (option_map (net_reset (net_types (as_module c))) reset)
      → IsResetWhole (as_module c) u (option_map (net_reset (net_types (as_module c))) reset)
      → MayReset c stands u r (option_map (net_reset (net_types (as_module c))) reset)
  reset_given u None None h whole = tt
  reset_given u None (Some r) h whole = absurd h
  reset_given u (Some s) None h whole = absurd h
  reset_given u (Some s) (Some r) h whole = record {
    alike = h.0;
    condition = h.1;
    whole = whole.0;
    has_one_bit = whole.1;
    init = record { stands = h.2; may = whole.2 };
  }

  source_given : (holds : TypeOfCode) (r : NetRole) → RoleStands (net_types (as_module c)) nodes r meant.source → IsGiven c stands holds r meant.source
  source_given Clock code.Source h = tt
  source_given (Number u) code.Source h = tt
  source_given holds (code.Driven b) h = absurd h
  source_given holds (code.Computed b) h = absurd h
  source_given holds (code.Register clock reset next) h = absurd h
  source_given holds (code.Reading e) h = absurd h
  source_given holds (code.Pipe e clock under) h = absurd h

  -- a memory's words are numbers
  no_clock : {A : Type 0} → (r : Reading) → AreMemoriesTyped c.leaves c.arrays → IsReadingTyped c.leaves c.arrays a_clock r → A
  no_clock r memories typed =
      let own = memories.arrays_typed r.array typed.array typed.is_there in
      let is : number own.data_type ≡ a_clock = sym own.is ∙ typed.holds in
      cc

  reads_given : (u : NumTy) (e : ReadingRole) (r : Reading) → reading_seen e ≡ r → IsReadingTyped c.leaves c.arrays (number u) r → Reads c u e r
  reads_given u e r alike typed = record { alike = alike; typed = subst (IsReadingTyped c.leaves c.arrays (number u)) (sym alike) typed }

  module _ (depth : ℕ) (b : LeafBlock) (x : ℕ) where
    abbrev role_meant : Role → RoleMeant
    role_meant q = net_role (net_types (as_module c)) depth b x q

    pub role_given : (holds : TypeOfCode) (q : Role) (r : NetRole) → AreMemoriesTyped c.leaves c.arrays
        → IsMemoryRoleTyped c.leaves c.arrays (type_seen holds) q → IsRoleTyped (held_in (as_module c)) (type_seen holds) q
        → IsClear c (type_seen holds) (role_meant q) → RoleStands (net_types (as_module c)) nodes r (role_meant q)
        → IsWholeWhere (as_module c) holds (role_meant q) → IsGiven c stands holds r (role_meant q)
    role_given holds source r memories own typed clear h whole = source_given holds r h
    role_given Clock sink (code.Driven d) memories own typed clear h whole = clock_given _ d clear h
    role_given Clock sink r memories own typed clear h whole = absurd h
    role_given Clock (computed t) (code.Computed d) memories own typed clear h whole = clock_given _ d clear h
    role_given Clock (computed t) r memories own typed clear h whole = absurd h
    role_given Clock (register clock reset) r memories own typed clear h whole = let none = typed.0.1 in cc
    role_given (Number u) sink (code.Driven d) memories own typed clear h whole = record { stands = h; may = whole }
    role_given (Number u) sink r memories own typed clear h whole = absurd h
    role_given (Number u) (computed t) (code.Computed d) memories own typed clear h whole = record { stands = h; may = whole }
    role_given (Number u) (computed t) r memories own typed clear h whole = absurd h
    role_given (Number u) (register clock reset) (code.Register k s d) memories own typed clear h whole =
        (register_clock _ k clear h.0, reset_given u reset s h.1 whole.0, record { stands = h.2; may = whole.1 })
    role_given (Number u) (register clock reset) r memories own typed clear h whole = absurd h
    role_given Clock (reading e) r memories own typed clear h whole = no_clock e memories own
    role_given Clock (pipe e clock under) r memories own typed clear h whole = no_clock e memories own.0
    role_given (Number u) (reading e) (code.Reading d) memories own typed clear h whole = reads_given u d e h own
    role_given (Number u) (reading e) r memories own typed clear h whole = absurd h
    role_given (Number u) (pipe e clock under) (code.Pipe d k v) memories own typed clear h whole = record {
      reads = reads_given u d e h.0 own.0;
      same_clock = h.1;
      moment = h.2;
      typed = subst (IsClockTyped c.leaves) (sym h.1) own.1;
    }
    role_given (Number u) (pipe e clock under) r memories own typed clear h whole = absurd h
