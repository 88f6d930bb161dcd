-- The nodes that the roles of a plain design read stand for whole terms, and what the roles read is found among kept nodes, also where others are put behind these.
use Rattle.std.proofs.Common.{◌≡◌, ℕ, List, length, Option, Some, None, sym, ◌∙◌, subst}
use Rattle.fir_bits.specs.declared.types.NumTy.{NumTy}
use Rattle.fir_leaf_circuit.specs.declared.leaf.LeafType.{LeafType as TypeOfCode}
use Rattle.fir_leaf_circuit.specs.declared.leaf.LeafType.TheVariants.{Clock, Number}
use Rattle.fir_leaf_types.specs.working.TypedModules.{held_in}
use Rattle.fir_meaning.specs.working.LeafCircuits.{LeafCircuit}
use Rattle.fir_connect.specs.working.CircuitModules.{as_module}
use Rattle.fir_connect.specs.working.NetRoles.{NetReset as ResetMeant, NetRole as RoleMeant, net_types}
use Rattle.fir_connect.specs.working.NetRoles as meant
use Rattle.fir_connect.specs.working.NetTerms.{NetTerm}
use Rattle.fir_net.specs.declared.node.Node.{Node}
use Rattle.fir_net.specs.declared.reads.Read.{Read}
use Rattle.fir_net.specs.declared.reads.Read.TheVariants as read
use Rattle.fir_merge.specs.declared.bound.Bound.{Bound}
use Rattle.fir_merge.specs.working.Bounds.{StandsFor}
use Rattle.fir_merge.specs.working.NodeTerms.{Grows, IsBelow, read_term, terms}
use Rattle.fir_merge.proofs.StandingValues.{stands_later}
use Rattle.fir_flat.specs.working.FlatCircuits.{NamesClock}
use Rattle.fir_flat.specs.working.WholeTerms.{IsWhole}
use Rattle.fir_whens.specs.declared.net_role.NetReset.{NetReset}
use Rattle.fir_whens.specs.declared.net_role.NetRole.{NetRole}
use Rattle.fir_whens.specs.declared.net_role.NetRole.TheVariants as code
use Rattle.fir_flatten.specs.declared.kept_nodes.KeptNodes.{KeptNodes}
use Rattle.fir_flatten.specs.working.FlatRoles.{clock_named}
use Rattle.fir_flatten.specs.working.KeptNodes.{EachRead, StandsWhole, StaysThere, moved, role_reads}
use Rattle.fir_flatten.proofs.GivenRoles.{Drives, GivesClock, IsClockOf, IsGiven, Resets}

-- a bound by the places of nodes among the kept ones
abbrev pub moved_bound : List ℕ → Bound → Bound
moved_bound places b = record { read = moved places b.read; ty = b.ty }

module _ (c : LeafCircuit) where
  -- when a bound stands for a term, as it is and by places
  abbrev pub StandsIn : List Node → Bound → NetTerm → Type 0
  StandsIn nodes b t = StandsFor (net_types (as_module c)) nodes b t

  abbrev pub StandsMoved : List ℕ → List Node → Bound → NetTerm → Type 0
  StandsMoved places nodes b t = StandsFor (net_types (as_module c)) nodes (moved_bound places b) t

  module _ (nodes : List Node) where
    abbrev Whole : Read → Type 0
    Whole = StandsWhole (held_in (as_module c)) (length c.leaves) nodes

    abbrev IsWholeTerm : NetTerm → Type 0
    IsWholeTerm = IsWhole (held_in (as_module c)) (length c.leaves)

    read_whole : (r : Read) (t : NetTerm) → read_term (terms nodes) r ≡ t → IsWholeTerm t → Whole r
    read_whole (read.Leaf x) t is whole = tt
    read_whole (read.Node k) t is whole = subst IsWholeTerm (sym is) whole

    drive_whole : (u : NumTy) (b : Bound) (t : NetTerm) → Drives c (StandsIn nodes) u b t → Whole b.read
    drive_whole u b t d = read_whole b.read t d.stands.term d.may.whole

    -- a node that gives no clock is a value
    clock_whole : (b : Bound) (t : NetTerm) → GivesClock c (StandsIn nodes) b t → Whole b.read
    clock_whole b t g = by g.clock g.names b.read g.reads g.stands.term
      where
        by : (k : Option ℕ) → NamesClock t k → (r : Read) → clock_named r ≡ k → read_term (terms nodes) r ≡ t → Whole r
        by k names (read.Leaf x) reads is = tt
        by None names (read.Node n) reads is = subst IsWholeTerm (sym (is ∙ names.1)) tt
        by (Some y) names (read.Node n) reads is = cc

    pub reads_whole : (holds : TypeOfCode) (r : NetRole) (q : RoleMeant) → IsGiven c (StandsIn nodes) holds r q → EachRead Whole (role_reads r)
    reads_whole Clock code.Source meant.source is = tt
    reads_whole (Number u) code.Source meant.source is = tt
    reads_whole Clock (code.Driven b) (meant.driven t) is = (clock_whole b t is, tt)
    reads_whole Clock (code.Computed b) (meant.computed t) is = (clock_whole b t is, tt)
    reads_whole (Number u) (code.Driven b) (meant.driven t) is = (drive_whole u b t is, tt)
    reads_whole (Number u) (code.Computed b) (meant.computed t) is = (drive_whole u b t is, tt)
    reads_whole (Number u) (code.Reading e) (meant.reading r) is = tt
    reads_whole (Number u) (code.Pipe e clock under) (meant.pipe r k v) is = tt
    reads_whole (Number u) (code.Register clock None next) (meant.register k None t) is = (drive_whole u next t is.2, tt)
    reads_whole (Number u) (code.Register clock (Some s) next) (meant.register k (Some p) t) is = (
      read_whole s.condition.read p.condition is.1.condition.term is.1.whole,
      (drive_whole u s.init p.init is.1.init, (drive_whole u next t is.2, tt)),
    )
    reads_whole (Number u) (code.Register clock None next) (meant.register k (Some p) t) is = absurd is.1
    reads_whole (Number u) (code.Register clock (Some s) next) (meant.register k None t) is = absurd is.1
    reads_whole holds r q is = absurd is

    module _ (kept : KeptNodes) (ns : List Node) (grows : Grows kept.nodes.items ns) where
      abbrev Stays : Read → Type 0
      Stays r = IsBelow (length nodes) r → StaysThere nodes kept r

      abbrev Moved : Bound → NetTerm → Type 0
      Moved = StandsMoved kept.places.items ns

      bound_moved : (b : Bound) (t : NetTerm) → StandsIn nodes b t → Stays b.read → Moved b t
      bound_moved b t h stays =
          let s = stays h.below in
          stands_later (net_types (as_module c)) kept.nodes.items ns (moved_bound kept.places.items b) t grows
          (record { below = s.below; term = s.term ∙ h.term; has_type = h.has_type })

      drive_moved : (u : NumTy) (b : Bound) (t : NetTerm) → Drives c (StandsIn nodes) u b t → Stays b.read → Drives c Moved u b t
      drive_moved u b t d stays = record { stands = bound_moved b t d.stands stays; may = d.may }

      -- clocks are read as they are
      clock_moved : (b : Bound) (t : NetTerm) → GivesClock c (StandsIn nodes) b t → Stays b.read → GivesClock c Moved b t
      clock_moved b t g stays = record {
        stands = bound_moved b t g.stands stays;
        clock = g.clock;
        names = g.names;
        is_leaf = g.is_leaf;
        reads = g.reads;
      }

      own_clock : (b : Bound) (t : NetTerm) → IsClockOf c (StandsIn nodes) b t → IsClockOf c Moved b t
      own_clock b t g = record { clock = g.clock; is_leaf = g.is_leaf; reads = g.reads; is = g.is }

      reset_moved : (u : NumTy) (s : NetReset) (p : ResetMeant) → Resets c (StandsIn nodes) u s p → Stays s.condition.read → Stays s.init.read
          → Resets c Moved u s p
      reset_moved u s p h condition init = record {
        alike = h.alike;
        condition = bound_moved s.condition p.condition h.condition condition;
        whole = h.whole;
        has_one_bit = h.has_one_bit;
        init = drive_moved u s.init p.init h.init init;
      }

      pub role_moved : (holds : TypeOfCode) (r : NetRole) (q : RoleMeant) → IsGiven c (StandsIn nodes) holds r q → EachRead Stays (role_reads r)
          → IsGiven c Moved holds r q
      role_moved Clock code.Source meant.source is stays = tt
      role_moved (Number u) code.Source meant.source is stays = tt
      role_moved Clock (code.Driven b) (meant.driven t) is stays = clock_moved b t is stays.0
      role_moved Clock (code.Computed b) (meant.computed t) is stays = clock_moved b t is stays.0
      role_moved (Number u) (code.Driven b) (meant.driven t) is stays = drive_moved u b t is stays.0
      role_moved (Number u) (code.Computed b) (meant.computed t) is stays = drive_moved u b t is stays.0
      role_moved (Number u) (code.Reading e) (meant.reading r) is stays = is
      role_moved (Number u) (code.Pipe e clock under) (meant.pipe r k v) is stays = is
      role_moved (Number u) (code.Register clock None next) (meant.register k None t) is stays = (own_clock clock k is.0, tt, drive_moved u next t is.2 stays.0)
      role_moved (Number u) (code.Register clock (Some s) next) (meant.register k (Some p) t) is stays =
          (own_clock clock k is.0, reset_moved u s p is.1 stays.0 stays.1.0, drive_moved u next t is.2 stays.1.1.0)
      role_moved (Number u) (code.Register clock None next) (meant.register k (Some p) t) is stays = absurd is.1
      role_moved (Number u) (code.Register clock (Some s) next) (meant.register k None t) is stays = absurd is.1
      role_moved holds r q is stays = absurd is
