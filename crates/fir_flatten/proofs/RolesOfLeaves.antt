-- The role of a leaf in a flat net: it gives what the role of the leaf in the net of the design gives, and can be driven by what it reads.
use Rattle.std.proofs.Common.{◌≡◌, ℕ, ◌<◌, max, List, [], ◌∷◌, length, Bool, true, false, if◌then◌else◌, Option, Some, None, slice_get, unwrap_or, option_map, refl, sym, ap, ◌∙◌, subst, inl, inr}
use Rattle.std.proofs.lemmas.Option.{slice_get_within}
use Rattle.fir_bits.specs.Forms.{no_type}
use Rattle.fir_bits.specs.declared.types.NumTy.{NumTy}
use Rattle.fir_leaf_circuit.specs.declared.leaf.LeafType.{LeafType as TypeOfCode}
use Rattle.fir_leaf_circuit.specs.declared.leaf.LeafType.TheVariants.{Clock, Number}
use Rattle.fir_leaf_circuit.specs.declared.leaf.ReadingRole.{ReadingRole}
use Rattle.fir_leaf_circuit.specs.working.Seen.{type_seen}
use Rattle.fir_leaf_types.specs.working.TypedModules.{held_in}
use Rattle.fir_meaning.specs.LeafTypes.{a_clock}
use Rattle.fir_meaning.specs.working.LeafCircuits.{LeafCircuit}
use Rattle.fir_meaning.specs.working.LeafModules.{Reading}
use Rattle.fir_connect.specs.working.CircuitModules.{as_module}
use Rattle.fir_connect.specs.working.NetRoles.{NetReset as ResetMeant, NetRole as RoleMeant, net_types}
use Rattle.fir_connect.specs.working.NetRoles as meant
use Rattle.fir_connect.specs.working.NetTerms.{NetTerm, choice, leaf, mux}
use Rattle.fir_net.specs.declared.leaf.Reset.{Reset}
use Rattle.fir_net.specs.declared.net.FlatNet.{FlatNet}
use Rattle.fir_net.specs.declared.node.Node.{Node}
use Rattle.fir_net.specs.declared.reads.Read.{Read}
use Rattle.fir_net.specs.declared.reads.Read.TheVariants as read
use Rattle.fir_net.specs.working.IsNet.{CanBeClock, CanBeDriven, CanBeReset, CanDrive, IsAddressed, IsClock, IsReset, IsRole, node_type}
use Rattle.fir_merge.specs.declared.bound.Bound.{Bound}
use Rattle.fir_merge.proofs.GrownTerms.{node_there}
use Rattle.fir_flat.specs.working.FlatCircuits.{IsClockedBy, IsDrivenBy, IsNextOf, IsReadingOf, IsResetOf, IsRoleOf, NamesClock, is_new, next_of, reset_kept}
use Rattle.fir_whens.specs.declared.net_role.NetReset.{NetReset}
use Rattle.fir_whens.specs.declared.net_role.NetRole.{NetRole}
use Rattle.fir_whens.specs.declared.net_role.NetRole.TheVariants as code
use Rattle.fir_flatten.specs.working.ArrayPorts.{array_read, enable_of, reading_nodes}
use Rattle.fir_flatten.specs.working.FlatDesigns.{IsClockLeaf}
use Rattle.fir_flatten.specs.working.FlatRoles.{added_by, async_reset, choice_node, choices_of_reset, clock_named, clock_of, driven_next, driven_role, flat_role_of, next_read, reset_of, width_of}
use Rattle.fir_flatten.specs.working.KeptNodes.{LeavesHold, moved}
use Rattle.fir_flatten.proofs.BuiltNodes.{AreBuilt}
use Rattle.fir_flatten.proofs.ChoiceNodes.{drive_of, one_choice, read_of}
use Rattle.fir_flatten.proofs.GivenRoles.{Drives, IsGiven, MayReset, Reads, Resets}
use Rattle.fir_flatten.proofs.MovedRoles.{StandsMoved}
use Rattle.fir_flatten.proofs.PortBits.{addressed, reading_bit, reading_term}
use Rattle.fir_flatten.proofs.StandingNodes.{StandAt, stands_first}

driven_by : (places : List ℕ) (outer : Bool) (u : NumTy) (r : Read) → IsDrivenBy (driven_role places outer (Number u) r) (moved places r)
driven_by places true u r = inl refl
driven_by places false u r = inr refl

clocked_by : (places : List ℕ) (outer : Bool) (r : Read) → IsClockedBy (driven_role places outer Clock r) (clock_named r)
clocked_by places true r = inl refl
clocked_by places false r = inr refl

-- what is computed is no port
abbrev pub StandsInside : Bool → RoleMeant → Type 0
StandsInside outer (meant.computed t) = outer ≡ false
StandsInside outer _ = Unit {0}

-- what drives a register of that number is what it shows
abbrev pub KeepsOwn : ℕ → RoleMeant → Type 0
KeepsOwn k (meant.register c p t) = t ≡ leaf k
KeepsOwn k _ = Unit {0}

module _
    (c : LeafCircuit) (net : FlatNet) (hold : LeavesHold net.leaves (held_in (as_module c)) (length c.leaves)) (places : List ℕ) (old : List Node)
    (built : AreBuilt net.leaves old net.nodes) where
  abbrev Stands : Bound → NetTerm → Type 0
  Stands = StandsMoved c places net.nodes

  -- what a register takes
  record IsNext (k : ℕ) (u : NumTy) (r : Option Read) (t : NetTerm) : Type 0 where
    term : IsNextOf net.nodes k r t
    can : CanBeDriven net.leaves net.nodes u.signed r

  next_plain : (k : ℕ) (driven : Bool) (u : NumTy) (b : Bound) (t : NetTerm) → Drives c Stands u b t → (driven ≡ false → t ≡ leaf k)
      → IsNext k u (driven_next places driven b) t
  next_plain k true u b t d own = record { term = d.stands.term; can = drive_of c net.leaves hold places old net.nodes built u b t d }
  next_plain k false u b t d own = record { term = own refl; can = tt }

  next_chosen : (k : ℕ) (u : NumTy) (s : NetReset) (p : ResetMeant) (next : Bound) (t : NetTerm) (count : ℕ) → Resets c Stands u s p → Drives c Stands u next t
      → slice_get net.nodes count ≡ Some (choice_node places s next) → IsNext k u (Some (read.Node count)) (choice (net_types (as_module c)) p.condition p.init t)
  next_chosen k u s p next t count h d at =
      let n = choice_node places s next in
      let condition = h.condition.term in
      let first = h.init.stands.term in
      let second = d.stands.term in
      let first_type = h.init.stands.has_type in
      let second_type = d.stands.has_type in
      record {
        term =
            node_there net.nodes count n built.before at
            ∙ (λ j. mux (condition j) (first j) (second j) (record { signed = (first_type j).signed; width = max (first_type j).width (second_type j).width }));
        can = record {
          can = slice_get_within net.nodes count n at;
          kind =
              ap (λ (o : Option Node). (unwrap_or (option_map node_type o) no_type).signed) at
              ∙ ap (λ (v : NumTy). v.signed) first_type ∙ h.init.may.kind;
        };
      }

  next_is : (k : ℕ) (driven : Bool) (u : NumTy) (s : Option NetReset) (p : Option ResetMeant) (next : Bound) (t : NetTerm) (count : ℕ)
      → MayReset c Stands u s p → Drives c Stands u next t → (driven ≡ false → t ≡ leaf k)
      → ((n : Node) → choices_of_reset places s next ≡ n ∷ [] → slice_get net.nodes count ≡ Some n)
      → IsNext k u (next_read places driven count s next) (next_of (net_types (as_module c)) p t)
  next_is k driven u None None next t count h d own at = next_plain k driven u next t d own
  next_is k driven u None (Some p) next t count h d own at = absurd h
  next_is k driven u (Some s) None next t count h d own at = absurd h
  next_is k driven u (Some s) (Some p) next t count h d own at = by s.is_async p.is_async refl h.alike
    where
      by : (a b : Bool) → s.is_async ≡ a → a ≡ b
          → IsNext k u (if a then driven_next places driven next else Some (read.Node count))
          (if b then t else choice (net_types (as_module c)) p.condition p.init t)
      by true true e same = next_plain k driven u next t d own
      by true false e same = cc
      by false true e same = cc
      by false false e same = next_chosen k u s p next t count h d (at (choice_node places s next) (one_choice places s next e))

  -- an asynchronous reset stays, and no other
  record IsKept (own : Option Reset) (signed : Bool) (p : Option ResetMeant) : Type 0 where
    kept : IsResetOf net.nodes own (reset_kept p)
    can : CanBeReset net.leaves net.nodes signed own

  async_kept : (u : NumTy) (s : NetReset) (p : ResetMeant) → Resets c Stands u s p → IsReset net.leaves net.nodes u.signed (async_reset places s)
  async_kept u s p h =
      let condition = read_of c net.leaves hold places old net.nodes built s.condition p.condition h.condition h.whole in
      record {
        condition = condition.can;
        has_one_bit = condition.has_type ∙ h.has_one_bit;
        init = drive_of c net.leaves hold places old net.nodes built u s.init p.init h.init;
      }

  reset_is : (u : NumTy) (s : Option NetReset) (p : Option ResetMeant) → MayReset c Stands u s p → IsKept (reset_of places s) u.signed p
  reset_is u None None h = record { kept = tt; can = tt }
  reset_is u None (Some p) h = absurd h
  reset_is u (Some s) None h = absurd h
  reset_is u (Some s) (Some p) h = by s.is_async p.is_async h.alike
    where
      by : (a b : Bool) → a ≡ b → IsKept (if a then Some (async_reset places s) else None) u.signed (Some (record p { is_async = b }))
      by true true same = record { kept = (refl, h.condition.term, h.init.stands.term); can = async_kept u s p h }
      by true false same = cc
      by false true same = cc
      by false false same = record { kept = tt; can = tt }

  module _ (outer driven : Bool) (k count : ℕ) where
    abbrev PutAt : NetRole → Type 0
    PutAt r = StandAt net.nodes count (added_by places r count)

    -- the choice of a reset
    choice_at : (clock next : Bound) (s : Option NetReset) → PutAt (code.Register clock s next) → (n : Node) → choices_of_reset places s next ≡ n ∷ []
        → slice_get net.nodes count ≡ Some n
    choice_at clock next s at n one = stands_first net.nodes count n [] (subst (StandAt net.nodes count) one at)

    -- what a memory's port reads
    reading_stands : (u : NumTy) (e : ReadingRole) (m : Reading) → Reads c u e m → StandAt net.nodes count (reading_nodes e count)
        → IsReadingOf net.nodes (array_read e count) m
    reading_stands u e m is at =
        subst (IsReadingOf net.nodes (array_read e count)) is.alike
        (record { array = refl; address = refl; enable = reading_term c net.leaves hold net.nodes built.before count e.enable e.mode at })

    reading_can : (u : NumTy) (e : ReadingRole) (m : Reading) → Reads c u e m → StandAt net.nodes count (reading_nodes e count)
        → IsAddressed net.leaves net.nodes (array_read e count).address (array_read e count).enable
    reading_can u e m is at =
        addressed c net.leaves hold net.nodes e.address (enable_of e.enable e.mode count) is.typed.address
        (reading_bit c net.leaves hold net.nodes built.before count e.enable e.mode is.typed.needs at)

    pub role_stands : (holds : TypeOfCode) (r : NetRole) (q : RoleMeant) → IsGiven c Stands holds r q → PutAt r → (driven ≡ false → KeepsOwn k q)
        → StandsInside outer q
        → IsRoleOf net.nodes (net_types (as_module c)) k (flat_role_of places outer driven holds r count) (type_seen holds) q
    role_stands Clock code.Source meant.source is at own inside = refl
    role_stands (Number u) code.Source meant.source is at own inside = refl
    role_stands Clock (code.Driven b) (meant.driven t) is at own inside =
        (clock_named b.read, clocked_by places outer b.read, subst (NamesClock t) (sym is.reads) is.names)
    role_stands Clock (code.Computed b) (meant.computed t) is at own inside =
        (clock_named b.read, ap (λ (o : Bool). driven_role places o Clock b.read) inside, subst (NamesClock t) (sym is.reads) is.names)
    role_stands (Number u) (code.Driven b) (meant.driven t) is at own inside = (moved places b.read, driven_by places outer u b.read, is.stands.term)
    role_stands (Number u) (code.Computed b) (meant.computed t) is at own inside =
        (moved places b.read, ap (λ (o : Bool). driven_role places o (Number u) b.read) inside, is.stands.term)
    role_stands (Number u) (code.Register clock s next) (meant.register j p t) is at own inside = (
      clock_of clock.read,
      reset_of places s,
      next_read places driven count s next,
      refl,
      is.0.is ∙ ap leaf (ap clock_of (sym is.0.reads)),
      (reset_is u s p is.1).kept,
      (next_is k driven u s p next t count is.1 is.2 own (choice_at clock next s at)).term,
    )
    role_stands (Number u) (code.Reading e) (meant.reading m) is at own inside = (array_read e count, refl, reading_stands u e m is at)
    role_stands (Number u) (code.Pipe e clock under) (meant.pipe m k v) is at own inside = (
      record { clock = clock; read = array_read e count; is_new = is_new under },
      refl,
      record { read = reading_stands u e m is.reads at; clock = is.same_clock; moment = ap is_new is.moment },
    )
    role_stands holds r q is at own inside = absurd is

    driven_can : (b : Bool) (u : NumTy) (r : Read) → CanDrive net.leaves net.nodes u.signed (moved places r)
        → IsRole net.leaves net.nodes u.signed u.width (driven_role places b (Number u) r)
    driven_can true u r can = can
    driven_can false u r can = can

    -- the clock leaves are clocks of the net
    module _ (clocks : (y : ℕ) → y < length c.leaves → held_in (as_module c) y ≡ a_clock → IsClock net.leaves y) where
      clock_can : (y : Option ℕ) → IsClockLeaf c y → CanBeClock net.leaves y
      clock_can None is = tt
      clock_can (Some y) is = clocks y is.0 is.1

      clocked_can : (b : Bool) (r : Read) (y : Option ℕ) → clock_named r ≡ y → IsClockLeaf c y
          → IsRole net.leaves net.nodes (width_of Clock).signed (width_of Clock).width (driven_role places b Clock r)
      clocked_can true r y reads is = (refl, subst (CanBeClock net.leaves) (sym reads) (clock_can y is))
      clocked_can false r y reads is = (refl, subst (CanBeClock net.leaves) (sym reads) (clock_can y is))

      pub role_can : (holds : TypeOfCode) (r : NetRole) (q : RoleMeant) → IsGiven c Stands holds r q → PutAt r → (driven ≡ false → KeepsOwn k q)
          → IsRole net.leaves net.nodes (width_of holds).signed (width_of holds).width (flat_role_of places outer driven holds r count)
      role_can Clock code.Source meant.source is at own = refl
      role_can (Number u) code.Source meant.source is at own = tt
      role_can Clock (code.Driven b) (meant.driven t) is at own = clocked_can outer b.read is.clock is.reads is.is_leaf
      role_can Clock (code.Computed b) (meant.computed t) is at own = clocked_can outer b.read is.clock is.reads is.is_leaf
      role_can (Number u) (code.Driven b) (meant.driven t) is at own =
          driven_can outer u b.read (drive_of c net.leaves hold places old net.nodes built u b t is)
      role_can (Number u) (code.Computed b) (meant.computed t) is at own =
          driven_can outer u b.read (drive_of c net.leaves hold places old net.nodes built u b t is)
      role_can (Number u) (code.Register clock s next) (meant.register j p t) is at own = (
        subst (IsClock net.leaves) (ap clock_of (sym is.0.reads)) (clocks is.0.clock is.0.is_leaf.0 is.0.is_leaf.1),
        (reset_is u s p is.1).can,
        (next_is k driven u s p next t count is.1 is.2 own (choice_at clock next s at)).can,
      )
      role_can (Number u) (code.Reading e) (meant.reading m) is at own = reading_can u e m is at
      role_can (Number u) (code.Pipe e clock under) (meant.pipe m k v) is at own =
          (clocks clock is.typed.within is.typed.is, reading_can u e m is.reads at)
      role_can holds r q is at own = absurd is
