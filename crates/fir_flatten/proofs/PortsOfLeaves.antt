-- What is known of a leaf of a flat net by what it holds and by its role alone: its width, whether it is a clock, whether it is a port, whether it is a word of the
-- state, and whether something drives it or resets it.
use Rattle.std.proofs.Common.{◌≡◌, ℕ, ◌≤◌, Bool, true, false, ◌&&◌, ◌||◌, not, if◌then◌else◌, List, Option, Some, None, option_map, refl, ap, ap₂, ◌∙◌, subst, sym, lit≤, arith}
use Rattle.std.specs.Prelude.{nat_eq, nat_lt}
use Rattle.std.proofs.lemmas.Bool.Decides.{nat_tests}
use Rattle.fir_bits.specs.declared.types.NumTy.{NumTy}
use Rattle.fir_leaf_circuit.specs.declared.leaf.LeafType.{LeafType as TypeOfCode}
use Rattle.fir_leaf_circuit.specs.declared.leaf.LeafType.TheVariants.{Clock, Number}
use Rattle.fir_leaf_circuit.specs.working.Seen.{type_seen}
use Rattle.fir_meaning.specs.LeafTypes.{a_clock, has_bits}
use Rattle.fir_meaning.specs.working.LeafBlocks.{LeafBlock}
use Rattle.fir_meaning.specs.working.LeafCircuits.{LeafCircuit}
use Rattle.fir_meaning.specs.working.LeafModules.{LeafReset, Role as LeafRole, computed, pipe, reading, register, sink, source}
use Rattle.fir_meaning.specs.working.StateWalks.{is_state}
use Rattle.fir_connect.specs.working.CircuitModules.{as_module}
use Rattle.fir_connect.specs.working.NetRoles.{NetRole as RoleMeant, net_reset, net_role, net_types}
use Rattle.fir_connect.specs.working.NetRoles as meant
use Rattle.fir_connect.specs.working.NetTerms.{NetTerm}
use Rattle.fir_net.specs.declared.leaf.Leaf.{Leaf}
use Rattle.fir_net.specs.declared.reads.Read.{Read}
use Rattle.fir_net.specs.declared.reads.Read.TheVariants as read
use Rattle.fir_net.specs.working.IsNet.{is_port, is_word}
use Rattle.fir_net.specs.working.IsNet as net
use Rattle.fir_net.specs.working.Settled.{is_clock}
use Rattle.fir_merge.specs.declared.bound.Bound.{Bound}
use Rattle.fir_leaf_types.specs.working.TypedTerms.{IsNarrow}
use Rattle.fir_whens.specs.declared.net_role.NetReset.{NetReset}
use Rattle.fir_whens.specs.declared.net_role.NetRole.{NetRole}
use Rattle.fir_whens.specs.declared.net_role.NetRole.TheVariants as code
use Rattle.fir_source_faults.specs.working.NumberedTaking.{has_reset, takes_by}
use Rattle.fir_flatten.specs.working.FlatDesigns.{HasWidth, IsPortRole, is_some, takes_value}
use Rattle.fir_flatten.specs.working.FlatRoles.{async_reset, driven_next, driven_role, flat_role_of, next_read, reset_of, width_of}
use Rattle.fir_flatten.specs.working.KeptNodes.{IsHeld}
use Rattle.fir_flatten.proofs.GivenRoles.{IsGiven, MayReset}

-- what is driven
module _ (places : List ℕ) where
  driven_plain : (outer : Bool) (u : NumTy) (r : Read) → is_clock (driven_role places outer (Number u) r) ≡ false
  driven_plain true u r = refl
  driven_plain false u r = refl

  driven_ticks : (outer : Bool) (r : Read) → is_clock (driven_role places outer Clock r) ≡ true
  driven_ticks true r = refl
  driven_ticks false r = refl

  driven_outside : (holds : TypeOfCode) (r : Read) → is_port (driven_role places true holds r) ≡ true
  driven_outside (Number u) r = refl
  driven_outside Clock r = refl

  driven_inside : (holds : TypeOfCode) (r : Read) → is_port (driven_role places false holds r) ≡ false
  driven_inside (Number u) r = refl
  driven_inside Clock r = refl

  takes_nothing : (outer : Bool) (holds : TypeOfCode) (r : Read) → takes_value (driven_role places outer holds r) ≡ false
  takes_nothing true (Number u) r = refl
  takes_nothing true Clock r = refl
  takes_nothing false (Number u) r = refl
  takes_nothing false Clock r = refl

  no_state : (outer : Bool) (holds : TypeOfCode) (r : Read) → net.is_state (driven_role places outer holds r) ≡ false
  no_state true (Number u) r = refl
  no_state true Clock r = refl
  no_state false (Number u) r = refl
  no_state false Clock r = refl

or_true : (a : Bool) → true ≡ (a || true)
or_true true = refl
or_true false = refl

and_false : (a : Bool) → (a && false) ≡ false
and_false true = refl
and_false false = refl

positive : (w : ℕ) → not (nat_eq w 0) ≡ nat_lt 0 w
positive w = grind (arith, nat_tests)

module _ (places : List ℕ) (outer driven : Bool) (count : ℕ) where
  number_plain : (u : NumTy) (r : NetRole) → is_clock (flat_role_of places outer driven (Number u) r count) ≡ false
  number_plain u code.Source = refl
  number_plain u (code.Driven b) = driven_plain places outer u b.read
  number_plain u (code.Computed b) = driven_plain places outer u b.read
  number_plain u (code.Register clock reset next) = refl
  number_plain u (code.Reading e) = refl
  number_plain u (code.Pipe e clock under) = refl

  module _ (l : Leaf) (r : NetRole) where
    pub has_width : (holds : TypeOfCode) → l.signed ≡ (width_of holds).signed → l.width ≡ (width_of holds).width → HasWidth l (type_seen holds)
    has_width (Number u) signed width = (signed, width)
    has_width Clock signed width = (signed, width)

    pub is_narrow : (holds : TypeOfCode) → l.width ≡ (width_of holds).width → IsNarrow (type_seen holds) → l.width ≤ 128
    is_narrow (Number u) width narrow = subst (λ w. w ≤ 128) (sym width) narrow
    is_narrow Clock width narrow = subst (λ w. w ≤ 128) (sym width) (lit≤ tt)

    pub is_held : (holds : TypeOfCode) → l.signed ≡ (width_of holds).signed → l.width ≡ (width_of holds).width
        → l.role ≡ flat_role_of places outer driven holds r count → IsNarrow (type_seen holds) → IsHeld l (type_seen holds)
    is_held (Number u) signed width role narrow =
        (signed, width, subst (λ w. w ≤ 128) (sym width) narrow, ap is_clock role ∙ number_plain u r)
    is_held Clock signed width role narrow = tt

  module _ (c : LeafCircuit) (Stands : Bound → NetTerm → Type 0) where
    pub clock_ticks : (holds : TypeOfCode) (r : NetRole) (q : RoleMeant) → type_seen holds ≡ a_clock → IsGiven c Stands holds r q
        → is_clock (flat_role_of places outer driven holds r count) ≡ true
    clock_ticks (Number u) r q e is = cc
    clock_ticks Clock code.Source meant.source e is = refl
    clock_ticks Clock (code.Driven b) (meant.driven t) e is = driven_ticks places outer b.read
    clock_ticks Clock (code.Computed b) (meant.computed t) e is = driven_ticks places outer b.read
    clock_ticks Clock r q e is = absurd is

    module _ (depth : ℕ) (b : LeafBlock) (x : ℕ) where
      abbrev GivenBy : TypeOfCode → NetRole → LeafRole → Type 0
      GivenBy holds r q = IsGiven c Stands holds r (net_role (net_types (as_module c)) depth b x q)

      -- leaves of ports
      pub outer_port : (holds : TypeOfCode) (r : NetRole) (q : LeafRole) → IsPortRole q → GivenBy holds r q
          → is_port (flat_role_of places true driven holds r count) ≡ true
      outer_port Clock code.Source source port is = refl
      outer_port (Number u) code.Source source port is = refl
      outer_port Clock (code.Driven d) sink port is = refl
      outer_port (Number u) (code.Driven d) sink port is = refl
      outer_port holds r source port is = absurd is
      outer_port holds r sink port is = absurd is
      outer_port holds r q port is = absurd port

      -- the others
      pub inner_port : (holds : TypeOfCode) (r : NetRole) (q : LeafRole) → (q ≡ source → ⊥) → GivenBy holds r q
          → is_port (flat_role_of places false driven holds r count) ≡ false
      inner_port Clock code.Source source none is = absurd (none refl)
      inner_port (Number u) code.Source source none is = absurd (none refl)
      inner_port Clock (code.Driven d) sink none is = refl
      inner_port Clock (code.Computed d) (computed t) none is = refl
      inner_port (Number u) (code.Driven d) sink none is = refl
      inner_port (Number u) (code.Computed d) (computed t) none is = refl
      inner_port (Number u) (code.Register clock reset next) (register k p) none is = refl
      inner_port (Number u) (code.Reading e) (reading m) none is = refl
      inner_port (Number u) (code.Pipe e clock under) (pipe m k v) none is = refl
      inner_port holds r q none is = absurd is

      -- words of the state
      word_by : (holds : TypeOfCode) (r : NetRole) (q : LeafRole) → GivenBy holds r q
          → (net.is_state (flat_role_of places outer driven holds r count) && not (nat_eq (width_of holds).width 0)) ≡ (is_state q && has_bits (type_seen holds))
      word_by Clock code.Source source is = refl
      word_by (Number u) code.Source source is = refl
      word_by Clock (code.Driven d) sink is = ap (λ (a : Bool). a && true) (no_state places outer Clock d.read)
      word_by Clock (code.Computed d) (computed t) is = ap (λ (a : Bool). a && true) (no_state places outer Clock d.read)
      word_by (Number u) (code.Driven d) sink is = ap (λ (a : Bool). a && not (nat_eq u.width 0)) (no_state places outer (Number u) d.read)
      word_by (Number u) (code.Computed d) (computed t) is = ap (λ (a : Bool). a && not (nat_eq u.width 0)) (no_state places outer (Number u) d.read)
      word_by (Number u) (code.Register clock reset next) (register k p) is = positive u.width
      word_by (Number u) (code.Reading e) (reading m) is = refl
      word_by (Number u) (code.Pipe e clock under) (pipe m k v) is = positive u.width
      word_by holds r q is = absurd is

      pub word_is : (l : Leaf) (holds : TypeOfCode) (r : NetRole) (q : LeafRole) → l.width ≡ (width_of holds).width
          → l.role ≡ flat_role_of places outer driven holds r count → GivenBy holds r q → is_word l ≡ (is_state q && has_bits (type_seen holds))
      word_is l holds r q width role is = ap₂ (λ o w. net.is_state o && not (nat_eq w 0)) role width ∙ word_by holds r q is

      -- whether something drives it or resets it
      taken_there : (u : NumTy) (s : Option NetReset) (reset : Option LeafReset) (next : Bound)
          → MayReset c Stands u s (option_map (net_reset (net_types (as_module c))) reset)
          → (is_some (reset_of places s) || is_some (next_read places driven count s next)) ≡ (driven || has_reset reset)
      taken_there u None None next may = by driven
        where
          by : (d : Bool) → is_some (driven_next places d next) ≡ (d || false)
          by true = refl
          by false = refl
      taken_there u None (Some q) next may = absurd may
      taken_there u (Some s) None next may = absurd may
      taken_there u (Some s) (Some q) next may = by s.is_async
        where
          by : (a : Bool)
              → (is_some (if a then Some (async_reset places s) else None) || is_some (if a then driven_next places driven next else Some (read.Node count)))
              ≡ (driven || true)
          by true = or_true driven
          by false = or_true driven

      pub taken_is : (holds : TypeOfCode) (r : NetRole) (q : LeafRole) → GivenBy holds r q
          → takes_value (flat_role_of places outer driven holds r count) ≡ takes_by driven q
      taken_is Clock code.Source source is = refl
      taken_is (Number u) code.Source source is = refl
      taken_is Clock (code.Driven d) sink is = takes_nothing places outer Clock d.read
      taken_is Clock (code.Computed d) (computed t) is = takes_nothing places outer Clock d.read
      taken_is (Number u) (code.Driven d) sink is = takes_nothing places outer (Number u) d.read
      taken_is (Number u) (code.Computed d) (computed t) is = takes_nothing places outer (Number u) d.read
      taken_is (Number u) (code.Register clock s next) (register k reset) is = taken_there u s reset next is.1
      taken_is (Number u) (code.Reading e) (reading m) is = refl
      taken_is (Number u) (code.Pipe e clock under) (pipe m k v) is = refl
      taken_is holds r q is = absurd is
