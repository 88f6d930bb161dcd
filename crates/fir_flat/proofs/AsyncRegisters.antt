-- The registers with an asynchronous reset are those of the circuit, and their inits stand for its inits; and what is an input or shows state is so in both.
use Rattle.std.proofs.Common.{◌≡◌, ℕ, List, Bool, true, false, Option, Some, None, option_map, refl, sym, ap, ◌∙◌, subst, inl, inr}
use Rattle.std.specs.Prelude.{if◌then◌else◌, IsTrue}
use Rattle.std.proofs.lemmas.Option.{none-some}
use Rattle.fir_meaning.specs.working.LeafBlocks.{LeafBlock}
use Rattle.fir_meaning.specs.working.LeafModules.{LeafReset}
use Rattle.fir_meaning.specs.working.LeafModules as leafed
use Rattle.fir_meaning.specs.LeafTypes.{LeafType, a_clock, number}
use Rattle.fir_meaning.specs.working.TermValues.{Holds}
use Rattle.fir_meaning.specs.working.Terms.{Term}
use Rattle.fir_leaf.specs.working.InitFaults.{ends_init}
use Rattle.fir_net.specs.declared.leaf.Register.{Register}
use Rattle.fir_net.specs.declared.leaf.Reset.{Reset}
use Rattle.fir_net.specs.declared.leaf.ResetKind.TheVariants.{Asynchronous}
use Rattle.fir_net.specs.declared.leaf.Role.{Role}
use Rattle.fir_net.specs.declared.leaf.Role.TheVariants as role
use Rattle.fir_net.specs.declared.node.Node.{Node}
use Rattle.fir_net.specs.declared.reads.Read.{Read}
use Rattle.fir_net.specs.working.IsWritable.{is_input_or_state}
use Rattle.fir_connect.specs.working.Lowered.{lowered}
use Rattle.fir_connect.specs.working.NetRoles.{net_reset, net_role}
use Rattle.fir_flat.specs.working.FlatCircuits.{IsClockedBy, IsDrivenBy, IsResetOf, IsRoleOf, reset_kept, stands_for}

-- what drives a leaf does not end a walk
driven_ends : (x : Role) (r : Read) → IsDrivenBy x r → is_input_or_state x ≡ false
driven_ends x r (inl e) = ap is_input_or_state e
driven_ends x r (inr e) = ap is_input_or_state e

clocked_ends : (x : Role) (c : Option ℕ) → IsClockedBy x c → is_input_or_state x ≡ false
clocked_ends x c (inl e) = ap is_input_or_state e
clocked_ends x c (inr e) = ap is_input_or_state e

abbrev reset_in : Role → Option Reset
reset_in (role.Register r) = r.reset
reset_in _ = None

module _ (nodes : List Node) (holds : Holds) where
  -- a register of the circuit, for whose init this read stands
  pub record IsAsyncRegister (r : leafed.Role) (init : Read) : Type 0 where
    pub clock : Term
    pub reset : LeafReset
    pub is : r ≡ leafed.register clock (Some reset)
    pub is_async : IsTrue reset.is_async
    pub same_init : stands_for nodes init ≡ lowered holds reset.init

  -- a register of the net, whose init stands for this
  pub record IsAsyncLeaf (x : Role) (init : Term) : Type 0 where
    pub own : Register
    pub is : x ≡ role.Register own
    pub reset : Reset
    pub has_reset : own.reset ≡ Some reset
    pub is_async : reset.kind ≡ Asynchronous
    pub same_init : stands_for nodes reset.init ≡ lowered holds init

  register_by : (clock : Term) (r : Reset) (reset : Option LeafReset) → IsResetOf nodes (Some r) (reset_kept (option_map (net_reset holds) reset))
      → IsAsyncRegister (leafed.register clock reset) r.init
  register_by clock r None is = absurd is
  register_by clock r (Some q) is = by q.is_async refl is
    where
      by : (b : Bool) → q.is_async ≡ b → IsResetOf nodes (Some r) (if b then Some (net_reset holds q) else None)
          → IsAsyncRegister (leafed.register clock (Some q)) r.init
      by true e is = record { clock = clock; reset = q; is = refl; is_async = e; same_init = is.2 }
      by false e is = absurd is

  leaf_by : (x : Role) (own : Register) (q : LeafReset) → x ≡ role.Register own → IsTrue q.is_async
      → IsResetOf nodes own.reset (reset_kept (Some (net_reset holds q))) → IsAsyncLeaf x q.init
  leaf_by x own q is async resets =
      by own.reset refl (subst (λ (b : Bool). IsResetOf nodes own.reset (if b then Some (net_reset holds q) else None)) async resets)
    where
      by : (o : Option Reset) → own.reset ≡ o → IsResetOf nodes o (Some (net_reset holds q)) → IsAsyncLeaf x q.init
      by None e h = absurd h
      by (Some r) e h = record { own = own; is = is; reset = r; has_reset = e; is_async = h.0; same_init = h.2 }

  module _ (depth : ℕ) (b : LeafBlock) (k : ℕ) (x : Role) where
    -- the leaf is what the leaf of the circuit is
    abbrev IsOfRole : LeafType → leafed.Role → Type 0
    IsOfRole h r = IsRoleOf nodes holds k x h (net_role holds depth b k r)

    pub same_ends : (h : LeafType) (r : leafed.Role) → IsOfRole h r → is_input_or_state x ≡ ends_init r
    same_ends (number t) leafed.source is = ap is_input_or_state is
    same_ends a_clock leafed.source is = ap is_input_or_state is
    same_ends (number t) leafed.sink is = driven_ends x is.0 is.1
    same_ends a_clock leafed.sink is = clocked_ends x is.0 is.1
    same_ends (number t) (leafed.computed e) is = ap is_input_or_state is.1
    same_ends a_clock (leafed.computed e) is = ap is_input_or_state is.1
    same_ends (number t) (leafed.register clock reset) is = ap is_input_or_state is.3
    same_ends a_clock (leafed.register clock reset) is = absurd is
    same_ends (number t) (leafed.reading e) is = ap is_input_or_state is.1
    same_ends a_clock (leafed.reading e) is = absurd is
    same_ends (number t) (leafed.pipe e clock under) is = ap is_input_or_state is.1
    same_ends a_clock (leafed.pipe e clock under) is = absurd is

    leaf_is : (h : LeafType) (clock : Term) (q : LeafReset) → IsTrue q.is_async → IsOfRole h (leafed.register clock (Some q)) → IsAsyncLeaf x q.init
    leaf_is (number t) clock q async is = leaf_by x (record { clock = is.0; reset = is.1; next = is.2 }) q is.3 async is.5
    leaf_is a_clock clock q async is = absurd is

    pub leaf_of : (h : LeafType) (r : leafed.Role) → IsOfRole h r → (clock : Term) (q : LeafReset) → r ≡ leafed.register clock (Some q) → IsTrue q.is_async
        → IsAsyncLeaf x q.init
    leaf_of h r is clock q is_register async = leaf_is h clock q async (subst (IsOfRole h) is_register is)

    module _ (own : Register) (r : Reset) (is_register : x ≡ role.Register own) (has_reset : own.reset ≡ Some r) where
      resets : reset_in x ≡ Some r
      resets = ap reset_in is_register ∙ has_reset

      no_reset : reset_in x ≡ None → ⊥
      no_reset none = none-some r (sym none ∙ resets)

      driven_not : (d : Read) → IsDrivenBy x d → ⊥
      driven_not d (inl e) = no_reset (ap reset_in e)
      driven_not d (inr e) = no_reset (ap reset_in e)

      clocked_not : (c : Option ℕ) → IsClockedBy x c → ⊥
      clocked_not c (inl e) = no_reset (ap reset_in e)
      clocked_not c (inr e) = no_reset (ap reset_in e)

      pub register_of : (h : LeafType) (q : leafed.Role) → IsOfRole h q → IsAsyncRegister q r.init
      register_of (number t) (leafed.register clock reset) is =
          let same : is.1 ≡ Some r = sym (ap reset_in is.3) ∙ resets in
          register_by clock r reset (subst (λ (o : Option Reset). IsResetOf nodes o (reset_kept (option_map (net_reset holds) reset))) same is.5)
      register_of a_clock (leafed.register clock reset) is = absurd is
      register_of (number t) leafed.source is = absurd (no_reset (ap reset_in is))
      register_of a_clock leafed.source is = absurd (no_reset (ap reset_in is))
      register_of (number t) leafed.sink is = absurd (driven_not is.0 is.1)
      register_of a_clock leafed.sink is = absurd (clocked_not is.0 is.1)
      register_of (number t) (leafed.computed e) is = absurd (no_reset (ap reset_in is.1))
      register_of a_clock (leafed.computed e) is = absurd (no_reset (ap reset_in is.1))
      register_of (number t) (leafed.reading e) is = absurd (no_reset (ap reset_in is.1))
      register_of a_clock (leafed.reading e) is = absurd is
      register_of (number t) (leafed.pipe e clock under) is = absurd (no_reset (ap reset_in is.1))
      register_of a_clock (leafed.pipe e clock under) is = absurd is
