-- What each leaf of a circuit shows is what its leaf in the flat net is worth, by their roles.
use Rattle.std.proofs.Common.{◌≡◌, ℕ, List, length, take, Bool, true, false, if◌then◌else◌, Option, Some, None, slice_get, slice_index, inl, inr, refl, sym, ap, ◌∙◌, subst}
use Rattle.fir_base.specs.Ticks.{HasShape, Tick}
use Rattle.fir_bits.specs.declared.values.Num.{Num}
use Rattle.fir_meaning.specs.working.LeafModules.{LeafReset, leaf_at}
use Rattle.fir_meaning.specs.LeafTypes.{LeafType, a_clock, number, number_type}
use Rattle.fir_meaning.specs.working.LeafModules as leafed
use Rattle.fir_meaning.specs.working.TermValues.{Env, eval}
use Rattle.fir_meaning.specs.working.LeafCircuits.{LeafCircuit, depth_of, role_of, type_of_leaf}
use Rattle.fir_meaning.specs.working.LeafSettled.{number_shown, register_shown}
use Rattle.fir_meaning.specs.working.LeafStates.{look}
use Rattle.fir_leaf_types.specs.working.TypedModules.{IsRoleTyped, held_in}
use Rattle.fir_memory_types.specs.working.TypedMemories.{IsMemoryRoleTyped}
use Rattle.fir_net.specs.declared.leaf.Leaf.{Leaf}
use Rattle.fir_net.specs.declared.leaf.Reset.{Reset}
use Rattle.fir_net.specs.declared.leaf.Role.{Role}
use Rattle.fir_net.specs.declared.net.FlatNet.{FlatNet}
use Rattle.fir_net.specs.declared.node.Node.{Node}
use Rattle.fir_net.specs.declared.reads.Read.{Read}
use Rattle.fir_net.specs.working.Arrays.{array_widths}
use Rattle.fir_net.specs.working.IsNet.{CanBeReset, CanRead, IsRole}
use Rattle.fir_net.specs.working.Settled.{inputs, is_clock, registers, shape, shown, value_at}
use Rattle.fir_net.specs.working.Values.{at_width, leaf_width}
use Rattle.fir_net.proofs.ArrayWords.{front_fits}
use Rattle.fir_net.proofs.LeafEquations.{driven_at, equation_at, front_word, role_value, value_equation}
use Rattle.fir_net.proofs.Places.{place_of}
use Rattle.fir_connect.specs.working.NetRoles.{NetReset, net_role, net_role_at, net_types}
use Rattle.fir_connect.specs.working.NetTerms.{NetTerm}
use Rattle.fir_connect.specs.working.RoleLaws.{Gives, ResetGives, net_fitted}
use Rattle.fir_connect.proofs.RoleValues.{roles_are_worth}
use Rattle.fir_connect.proofs.TypedValues.{value_type}
use Rattle.fir_connect.specs.working.CircuitModules.{as_module}
use Rattle.fir_flat.specs.working.FlatCircuits.{HasType, IsDrivenBy, IsResetOf, IsRoleOf, reset_kept, stands_for}
use Rattle.fir_flat.specs.working.FlatLaws.{IsFaithful}
use Rattle.fir_flat.proofs.BesideValues.{IsBeside, high_worth, own_number, read_worth}
use Rattle.fir_flat.proofs.FlatLeaves.{holds_clock, kind_at, leaf_inside}
use Rattle.fir_flat.proofs.LeafPlaces.{look_front, look_is}
use Rattle.fir_flat.proofs.ReadWords.{word_read_is}

driven_value : (net : FlatNet) (state : List ℕ) (tick : Tick) (e : ℕ → ℕ) (x w : ℕ) (y : Role) (r : Read) → IsDrivenBy y r
    → role_value net state tick e x w y ≡ at_width (value_at net e r) w
driven_value net state tick e x w y r (inl is) = ap (role_value net state tick e x w) is
driven_value net state tick e x w y r (inr is) = ap (role_value net state tick e x w) is

driven_can : (leaves : List Leaf) (nodes : List Node) (signed : Bool) (width : ℕ) (y : Role) (r : Read) → IsDrivenBy y r
    → IsRole leaves nodes signed width y → CanRead leaves nodes r
driven_can leaves nodes signed width y r (inl is) can = (subst (IsRole leaves nodes signed width) is can).can
driven_can leaves nodes signed width y r (inr is) can = (subst (IsRole leaves nodes signed width) is can).can

module _ (c : LeafCircuit) (net : FlatNet) (faithful : IsFaithful c net) (env : Env) (e : ℕ → ℕ) (beside : IsBeside c net env e) where
  module _ (x : ℕ) (l : Leaf) (at : slice_get net.leaves x ≡ Some l) where
    pub gives : Gives (as_module c) env.numbers env.clocks x (leaf_at c.leaves x).holds (role_of c x) (net_role_at (as_module c) x)
    gives = roles_are_worth (as_module c) env.numbers env.clocks faithful.typed faithful.driven beside.within x (leaf_inside c net faithful.flat x l at)

    module _ (wide : l.width ≡ (type_of_leaf c x).width) where
      -- what a read gives to the leaf
      pub given_worth : (r : Read) (d : NetTerm) → CanRead net.leaves net.nodes r → stands_for net.nodes r ≡ d
          → net_fitted (as_module c) env.numbers env.clocks d x ≡ at_width (value_at net e r) l.width
      given_worth r d can is = rw (read_worth c net faithful env e beside r d can is, wide) refl

      reset_shown : (word : ℕ) (r : LeafReset) (m : NetReset) (own : Reset) → m.is_async ≡ true
          → ResetGives (as_module c) env.numbers env.clocks x (Some r) (Some m) → IsResetOf net.nodes (Some own) (Some m)
          → CanBeReset net.leaves net.nodes l.signed (Some own) → register_shown c env x (Some r) word ≡ shown net e l.width (Some own) word
      reset_shown word r m own stays worths is can =
          rw (
            worths.0,
            stays,
            worths.1,
            worths.2,
            ← high_worth c net faithful env e beside own.condition m.condition can.condition is.1,
            given_worth own.init m.init can.init.can is.2,
            is.0,
          )
          refl

      -- a register shows the same of the same word, and its word where its reset is merged
      pub word_shown : (word : ℕ) (reset : Option LeafReset) (m : Option NetReset) (own : Option Reset)
          → ResetGives (as_module c) env.numbers env.clocks x reset m → IsResetOf net.nodes own (reset_kept m) → CanBeReset net.leaves net.nodes l.signed own
          → register_shown c env x reset word ≡ shown net e l.width own word
      word_shown word None None None worths is can = refl
      word_shown word (Some r) (Some m) own worths is can = by own m.is_async refl is can
        where
          by : (own : Option Reset) (b : Bool) → m.is_async ≡ b → IsResetOf net.nodes own (if b then Some m else None) → CanBeReset net.leaves net.nodes l.signed own
              → register_shown c env x (Some r) word ≡ shown net e l.width own word
          by (Some o) true stays kept can = reset_shown word r m o stays worths kept can
          by None false merged kept can = rw (worths.0, merged) refl
          by None true stays kept can = absurd kept
          by (Some o) false merged kept can = absurd kept
      word_shown word None (Some m) own worths is can = absurd worths
      word_shown word (Some r) None own worths is can = absurd worths
      word_shown word None None (Some own) worths is can = absurd is

    module _ (state : List ℕ) (tick : Tick) (shaped : HasShape (shape net) state tick) where
      input_looked : look c.inputs tick.inputs x ≡ slice_index tick.inputs (place_of x (inputs net))
      input_looked =
          ap (λ (ks : List ℕ). look ks tick.inputs x) (sym faithful.flat.inputs)
          ∙ look_is (leaf_width net.leaves) (inputs net) tick.inputs shaped.inputs_fit x

      pub word_looked : look c.words state x ≡ front_word net state x
      word_looked =
          ap (λ (ks : List ℕ). look ks state x) (sym faithful.flat.words) ∙ look_front (registers net) state x
          ∙ look_is (leaf_width net.leaves) (registers net) (take (length (registers net)) state)
          (front_fits (leaf_width net.leaves) (registers net) (array_widths net) state shaped.state_fits) x

      module _ (y : Role) (can : IsRole net.leaves net.nodes l.signed l.width y) where
        -- by what it holds and its role
        shown_by_role : (h : LeafType) → (leaf_at c.leaves x).holds ≡ h → (r : leafed.Role)
            → Gives (as_module c) env.numbers env.clocks x h r (net_role (net_types (as_module c)) (depth_of c x) c.body x r)
            → IsRoleOf net.nodes (net_types (as_module c)) x y h (net_role (net_types (as_module c)) (depth_of c x) c.body x r) → HasType l h
            → IsRoleTyped (held_in (as_module c)) h r → IsMemoryRoleTyped c.leaves c.arrays h r → holds_clock h ≡ false
            → number_shown c state tick.inputs env x r ≡ Some (role_value net state tick e x l.width y)
        shown_by_role a_clock held r worths is has typed memory plain = cc
        shown_by_role (number t) held leafed.source worths is has typed memory plain = rw is (ap Some input_looked)
        shown_by_role (number t) held leafed.sink worths is has typed memory plain =
            let wide : l.width ≡ (type_of_leaf c x).width = has.1 ∙ ap (λ (h : LeafType). (number_type h).width) (sym held) in
            worths
            ∙ ap Some (given_worth wide is.0 _ (driven_can net.leaves net.nodes l.signed l.width y is.0 is.1 can) is.2
            ∙ sym (driven_value net state tick e x l.width y is.0 is.1))
        shown_by_role (number t) held (leafed.computed d) worths is has typed memory plain =
            let value : value_at net e is.0 ≡ eval (type_of_leaf c) env.numbers d =
            read_worth c net faithful env e beside is.0 _ (driven_can net.leaves net.nodes l.signed l.width y is.0 (inr is.1) can) is.2 ∙ sym worths in
            ap Some (sym (driven_value net state tick e x l.width y is.0 (inr is.1) ∙ ap (λ (v : Num). at_width v l.width) value
            ∙ own_number (eval (type_of_leaf c) env.numbers d) t l.width (value_type (held_in (as_module c)) env.numbers d t typed) has.1))
        shown_by_role (number t) held (leafed.register clock reset) worths is has typed memory plain =
            let wide : l.width ≡ (type_of_leaf c x).width = has.1 ∙ ap (λ (h : LeafType). (number_type h).width) (sym held) in
            let role_can = subst (IsRole net.leaves net.nodes l.signed l.width) is.3 can in
            ap Some (word_shown wide (look c.words state x) reset _ is.1 worths.1 is.5 role_can.1 ∙ ap (shown net e l.width is.1) word_looked
            ∙ sym (ap (role_value net state tick e x l.width) is.3))
        shown_by_role (number t) held (leafed.reading m) worths is has typed memory plain =
            let role_can = subst (IsRole net.leaves net.nodes l.signed l.width) is.1 can in
            ap Some (sym (ap (role_value net state tick e x l.width) is.1
            ∙ word_read_is c net faithful env e beside is.0 m is.2 role_can memory.needs state))
        shown_by_role (number t) held (leafed.pipe m clock under) worths is has typed memory plain =
            ap Some (word_looked ∙ sym (ap (role_value net state tick e x l.width) is.1))

      pub number_shown_is : is_clock l.role ≡ false → number_shown c state tick.inputs env x (role_of c x) ≡ Some (value_equation net state tick e x)
      number_shown_is plain =
          shown_by_role l.role (driven_at net faithful.whole x l l.role at refl) (leaf_at c.leaves x).holds refl (role_of c x) gives
          (faithful.flat.roles x l at) (faithful.flat.types x l at)
          (faithful.typed.roles x (leaf_inside c net faithful.flat x l at)) (faithful.memories.roles x (leaf_inside c net faithful.flat x l at)) (sym (kind_at c net faithful.flat x l at) ∙ plain)
          ∙ ap Some (sym (equation_at net state tick e x l l.role at refl))
