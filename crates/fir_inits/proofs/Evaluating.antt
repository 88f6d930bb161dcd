-- Along an order each constant gets the value that it has in all settled choices.
use Rattle.std.proofs.Common.{◌≡◌, ℕ, ◌+◌, ◌<◌, ◌≤◌, List, true, false, None, Some, set, sym, ap, ◌∙◌, subst, refl, inl, inr, ◌⊎◌, arith}
use Rattle.std.specs.Prelude.{slice_get, Option}
use Rattle.std.proofs.lemmas.Bool.{cases_lt}
use Rattle.std.proofs.lemmas.Option.{same_Some}
use Rattle.fir_base.specs.Ticks.{Tick}
use Rattle.fir_base.proofs.Elements.{there}
use Rattle.fir_bits.specs.declared.types.NumTy.{NumTy}
use Rattle.fir_bits.specs.declared.values.Num.{Num}
use Rattle.fir_bits.proofs.Typing.{typed-outcome}
use Rattle.fir_net.specs.declared.leaf.Leaf.{Leaf}
use Rattle.fir_net.specs.declared.leaf.Role.{Role}
use Rattle.fir_net.specs.declared.leaf.Role.TheVariants as role
use Rattle.fir_net.specs.declared.net.FlatNet.{FlatNet}
use Rattle.fir_net.specs.declared.node.Node.{Node}
use Rattle.fir_net.specs.declared.reads.Read.{Read}
use Rattle.fir_net.specs.declared.reads.Read.TheVariants as read
use Rattle.fir_net.specs.working.Dependence.{leaf_reads, node_reads, role_reads, IsOf, Reads}
use Rattle.fir_net.specs.working.IsNet.{CanRead, IsNet, IsRole}
use Rattle.fir_net.specs.working.IsOrder.{IsOrder}
use Rattle.fir_net.specs.working.IsWritable.{is_input_or_state, IsConstant, itself, through}
use Rattle.fir_net.specs.working.Settled.{is_clock, driver, value_at, Settled}
use Rattle.fir_net.specs.working.Values.{at_width, number_of as numbered}
use Rattle.fir_net.proofs.KnownValues.{node_is}
use Rattle.fir_net.proofs.LeafEquations.{driven_at}
use Rattle.fir_net.proofs.NodeReads.{reads_can}
use Rattle.fir_net.proofs.WholeValues.{nodes_have_types}
use Rattle.fir_work.specs.working.Held.{IsHeld}
use Rattle.fir_work.specs.working.NodeValues.{held_node}
use Rattle.fir_work.specs.working.Numbers.{place, type_read, value_in}
use Rattle.fir_work.proofs.GeneralWay.{node_whole}
use Rattle.fir_work.proofs.HeldNumbers.{number_here, number_there}
use Rattle.fir_work.proofs.SameNodes.{held_is_value, node_same}
use Rattle.fir_inits.specs.working.Constants.{leaf_number, node_number, number_of, role_number, AreConstants}

-- all that a constant hangs on is constant
pub constant_on : (net : FlatNet) (v w : Read) → Reads net v w → IsConstant net v → IsConstant net w
constant_on net v w r c = record { none = λ k l h at. c.none k l (through v w (read.Leaf k) r h) at }

module _ (net : FlatNet) (whole : IsNet net) (order : List Read) (is : IsOrder net order) (ns : List ℕ) (held : IsHeld net ns) (n : ℕ) (v : Read) (at : slice_get order n ≡ Some v) (known : AreConstants net order n ns) where
  module _ (constant : IsConstant net v) (state : List ℕ) (tick : Tick) (env : ℕ → ℕ) (clock : ℕ → Option ℕ) (settled : Settled net state tick env clock) where
    -- what it reads has its value
    read_known : (r : Read) → Reads net v r → CanRead net.leaves net.nodes r → value_in net ns r ≡ value_at net env r
    read_known r hangs can =
        let before = is.after n v r at hangs in
        known.each before.0 r before.1 before.2 can (constant_on net v r hangs constant) state tick env clock settled

    -- a value is one of its type
    whole_value : (r : Read) → CanRead net.leaves net.nodes r → (x : ℕ) → x ≡ (value_at net env r).value.number → numbered (type_read net r) x ≡ value_at net env r
    whole_value r can x e =
        let typed = nodes_have_types typed-outcome net env r whole (record { each = settled.fits }) can in
        ap (numbered (type_read net r)) e ∙ ap (λ (t : NumTy). numbered t (value_at net env r).value.number) (sym typed.is)

  -- a driven leaf
  module _ (k : ℕ) (is_leaf : v ≡ read.Leaf k) (l : Leaf) (here : slice_get net.leaves k ≡ Some l) where
    hangs_on : (d : Role) (r : Read) → l.role ≡ d → slice_get (role_reads d) 0 ≡ Some r → Reads net v r
    hangs_on d r role_is e =
        subst (λ (u : Read). Reads net u r) (sym is_leaf)
        (record { place = 0; is = ap (λ (o : Option Leaf). slice_get (leaf_reads o) 0) here ∙ ap (λ (q : Role). slice_get (role_reads q) 0) role_is ∙ e })

    driven_known : (d : Role) (r : Read) → l.role ≡ d → slice_get (role_reads d) 0 ≡ Some r → driver d ≡ Some r → CanRead net.leaves net.nodes r → IsConstant net v → (state : List ℕ) (tick : Tick)
        (env : ℕ → ℕ) (clock : ℕ → Option ℕ) → Settled net state tick env clock → (x : ℕ) → at_width (value_in net ns r) l.width ≡ x → x ≡ env k
    driven_known d r role_is reads drives can constant state tick env clock s x e =
        sym e ∙ ap (λ (u : Num). at_width u l.width) (read_known constant state tick env clock s r (hangs_on d r role_is reads) can) ∙ sym (s.driven k l r here (ap driver role_is ∙ drives))

    leaf_known : (d : Role) → l.role ≡ d → IsRole net.leaves net.nodes l.signed l.width d → IsConstant net v → (state : List ℕ) (tick : Tick) (env : ℕ → ℕ)
        (clock : ℕ → Option ℕ) → Settled net state tick env clock → (x : ℕ) → role_number net ns l.width d ≡ Some x → x ≡ env k
    leaf_known (role.Output r) role_is can constant state tick env clock s x e = driven_known (role.Output r) r role_is refl refl can.can constant state tick env clock s x (cc)
    leaf_known (role.Wire r) role_is can constant state tick env clock s x e = driven_known (role.Wire r) r role_is refl refl can.can constant state tick env clock s x (cc)
    leaf_known role.Input role_is can constant state tick env clock s x e = absurd (cc)
    leaf_known role.Clock role_is can constant state tick env clock s x e = absurd (cc)
    leaf_known (role.Register g) role_is can constant state tick env clock s x e = absurd (cc)
    leaf_known (role.Reading g) role_is can constant state tick env clock s x e = absurd (cc)
    leaf_known (role.Pipe g) role_is can constant state tick env clock s x e = absurd (cc)
    leaf_known (role.ClockOutput g) role_is can constant state tick env clock s x e = absurd (cc)
    leaf_known (role.ClockWire g) role_is can constant state tick env clock s x e = absurd (cc)

    -- one that nothing drives shows an input or a state
    undriven : (d : Role) → l.role ≡ d → is_clock d ≡ false → role_number net ns l.width d ≡ None → is_input_or_state d ≡ true
    undriven (role.Output r) role_is plain e = absurd (cc)
    undriven (role.Wire r) role_is plain e = absurd (cc)
    undriven role.Input role_is plain e = refl
    undriven role.Clock role_is plain e = refl
    undriven (role.Register g) role_is plain e = refl
    undriven (role.Reading g) role_is plain e = refl
    undriven (role.Pipe g) role_is plain e = refl
    undriven (role.ClockOutput g) role_is plain e = absurd (cc)
    undriven (role.ClockWire g) role_is plain e = absurd (cc)

  -- a node
  node_known : (k : ℕ) → v ≡ read.Node k → (m : Node) → slice_get net.nodes k ≡ Some m → IsConstant net v → (state : List ℕ) (tick : Tick) (env : ℕ → ℕ) (clock : ℕ → Option ℕ)
      → Settled net state tick env clock → held_node (value_in net ns) m ≡ value_at net env (read.Node k)
  node_known k is_node m here constant state tick env clock s =
      node_same (value_in net ns) (value_at net env) m
      (λ j r e.
      let hangs : Reads net v r = subst (λ (u : Read). Reads net u r) (sym is_node) (record { place = j; is = ap (λ (o : Option Node). slice_get (node_reads o) j) here ∙ e }) in
      read_known constant state tick env clock s r hangs (reads_can net.leaves net.nodes m (node_whole net whole k m here) j r e))
      ∙ held_is_value net env m ∙ sym (node_is net env k m whole here)

  -- what a constant makes of these numbers is its value
  number_known : CanRead net.leaves net.nodes v → IsConstant net v → (state : List ℕ) (tick : Tick) (env : ℕ → ℕ) (clock : ℕ → Option ℕ) → Settled net state tick env clock → (x : ℕ)
      → number_of net ns v ≡ Some x → x ≡ (value_at net env v).value.number
  number_known can constant state tick env clock s x e = by v refl can e
    where
      by : (u : Read) → v ≡ u → CanRead net.leaves net.nodes u → number_of net ns u ≡ Some x → x ≡ (value_at net env u).value.number
      by (read.Leaf k) is_v c f =
          leaf_known k is_v c.0 c.1 c.0.role refl (driven_at net whole k c.0 c.0.role c.1 refl) constant state tick env clock s x (ap (leaf_number net ns) (sym c.1) ∙ f)
      by (read.Node k) is_v c f =
          let found = there net.nodes k c in
          let here : Some (held_node (value_in net ns) found.0).value.number ≡ Some x = ap (node_number net ns) (sym found.1) ∙ f in
          let same : (held_node (value_in net ns) found.0).value.number ≡ x = cc in
          sym same ∙ ap (λ (u : Num). u.value.number) (node_known k is_v found.0 found.1 constant state tick env clock s)

  pub known_more : (x : ℕ) → number_of net ns v ≡ Some x → AreConstants net order (n + 1) (set ns (place net v) x)
  known_more x e = record { each = λ i w low here can constant state tick env clock s. by i w low here can constant state tick env clock s (cases_lt i n) }
    where
      of : IsOf net v
      of = is.only n v at

      by : (i : ℕ) (w : Read) → i < n + 1 → slice_get order i ≡ Some w → CanRead net.leaves net.nodes w → IsConstant net w → (state : List ℕ) (tick : Tick) (env : ℕ → ℕ)
          (clock : ℕ → Option ℕ) → Settled net state tick env clock → (i < n) ⊎ (n ≤ i) → value_in net (set ns (place net v) x) w ≡ value_at net env w
      by i w low here can constant state tick env clock s (inl l) =
          let apart : w ≡ v → ⊥ = λ (f : w ≡ v). omega (arith, l, is.once i n v (here ∙ ap (λ (u : Read). Some u) f) at) in
          ap (numbered (type_read net w)) (number_there net ns held v of x w (is.only i w here) apart) ∙ known.each i w l here can constant state tick env clock s
      by i w low here can constant state tick env clock s (inr l) =
          let last : i ≡ n = omega (arith, low, l) in
          let same : v ≡ w = same_Some v w (sym at ∙ ap (slice_get order) (sym last) ∙ here) in
          let can_v = subst (CanRead net.leaves net.nodes) (sym same) can in
          let constant_v = subst (IsConstant net) (sym same) constant in
          subst (λ (u : Read). value_in net (set ns (place net v) x) u ≡ value_at net env u) same
          (ap (numbered (type_read net v)) (number_here net ns held v of x)
          ∙ whole_value constant_v state tick env clock s v can_v x (number_known can_v constant_v state tick env clock s x e))

  pub known_skipped : number_of net ns v ≡ None → AreConstants net order (n + 1) ns
  known_skipped e = record { each = λ i w low here can constant state tick env clock s. by i w low here can constant state tick env clock s (cases_lt i n) }
    where
      no : (u : Read) → v ≡ u → CanRead net.leaves net.nodes u → IsConstant net u → number_of net ns u ≡ None → ⊥
      no (read.Leaf k) is_v c constant f =
          let shows = undriven k is_v c.0 c.1 c.0.role refl c.2 (ap (leaf_number net ns) (sym c.1) ∙ f) in
          let hidden = constant.none k c.0 (itself (read.Leaf k)) c.1 in
          absurd (cc)
      no (read.Node k) is_v c constant f = let found = there net.nodes k c in let made : Some (held_node (value_in net ns) found.0).value.number ≡ None = ap (node_number net ns) (sym found.1) ∙ f in absurd (cc)

      by : (i : ℕ) (w : Read) → i < n + 1 → slice_get order i ≡ Some w → CanRead net.leaves net.nodes w → IsConstant net w → (state : List ℕ) (tick : Tick) (env : ℕ → ℕ)
          (clock : ℕ → Option ℕ) → Settled net state tick env clock → (i < n) ⊎ (n ≤ i) → value_in net ns w ≡ value_at net env w
      by i w low here can constant state tick env clock s (inl l) = known.each i w l here can constant state tick env clock s
      by i w low here can constant state tick env clock s (inr l) =
          let last : i ≡ n = omega (arith, low, l) in
          let same : v ≡ w = same_Some v w (sym at ∙ ap (slice_get order) (sym last) ∙ here) in
          absurd (no v refl (subst (CanRead net.leaves net.nodes) (sym same) can) (subst (IsConstant net) (sym same) constant) e)
