-- A net that is built with a register in the place of each pipe is whole.
use Rattle.std.proofs.Common.{◌≡◌, ℕ, ◌<◌, ◌≤◌, List, [], length, true, false, not, ◌&&◌, nat_eq, refl, sym, ap, ◌∙◌, subst, arith, ◌⊎◌, inl, inr, IsTrue}
use Rattle.std.specs.Prelude.{slice_get, Some, None}
use Rattle.std.proofs.lemmas.Bool.{cases_lt}
use Rattle.std.proofs.lemmas.Option.{slice_get_within, same_Some}
use Rattle.fir_base.proofs.Elements.{there, all_there}
use Rattle.ver_words.specs.Names.{is_word as spells}
use Rattle.fir_net.specs.Paths.{base_name}
use Rattle.fir_net.specs.declared.array.ArrayRead.{ArrayRead}
use Rattle.fir_net.specs.declared.array.Pipe.{Pipe}
use Rattle.fir_net.specs.declared.leaf.Leaf.{Leaf}
use Rattle.fir_net.specs.declared.leaf.Register.{Register}
use Rattle.fir_net.specs.declared.leaf.Reset.{Reset}
use Rattle.fir_net.specs.declared.leaf.ResetKind.TheVariants.{Asynchronous}
use Rattle.fir_net.specs.declared.leaf.Role.{Role}
use Rattle.fir_net.specs.declared.leaf.Role.TheVariants as role
use Rattle.fir_net.specs.declared.node.Node.{Node}
use Rattle.fir_net.specs.declared.net.FlatNet.{FlatNet}
use Rattle.fir_net.specs.declared.reads.Read.{Read}
use Rattle.fir_net.specs.declared.reads.Read.TheVariants as read
use Rattle.fir_net.specs.working.Dependence.{IsOf, Reads, reads_of, leaf_reads, node_reads, role_reads}
use Rattle.fir_net.specs.working.IsOrder.{IsOrder}
use Rattle.fir_net.specs.working.IsNet.{AreNodes, IsNet, IsLeaf, IsRole, IsState, read_type, is_state, is_word, IsReadOf}
use Rattle.fir_net.specs.working.IsWritable.{IsWritable, IsWritableRole, HasConstantInits, IsConstant, Reaches, itself as reached, through, is_input_or_state, EndsAt, input, driven, IsPortClock, of_write, of_pipe}
use Rattle.fir_net.specs.working.Settled.{clock_driver}
use Rattle.fir_net.specs.working.WordNames.{HasWordNames}
use Rattle.fir_mem.specs.working.Built.{Built, reading_of}
use Rattle.fir_mem.proofs.Growth.{Grown, each_all, type_there, clock_leaf, addressed, is_role, are_nodes, are_arrays, nodes_joined}
use Rattle.fir_mem.proofs.Building.{Takes, old, new, Becomes, itself, register, IsHidden, Building, net_grown, net_of}
use Rattle.fir_mem.proofs.Lists.{Along, along_from, ports_first, same_role, same_path}

-- no leaf of the net is a pipe any more
pub record Done (net : FlatNet) (b : Built) : Type 0 where
  pub none : (k : ℕ) (m : Leaf) (p : Pipe) → k < length net.leaves → slice_get b.leaves k ≡ Some m → m.role ≡ role.Pipe p → ⊥

module _ (net : FlatNet) (order : List Read) (whole : IsNet net) (b : Built) (B : Building net order b) (done : Done net b) where
  abbrev lowered : FlatNet
  lowered = net_of net b

  abbrev Leads : Leaf → Leaf → Type 0
  Leads l m = Becomes net b.leaves b.nodes l m

  -- where a leaf comes from
  pub data Origin (k : ℕ) (m : Leaf) : Type 0 where
    from : (l : Leaf) → slice_get net.leaves k ≡ Some l → Leads l m → Origin k m
    behind : length net.leaves ≤ k → IsHidden net m → Origin k m

  pub origin : (k : ℕ) (m : Leaf) → slice_get b.leaves k ≡ Some m → Origin k m
  origin k m e = by (cases_lt k (length net.leaves))
    where
      by : (k < length net.leaves) ⊎ (length net.leaves ≤ k) → Origin k m
      by (inl low) =
          let l = there net.leaves k low in
          let x = B.kept k l.0 l.1 in
          from l.0 l.1 (subst (Leads l.0) (same_Some x.0 m (sym x.1 ∙ e)) x.2)
      by (inr high) = behind high (B.hidden k m e high)

  pub grown : Grown net.leaves net.nodes b.leaves b.nodes
  grown = net_grown net order b B

  pub leads_along : Along net b.leaves b.nodes net.leaves b.leaves
  leads_along = along_from net b.leaves b.nodes net.leaves b.leaves B.kept B.hidden

  -- ---- leaves
  own_leaf : (k : ℕ) (l : Leaf) → slice_get net.leaves k ≡ Some l → IsLeaf net.leaves net.nodes l
  own_leaf k l at = all_there (IsLeaf net.leaves net.nodes) net.leaves whole.leaves k l at

  role_is : (k : ℕ) (l : Leaf) (r : Role) → slice_get net.leaves k ≡ Some l → l.role ≡ r → IsRole net.leaves net.nodes l.signed l.width r
  role_is k l r at is = subst (IsRole net.leaves net.nodes l.signed l.width) is (own_leaf k l at).driven

  next_kind : (l : Leaf) (p : Pipe) (next : Read) → Takes net b.leaves b.nodes l p next → (read_type b.leaves b.nodes next).signed ≡ l.signed
  next_kind l p _ (old h high at is) = rw (type_there b.leaves h (reading_of l p.read) at) refl
  next_kind l p next (new h a ws taken _ high at is array clocked chosen guarded) =
      let out = guarded.at_out in
      rw (out.is, out.at) refl

  leaf_of : (k : ℕ) (l m : Leaf) → slice_get net.leaves k ≡ Some l → Leads l m → IsLeaf b.leaves b.nodes m
  leaf_of k l _ at itself =
      let own = own_leaf k l at in
      record { narrow = own.narrow; driven = is_role net.leaves net.nodes b.leaves b.nodes grown l.signed l.width l.role own.driven }
  leaf_of k l _ at (register p next is can takes) =
      let own = role_is k l (role.Pipe p) at is in
      record {
        narrow = (own_leaf k l at).narrow;
        driven = (clock_leaf net.leaves net.nodes b.leaves b.nodes grown p.clock own.0, tt, record { can = can; kind = next_kind l p next takes });
      }

  hidden_leaf : (m : Leaf) → IsHidden net m → IsLeaf b.leaves b.nodes m
  hidden_leaf m h =
      let own = role_is h.number h.leaf (role.Pipe h.pipe) h.at h.is_pipe in
      subst (IsLeaf b.leaves b.nodes) (sym h.is) (record {
        narrow = (own_leaf h.number h.leaf h.at).narrow;
        driven = addressed net.leaves net.nodes b.leaves b.nodes grown h.pipe.read.address h.pipe.read.enable own.1;
      })

  each_leaf : (k : ℕ) (m : Leaf) → slice_get b.leaves k ≡ Some m → IsLeaf b.leaves b.nodes m
  each_leaf k m e = by (origin k m e)
    where
      by : Origin k m → IsLeaf b.leaves b.nodes m
      by (from l at leads) = leaf_of k l m at leads
      by (behind high h) = hidden_leaf m h

  -- ---- state
  word_same : (l m : Leaf) → Leads l m → is_word m ≡ is_word l
  word_same l _ itself = refl
  word_same l _ (register p next is can takes) = sym (ap (λ (r : Role). is_state r && not (nat_eq l.width 0)) is)

  state_is : IsState b.leaves net.state
  state_is = record {
    only = λ n k e.
        let o = whole.state.only n k e in
        let x = B.kept k o.0 o.1 in
        (x.0, x.1, word_same o.0 x.0 x.2 ∙ o.2);
    all = λ k m e is. by k m is (origin k m e);
    once = whole.state.once;
  }
    where
      by : (k : ℕ) (m : Leaf) → is_word m ≡ true → Origin k m → (n : ℕ) × (slice_get net.state n ≡ Some k)
      by k m is (from l at leads) = whole.state.all k l at (sym (word_same l m leads) ∙ is)
      by k m is (behind high h) = let clash : is_word m ≡ false = ap is_word h.is in cc

  -- ---- what is read of arrays
  reading_at : (k : ℕ) (m : Leaf) (r : ArrayRead) → slice_get b.leaves k ≡ Some m → m.role ≡ role.Reading r → IsReadOf net.arrays m r
  reading_at k m r e is = by (origin k m e)
    where
      of : (l : Leaf) → slice_get net.leaves k ≡ Some l → (x : Leaf) → Leads l x → x.role ≡ role.Reading r → IsReadOf net.arrays x r
      of l at _ itself is = whole.readings k l r at is
      of l at _ (register p next was can takes) is = cc

      by : Origin k m → IsReadOf net.arrays m r
      by (from l at leads) = of l at m leads is
      by (behind high h) =
          let same : h.pipe.read ≡ r = other h.pipe.read (sym (ap (λ (x : Leaf). x.role) h.is) ∙ is) in
          let own = whole.pipes h.number h.leaf h.pipe h.at h.is_pipe in
          subst (λ (x : Leaf). IsReadOf net.arrays x r) (sym h.is) (subst (IsReadOf net.arrays (reading_of h.leaf h.pipe.read)) same own)
        where
          other : (x : ArrayRead) → role.Reading x ≡ role.Reading r → x ≡ r
          other x e = cc

  pub no_pipe : (k : ℕ) (m : Leaf) (p : Pipe) → slice_get b.leaves k ≡ Some m → m.role ≡ role.Pipe p → ⊥
  no_pipe k m p e is = by (origin k m e)
    where
      by : Origin k m → ⊥
      by (from l at leads) = done.none k m p (slice_get_within net.leaves k l at) e is
      by (behind high h) = let reads : role.Reading h.pipe.read ≡ role.Pipe p = sym (ap (λ (x : Leaf). x.role) h.is) ∙ is in cc

  pub whole_lowered : IsNet lowered
  whole_lowered = record {
    leaves = each_all (IsLeaf b.leaves b.nodes) b.leaves each_leaf;
    ports_first = ports_first net b.leaves b.nodes net.leaves b.leaves leads_along whole.ports_first;
    nodes = subst (AreNodes b.leaves []) (sym B.nodes) (nodes_joined b.leaves [] net.nodes B.more (are_nodes net.leaves b.leaves leaves_grown [] net.nodes whole.nodes) B.are_nodes);
    state = state_is;
    arrays = are_arrays net.leaves net.nodes b.leaves b.nodes grown net.arrays whole.arrays;
    readings = reading_at;
    pipes = λ k m p e is. absurd (no_pipe k m p e is);
    array_state = whole.array_state;
    few_words = whole.few_words;
  }
    where
      leaves_grown : (nodes : List Node) → Grown net.leaves nodes b.leaves nodes
      leaves_grown nodes = record { leaf = grown.leaf; node = λ k n e. e }

  -- ---- names
  pub names : HasWordNames net → HasWordNames lowered
  names h = record {
    word = h.word;
    leaves = each_all (λ l. IsTrue (spells (base_name l.path))) b.leaves each;
    arrays = h.arrays;
  }
    where
      own : (k : ℕ) (l : Leaf) → slice_get net.leaves k ≡ Some l → IsTrue (spells (base_name l.path))
      own k l at = all_there (λ l. IsTrue (spells (base_name l.path))) net.leaves h.leaves k l at

      each : (k : ℕ) (m : Leaf) → slice_get b.leaves k ≡ Some m → IsTrue (spells (base_name m.path))
      each k m e = by (origin k m e)
        where
          by : Origin k m → IsTrue (spells (base_name m.path))
          by (from l at leads) = subst (λ (path : List ℕ). IsTrue (spells (base_name path))) (sym (same_path net b.leaves b.nodes l m leads)) (own k l at)
          by (behind high s) = subst (λ (path : List ℕ). IsTrue (spells (base_name path))) (sym (ap (λ (x : Leaf). x.path) s.is)) (own s.number s.leaf s.at)

  -- ---- what can be written
  module _ (writable : IsWritable net) (ordered : IsOrder net order) where
    writable_leaf : (k : ℕ) (m : Leaf) → slice_get b.leaves k ≡ Some m → IsWritableRole m.role
    writable_leaf k m e = by (origin k m e)
      where
        of : (l : Leaf) → slice_get net.leaves k ≡ Some l → (x : Leaf) → Leads l x → IsWritableRole x.role
        of l at _ itself = writable.leaves k l at
        of l at _ (register p next was can takes) = tt

        by : Origin k m → IsWritableRole m.role
        by (from l at leads) = of l at m leads
        by (behind high h) = subst (λ (x : Leaf). IsWritableRole x.role) (sym h.is) tt

    -- what is old hangs on the same as before
    old_reads : (v : Read) → IsOf net v → reads_of lowered v ≡ reads_of net v
    old_reads (read.Node k) o =
        let n = there net.nodes k o in
        ap node_reads (grown.node k n.0 n.1 ∙ sym n.1)
    old_reads (read.Leaf k) o =
        let l = there net.leaves k o in
        let x = B.kept k l.0 l.1 in
        ap leaf_reads x.1 ∙ same_role net b.leaves b.nodes role_reads (λ y p n. refl) l.0 x.0 x.2 ∙ ap leaf_reads (sym l.1)

    read_old : (v w : Read) → IsOf net v → Reads net v w → IsOf net w
    read_old v w o r =
        let i = ordered.all v o in
        let j = ordered.after i.0 v w i.1 r in
        ordered.only j.0 w j.2

    pub reaches_old : (v x : Read) → IsOf net v → Reaches lowered v x → Reaches net v x × IsOf net x
    reaches_old _ _ o (reached v) = (reached v, o)
    reaches_old _ _ o (through v w x r more) =
        let own : Reads net v w = record { place = r.place; is = ap (λ (rs : List Read). slice_get rs r.place) (sym (old_reads v o)) ∙ r.is } in
        let rest = reaches_old w x (read_old v w o own) more in
        (through v w x own rest.0, rest.1)

    ends_old : (k n : ℕ) → EndsAt lowered k n → EndsAt net k n
    ends_old _ _ (input k m e is) = by (origin k m e)
      where
        of : (l : Leaf) → slice_get net.leaves k ≡ Some l → (x : Leaf) → Leads l x → x.role ≡ role.Clock → EndsAt net k k
        of l at _ itself is = input k l at is
        of l at _ (register p next was can takes) is = cc

        by : Origin k m → EndsAt net k k
        by (from l at leads) = of l at m leads is
        by (behind high h) = let clash : role.Reading h.pipe.read ≡ role.Clock = sym (ap (λ (x : Leaf). x.role) h.is) ∙ is in cc
    ends_old _ _ (driven k j n m e is more) = by (ends_old j n more) (origin k m e)
      where
        of : EndsAt net j n → (l : Leaf) → slice_get net.leaves k ≡ Some l → (x : Leaf) → Leads l x → clock_driver x.role ≡ Some (Some j) → EndsAt net k n
        of rest l at _ itself is = driven k j n l at is rest
        of rest l at _ (register p next was can takes) is = cc

        by : EndsAt net j n → Origin k m → EndsAt net k n
        by rest (from l at leads) = of rest l at m leads is
        by rest (behind high h) = let clash : None ≡ Some (Some j) = sym (ap (λ (x : Leaf). clock_driver x.role) h.is) ∙ is in cc

    port_old : (k x : ℕ) → IsPortClock lowered k x → IsPortClock net k x
    port_old k _ (of_write a n w at is) = of_write a n w at is
    port_old k _ (of_pipe x m p e is array) = absurd (no_pipe x m p e is)

    inits_old : HasConstantInits lowered
    inits_old = record { each = λ k m own reset e is has kind. by k m own reset is has kind (origin k m e) }
      where
        constant : (k : ℕ) (l : Leaf) (own : Register) (reset : Reset) → slice_get net.leaves k ≡ Some l → l.role ≡ role.Register own → own.reset ≡ Some reset
            → IsOf net reset.init → IsConstant net reset.init → IsConstant lowered reset.init
        constant k l own reset at is has o c = record { none = λ j m r e. leaf_by j m r e (origin j m e) }
          where
            leaf_by : (j : ℕ) (m : Leaf) → Reaches lowered reset.init (read.Leaf j) → slice_get b.leaves j ≡ Some m → Origin j m → is_input_or_state m.role ≡ false
            leaf_by j m r e (from x at leads) =
                same_role net b.leaves b.nodes is_input_or_state (λ y p n. refl) x m leads ∙ c.none j x (reaches_old reset.init (read.Leaf j) o r).0 at
            leaf_by j m r e (behind high h) = let low : j < length net.leaves = (reaches_old reset.init (read.Leaf j) o r).1 in absurd (omega (arith, low, high))

        init_of : (k : ℕ) (l : Leaf) (own : Register) (reset : Reset) → slice_get net.leaves k ≡ Some l → l.role ≡ role.Register own → own.reset ≡ Some reset → reset.kind ≡ Asynchronous
            → IsOf net reset.init
        init_of k l own reset at is has kind =
            read_old (read.Leaf k) reset.init (slice_get_within net.leaves k l at) (record {
              place = 1;
              is = rw (at, is, has, kind) refl;
            })

        of : (k : ℕ) (l : Leaf) (own : Register) (reset : Reset) → slice_get net.leaves k ≡ Some l → (x : Leaf) → Leads l x → x.role ≡ role.Register own → own.reset ≡ Some reset
            → reset.kind ≡ Asynchronous → IsConstant lowered reset.init
        of k l own reset at _ itself is has kind =
            constant k l own reset at is has (init_of k l own reset at is has kind) (writable.inits.each k l own reset at is has kind)
        of k l own reset at _ (register p next was can takes) is has kind = let clash : own.reset ≡ None = reset_none own (record { clock = p.clock; reset = None; next = Some next }) is in cc
          where
            reset_none : (own other : Register) → role.Register other ≡ role.Register own → own.reset ≡ other.reset
            reset_none own other e = cc

        by : (k : ℕ) (m : Leaf) (own : Register) (reset : Reset) → m.role ≡ role.Register own → own.reset ≡ Some reset → reset.kind ≡ Asynchronous → Origin k m → IsConstant lowered reset.init
        by k m own reset is has kind (from l at leads) = of k l own reset at m leads is has kind
        by k m own reset is has kind (behind high h) = let clash : role.Reading h.pipe.read ≡ role.Register own = sym (ap (λ (x : Leaf). x.role) h.is) ∙ is in cc

    pub writable_lowered : IsWritable lowered
    writable_lowered = record {
      leaves = writable_leaf;
      inits = inits_old;
      clocks = record { same = λ k x y i j p q e f. writable.clocks.same k x y i j (port_old k x p) (port_old k y q) (ends_old x i e) (ends_old y j f) };
    }
