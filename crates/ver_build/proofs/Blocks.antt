-- Each block of the tree is sound: it is of a register of its width, and on a clock or under a reset of one bit, or both.
-- Its names are those of clocks and of nets.
use Rattle.std.proofs.Common.{◌≡◌, ℕ, ◌≤◌, List, ◌++◌, Bool, refl, sym, ap, inl, ⊎_elim, subst, Option, Some, None}
use Rattle.std.specs.List.{AllByRecursion}
use Rattle.fir_base.specs.Lists.{In, EachIn}
use Rattle.fir_base.proofs.Each.{all_at, each_more}
use Rattle.fir_base.proofs.Members.{in_map, in_left, in_right}
use Rattle.fir_net.specs.declared.reads.Read.{Read}
use Rattle.fir_net.specs.declared.leaf.Reset.{Reset}
use Rattle.fir_net.specs.declared.net.FlatNet.{FlatNet}
use Rattle.fir_net.specs.working.Counted.{is_register}
use Rattle.fir_net.specs.working.IsNet.{CanBeDriven}
use Rattle.fir_net_names.specs.declared.name_table.NameTable.{NameTable}
use Rattle.ver_ast.specs.declared.tree.Edge.{Edge}
use Rattle.ver_ast.specs.ItemNames.{edge_names}
use Rattle.ver_ast.specs.Nets.{SizedNet, AlwaysBlock, clocks, regs, names_of}
use Rattle.ver_ast.specs.SoundSides.{HasWidth}
use Rattle.ver_ast.specs.Valid.{IsEdge, IsSoundBlock}
use Rattle.ver_build.specs.declared.held.Source.{Source}
use Rattle.ver_build.specs.declared.places.Places.{Places}
use Rattle.ver_build.specs.working.Operands.{atom_at}
use Rattle.ver_build.specs.working.Places.{bit_net, held_of, clock_in}
use Rattle.ver_build.specs.working.Blocks.{reset_net, edge_on, plain_on, block_on}
use Rattle.ver_build.specs.working.Built.{order_inners, reset_inners, late_inners}
use Rattle.ver_build.proofs.Premises.{Premises}
use Rattle.ver_build.proofs.OrderedLeaves.{ordered_part}
use Rattle.ver_build.proofs.Parts.{blocks_of, in_parts}
use Rattle.ver_build.proofs.LeafKinds.{is_net, sized_if}
use Rattle.ver_build.proofs.Nets.{sizes, registers_sized, nets_sized}
use Rattle.ver_build.proofs.Standing.{IsSource}
use Rattle.ver_build.proofs.Words.{IsWord, word_edge, register_block, net_inner, net_in, block_of}
use Rattle.ver_build.proofs.ResetNames.{IsBit, HasNet, bit_source, reset_view}
use Rattle.ver_build.proofs.Sizes.{IsSized, leaf_is_sized, inner_among}
use Rattle.ver_build.proofs.OperandAtoms.{atom_fits}
use Rattle.ver_build.proofs.ReadsStand.{size_at, leaf_at, word_role, word_reset, read_stands}
use Rattle.ver_build.proofs.Fitting.{BlockAmong, known_names, net_known, part_among, atom_among}
use Rattle.ver_build.proofs.ClockEnds.{IsClockInput, ends_at, clock_is_port}
use Rattle.ver_build.specs.working.ArrayBlocks.{write_inners}

-- a net of one bit that a value is all of
bit_among : (ns : List SizedNet) (w : ℕ) (s : Source) (name : List ℕ) → IsSource ns w s → bit_net s ≡ Some name → In ns (name, 1)
bit_among ns w s name is e = part_among ns w (record { name = name; own = 1; kept = 1 }) (subst (IsSource ns w) (bit_source s name e) is)

module _ (net : FlatNet) (t : NameTable) (p : Places) (order : List Read) (is : Premises net t p order) where
  abbrev ns : List SizedNet
  ns = sizes net t p order

  pub word_size : (k : ℕ) (w : IsWord net t k) → IsSized (sizes net t p order) w.name w.leaf.width
  word_size k w =
      leaf_is_sized ns w.leaf _ (size_at net t p order is k w.leaf w.at) (ap is_net w.register) w.name w.named

  pub registered : (k : ℕ) (w : IsWord net t k) → In (regs (in_parts net t p order)) (w.name, w.leaf.width)
  registered k w =
      let given : In (sized_if (is_register w.leaf.role) w.leaf.width (Some w.name)) (w.name, w.leaf.width) =
      subst (λ (b : Bool). In (sized_if b w.leaf.width (Some w.name)) (w.name, w.leaf.width)) (sym (ap is_register w.register)) (inl refl) in
      subst (λ (ss : List SizedNet). In ss (w.name, w.leaf.width)) (sym (registers_sized net t p order))
      (ordered_part net t is.whole is.table (λ l n. sized_if (is_register l.role) l.width n) k w.leaf w.name w.at w.named (w.name, w.leaf.width) given)

  -- the net of a reset has one bit
  pub reset_among : (k : ℕ) → In net.state k → (w : IsWord net t k) → (r : Reset) → w.own.reset ≡ Some r → In (sizes net t p order) (reset_net p k r, 1)
  reset_among k m w r has =
      ⊎_elim
      (λ (b : IsBit p k r).
      let can = (word_reset net t p order is k w r has).condition in
      subst (λ (n : List ℕ). In ns (n, 1)) (sym b.is)
      (bit_among ns (held_of p r.condition).width (held_of p r.condition).source b.name (read_stands net t p order is r.condition can).stands.source b.all_of))
      (λ (h : HasNet p k r).
      subst (λ (n : List ℕ). In ns (n, 1)) (sym h.is)
      (inner_among net t p order is (net_inner p r h.name)
      (in_right (order_inners net t p order) (late_inners net p) (net_inner p r h.name)
      (in_left (reset_inners net p) (write_inners net p) (net_inner p r h.name) (net_in net t p k m w r h.name has h.named)))))
      (reset_view net t p order is k m w r has)

  -- the edge of a word
  edge_sound : (clock : Option ℕ) (s : Bool) (width : ℕ) (next : Option Read) (name : List ℕ) → 1 ≤ width → width ≤ 128
      → ((k : ℕ) → clock ≡ Some k → IsClockInput net t k) → CanBeDriven net.leaves net.nodes s next
      → IsEdge (in_parts net t p order) name width (edge_on t p clock width next name)
  edge_sound None s width next name one narrow c can = tt
  edge_sound (Some i) s width None name one narrow c can = tt
  edge_sound (Some i) s width (Some r) name one narrow c can = (
    clock_is_port net t p order is i (c i refl),
    refl,
    subst (λ (ss : List SizedNet). HasWidth ss width (atom_at width (held_of p r))) (sym (nets_sized net t p order is))
        (atom_fits ns width (held_of p r) (read_stands net t p order is r can.can).stands one narrow),
  )

  word_edge_sound : (k : ℕ) (w : IsWord net t k) → IsEdge (in_parts net t p order) w.name w.leaf.width (word_edge net t p k w)
  word_edge_sound k w =
      let driven = word_role net t p order is k w in
      edge_sound (clock_in p.leaves w.own.clock) w.leaf.signed w.leaf.width w.own.next w.name w.some (leaf_at net t p order is k w.leaf w.at).narrow
      (λ c e. let clock = driven.0 in (ends_at net t p order is w.own.clock clock.0 c clock.1 e).clock) driven.2

  plain_sound : (name : List ℕ) (width : ℕ) (e : Option Edge) → In (regs (in_parts net t p order)) (name, width) → IsEdge (in_parts net t p order) name width e
      → AllByRecursion (IsSoundBlock (in_parts net t p order)) (plain_on e)
  plain_sound name width None m sound = tt
  plain_sound name width (Some e) m sound = (
    record {
      clocked = sound.0;
      width = width;
      register = subst (λ (n : List ℕ). In (regs (in_parts net t p order)) (n, width)) (sym sound.1) m;
      wide = sound.2;
    },
    tt,
  )

  word_sound : (k : ℕ) → In net.state k → (w : IsWord net t k) → (reset : Option Reset) → w.own.reset ≡ reset
      → AllByRecursion (IsSoundBlock (in_parts net t p order)) (block_on p k w.leaf.width w.name reset (word_edge net t p k w))
  word_sound k m w None has = plain_sound w.name w.leaf.width (word_edge net t p k w) (registered k w) (word_edge_sound k w)
  word_sound k m w (Some r) has = (
    record {
      bit = subst (λ (ss : List SizedNet). In ss (reset_net p k r, 1)) (sym (nets_sized net t p order is)) (reset_among k m w r has);
      one_reset = refl;
      register = registered k w;
      constant_fits = is.places.inits.fits k w.leaf w.at;
      clocked = word_edge_sound k w;
    },
    tt,
  )

  pub block_sound : (b : AlwaysBlock) → In (blocks_of net t p order) b → IsSoundBlock (in_parts net t p order) b
  block_sound b m =
      let o = block_of net t p is.whole is.table is.pipes b m in
      all_at (IsSoundBlock (in_parts net t p order)) (register_block net t p o.number o.word) (word_sound o.number o.among o.word o.word.own.reset refl) b o.inside

  -- the names of clocks, of nets and of arrays
  abbrev pub block_names : List (List ℕ)
  block_names = clocks (in_parts net t p order) ++ known_names net t p order is

  pub clock_named : (n : List ℕ) → In (clocks (in_parts net t p order)) n → In (block_names) n
  clock_named n m = in_left (clocks (in_parts net t p order)) (known_names net t p order is) n m

  pub net_among : (n : List ℕ) → In (names_of (sizes net t p order)) n → In (block_names) n
  net_among n m = in_right (clocks (in_parts net t p order)) (known_names net t p order is) n (net_known net t p order is n m)

  net_named : (n : List ℕ) (w : ℕ) → In ns (n, w) → In block_names n
  net_named n w m = net_among n (in_map (λ (s : SizedNet). s.0) ns (n, w) m)

  edge_among : (clock : Option ℕ) (s : Bool) (width : ℕ) (next : Option Read) (name : List ℕ) → In block_names name
      → ((k : ℕ) → clock ≡ Some k → IsClockInput net t k) → CanBeDriven net.leaves net.nodes s next
      → EachIn (edge_names (edge_on t p clock width next name)) block_names
  edge_among None s width next name m c can = tt
  edge_among (Some i) s width None name m c can = tt
  edge_among (Some i) s width (Some r) name m c can = (
    clock_named _ (clock_is_port net t p order is i (c i refl)),
    (
      m,
      each_more _ (names_of ns) block_names net_among (atom_among net t p order is width r can.can),
    ),
  )

  word_named : (k : ℕ) (w : IsWord net t k) → In block_names w.name
  word_named k w = net_named w.name w.leaf.width (word_size k w).among

  word_edge_among : (k : ℕ) (w : IsWord net t k) → EachIn (edge_names (word_edge net t p k w)) block_names
  word_edge_among k w =
      let driven = word_role net t p order is k w in
      edge_among (clock_in p.leaves w.own.clock) w.leaf.signed w.leaf.width w.own.next w.name (word_named k w)
      (λ c e. let clock = driven.0 in (ends_at net t p order is w.own.clock clock.0 c clock.1 e).clock) driven.2

  plain_among : (e : Option Edge) → EachIn (edge_names e) block_names → AllByRecursion (BlockAmong block_names) (plain_on e)
  plain_among None h = tt
  plain_among (Some e) h = (h, tt)

  word_among : (k : ℕ) → In net.state k → (w : IsWord net t k) → (reset : Option Reset) → w.own.reset ≡ reset
      → AllByRecursion (BlockAmong block_names) (block_on p k w.leaf.width w.name reset (word_edge net t p k w))
  word_among k m w None has = plain_among (word_edge net t p k w) (word_edge_among k w)
  word_among k m w (Some r) has =
      let reset = net_named (reset_net p k r) 1 (reset_among k m w r has) in
      ((reset, (reset, (word_named k w, word_edge_among k w))), tt)

  pub block_among : (b : AlwaysBlock) → In (blocks_of net t p order) b → BlockAmong (block_names) b
  block_among b m =
      let o = block_of net t p is.whole is.table is.pipes b m in
      all_at (BlockAmong block_names) (register_block net t p o.number o.word) (word_among o.number o.among o.word o.word.own.reset refl) b o.inside
