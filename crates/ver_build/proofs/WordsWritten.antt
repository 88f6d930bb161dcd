-- What a tick writes to the words of a net: each keeps what its block writes, where it has one that acts, and else its word.
use Rattle.std.proofs.Common.{◌≡◌, ℕ, List, [], ◌∷◌, ◌++◌, Bool, true, false, not, ◌||◌, ◌==◌, if◌then◌else◌, map, refl, sym, ap, ◌∙◌, inl, inr, subst, Option, Some, None, unwrap_or}
use Rattle.std.specs.Prelude.{filter, flat_map, slice_get, slice_index}
use Rattle.std.specs.Option.{is_some}
use Rattle.std.specs.List.{AllByRecursion, list_all}
use Rattle.fir_base.specs.Lists.{In, Distinct}
use Rattle.fir_base.specs.Ticks.{Env, Tick, FitEach}
use Rattle.std.proofs.lemmas.List.Folds.{list_all-append}
use Rattle.fir_base.proofs.Each.{all_at, all_from}
use Rattle.fir_base.proofs.Members.{in_flat_map_from, in_map}
use Rattle.fir_net.specs.declared.reads.Read.{Read}
use Rattle.fir_net.specs.declared.leaf.Reset.{Reset}
use Rattle.fir_net.specs.declared.leaf.Role.{Role}
use Rattle.fir_net.specs.declared.leaf.Role.TheVariants as role
use Rattle.fir_net.specs.declared.net.FlatNet.{FlatNet}
use Rattle.fir_net_names.specs.declared.name_table.NameTable.{NameTable}
use Rattle.ver_ast.specs.declared.tree.Edge.{Edge}
use Rattle.ver_ast.specs.declared.tree.Verilog.{Verilog}
use Rattle.ver_ast.specs.Nets.{SizedNet, Variable, variable_names, AlwaysBlock, plain_block, resetting_block, nets, names_of, regs, variables, variable_widths}
use Rattle.ver_ast.specs.Next.{Put, acts, all_puts, is_within, put_all, puts, v_next, write_put}
use Rattle.ver_ast.specs.AtomValues.{atom_value}
use Rattle.ver_ast.specs.declared.tree.Write.{Write}
use Rattle.ver_ast.proofs.Chosen.{chosen}
use Rattle.ver_ast.specs.Stores.{Store, state_of, store_of, stored}
use Rattle.ver_build.specs.declared.places.Places.{Places}
use Rattle.fir_net_names.specs.working.LeafNamed.{name_at}
use Rattle.ver_build.specs.working.ArrayBlocks.{array_block, array_blocks, block_of as block_of_array, clocked_writes, first_clock}
use Rattle.ver_build.specs.working.Places.{clock_in}
use Rattle.ver_build.specs.working.Blocks.{block_on, edge_on, plain_on, resetting_on}
use Rattle.ver_build.proofs.Premises.{Premises}
use Rattle.ver_build.proofs.OrderedLeaves.{ordered_names, ordered_leaves, ordered_once, ordered_picked}
use Rattle.ver_build.proofs.Parts.{blocks_of, in_parts}
use Rattle.ver_build.proofs.LeafKinds.{is_clocked, is_written, picked}
use Rattle.ver_build.proofs.Picked.{picked_named, picked_once, picked_apart}
use Rattle.ver_build.proofs.InnerNames.{not_true}
use Rattle.ver_build.proofs.Nets.{arrays_are, blocks_are}
use Rattle.ver_build.proofs.ArrayPuts.{one_of_many, put_apart, put_behind, put_same, within_parts, written_joined, written_parts}
use Rattle.ver_build.proofs.ArrayWords.{array_named, array_no_leaf, array_no_register, arrays_once}
use Rattle.ver_build.proofs.Lists.{flat_same}
use Rattle.ver_build.proofs.StateArrays.{IsStateArray, array_at, array_name, name_is, state_variables}
use Rattle.ver_build.proofs.WritingBlocks.{array_block_is, write_of}
use Rattle.ver_build.proofs.Driven.{block_targets_are}
use Rattle.ver_build.proofs.Words.{IsWord, word_edge, register_block, block_in, block_of}
use Rattle.ver_build.proofs.Blocks.{registered}
use Rattle.ver_build.proofs.StateWords.{arrays_state, state_words, word_of}
use Rattle.ver_build.proofs.Written.{OfRegister, register_name, register_names, block_word, all_written, untouched, written, all_within, one_word_still}

-- a register without a block
abbrev unwritten : (ℕ → Option ℕ) → Role → Bool
unwritten clock (role.Register r) = not (is_written clock (role.Register r))
unwritten clock _ = false

unwritten_apart : (clock : ℕ → Option ℕ) (r : Role) → unwritten clock r ≡ true → is_written clock r ≡ true → ⊥
unwritten_apart clock (role.Register r) a b = not_true (is_written clock (role.Register r)) a b
unwritten_apart clock _ a b = absurd (cc)

-- an edge is of the register, and where there is none nothing drives it on a clock
edge_target : (t : NameTable) (p : Places) (c : Option ℕ) (w : ℕ) (next : Option Read) (name : List ℕ) (e : Edge) → edge_on t p c w next name ≡ Some e
    → name ≡ e.target
edge_target t p (Some k) w (Some r) name e same = let x = same in cc
edge_target t p None w next name e same = absurd (cc)
edge_target t p (Some k) w None name e same = absurd (cc)

no_edge : (t : NameTable) (p : Places) (c : Option ℕ) (w : ℕ) (next : Option Read) (name : List ℕ) → edge_on t p c w next name ≡ None
    → is_clocked c next ≡ false
no_edge t p (Some k) w (Some r) name e = absurd (cc)
no_edge t p None w next name e = refl
no_edge t p (Some k) w None name e = refl

plain_registers : (e : Option Edge) → AllByRecursion OfRegister (plain_on e)
plain_registers None = tt
plain_registers (Some e) = (tt, tt)

of_register : (p : Places) (k w : ℕ) (name : List ℕ) (reset : Option Reset) (e : Option Edge) → AllByRecursion OfRegister (block_on p k w name reset e)
of_register p k w name None e = plain_registers e
of_register p k w name (Some r) e = (tt, tt)

-- each block has the name of its register
named_on : (p : Places) (k w : ℕ) (name : List ℕ) (reset : Option Reset) (edge : Option Edge) → ((e : Edge) → edge ≡ Some e → name ≡ e.target)
    → (b : AlwaysBlock) → In (block_on p k w name reset edge) b → name ≡ register_name b
named_on p k w name None None target b m = absurd m
named_on p k w name None (Some e) target b (inl same) = target e refl ∙ ap register_name same
named_on p k w name None (Some e) target b (inr o) = absurd o
named_on p k w name (Some r) edge target b (inl same) = ap register_name same
named_on p k w name (Some r) edge target b (inr o) = absurd o

-- what a register keeps that has these blocks, one at most, and this word
abbrev pub kept : List SizedNet → Env → List ℕ → List AlwaysBlock → ℕ → ℕ
kept ns f named [] word = word
kept ns f named (b ∷ bs) word = unwrap_or (block_word ns f named b) word

first_of_one : (store : Store) (n : List ℕ) (y : ℕ) → store n ≡ y ∷ [] → store n ≡ stored store n ∷ []
first_of_one store n y e = e ∙ sym (ap (λ (xs : List ℕ). slice_index xs 0 ∷ []) e)

module _ (net : FlatNet) (t : NameTable) (p : Places) (order : List Read) (is : Premises net t p order) where
  abbrev v : Verilog
  v = in_parts net t p order

  all_registers : AllByRecursion OfRegister (blocks_of net t p order)
  all_registers =
      all_from OfRegister (blocks_of net t p order)
      (λ b m.
      let o = block_of net t p is.whole is.table is.pipes b m in
      all_at OfRegister (register_block net t p o.number o.word)
      (of_register p o.number o.word.leaf.width o.word.name o.word.own.reset (word_edge net t p o.number o.word)) b o.inside)

  names_are : map register_name (blocks_of net t p order) ≡ picked (is_written (clock_in p.leaves)) (ordered_names net t) (ordered_leaves net)
  names_are = register_names (blocks_of net t p order) all_registers ∙ block_targets_are net t p order is.whole is.table is.pipes

  names_once : Distinct (map register_name (blocks_of net t p order))
  names_once =
      subst Distinct (sym names_are)
      (picked_once (is_written (clock_in p.leaves)) (ordered_names net t) (ordered_leaves net) (ordered_once net t is.whole is.table))

  -- a word that has no block
  lacking : (k : ℕ) (w : IsWord net t k) → w.own.reset ≡ None → word_edge net t p k w ≡ None → In (map register_name (blocks_of net t p order)) w.name → ⊥
  lacking k w none edge m =
      let clock = clock_in p.leaves in
      let without : unwritten clock w.leaf.role ≡ true =
      ap (unwritten clock) w.register
      ∙ ap (λ o. not (is_some o || is_clocked (clock w.own.clock) w.own.next)) none
      ∙ ap not (no_edge t p (clock w.own.clock) w.leaf.width w.own.next w.name edge) in
      picked_apart (unwritten clock) (is_written clock) (unwritten_apart clock) (ordered_names net t) (ordered_leaves net)
      (ordered_once net t is.whole is.table) w.name
      (ordered_picked net t is.whole is.table (unwritten clock) k w.leaf w.name w.at without w.named) (subst (λ (ns : List (List ℕ)). In ns w.name) names_are m)

  -- what the block of an array writes is of it
  put_of_write : (ns : List SizedNet) (f : Env) (x : Write) (q : Put) → In (write_put ns f x) q → q.name ≡ x.array
  put_of_write ns f x q m = by (atom_value ns f x.condition == 1) m
    where
      by : (b : Bool) → In (if b then (record { name = x.array; place = atom_value ns f x.index; word = atom_value ns f x.source } ∷ []) else []) q → q.name ≡ x.array
      by true (inl e) = sym (ap (λ (y : Put). y.name) e)
      by true (inr o) = absurd o
      by false o = absurd o

  put_of_block : (f : Env) (k : ℕ) (a : IsStateArray net t k) (o : Option ℕ) (b : AlwaysBlock) → In (block_of_array t o (clocked_writes net p k a.array a.name)) b
      → (q : Put) → In (puts (nets (in_parts net t p order)) f b) q → q.name ≡ array_name t k
  put_of_block f k a None b m q n = absurd m
  put_of_block f k a (Some c) b (inr o) q n = absurd o
  put_of_block f k a (Some c) b (inl e) q n =
      let ws = clocked_writes net p k a.array a.name in
      let x = in_flat_map_from (write_put (nets v) f) ws q (subst (λ (d : AlwaysBlock). In (puts (nets v) f d) q) (sym e) n) in
      let w = write_of net t p k a x.0 x.1 in
      put_of_write (nets v) f x.0 q x.2 ∙ sym (ap (λ (y : Write). y.array) w.is) ∙ sym (name_is net t k a)

  pub array_put_named : (f : Env) (named : List ℕ) (q : Put) → In (all_written (nets (in_parts net t p order)) f named (array_blocks net t p)) q
      → In (variable_names (state_variables net t)) q.name
  array_put_named f named q m =
      let b = in_flat_map_from (puts (nets v) f) (filter (acts named f) (array_blocks net t p)) q m in
      let among = (chosen (acts named f) (array_blocks net t p) b.0 b.1).0 in
      let from = in_flat_map_from (λ (k : ℕ). array_block net t p k (slice_get net.arrays k) (name_at t.arrays k)) net.array_order b.0 among in
      let a = array_at net t is.whole is.table from.0 from.1 in
      let same : q.name ≡ array_name t from.0 =
      put_of_block f from.0 a (first_clock p a.array.writes) b.0 (subst (λ (bs : List AlwaysBlock). In bs b.0) (array_block_is net t p from.0 a) from.2) q b.2 in
      subst (In (variable_names (state_variables net t))) (sym same) (array_named net t p order is from.0 from.1)

  module _ (state : List ℕ) (once : Distinct (names_of (regs (in_parts net t p order))))
      (fit : FitEach (variable_widths (variables (in_parts net t p order))) state) (tick : Tick) (f : Env) where
    abbrev pub store : Store
    store = store_of (variables (in_parts net t p order)) state

    abbrev pub after : Store
    after = put_all (all_puts (in_parts net t p order) tick f) store

    -- what registers get, and what arrays get
    abbrev of_registers : List Put
    of_registers = all_written (nets (in_parts net t p order)) f tick.clocks (blocks_of net t p order)

    abbrev of_arrays : List Put
    of_arrays = all_written (nets (in_parts net t p order)) f tick.clocks (array_blocks net t p)

    puts_are : all_puts (in_parts net t p order) tick f ≡ of_registers ++ of_arrays
    puts_are =
        ap (all_written (nets v) f tick.clocks) (blocks_are net t p order)
        ∙ written_joined (nets v) f tick.clocks (blocks_of net t p order) (array_blocks net t p)

    both_after : (n : List ℕ) → after n ≡ put_all of_arrays (put_all of_registers store) n
    both_after n = ap (λ (ps : List Put). put_all ps store n) puts_are ∙ put_behind of_registers of_arrays store n

    -- a name that is none of an array gets nothing of their writes
    after_is : (n : List ℕ) → (In (variable_names (state_variables net t)) n → ⊥)
        → after n ≡ put_all (all_written (nets (in_parts net t p order)) f tick.clocks (blocks_of net t p order)) store n
    after_is n none =
        both_after n
        ∙ put_apart of_arrays (put_all of_registers store) n
        (λ q m same. none (subst (In (variable_names (state_variables net t))) same (array_put_named f tick.clocks q m)))

    register_alone : (r : SizedNet) → In (regs (in_parts net t p order)) r → In (variable_names (state_variables net t)) r.0 → ⊥
    register_alone r m = array_no_register net t p order is r.0 (in_map (λ (s : SizedNet). s.0) (regs v) r m)

    word_alone : (k : ℕ) (w : IsWord net t k) → In (variable_names (state_variables net t)) w.name → ⊥
    word_alone k w = register_alone (w.name, w.leaf.width) (registered net t p order is k w)

    word_there : (r : SizedNet) → In (regs (in_parts net t p order)) r → store r.0 ≡ stored store r.0 ∷ []
    word_there r m = word_of v state once fit r m

    abbrev own_kept : List AlwaysBlock → List ℕ → ℕ
    own_kept bs n = kept (nets (in_parts net t p order)) f tick.clocks bs (stored store n)

    block_after : (k : ℕ) → In net.state k → (w : IsWord net t k) → (b : AlwaysBlock) → register_block net t p k w ≡ b ∷ [] → w.name ≡ register_name b
        → after w.name ≡ own_kept (b ∷ []) w.name ∷ []
    block_after k m w b is_block same =
        let among = block_in net t p k m w b (subst (λ (bs : List AlwaysBlock). In bs b) (sym is_block) (inl refl)) in
        after_is w.name (word_alone k w)
        ∙ ap (put_all (all_written (nets v) f tick.clocks (blocks_of net t p order)) store) same
        ∙ written (nets v) f tick.clocks (blocks_of net t p order) all_registers names_once store b among (stored store w.name)
        (ap store (sym same) ∙ word_there (w.name, w.leaf.width) (registered net t p order is k w))

    word_after : (k : ℕ) → In net.state k → (w : IsWord net t k) → (reset : Option Reset) → w.own.reset ≡ reset → (e : Option Edge) → word_edge net t p k w ≡ e
        → after w.name ≡ own_kept (block_on p k w.leaf.width w.name reset e) w.name ∷ []
    word_after k m w None none None edge =
        after_is w.name (word_alone k w)
        ∙ untouched (nets v) f tick.clocks (blocks_of net t p order) all_registers store w.name (lacking k w none edge)
        ∙ word_there (w.name, w.leaf.width) (registered net t p order is k w)
    word_after k m w None none (Some e) edge =
        block_after k m w (plain_block (record { clock = e.clock; target = e.target; source = e.source }))
        (ap (λ o. block_on p k w.leaf.width w.name o (word_edge net t p k w)) none ∙ ap plain_on edge)
        (edge_target t p (clock_in p.leaves w.own.clock) w.leaf.width w.own.next w.name e edge)
    word_after k m w (Some r) has e edge =
        block_after k m w (resetting_block (resetting_on p k w.leaf.width w.name r e))
        (ap (λ o. block_on p k w.leaf.width w.name o (word_edge net t p k w)) has ∙ ap (block_on p k w.leaf.width w.name (Some r)) edge) refl

    -- what a word keeps
    pub word_kept : (k : ℕ) → In net.state k → (w : IsWord net t k)
        → stored after w.name ≡ kept (nets (in_parts net t p order)) f tick.clocks (register_block net t p k w) (stored store w.name)
    word_kept k m w = ap (λ (xs : List ℕ). slice_index xs 0) (word_after k m w w.own.reset refl (word_edge net t p k w) refl)

    block_there : (b : AlwaysBlock) → In (blocks_of net t p order) b → (y : ℕ) × (store (register_name b) ≡ y ∷ [])
    block_there b m =
        let o = block_of net t p is.whole is.table is.pipes b m in
        let w = o.word in
        let same =
        named_on p o.number w.leaf.width w.name w.own.reset (word_edge net t p o.number w)
        (edge_target t p (clock_in p.leaves w.own.clock) w.leaf.width w.own.next w.name) b o.inside in
        (stored store w.name, ap store (sym same) ∙ word_there (w.name, w.leaf.width) (registered net t p order is o.number w))

    -- what the block of an array writes to it
    abbrev pub own_block : ℕ → List AlwaysBlock
    own_block k = array_block net t p k (slice_get net.arrays k) (name_at t.arrays k)

    abbrev pub own_puts : ℕ → List Put
    own_puts k = all_written (nets (in_parts net t p order)) f tick.clocks (own_block k)

    own_named : (k : ℕ) → In net.array_order k → (q : Put) → In (own_puts k) q → q.name ≡ array_name t k
    own_named k m q n =
        let b = in_flat_map_from (puts (nets v) f) (filter (acts tick.clocks f) (own_block k)) q n in
        let a = array_at net t is.whole is.table k m in
        let among = (chosen (acts tick.clocks f) (own_block k) b.0 b.1).0 in
        put_of_block f k a (first_clock p a.array.writes) b.0 (subst (λ (bs : List AlwaysBlock). In bs b.0) (array_block_is net t p k a) among) q b.2

    -- an array after the tick
    pub array_after_is : (k : ℕ) → In net.array_order k → after (array_name t k) ≡ put_all (own_puts k) store (array_name t k)
    array_after_is k m =
        let name = array_name t k in
        let lacks = λ (i : In (map register_name (blocks_of net t p order)) (array_name t k)).
        array_no_leaf net t p order is name
        (picked_named (is_written (clock_in p.leaves)) (ordered_names net t) (ordered_leaves net) name (subst (λ (ns : List (List ℕ)). In ns name) names_are i))
        (array_named net t p order is k m) in
        both_after name
        ∙ put_same of_arrays (put_all of_registers store) store name (untouched (nets v) f tick.clocks (blocks_of net t p order) all_registers store name lacks)
        ∙ ap (λ (ps : List Put). put_all ps store name) (written_parts (nets v) f tick.clocks own_block net.array_order)
        ∙ one_of_many own_puts (array_name t) net.array_order (arrays_once net t p order is) own_named k m store

    -- the state after the tick, where no write to an array is out of range
    pub next_from : ((k : ℕ) → In net.array_order k → list_all (is_within store) (own_puts k) ≡ true)
        → v_next (in_parts net t p order) state tick f
        ≡ Some (map (λ (r : SizedNet). stored after r.0) (regs (in_parts net t p order))
        ++ flat_map (λ k. put_all (own_puts k) store (array_name t k)) net.array_order)
    next_from arrays_within =
        let first : list_all (is_within store) of_registers ≡ true = all_within (nets v) f tick.clocks (blocks_of net t p order) all_registers store block_there in
        let second : list_all (is_within store) of_arrays ≡ true =
        ap (list_all (is_within store)) (written_parts (nets v) f tick.clocks own_block net.array_order)
        ∙ within_parts (is_within store) own_puts net.array_order arrays_within in
        let within : list_all (is_within store) (all_puts (in_parts net t p order) tick f) ≡ true =
        ap (list_all (is_within store)) puts_are ∙ list_all-append (is_within store) of_registers of_arrays ∙ rw (first, second) refl in
        let registers = map (λ (r : SizedNet). stored after r.0) (regs (in_parts net t p order)) in
        let words : state_of (variables (in_parts net t p order)) after ≡ registers ++ flat_map (λ k. put_all (own_puts k) store (array_name t k)) net.array_order =
        state_words v after
        (λ r m.
        let one =
        one_word_still (nets v) f tick.clocks (blocks_of net t p order) all_registers store r.0 (stored store r.0) (word_there r m) in
        first_of_one after r.0 one.0 (after_is r.0 (register_alone r m) ∙ one.1))
        ∙ ap (λ (xs : List ℕ). registers ++ xs)
        (ap (λ (ks : List Variable). state_of ks after) (arrays_are net t p order is.whole is.table) ∙ arrays_state net t state after net.array_order
        ∙ flat_same (λ (k : ℕ). after (array_name t k)) (λ (k : ℕ). put_all (own_puts k) store (array_name t k)) net.array_order array_after_is) in
        rw within (ap Some words)
