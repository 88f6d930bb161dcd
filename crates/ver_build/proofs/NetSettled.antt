-- Where values are at rest in a tree, they are settled in its net, and in the tree.
-- A leaf has the number of where it is, and a clock leaf that of the clock input at which its drivers end.
use Rattle.std.proofs.Common.{◌≡◌, ℕ, ◌≤◌, List, [], length, map, Bool, true, false, not, ◌&&◌, ◌==◌, nat_eq, if◌then◌else◌, refl, sym, ap, ◌∙◌, ⊎_elim, subst, arith, Option, Some, None, unwrap_or, slice_index}
use Rattle.std.specs.Prelude.{slice_get, IsSome}
use Rattle.fir_base.specs.Lists.{In}
use Rattle.fir_base.specs.Ticks.{Env, Tick, Shape, HasShape}
use Rattle.fir_base.proofs.Each.{all_at}
use Rattle.fir_base.proofs.Members.{in_left, in_right, in_either, in_map_from}
use Rattle.fir_base.proofs.Elements.{beside, get_in, number_of}
use Rattle.fir_net.specs.declared.array.Array.{Array}
use Rattle.fir_net.specs.declared.array.ArrayRead.{ArrayRead}
use Rattle.fir_net.specs.working.Arrays.{begin_of, word_in, words_of}
use Rattle.fir_net.specs.declared.reads.Read.{Read}
use Rattle.fir_net.specs.declared.leaf.Reset.{Reset}
use Rattle.fir_net.specs.declared.leaf.Register.{Register}
use Rattle.fir_net.specs.declared.leaf.Role.{Role}
use Rattle.fir_net.specs.declared.leaf.Role.TheVariants as role
use Rattle.fir_net.specs.declared.leaf.Leaf.{Leaf}
use Rattle.fir_net.specs.declared.net.FlatNet.{FlatNet}
use Rattle.fir_net_names.specs.declared.name_table.NameTable.{NameTable}
use Rattle.fir_bits.specs.Values.{fitted}
use Rattle.fir_bits.specs.declared.types.NumTy.{NumTy}
use Rattle.ver_build.proofs.SignedNumbers.{fitted-own}
use Rattle.fir_inits.specs.working.InitValues.{init_at}
use Rattle.fir_net.specs.working.Values.{at_width}
use Rattle.fir_net.specs.working.IsNet.{CanRead, IsRole}
use Rattle.fir_net_names.specs.working.LeafNamed.{name_at}
use Rattle.fir_net.specs.working.Settled.{value_at, is_clock, driver, clock_driver, driven_clock, is_high, is_read, shown, shown_by, word_read, Settled, clocks, registers, shape as net_shape}
use Rattle.ver_ast.specs.declared.tree.Assign.{Assign}
use Rattle.ver_ast.specs.declared.tree.Rhs.{Rhs}
use Rattle.ver_ast.specs.declared.tree.Rhs.TheVariants as rhs
use Rattle.ver_ast.specs.Atoms.{AtomTree}
use Rattle.ver_ast.specs.Nets.{SizedNet, variables, resets, assigns, clocks as v_clocks, shape as v_shape}
use Rattle.ver_ast.specs.Stores.{Store, store_of, stored}
use Rattle.ver_ast.specs.Processes.{Process, assigning, showing, processes, wanted}
use Rattle.ver_ast.specs.AtomValues.{atom_value}
use Rattle.ver_build.proofs.SideValues.{side_value, same_side}
use Rattle.ver_ast.specs.SideValues.{rhs_value}
use Rattle.ver_ast.specs.Settled.{Rest, VSettled}
use Rattle.ver_ast.proofs.Widths.{declared_width}
use Rattle.ver_build.specs.declared.held.Source.{Source}
use Rattle.ver_build.specs.declared.held.Held.{Held}
use Rattle.ver_build.specs.declared.places.Places.{Places}
use Rattle.ver_build.specs.declared.right_sides.Inner.{Inner}
use Rattle.ver_build.specs.working.Held.{held_number, own_held, whole_net, fit}
use Rattle.ver_build.specs.working.Operands.{atom_at}
use Rattle.ver_build.specs.working.Places.{bit_net, place_value, place_clock, placed, held_of, node_at, clock_in, driven_clock_in, read_width}
use Rattle.ver_build.specs.working.Blocks.{reset_net}
use Rattle.ver_build.specs.working.Built.{inners, order_inners, reset_inners, node_inners, inner_assign, late_inners}
use Rattle.ver_build.proofs.Premises.{Premises}
use Rattle.ver_build.proofs.ReadingNets.{IsNothingRead, IsRead, IsReadNetted, reading_own, reading_view}
use Rattle.ver_build.proofs.StateWords.{begins_nowhere}
use Rattle.ver_build.proofs.TableLeaves.{leaf_named}
use Rattle.ver_build.proofs.Parts.{in_parts}
use Rattle.ver_build.proofs.LeafKinds.{is_wire, has_name, is_net}
use Rattle.ver_build.proofs.Nets.{sizes}
use Rattle.ver_build.proofs.Words.{IsWord, word_at, net_inner, net_in}
use Rattle.ver_build.proofs.ResetNames.{IsBit, HasNet, bit_source, reset_view}
use Rattle.ver_build.proofs.Resting.{words, fits_target, side_is, word_state, plain_shows, reset_shows}
use Rattle.ver_build.proofs.Fitted.{fit_holds, whole_holds}
use Rattle.ver_build.proofs.OperandAtoms.{atom_means}
use Rattle.ver_build.proofs.Sizes.{IsSized, InnerKind, of_node, of_reading, of_reset, of_guard, leaf_is_sized, inner_among, inner_kind, inner_declared, reading_among, reading_declared, sizes_once}
use Rattle.ver_build.proofs.InnersSound.{node_sound}
use Rattle.ver_build.proofs.Standing.{IsSoundInner}
use Rattle.ver_build.proofs.ReadsStand.{leaf_at, size_at, word_kind, word_reset}
use Rattle.ver_build.proofs.ClockEnds.{clock_at}
use Rattle.ver_build.proofs.Blocks.{reset_among}
use Rattle.ver_build.proofs.Assigns.{OutputAssign, inner_assign_in, output_assign_in, assign_from}
use Rattle.ver_build.proofs.LeafValues.{AgreesLeaves, inputs_same, clocks_same}
use Rattle.ver_build.proofs.NextStates.{shown_clock, Agrees}
use Rattle.ver_build.proofs.SameConstants.{same_constant}
use Rattle.ver_build.proofs.NodeValues.{leaf_values, nets_below, equation, has_type, leaves_fit, read_holds, node_valued}
use Rattle.ver_build.proofs.ReadValues.{guard_valued, reading}
use Rattle.ver_build.specs.working.ArrayBlocks.{write_inners}

abbrev pub leaf_clocks : NameTable → Places → Env → ℕ → Option ℕ
leaf_clocks t p f k = shown_clock t f (clock_in p.leaves k)

some_atom : (ns : List SizedNet) (store : Store) (f : Env) (w : ℕ) (a : AtomTree) (r : Rhs) → rhs.Atom a ≡ r → IsSome (rhs_value ns store f w r)
some_atom ns store f w a r same = subst (λ (x : Rhs). IsSome (rhs_value ns store f w x)) same refl

-- a value of one bit that is all of a net
bit_whole : (h : Held) (name : List ℕ) → h.width ≡ 1 → bit_net h.source ≡ Some name → h ≡ whole_net name h.signed 1
bit_whole h name one e =
    ap (λ (w : ℕ). record { signed = h.signed; width = w; source = h.source }) one
    ∙ ap (λ (x : Source). record { signed = h.signed; width = 1; source = x }) (bit_source h.source name e)

module _ (net : FlatNet) (t : NameTable) (p : Places) (order : List Read) (is : Premises net t p order) (state : List ℕ) (tick : Tick) (f : Env)
    (rest : Rest (in_parts net t p order) state tick f) where
  abbrev e : ℕ → ℕ
  e = leaf_values p f

  abbrev ns : List SizedNet
  ns = sizes net t p order

  value_is : (k : ℕ) (l : Leaf) → slice_get net.leaves k ≡ Some l
      → e k ≡ held_number f (place_value (placed p.leaves p.nodes p.readings (name_at t.leaves k) k l.signed l.width l.role))
  value_is k l at = ap (λ x. held_number f (place_value x)) (is.places.leaves.each k l at)

  sized_at : (k : ℕ) (l : Leaf) (n : List ℕ) → slice_get net.leaves k ≡ Some l → is_net l.role ≡ true → name_at t.leaves k ≡ Some n
      → IsSized ns n l.width
  sized_at k l n at kind named = leaf_is_sized ns l (name_at t.leaves k) (size_at net t p order is k l at) kind n named

  -- what drives a leaf
  fitted_value : (k : ℕ) (l : Leaf) (r : Read) → slice_get net.leaves k ≡ Some l → CanRead net.leaves net.nodes r
      → held_number f (fit l.width (held_of p r)) ≡ at_width (value_at net (leaf_values p f) r) l.width
  fitted_value k l r at can =
      (fit_holds ns f l.width (held_of p r) (value_at net e r) (read_holds net t p order is state tick f rest r can)
      (leaf_at net t p order is k l at).narrow).number

  driven_value : (k : ℕ) (l : Leaf) (d : Role) (r : Read) → slice_get net.leaves k ≡ Some l → IsRole net.leaves net.nodes l.signed l.width d
      → driver d ≡ Some r
      → held_number f (place_value (placed p.leaves p.nodes p.readings (name_at t.leaves k) k l.signed l.width d)) ≡ at_width
      (value_at net (leaf_values p f) r) l.width
  driven_value k l (role.Output s) r at drives is_driver =
      let same : s ≡ r = cc in rw same (fitted_value k l r at (subst (CanRead net.leaves net.nodes) same drives.can))
  driven_value k l (role.Wire s) r at drives is_driver =
      let same : s ≡ r = cc in rw same (fitted_value k l r at (subst (CanRead net.leaves net.nodes) same drives.can))
  driven_value k l _ r at drives is_driver = absurd (cc)

  driven : (k : ℕ) (l : Leaf) (r : Read) → slice_get net.leaves k ≡ Some l → driver l.role ≡ Some r
      → leaf_values p f k ≡ at_width (value_at net (leaf_values p f) r) l.width
  driven k l r at drives = value_is k l at ∙ driven_value k l l.role r at (leaf_at net t p order is k l at).driven drives

  -- the source of an output and of a block
  pub source_value : (r : Read) → CanRead net.leaves net.nodes r → (w : ℕ) → 1 ≤ w → w ≤ 128
      → atom_value (sizes net t p order) f (atom_at w (held_of p r)) ≡ at_width (value_at net (leaf_values p f) r) w
  source_value r can w one narrow =
      atom_means ns f w (held_of p r) (value_at net e r) (read_holds net t p order is state tick f rest r can) one narrow

  own_value : (k : ℕ) (l : Leaf) (n : List ℕ) → slice_get net.leaves k ≡ Some l → is_net l.role ≡ true → name_at t.leaves k ≡ Some n
      → f n ≡ held_number f (own_held l.signed l.width (name_at t.leaves k))
  own_value k l n at kind named =
      let size = sized_at k l n at kind named in
      let own =
      whole_holds ns f n l.signed l.width size.one size.narrow size.wide (nets_below net t p order is state tick f rest n l.width size.among) in
      rw named (sym own.number)

  output_value : (k : ℕ) (l : Leaf) (r : Read) (n : List ℕ) → slice_get net.leaves k ≡ Some l → l.role ≡ role.Output r → name_at t.leaves k ≡ Some n
      → f n ≡ leaf_values p f k
  output_value k l r n at same named =
      let size = sized_at k l n at (ap is_net same) named in
      let drives : IsRole net.leaves net.nodes l.signed l.width (role.Output r) =
      subst (IsRole net.leaves net.nodes l.signed l.width) same (leaf_at net t p order is k l at).driven in
      equation net t p order is state tick f rest (record { target = n; rhs = rhs.Atom (atom_at l.width (held_of p r)) }) l.width
      (output_assign_in net t p order is k l r n at same named) size.among
      ∙ source_value r drives.can l.width size.one size.narrow ∙ sym (driven k l r at (rw same refl))

  agreed_value : (k : ℕ) (l : Leaf) (d : Role) (n : List ℕ) → slice_get net.leaves k ≡ Some l → l.role ≡ d → is_clock d ≡ false
      → name_at t.leaves k ≡ Some n → f n ≡ leaf_values p f k
  agreed_value k l role.Input n at same plain named =
      own_value k l n at (ap is_net same) named
      ∙ sym (value_is k l at ∙ ap (λ (d : Role). held_number f (place_value (placed p.leaves p.nodes p.readings (name_at t.leaves k) k l.signed l.width d)))
      same)
  agreed_value k l (role.Register r) n at same plain named =
      own_value k l n at (ap is_net same) named
      ∙ sym (value_is k l at ∙ ap (λ (d : Role). held_number f (place_value (placed p.leaves p.nodes p.readings (name_at t.leaves k) k l.signed l.width d)))
      same)
  agreed_value k l (role.Output r) n at same plain named = output_value k l r n at same named
  agreed_value k l (role.Wire r) n at same plain named =
      let has : has_name l ≡ true = rw named at (leaf_named net is.whole t is.table k l at) in
      let wire : (not (is_wire (role.Wire r)) && not (nat_eq l.width 0)) ≡ true = rw same at has in
      absurd (cc)
  agreed_value k l (role.Reading r) n at same plain named =
      let has : has_name l ≡ true = rw named at (leaf_named net is.whole t is.table k l at) in
      let wire : (not (is_wire (role.Reading r)) && not (nat_eq l.width 0)) ≡ true = rw same at has in
      absurd (cc)
  agreed_value k l (role.Pipe q) n at same plain named = absurd (is.pipes.none k l q at same)
  agreed_value k l _ n at same plain named = absurd (cc)

  pub agrees : AgreesLeaves net t (leaf_values p f) (leaf_clocks t p f) f
  agrees = record {
    value = λ k l n at plain named. agreed_value k l l.role n at refl plain named;
    number = λ k l n at same named. clock_number k l n at same named;
  }
    where
      clock_number : (k : ℕ) (l : Leaf) (n : List ℕ) → slice_get net.leaves k ≡ Some l → l.role ≡ role.Clock → name_at t.leaves k ≡ Some n
          → Some (f n) ≡ leaf_clocks t p f k
      clock_number k l n at same named =
          let root : clock_in p.leaves k ≡ Some k =
          clock_at net t p order is k l at ∙ ap (λ (r : Role). place_clock (placed p.leaves p.nodes p.readings (name_at t.leaves k) k l.signed l.width r)) same
          in
          sym (ap (shown_clock t f) root ∙ ap (λ o. Some (f (unwrap_or o []))) named)

  -- what is read of an array
  read_place : (k : ℕ) (l : Leaf) (r : ArrayRead) → slice_get net.leaves k ≡ Some l → l.role ≡ role.Reading r
      → leaf_values p f k ≡ held_number f (node_at p.readings k).held
  read_place k l r at same =
      value_is k l at
      ∙ ap (λ (d : Role). held_number f (place_value (placed p.leaves p.nodes p.readings (name_at t.leaves k) k l.signed l.width d))) same

  nothing_word : (k : ℕ) (l : Leaf) (r : ArrayRead) → slice_get net.leaves k ≡ Some l → l.role ≡ role.Reading r → l.width ≡ 0
      → ◌≡◌ {A = ℕ} 0 (word_read net state (leaf_values p f) r)
  nothing_word k l r at same none =
      let a = is.whole.readings k l r at same in
      let wide : a.0.width ≡ 0 = a.2 ∙ none in
      let nowhere : begin_of net r.array ≡ None =
      begins_nowhere net t state net.array_order (length net.state) r.array
      (λ m.
      let place = number_of net.array_order r.array m in
      let other = is.whole.array_state.only place.0 r.array place.1 in
      let both : Some other.0 ≡ Some a.0 = sym other.1 ∙ a.1 in
      let one : other.0 ≡ a.0 = cc in
      let same_wide : other.0.width ≡ a.0.width = ap (λ (x : Array). x.width) one in
      let bits : 1 ≤ other.0.width = other.2 in
      omega arith) in
      let number = (value_at net (leaf_values p f) r.address).value.number in
      sym (ap (λ o. if is_read net (leaf_values p f) r then word_in state o number else 0) nowhere ∙ zero_both (is_read net (leaf_values p f) r))
    where
      zero_both : (b : Bool) → ◌≡◌ {A = ℕ} (if b then 0 else 0) 0
      zero_both true = refl
      zero_both false = refl

  read_value : (k : ℕ) (l : Leaf) (r : ArrayRead) → slice_get net.leaves k ≡ Some l → l.role ≡ role.Reading r
      → leaf_values p f k ≡ word_read net state (leaf_values p f) r
  read_value k l r at same =
      ⊎_elim
      (λ (n : IsNothingRead l.signed l.width (node_at p.readings k)).
      read_place k l r at same ∙ ap (held_number f) n.held ∙ nothing_word k l r at same n.none)
      (λ (h : IsReadNetted net l.signed l.width r (node_at p.readings k)).
      let read : IsRead net p k = record { leaf = l; at = at; read = r; reads = same; netted = h } in
      let own =
      reading_own (unwrap_or (name_at t.arrays r.array) []) (words_of net.arrays r.array) l.width (read_width net r.address)
      (held_of p r.address) (held_of p r.enable) (node_at p.readings k).helpers h.name in
      let among = inner_among net t p order is _ (reading_among net t p order is k read _ own.1) in
      let holds =
      whole_holds ns f h.name l.signed l.width h.some (leaf_at net t p order is k l at).narrow (reading_declared net t p order is k read)
      (nets_below net t p order is state tick f rest h.name l.width among) in
      read_place k l r at same ∙ ap (held_number f) h.held ∙ holds.number ∙ (reading net t p order is state tick f rest k read).0)
      (reading_view net l.signed l.width r (node_at p.readings k) (is.places.nodes.read.each k l r at same))

  -- the clocks of clock leaves
  clock_inputs : (n k : ℕ) → slice_get (clocks net) n ≡ Some k → leaf_clocks t p f k ≡ Some n
  clock_inputs n k at =
      let c =
      beside (λ m. Some (f m)) (leaf_clocks t p f) (v_clocks (in_parts net t p order)) (clocks net)
      (clocks_same net t p order is (leaf_values p f) (leaf_clocks t p f) f agrees) n k at in
      sym c.2 ∙ ap Some (rest.begins.clock_values n c.0 c.1)

  driven_shown : (c : Option ℕ) → shown_clock t f (driven_clock_in p.leaves c) ≡ driven_clock (leaf_clocks t p f) c
  driven_shown None = refl
  driven_shown (Some k) = refl

  role_clock : (k : ℕ) (signed : Bool) (w : ℕ) (d : Role) (c : Option ℕ) → clock_driver d ≡ Some c
      → shown_clock t f (place_clock (placed p.leaves p.nodes p.readings (name_at t.leaves k) k signed w d)) ≡ driven_clock (leaf_clocks t p f) c
  role_clock k signed w (role.ClockOutput x) c drives = let same : x ≡ c = cc in driven_shown x ∙ ap (driven_clock (leaf_clocks t p f)) same
  role_clock k signed w (role.ClockWire x) c drives = let same : x ≡ c = cc in driven_shown x ∙ ap (driven_clock (leaf_clocks t p f)) same
  role_clock k signed w _ c drives = absurd (cc)

  clocks_driven : (k : ℕ) (l : Leaf) (c : Option ℕ) → slice_get net.leaves k ≡ Some l → clock_driver l.role ≡ Some c
      → leaf_clocks t p f k ≡ driven_clock (leaf_clocks t p f) c
  clocks_driven k l c at drives = ap (shown_clock t f) (clock_at net t p order is k l at) ∙ role_clock k l.signed l.width l.role c drives

  -- a reset's net has the value of its condition
  condition_bit : (k : ℕ) (w : IsWord net t k) (r : Reset) → w.own.reset ≡ Some r → (value_at net (leaf_values p f) r.condition).value.width ≡ 1
  condition_bit k w r has =
      let reset = word_reset net t p order is k w r has in
      ap (λ (u : NumTy). u.width) (has_type net t p order is state tick f rest r.condition reset.condition).is ∙ ap (λ (u : NumTy). u.width) reset.has_one_bit

  own_bit : (k : ℕ) → In net.state k → (w : IsWord net t k) → (r : Reset) → w.own.reset ≡ Some r → (name : List ℕ) → name_at p.resets k ≡ Some name
      → f name ≡ (value_at net (leaf_values p f) r.condition).value.number
  own_bit k m w r has name named =
      let i = net_inner p r name in
      let v = value_at net (leaf_values p f) r.condition in
      let among =
      in_right (order_inners net t p order) (late_inners net p) i
      (in_left (reset_inners net p) (write_inners net p) i (net_in net t p k m w r name has named)) in
      equation net t p order is state tick f rest (inner_assign i) 1 (inner_assign_in net t p order is i among) (inner_among net t p order is i among)
      ∙ source_value r.condition (word_reset net t p order is k w r has).condition 1 (omega arith) (omega arith)
      ∙ ap (λ (n : ℕ). fitted v.signed n v.value.number 1) (condition_bit k w r has) ∙ fitted-own v.signed 1 v.value.number

  whole_bit : (k : ℕ) → In net.state k → (w : IsWord net t k) → (r : Reset) → w.own.reset ≡ Some r → (b : IsBit p k r)
      → f b.name ≡ (value_at net (leaf_values p f) r.condition).value.number
  whole_bit k m w r has b =
      let h = held_of p r.condition in
      let holds = read_holds net t p order is state tick f rest r.condition (word_reset net t p order is k w r has).condition in
      let whole = bit_whole h b.name (holds.standing.width ∙ condition_bit k w r has) b.all_of in
      let among : In ns (b.name, 1) = subst (λ (n : List ℕ). In ns (n, 1)) b.is (reset_among net t p order is k m w r has) in
      let own =
      whole_holds ns f b.name h.signed 1 (omega arith) (omega arith) (declared_width ns (sizes_once net t p order is) b.name 1 among)
      (nets_below net t p order is state tick f rest b.name 1 among) in
      sym own.number ∙ ap (held_number f) (sym whole) ∙ holds.number

  pub reset_value : (k : ℕ) → In net.state k → (w : IsWord net t k) → (r : Reset) → w.own.reset ≡ Some r
      → f (reset_net p k r) ≡ (value_at net (leaf_values p f) r.condition).value.number
  reset_value k m w r has =
      ⊎_elim
      (λ (b : IsBit p k r). ap f b.is ∙ whole_bit k m w r has b)
      (λ (h : HasNet p k r). ap f h.is ∙ own_bit k m w r has h.name h.named)
      (reset_view net t p order is k m w r has)

  pub agree : Agrees net t p order (leaf_values p f) (leaf_clocks t p f) f
  agree = record { leaves = agrees; clocks = λ k l at c. refl; sources = source_value; resets = reset_value }

  module _ (shapes : v_shape (in_parts net t p order) ≡ net_shape net) where
    shaped : HasShape (net_shape net) state tick
    shaped = subst (λ (s : Shape). HasShape s state tick) shapes rest.begins.shaped

    -- the inits are the constants, as those of the net's settled values are
    init_value : (k : ℕ) (w : IsWord net t k) (r : Reset) → w.own.reset ≡ Some r
        → at_width (value_at net (leaf_values p f) r.init) w.leaf.width ≡ init_at p.inits k
    init_value k w r has =
        let one = is.laws.one_choice net order is.whole is.ordered state tick shaped in
        let kind = word_kind net t p order is k w r has in
        let constant = is.writable.inits.each k w.leaf w.own r w.at w.register has kind in
        ap (λ v. at_width v w.leaf.width)
        (same_constant net t p order is (leaf_values p f) one.env (record { each = driven }) (record { each = one.settled.driven }) r.init constant
        (word_reset net t p order is k w r has).init.can)
        ∙ is.places.inits.each k w.leaf w.own r w.at w.register has kind constant state tick one.env one.clock one.settled

    word_shows : (n k : ℕ) → slice_get (registers net) n ≡ Some k → (m : In net.state k) → (w : IsWord net t k) → (reset : Option Reset) → w.own.reset ≡ reset
        → leaf_values p f k ≡ shown net (leaf_values p f) w.leaf.width reset (slice_index state n)
    word_shows n k at m w None none =
        sym (agrees.value k w.leaf w.name w.at (ap is_clock w.register) w.named) ∙ plain_shows net t p order is state tick f rest k w none
        ∙ word_state net t p order is state tick f rest n k w.name at w.named
    word_shows n k at m w (Some r) has =
        let kind = word_kind net t p order is k w r has in
        let word = slice_index state n in
        let either = λ (b : Bool) (x y : ℕ). if b then x else y in
        sym (agrees.value k w.leaf w.name w.at (ap is_clock w.register) w.named) ∙ reset_shows net t p order is state tick f rest k m w r has
        ∙ ap (λ (x : ℕ). either (x == 1) (init_at p.inits k) (stored (words net t p order is state tick f rest) w.name)) (reset_value k m w r has)
        ∙ ap (λ (x : ℕ). either (is_high net (leaf_values p f) r.condition) x (stored (words net t p order is state tick f rest) w.name))
        (sym (init_value k w r has))
        ∙ ap (either (is_high net (leaf_values p f) r.condition) (at_width (value_at net (leaf_values p f) r.init) w.leaf.width))
        (word_state net t p order is state tick f rest n k w.name at w.named)
        ∙ sym (ap (λ x. shown_by net (leaf_values p f) w.leaf.width x r.condition r.init word) kind)

    registers_show : (n k : ℕ) (l : Leaf) (r : Register) → slice_get (registers net) n ≡ Some k → slice_get net.leaves k ≡ Some l
        → l.role ≡ role.Register r
        → leaf_values p f k ≡ shown net (leaf_values p f) l.width r.reset (slice_index state n)
    registers_show n k l r at leaf same =
        let m = get_in (registers net) n k at in
        let w = word_at net t is.whole is.table is.pipes k m in
        let there = w.at in
        let own = w.register in
        let one_leaf : w.leaf ≡ l = cc in
        let one : w.own ≡ r = let e : role.Register w.own ≡ role.Register r = sym own ∙ ap (λ (x : Leaf). x.role) one_leaf ∙ same in cc in
        word_shows n k at m w w.own.reset refl
        ∙ ap (λ (x : Leaf). shown net (leaf_values p f) x.width w.own.reset (slice_index state n)) one_leaf
        ∙ ap (λ (x : Register). shown net (leaf_values p f) l.width x.reset (slice_index state n)) one

    pub net_settled : Settled net state tick (leaf_values p f) (leaf_clocks t p f)
    net_settled = record {
      shaped = shaped;
      fits = (leaves_fit net t p order is state tick f rest).each;
      input_values = sym (inputs_same net t p order is (leaf_values p f) (leaf_clocks t p f) f agrees) ∙ rest.begins.input_values;
      registers_show = registers_show;
      pipes_show = λ n k l q at leaf same. absurd (is.pipes.none k l q leaf same);
      arrays_read = read_value;
      driven = driven;
      clock_inputs = clock_inputs;
      clocks_driven = clocks_driven;
    }

  abbrev stores : Store
  stores = store_of (variables (in_parts net t p order)) state

  own_valued : (i : Inner) → In (inners net t p order) i → IsSome (rhs_value ns stores f i.width i.rhs)
  own_valued i m = by (inner_kind net t p order is i m)
    where
      by : InnerKind net t p i → IsSome (rhs_value ns stores f i.width i.rhs)
      by (of_node o) =
          let xs = node_inners p o.node (node_at p.nodes o.number).helpers o.netted.name in
          let sound = all_at (IsSoundInner ns) xs (node_sound net t p order is o.number o.node o.netted o.at) i o.inside in
          subst IsSome (sym (same_side ns ns stores f i.width i.width i.rhs sound.side))
          (all_at (λ (j : Inner). IsSome (side_value ns f j.width j.rhs)) xs
          (node_valued net t p order is state tick f rest o.number o.node o.netted o.at) i o.inside)
      by (of_reading o) = (reading net t p order is state tick f rest o.number o.is).1.each i o.inside
      by (of_reset o) = some_atom ns stores f i.width (atom_at 1 (held_of p o.reset.condition)) i.rhs (ap (λ (j : Inner). j.rhs) (sym o.is))
      by (of_guard o) = (guard_valued net t p order is state tick f rest o.array.array.words o.write o.guard).each i o.inside

  inner_valued : (i : Inner) (w : ℕ) → In (inners net t p order) i → In ns (i.name, w) → IsSome (rhs_value ns stores f w i.rhs)
  inner_valued i w m n =
      let width : i.width ≡ w = sym (inner_declared net t p order is i m) ∙ declared_width ns (sizes_once net t p order is) i.name w n in
      subst (λ (v : ℕ). IsSome (rhs_value ns stores f v i.rhs)) width (own_valued i m)

  valued : (a : Assign) (w : ℕ) → In (assigns (in_parts net t p order)) a → In ns (a.target, w) → IsSome (rhs_value ns stores f w a.rhs)
  valued a w m n =
      ⊎_elim
      (λ (x : (i : Inner) × In (inners net t p order) i × (inner_assign i ≡ a)).
      subst (λ (b : Assign). In ns (b.target, w) → IsSome (rhs_value ns stores f w b.rhs)) x.2 (λ j. inner_valued x.0 w x.1 j) n)
      (λ (o : OutputAssign net t p a). some_atom ns stores f w (atom_at o.leaf.width (held_of p o.source)) a.rhs o.right)
      (assign_from net t p order is a m)

  process_valued : (q : Process) → In (processes (in_parts net t p order)) q
      → IsSome (wanted (in_parts net t p order) (store_of (variables (in_parts net t p order)) state) f q)
  process_valued q m =
      let xs = assigns (in_parts net t p order) in
      let bs = resets (in_parts net t p order) in
      let Valued = λ (q : Process). IsSome (wanted (in_parts net t p order) (store_of (variables (in_parts net t p order)) state) f q) in
      ⊎_elim
      (λ (i : In (map assigning xs) q).
      let a = in_map_from assigning xs q i in
      let sized = fits_target net t p order is state tick f rest a.0 a.1 in
      subst Valued a.2 (subst IsSome (sym (side_is net t p order is state tick f rest a.0 sized.0 sized.1)) (valued a.0 sized.0 a.1 sized.1)))
      (λ (o : In (map showing bs) q). let b = in_map_from showing bs q o in subst Valued b.2 refl)
      (in_either (map assigning xs) (map showing bs) q m)

  pub tree_settled : VSettled (in_parts net t p order) state tick f
  tree_settled = record {
    rest = rest;
    values = process_valued;
  }
