-- Values at rest in the tree, at what is read of arrays and at writes: what is read is the word at the address, or zero, and the net of a write is 1 where it is
-- within its array and its condition is 1.
use Rattle.std.proofs.Common.{◌≡◌, ℕ, ◌^◌, ◌<◌, ◌≤◌, List, Bool, true, false, ◌&&◌, ◌==◌, nat_lt, refl, ap, ◌∙◌, inl, inr, ◌⊎◌, ⊎_elim, subst, arith, Some}
use Rattle.std.specs.Prelude.{slice_get, bit_and, IsSome}
use Rattle.fir_base.specs.Lists.{In}
use Rattle.fir_base.specs.Ticks.{Env, Tick}
use Rattle.fir_bits.specs.Operators.{flag}
use Rattle.fir_bits.specs.Values.{fitted}
use Rattle.fir_bits.specs.declared.types.NumTy.{NumTy}
use Rattle.fir_net.specs.declared.array.ArrayWrite.{ArrayWrite}
use Rattle.fir_net.specs.declared.reads.Read.{Read}
use Rattle.fir_net.specs.declared.net.FlatNet.{FlatNet}
use Rattle.fir_net.specs.working.Arrays.{begin_of, word_in, words_of}
use Rattle.fir_net.specs.working.IsNet.{CanRead, one_bit, read_type}
use Rattle.fir_net.specs.working.Settled.{value_at, word_read}
use Rattle.fir_net_names.specs.declared.name_table.NameTable.{NameTable}
use Rattle.ver_ast.specs.Nets.{SizedNet, variables}
use Rattle.ver_ast.specs.AtomValues.{atom_value}
use Rattle.ver_ast.specs.Settled.{Rest}
use Rattle.ver_ast.specs.SideValues.{rhs_value}
use Rattle.ver_ast.specs.Stores.{Store, store_of}
use Rattle.ver_build.specs.declared.places.Guard.{Guard}
use Rattle.ver_build.specs.declared.places.Places.{Places}
use Rattle.ver_build.specs.declared.right_sides.Inner.{Inner}
use Rattle.ver_build.specs.working.ArrayTexts.{guard_inners}
use Rattle.ver_build.specs.working.Built.{inner_assign, inners}
use Rattle.ver_build.specs.working.Operands.{atom_at}
use Rattle.ver_build.specs.working.Places.{guard_at, held_of, node_at, read_width}
use Rattle.ver_build.proofs.SignedNumbers.{fitted-own}
use Rattle.ver_build.proofs.Premises.{Premises}
use Rattle.ver_build.proofs.Parts.{in_parts}
use Rattle.ver_build.proofs.Nets.{sizes}
use Rattle.ver_build.proofs.OperandAtoms.{atom_means}
use Rattle.ver_build.proofs.StateArrays.{IsStateArray, array_at, array_name, array_read, words_are, write_at}
use Rattle.ver_build.proofs.ArrayWords.{array_word}
use Rattle.ver_build.proofs.ReadingNets.{IsRead, own_reading}
use Rattle.ver_build.proofs.ReadingMeaning.{AreValued, MeetsInners, reading_means}
use Rattle.ver_build.proofs.Sizes.{guard_among, inner_among, reading_among}
use Rattle.ver_build.proofs.ReadsStand.{address_narrow, read_addressed}
use Rattle.ver_build.proofs.Assigns.{inner_assign_in}
use Rattle.ver_build.proofs.NodeValues.{leaf_values, equation, has_type, read_holds}

module _ (net : FlatNet) (t : NameTable) (p : Places) (order : List Read) (is : Premises net t p order) (state : List ℕ) (tick : Tick) (f : Env)
    (rest : Rest (in_parts net t p order) state tick f) where
  abbrev ns : List SizedNet
  ns = sizes net t p order

  abbrev words : Store
  words = store_of (variables (in_parts net t p order)) state

  abbrev number : Read → ℕ
  number r = (value_at net (leaf_values p f) r).value.number

  value_wide : (r : Read) → CanRead net.leaves net.nodes r → (value_at net (leaf_values p f) r).value.width ≡ read_width net r
  value_wide r can = ap (λ (u : NumTy). u.width) (has_type net t p order is state tick f rest r can).is

  -- a value at its own width
  pub full_value : (w : ℕ) (r : Read) → CanRead net.leaves net.nodes r → read_width net r ≡ w → 1 ≤ w → w ≤ 128
      → atom_value (sizes net t p order) f (atom_at w (held_of p r)) ≡ (value_at net (leaf_values p f) r).value.number
  full_value w r can wide some narrow =
      let v = value_at net (leaf_values p f) r in
      atom_means ns f w (held_of p r) v (read_holds net t p order is state tick f rest r can) some narrow
      ∙ ap (λ (n : ℕ). fitted v.signed n v.value.number w) (value_wide r can ∙ wide) ∙ fitted-own v.signed w v.value.number

  below : (r : Read) → CanRead net.leaves net.nodes r → (value_at net (leaf_values p f) r).value.number < 2 ^ read_width net r
  below r can =
      let has = has_type net t p order is state tick f rest r can in
      subst (λ (w : ℕ). (value_at net (leaf_values p f) r).value.number < 2 ^ w) (value_wide r can) has.bits.below

  -- a bit
  bit_wide : (r : Read) → read_type net.leaves net.nodes r ≡ one_bit → read_width net r ≡ 1
  bit_wide r one = ap (λ (u : NumTy). u.width) one

  bit_of : (n : ℕ) → n < 2 ^ 1 → (n ≡ 0) ⊎ (n ≡ 1)
  bit_of n h = grind arith

  pub bit_value : (r : Read) → CanRead net.leaves net.nodes r → read_type net.leaves net.nodes r ≡ one_bit
      → ((value_at net (leaf_values p f) r).value.number ≡ 0) ⊎ ((value_at net (leaf_values p f) r).value.number ≡ 1)
  bit_value r can one =
      bit_of (value_at net (leaf_values p f) r).value.number
      (subst (λ (w : ℕ). (value_at net (leaf_values p f) r).value.number < 2 ^ w) (bit_wide r one) (below r can))

  -- inner nets meet their equations
  meets : (xs : List Inner) → ((i : Inner) → In xs i → In (inners net t p order) i) → MeetsInners ns words f xs
  meets xs among = record {
    each = λ i m.
        equation net t p order is state tick f rest (inner_assign i) i.width (inner_assign_in net t p order is i (among i m))
        (inner_among net t p order is i (among i m));
  }

  -- what is read of an array
  pub reading : (k : ℕ) (h : IsRead net p k)
      → (f h.netted.name ≡ word_read net state (leaf_values p f) h.read)
      × AreValued (sizes net t p order) (store_of (variables (in_parts net t p order)) state) f (own_reading net t p k h)
  reading k h =
      let r = h.read in
      let addressed = read_addressed net t p order is k h in
      let among = (array_read net is.whole k h.leaf r h.at h.reads h.netted.some).among in
      let a = array_at net t is.whole is.table r.array among in
      let w = read_width net r.address in
      let has = a.whole.has_words in
      let many = words_are net t r.array a in
      let fit = rest.begins.shaped.state_fits in
      reading_means ns words f (array_name t r.array) (words_of net.arrays r.array) h.leaf.width w (held_of p r.address) (held_of p r.enable)
      (number r.address) (number r.enable)
      (full_value w r.address addressed.address refl addressed.has_bits (address_narrow net t p order is r.address addressed.address))
      (full_value 1 r.enable addressed.enable (bit_wide r.enable addressed.has_one_bit) (omega arith) (omega arith))
      (bit_value r.enable addressed.enable addressed.has_one_bit)
      (below r.address addressed.address) (omega arith)
      (λ i. word_in state (begin_of net r.array) i) (λ i less. array_word net t p order is state fit r.array among i less)
      (node_at p.readings k).helpers h.netted.name h.netted.helpers
      (meets (own_reading net t p k h) (reading_among net t p order is k h))

  -- a write at an address that may be past the end
  module _ (k : ℕ) (m : In net.array_order k) (a : IsStateArray net t k) (j : ℕ) (w : ArrayWrite) (at : slice_get a.array.writes j ≡ Some w) where
    pub address_value : atom_value (sizes net t p order) f (atom_at (read_width net w.address) (held_of p w.address)) ≡ (value_at net (leaf_values p f) w.address).value.number
    address_value =
        let addressed = (write_at net t k a j w at).addressed in
        full_value (read_width net w.address) w.address addressed.address refl addressed.has_bits (address_narrow net t p order is w.address addressed.address)

    pub condition_value : atom_value (sizes net t p order) f (atom_at 1 (held_of p w.condition)) ≡ (value_at net (leaf_values p f) w.condition).value.number
    condition_value =
        let addressed = (write_at net t k a j w at).addressed in
        full_value 1 w.condition addressed.enable (bit_wide w.condition addressed.has_one_bit) (omega arith) (omega arith)

    pub address_below : (value_at net (leaf_values p f) w.address).value.number < 2 ^ read_width net w.address
    address_below = below w.address (write_at net t k a j w at).addressed.address

    both_bits : (b : Bool) (e : ℕ) → (e ≡ 0) ⊎ (e ≡ 1) → (bit_and (flag b) e == 1) ≡ ((e == 1) && b)
    both_bits true e (inl z) = rw z refl
    both_bits true e (inr o) = rw o refl
    both_bits false e (inl z) = rw z refl
    both_bits false e (inr o) = rw o refl

    module _ (g : Guard) (has : guard_at p.guards k j ≡ Some g) where
      abbrev nets : List Inner
      nets = guard_inners a.array.words (read_width net w.address) (held_of p w.address) (held_of p w.condition) g

      own : MeetsInners ns words f nets
      own = meets nets (guard_among net t p order is k m a j w at g has)

      within : f g.within ≡ flag (nat_lt (number w.address) a.array.words)
      within = own.each _ (inl refl) ∙ ap (λ x. flag (nat_lt x a.array.words)) address_value

      pub guard_value : (f g.written == 1)
          ≡ (((value_at net (leaf_values p f) w.condition).value.number == 1) && nat_lt (value_at net (leaf_values p f) w.address).value.number a.array.words)
      guard_value =
          let addressed = (write_at net t k a j w at).addressed in
          ap (λ x. x == 1)
          (own.each _ (inr (inl refl)) ∙ ap (λ x. bit_and x (atom_value ns f (atom_at 1 (held_of p w.condition)))) within
          ∙ ap (bit_and (flag (nat_lt (number w.address) a.array.words))) condition_value)
          ∙ both_bits (nat_lt (number w.address) a.array.words) (number w.condition) (bit_value w.condition addressed.enable addressed.has_one_bit)

  -- the nets of a write have values
  pub guard_valued : (many : ℕ) (w : ArrayWrite) (g : Guard)
      → AreValued (sizes net t p order) (store_of (variables (in_parts net t p order)) state) f
      (guard_inners many (read_width net w.address) (held_of p w.address) (held_of p w.condition) g)
  guard_valued many w g = record {
    each = λ i m.
        ⊎_elim
        (λ (here : _ ≡ i). valued i _ here refl)
        (λ (more : _ ⊎ ⊥). ⊎_elim (λ (here : _ ≡ i). valued i _ here refl) (λ (o : ⊥). absurd o) more) m;
  }
    where
      valued : (i j : Inner) → j ≡ i → IsSome (rhs_value ns (store_of (variables (in_parts net t p order)) state) f j.width j.rhs)
          → IsSome (rhs_value ns (store_of (variables (in_parts net t p order)) state) f i.width i.rhs)
      valued i j here s =
          subst (λ (x : Inner). IsSome (rhs_value ns (store_of (variables (in_parts net t p order)) state) f x.width x.rhs)) here s
