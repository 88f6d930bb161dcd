-- Settled values of a net are, under their new numbers, settled values of the net that is it written anew.
use Rattle.std.proofs.Common.{◌≡◌, ℕ, ◌<◌, ◌^◌, List, map, Bool, false, nat_eq, nat_lt, ◌&&◌, if◌then◌else◌, refl, sym, ap, ◌∙◌, subst, option_map}
use Rattle.std.specs.Prelude.{slice_get, slice_index, Option, Some, None}
use Rattle.fir_base.specs.Ticks.{HasShape, Shape, Tick}
use Rattle.fir_net.specs.declared.array.ArrayRead.{ArrayRead}
use Rattle.fir_net.specs.declared.array.Pipe.{Pipe}
use Rattle.fir_net.specs.declared.leaf.Leaf.{Leaf}
use Rattle.fir_net.specs.declared.leaf.Register.{Register}
use Rattle.fir_net.specs.declared.leaf.Reset.{Reset}
use Rattle.fir_net.specs.declared.leaf.ResetKind.{ResetKind}
use Rattle.fir_net.specs.declared.leaf.ResetKind.TheVariants.{Asynchronous, Synchronous}
use Rattle.fir_net.specs.declared.leaf.Role.TheVariants as role
use Rattle.fir_net.specs.declared.net.FlatNet.{FlatNet}
use Rattle.fir_net.specs.declared.reads.Read.{Read}
use Rattle.fir_net.specs.working.Arrays.{begin_of, word_in, words_of}
use Rattle.fir_net.specs.working.IsNet.{IsNet}
use Rattle.fir_net.specs.working.Settled.{Settled, clock_driver, clock_number, clock_outputs, clock_output_number, clocks, driven_clock, driver, input_number, inputs, is_clock, is_high, is_read, output_number, outputs, shown, shown_by, value_at, word_read}
use Rattle.fir_net.specs.working.Values.{at_width}
use Rattle.fir_net.proofs.Places.{map_at}
use Rattle.fir_equivalence.specs.working.Rewrites.{IsSameArrayRead, IsSameNumber, IsSameOptionalReset, IsSameReset, Rewrites, renumbered}
use Rattle.fir_equivalence.proofs.Arrays.{begin_same, words_same}
use Rattle.fir_equivalence.proofs.Ports.{clock_outputs_same, clocks_same, inputs_same, outputs_same}
use Rattle.fir_equivalence.proofs.Roles.{clock_blind, clock_driver_beside, clock_outputs_give, clocks_give, driver_beside, inputs_give, outputs_give, pipe_beside, reading_beside, register_beside, same_kind}
use Rattle.fir_equivalence.proofs.Shapes.{port_at, shapes, state_at}

module _
    (net other : FlatNet) (number : ℕ → ℕ) (R : Rewrites net other number) (whole : IsNet net)
    (state : List ℕ) (tick : Tick) (env : ℕ → ℕ) (clock : ℕ → Option ℕ) (s : Settled net state tick env clock) where
  abbrev values_there : ℕ → ℕ
  values_there = renumbered number env

  abbrev clocks_there : ℕ → Option ℕ
  clocks_there = renumbered number clock

  pub high_same : (r q : Read) → IsSameNumber net other number r q → is_high other values_there q ≡ is_high net env r
  high_same r q h = ap (λ (n : ℕ). nat_eq n 1) (h state tick env clock s)

  shown_kind : (width word : ℕ) (kind : ResetKind) (a b : Reset) → IsSameReset net other number width a b
      → shown_by other values_there width kind b.condition b.init word ≡ shown_by net env width kind a.condition a.init word
  shown_kind width word Synchronous a b h = refl
  shown_kind width word Asynchronous a b h =
      ap (λ (t : Bool). if t then at_width (value_at other values_there b.init) width else word) (high_same a.condition b.condition h.condition)
      ∙ ap (λ (v : ℕ). if is_high net env a.condition then v else word) (h.init state tick env clock s)

  shown_same : (width word : ℕ) (a b : Option Reset) → IsSameOptionalReset net other number width a b → shown other values_there width b word ≡ shown net env width a word
  shown_same width word None None h = refl
  shown_same width word None (Some b) h = absurd h
  shown_same width word (Some a) None h = absurd h
  shown_same width word (Some a) (Some b) h =
      ap (λ (kind : ResetKind). shown_by other values_there width kind b.condition b.init word) h.kind ∙ shown_kind width word a.kind a b h

  pub is_read_same : (a b : ArrayRead) → IsSameArrayRead net other number a b → is_read other values_there b ≡ is_read net env a
  is_read_same a b h =
      ap (λ (t : Bool). t && nat_lt (value_at other values_there b.address).value.number (words_of other.arrays b.array)) (high_same a.enable b.enable h.enable)
      ∙ ap (λ (n : ℕ). is_high net env a.enable && nat_lt n (words_of other.arrays b.array)) (h.address state tick env clock s)
      ∙ ap (λ (n : ℕ). is_high net env a.enable && nat_lt (value_at net env a.address).value.number n) (ap (words_of other.arrays) h.array ∙ words_same net other number R a.array)

  pub word_read_same : (a b : ArrayRead) → IsSameArrayRead net other number a b → word_read other state values_there b ≡ word_read net state env a
  word_read_same a b h =
      ap (λ (t : Bool). if t then word_in state (begin_of other b.array) (value_at other values_there b.address).value.number else 0) (is_read_same a b h)
      ∙ ap (λ (n : ℕ). if is_read net env a then word_in state (begin_of other b.array) n else 0) (h.address state tick env clock s)
      ∙ ap (λ (place : Option ℕ). if is_read net env a then word_in state place (value_at net env a.address).value.number else 0) (ap (begin_of other) h.array ∙ begin_same net other number R a.array)

  registers_there : (n k : ℕ) (m : Leaf) (b : Register) → slice_get other.state n ≡ Some k → slice_get other.leaves k ≡ Some m → m.role ≡ role.Register b
      → env (number k) ≡ shown other values_there m.width b.reset (slice_index state n)
  registers_there n k m b e at is =
      let x = R.leaves k m at in
      let a = register_beside net other number x.0.width x.0.role m.role b x.2.role is in
      s.registers_show n (number k) x.0 a.0 (state_at net other number R whole n k e) x.1 a.1
      ∙ sym (shown_same x.0.width (slice_index state n) a.0.reset b.reset a.2.reset)
      ∙ ap (λ (w : ℕ). shown other values_there w b.reset (slice_index state n)) (sym x.2.width)

  pipes_there : (n k : ℕ) (m : Leaf) (q : Pipe) → slice_get other.state n ≡ Some k → slice_get other.leaves k ≡ Some m → m.role ≡ role.Pipe q → env (number k) ≡ slice_index state n
  pipes_there n k m q e at is =
      let x = R.leaves k m at in
      let p = pipe_beside net other number x.0.width x.0.role m.role q x.2.role is in
      s.pipes_show n (number k) x.0 p.0 (state_at net other number R whole n k e) x.1 p.1

  arrays_there : (k : ℕ) (m : Leaf) (b : ArrayRead) → slice_get other.leaves k ≡ Some m → m.role ≡ role.Reading b → env (number k) ≡ word_read other state values_there b
  arrays_there k m b at is =
      let x = R.leaves k m at in
      let a = reading_beside net other number x.0.width x.0.role m.role b x.2.role is in
      s.arrays_read (number k) x.0 a.0 x.1 a.1 ∙ sym (word_read_same a.0 b a.2)

  driven_there : (k : ℕ) (m : Leaf) (r : Read) → slice_get other.leaves k ≡ Some m → driver m.role ≡ Some r → env (number k) ≡ at_width (value_at other values_there r) m.width
  driven_there k m r at is =
      let x = R.leaves k m at in
      let d = driver_beside net other number x.0.width x.0.role m.role r x.2.role is in
      s.driven (number k) x.0 d.0 x.1 d.1 ∙ sym (d.2 state tick env clock s) ∙ ap (at_width (value_at other values_there r)) (sym x.2.width)

  clocks_driven_there : (k : ℕ) (m : Leaf) (c : Option ℕ) → slice_get other.leaves k ≡ Some m → clock_driver m.role ≡ Some c → clock (number k) ≡ driven_clock clocks_there c
  clocks_driven_there k m c at is =
      let x = R.leaves k m at in
      s.clocks_driven (number k) x.0 (option_map number c) x.1 (clock_driver_beside net other number x.0.width x.0.role m.role c x.2.role is) ∙ by c
    where
      by : (d : Option ℕ) → driven_clock clock (option_map number d) ≡ driven_clock clocks_there d
      by None = refl
      by (Some j) = refl

  fits_there : (k : ℕ) (m : Leaf) → slice_get other.leaves k ≡ Some m → is_clock m.role ≡ false → env (number k) < 2 ^ m.width
  fits_there k m at plain =
      let x = R.leaves k m at in
      let bare = sym (same_kind net other number is_clock clock_blind x.0.width x.0.role m.role x.2.role) ∙ plain in
      subst (λ (w : ℕ). env (number k) < 2 ^ w) (sym x.2.width) (s.fits (number k) x.0 x.1 bare)

  inputs_there : map values_there (inputs other) ≡ map env (inputs net)
  inputs_there =
      ap (map values_there) (inputs_same net other number R whole)
      ∙ map_at values_there env (inputs net) (λ n k e. ap env (port_at net other number R whole input_number inputs_give n k e).stays)

  pub outputs_there : map values_there (outputs other) ≡ map env (outputs net)
  outputs_there =
      ap (map values_there) (outputs_same net other number R whole)
      ∙ map_at values_there env (outputs net) (λ n k e. ap env (port_at net other number R whole output_number outputs_give n k e).stays)

  pub clock_outputs_there : map clocks_there (clock_outputs other) ≡ map clock (clock_outputs net)
  clock_outputs_there =
      ap (map clocks_there) (clock_outputs_same net other number R whole)
      ∙ map_at clocks_there clock (clock_outputs net) (λ n k e. ap clock (port_at net other number R whole clock_output_number clock_outputs_give n k e).stays)

  clock_inputs_there : (n k : ℕ) → slice_get (clocks other) n ≡ Some k → clock (number k) ≡ Some n
  clock_inputs_there n k e =
      let own : slice_get (clocks net) n ≡ Some k = ap (λ (ks : List ℕ). slice_get ks n) (sym (clocks_same net other number R whole)) ∙ e in
      ap clock (port_at net other number R whole clock_number clocks_give n k own).stays ∙ s.clock_inputs n k own

  pub settled_there : Settled other state tick values_there clocks_there
  settled_there = record {
    shaped = subst (λ (x : Shape). HasShape x state tick) (sym (shapes net other number R whole)) s.shaped;
    fits = fits_there;
    input_values = inputs_there ∙ s.input_values;
    registers_show = registers_there;
    pipes_show = pipes_there;
    arrays_read = arrays_there;
    driven = driven_there;
    clock_inputs = clock_inputs_there;
    clocks_driven = clocks_driven_there;
  }
