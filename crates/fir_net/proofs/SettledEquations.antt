-- Settled choices are those that fit and meet the equations of all leaves.
use Rattle.std.proofs.Common.{◌≡◌, ℕ, zero, suc, ◌^◌, ◌<◌, List, [], ◌∷◌, length, take, Bool, true, false, nat_eq, slice_index, refl, sym, ap, ◌∙◌, arith}
use Rattle.std.specs.Prelude.{slice_get, Option, Some}
use Rattle.std.proofs.lemmas.Bool.{eqb-true}
use Rattle.std.proofs.lemmas.Option.{slice_get_within}
use Rattle.fir_base.specs.Ticks.{Tick, HasShape}
use Rattle.fir_bits.specs.working.Laws.{HasItsType}
use Rattle.fir_net.specs.declared.reads.Read.{Read}
use Rattle.fir_net.specs.declared.array.Pipe.{Pipe}
use Rattle.fir_net.specs.declared.leaf.Register.{Register}
use Rattle.fir_net.specs.declared.leaf.Role.{Role}
use Rattle.fir_net.specs.declared.leaf.Role.TheVariants as role
use Rattle.fir_net.specs.declared.leaf.Leaf.{Leaf}
use Rattle.fir_net.specs.declared.net.FlatNet.{FlatNet}
use Rattle.fir_net.specs.working.IsNet.{is_state, IsNet}
use Rattle.fir_net.specs.working.Values.{at_width, leaf_width}
use Rattle.fir_net.specs.working.Settled.{with_bits, input_number, clock_number, inputs, clocks, registers, shape, value_at, is_clock, driver, clock_driver, driven_clock, shown, Settled}
use Rattle.fir_net.proofs.Places.{place_of, value_at_place, values_at_places}
use Rattle.fir_net.proofs.NumberedLeaves.{inputs_own, clocks_own, input_role, clock_role, place_among, among, leaf_at}
use Rattle.fir_net.proofs.StateWords.{word_at, word_place}
use Rattle.fir_net.specs.working.Laws.{LeavesFit}
use Rattle.fir_net.proofs.ValuesAlong.{IsPlain}
use Rattle.fir_net.proofs.LeafEquations.{front_word, role_value, value_equation, equation_at, value_below}
use Rattle.fir_net.proofs.ClockEquations.{IsTicking, role_clock, clock_equation, clock_at}

-- two numbers of no bits
both_zero : (x y w : ℕ) → w ≡ 0 → x < 2 ^ w → y < 2 ^ w → x ≡ y
both_zero x y w e h g = let a : x < 1 = rw e at h in let b : y < 1 = rw e at g in omega (arith, a, b)

-- a leaf with bits gives its number
bits_give : (w k : ℕ) → nat_eq w 0 ≡ false → with_bits w k ≡ k ∷ []
bits_give w k e = rw e refl

front_index : (m : ℕ) (xs : List ℕ) (i : ℕ) → i < m → slice_index (take m xs) i ≡ slice_index xs i
front_index zero xs i l = absurd (omega (arith, l))
front_index (suc m) [] i l = refl
front_index (suc m) (x ∷ xs) zero l = refl
front_index (suc m) (x ∷ xs) (suc i) l = front_index m xs i (omega (arith, l))

module _ (law : HasItsType) (net : FlatNet) (whole : IsNet net) (state : List ℕ) (tick : Tick) where
  -- the word of a register or a pipe in front of the arrays is that of its place
  word_of_place : (n k : ℕ) → slice_get (registers net) n ≡ Some k → front_word net state k ≡ slice_index state n
  word_of_place n k e =
      let within : n < length (registers net) = slice_get_within (registers net) n k e in
      ap (slice_index (take (length (registers net)) state)) (word_place whole.state n k e) ∙ front_index (length (registers net)) state n within

  -- what is settled meets the equations
  module _ (env : ℕ → ℕ) (clock : ℕ → Option ℕ) (s : Settled net state tick env clock) where
    input_met : (k : ℕ) (l : Leaf) → slice_get net.leaves k ≡ Some l → l.role ≡ role.Input → nat_eq l.width 0 ≡ false → env k ≡ slice_index tick.inputs (place_of k (inputs net))
    input_met k l at is bits =
        let found = among input_number inputs_own net.leaves k l at (ap (λ (r : Role). input_number r l.width k) is ∙ bits_give l.width k bits) in
        value_at_place env (inputs net) tick.inputs s.input_values found.0 k found.1 ∙ ap (slice_index tick.inputs) (sym (place_among input_number inputs_own net.leaves found.0 k found.1))

    register_met : (k : ℕ) (l : Leaf) (d : Register) → slice_get net.leaves k ≡ Some l → l.role ≡ role.Register d → nat_eq l.width 0 ≡ false → env k ≡ shown net env l.width d.reset (front_word net state k)
    register_met k l d at is bits =
        let found = word_at whole.state k l at (ap is_state is) bits in
        s.registers_show found.0 k l d found.1 at is ∙ ap (shown net env l.width d.reset) (sym (word_of_place found.0 k found.1))

    pipe_met : (k : ℕ) (l : Leaf) (p : Pipe) → slice_get net.leaves k ≡ Some l → l.role ≡ role.Pipe p → nat_eq l.width 0 ≡ false → env k ≡ front_word net state k
    pipe_met k l p at is bits =
        let found = word_at whole.state k l at (ap is_state is) bits in
        s.pipes_show found.0 k l p found.1 at is ∙ sym (word_of_place found.0 k found.1)

    role_met : (k : ℕ) (l : Leaf) (r : Role) → slice_get net.leaves k ≡ Some l → l.role ≡ r → is_clock r ≡ false → nat_eq l.width 0 ≡ false → env k ≡ role_value net state tick env k l.width r
    role_met k l role.Input at is plain bits = input_met k l at is bits
    role_met k l role.Clock at is plain bits = cc
    role_met k l (role.Output r) at is plain bits = s.driven k l r at (ap driver is)
    role_met k l (role.Wire r) at is plain bits = s.driven k l r at (ap driver is)
    role_met k l (role.Register d) at is plain bits = register_met k l d at is bits
    role_met k l (role.Reading r) at is plain bits = s.arrays_read k l r at is
    role_met k l (role.Pipe p) at is plain bits = pipe_met k l p at is bits
    role_met k l (role.ClockOutput c) at is plain bits = cc
    role_met k l (role.ClockWire c) at is plain bits = cc

    -- a leaf of no bits has no choice
    pub values_met : (k : ℕ) → IsPlain net k → env k ≡ value_equation net state tick env k
    values_met k p = by (nat_eq p.leaf.width 0) refl
      where
        by : (b : Bool) → nat_eq p.leaf.width 0 ≡ b → env k ≡ value_equation net state tick env k
        by true none = both_zero (env k) (value_equation net state tick env k) p.leaf.width (eqb-true p.leaf.width 0 none) (s.fits k p.leaf p.at p.plain) (value_below law net whole env (record { each = s.fits }) state tick s.shaped k p.leaf p.at)
        by false bits = role_met k p.leaf p.leaf.role p.at refl p.plain bits ∙ sym (equation_at net state tick env k p.leaf p.leaf.role p.at refl)

    role_clock_met : (k : ℕ) (l : Leaf) (r : Role) → slice_get net.leaves k ≡ Some l → l.role ≡ r → is_clock r ≡ true → clock k ≡ role_clock net clock k r
    role_clock_met k l role.Input at is ticking = cc
    role_clock_met k l role.Clock at is ticking =
        let found = among clock_number clocks_own net.leaves k l at (ap (λ (r : Role). clock_number r l.width k) is) in
        s.clock_inputs found.0 k found.1 ∙ ap Some (sym (place_among clock_number clocks_own net.leaves found.0 k found.1))
    role_clock_met k l (role.Output r) at is ticking = cc
    role_clock_met k l (role.Wire r) at is ticking = cc
    role_clock_met k l (role.Register d) at is ticking = cc
    role_clock_met k l (role.Reading r) at is ticking = cc
    role_clock_met k l (role.Pipe p) at is ticking = cc
    role_clock_met k l (role.ClockOutput c) at is ticking = s.clocks_driven k l c at (ap clock_driver is)
    role_clock_met k l (role.ClockWire c) at is ticking = s.clocks_driven k l c at (ap clock_driver is)

    pub clocks_met : (k : ℕ) → IsTicking net k → clock k ≡ clock_equation net clock k
    clocks_met k t = role_clock_met k t.leaf t.leaf.role t.at refl t.ticking ∙ sym (clock_at net clock k t.leaf t.leaf.role t.at refl)

  -- what meets the equations is settled
  module _ (shaped : HasShape (shape net) state tick) (env : ℕ → ℕ) (clock : ℕ → Option ℕ) (fit : LeavesFit net.leaves env) (values : (k : ℕ) → IsPlain net k → env k ≡ value_equation net state tick env k) (ticks : (k : ℕ) → IsTicking net k → clock k ≡ clock_equation net clock k) where
    value_of : (k : ℕ) (l : Leaf) (r : Role) → slice_get net.leaves k ≡ Some l → l.role ≡ r → is_clock r ≡ false → env k ≡ role_value net state tick env k l.width r
    value_of k l r at is plain = values k (record { leaf = l; at = at; plain = ap is_clock is ∙ plain }) ∙ equation_at net state tick env k l r at is

    clock_of : (k : ℕ) (l : Leaf) (r : Role) → slice_get net.leaves k ≡ Some l → l.role ≡ r → is_clock r ≡ true → clock k ≡ role_clock net clock k r
    clock_of k l r at is ticking = ticks k (record { leaf = l; at = at; ticking = ap is_clock is ∙ ticking }) ∙ clock_at net clock k l r at is

    input_given : (n k : ℕ) → slice_get (inputs net) n ≡ Some k → env k ≡ slice_index tick.inputs n
    input_given n k e =
        let found = leaf_at input_number inputs_own net.leaves n k e in
        value_of k found.0 role.Input found.1 (input_role found.0.role found.0.width k found.2) refl ∙ ap (slice_index tick.inputs) (place_among input_number inputs_own net.leaves n k e)

    register_shows : (n k : ℕ) (l : Leaf) (d : Register) → slice_get (registers net) n ≡ Some k → slice_get net.leaves k ≡ Some l → l.role ≡ role.Register d → env k ≡ shown net env l.width d.reset (slice_index state n)
    register_shows n k l d e at is =
        value_of k l (role.Register d) at is refl ∙ ap (shown net env l.width d.reset) (word_of_place n k e)

    clock_given : (n k : ℕ) → slice_get (clocks net) n ≡ Some k → clock k ≡ Some n
    clock_given n k e =
        let found = leaf_at clock_number clocks_own net.leaves n k e in
        clock_of k found.0 role.Clock found.1 (clock_role found.0.role found.0.width k found.2) refl ∙ ap Some (place_among clock_number clocks_own net.leaves n k e)

    role_driven : (k : ℕ) (l : Leaf) (x : Role) (r : Read) → slice_get net.leaves k ≡ Some l → l.role ≡ x → driver x ≡ Some r → env k ≡ at_width (value_at net env r) l.width
    role_driven k l role.Input r at is e = cc
    role_driven k l role.Clock r at is e = cc
    role_driven k l (role.Output q) r at is e = let same : q ≡ r = cc in value_of k l (role.Output q) at is refl ∙ ap (λ (p : Read). at_width (value_at net env p) l.width) same
    role_driven k l (role.Wire q) r at is e = let same : q ≡ r = cc in value_of k l (role.Wire q) at is refl ∙ ap (λ (p : Read). at_width (value_at net env p) l.width) same
    role_driven k l (role.Register d) r at is e = cc
    role_driven k l (role.Reading q) r at is e = cc
    role_driven k l (role.Pipe p) r at is e = cc
    role_driven k l (role.ClockOutput c) r at is e = cc
    role_driven k l (role.ClockWire c) r at is e = cc

    clock_driven : (k : ℕ) (l : Leaf) (x : Role) (c : Option ℕ) → slice_get net.leaves k ≡ Some l → l.role ≡ x → clock_driver x ≡ Some c → clock k ≡ driven_clock clock c
    clock_driven k l role.Input c at is e = cc
    clock_driven k l role.Clock c at is e = cc
    clock_driven k l (role.Output q) c at is e = cc
    clock_driven k l (role.Wire q) c at is e = cc
    clock_driven k l (role.Register d) c at is e = cc
    clock_driven k l (role.Reading q) c at is e = cc
    clock_driven k l (role.Pipe p) c at is e = cc
    clock_driven k l (role.ClockOutput b) c at is e = let same : b ≡ c = cc in clock_of k l (role.ClockOutput b) at is refl ∙ ap (driven_clock clock) same
    clock_driven k l (role.ClockWire b) c at is e = let same : b ≡ c = cc in clock_of k l (role.ClockWire b) at is refl ∙ ap (driven_clock clock) same

    pub settled : Settled net state tick env clock
    settled = record {
      shaped = shaped;
      fits = fit.each;
      input_values = values_at_places (leaf_width net.leaves) env (inputs net) tick.inputs shaped.inputs_fit input_given;
      registers_show = register_shows;
      pipes_show = λ n k l p e at is. value_of k l (role.Pipe p) at is refl ∙ word_of_place n k e;
      arrays_read = λ k l r at is. value_of k l (role.Reading r) at is refl;
      driven = λ k l r at e. role_driven k l l.role r at refl e;
      clock_inputs = clock_given;
      clocks_driven = λ k l c at e. clock_driven k l l.role c at refl e;
    }
