-- The number of a clock input among the clock inputs is how many stand before it.
use Rattle.std.proofs.Common.{◌≡◌, ℕ, zero, suc, ◌+◌, List, [], ◌∷◌, ◌++◌, take, refl, ap, ◌∙◌, arith, Some, sym, Bool, false, cond}
use Rattle.std.specs.Prelude.{slice_get}
use Rattle.std.proofs.lemmas.List.Sums.{sum_by-cons}
use Rattle.fir_net.specs.declared.leaf.Role.{Role}
use Rattle.fir_net.specs.declared.leaf.Role.TheVariants as role
use Rattle.fir_net.specs.declared.leaf.Leaf.{Leaf}
use Rattle.fir_net.specs.working.Settled.{clock_number, numbers_by}
use Rattle.fir_clock_root.specs.working.ClockRoots.{RootIsClock, inputs_before, is_clock_input, input, driven}

-- ---- among leaves that are numbered from a base on

abbrev IsNumbered : ℕ → List Leaf → ℕ → Type 0
IsNumbered base leaves place = slice_get (numbers_by clock_number base leaves) (inputs_before leaves place) ≡ Some (base + place)

module _ (m : Leaf) (leaves : List Leaf) (base place : ℕ) (rest : IsNumbered (base + 1) leaves place) where
  same_place : base + 1 + place ≡ base + suc place
  same_place = omega arith

  behind_other : is_clock_input m.role ≡ false → clock_number m.role m.width base ≡ [] → IsNumbered base (m ∷ leaves) (suc place)
  behind_other other none =
      let before : inputs_before (m ∷ leaves) (suc place) ≡ inputs_before leaves place =
      sum_by-cons (λ (l : Leaf). cond (is_clock_input l.role) 1 0) m (take place leaves) ∙ ap (λ (b : Bool). cond b 1 0 + inputs_before leaves place) other ∙ (let plain : 0 + inputs_before leaves place ≡ inputs_before leaves place = omega arith in plain) in
      ap (slice_get (clock_number m.role m.width base ++ numbers_by clock_number (base + 1) leaves)) before
      ∙ ap (λ (own : List ℕ). slice_get (own ++ numbers_by clock_number (base + 1) leaves) (inputs_before leaves place)) none ∙ rest ∙ ap Some same_place

  behind_input : m.role ≡ role.Clock → IsNumbered base (m ∷ leaves) (suc place)
  behind_input is =
      let before : inputs_before (m ∷ leaves) (suc place) ≡ suc (inputs_before leaves place) =
      sum_by-cons (λ (l : Leaf). cond (is_clock_input l.role) 1 0) m (take place leaves) ∙ ap (λ (r : Role). cond (is_clock_input r) 1 0 + inputs_before leaves place) is ∙ (let one : 1 + inputs_before leaves place ≡ suc (inputs_before leaves place) = omega arith in one) in
      ap (slice_get (clock_number m.role m.width base ++ numbers_by clock_number (base + 1) leaves)) before
      ∙ ap (λ (r : Role). slice_get (clock_number r m.width base ++ numbers_by clock_number (base + 1) leaves) (suc (inputs_before leaves place))) is ∙ rest ∙ ap Some same_place

  behind : (r : Role) → m.role ≡ r → IsNumbered base (m ∷ leaves) (suc place)
  behind role.Clock is = behind_input is
  behind role.Input is = behind_other (ap is_clock_input is) (ap (λ (r : Role). clock_number r m.width base) is)
  behind (role.Output d) is = behind_other (ap is_clock_input is) (ap (λ (r : Role). clock_number r m.width base) is)
  behind (role.Wire d) is = behind_other (ap is_clock_input is) (ap (λ (r : Role). clock_number r m.width base) is)
  behind (role.Register d) is = behind_other (ap is_clock_input is) (ap (λ (r : Role). clock_number r m.width base) is)
  behind (role.Reading d) is = behind_other (ap is_clock_input is) (ap (λ (r : Role). clock_number r m.width base) is)
  behind (role.Pipe d) is = behind_other (ap is_clock_input is) (ap (λ (r : Role). clock_number r m.width base) is)
  behind (role.ClockOutput c) is = behind_other (ap is_clock_input is) (ap (λ (r : Role). clock_number r m.width base) is)
  behind (role.ClockWire c) is = behind_other (ap is_clock_input is) (ap (λ (r : Role). clock_number r m.width base) is)

numbered : (leaves : List Leaf) (base place : ℕ) (l : Leaf) → slice_get leaves place ≡ Some l → l.role ≡ role.Clock → IsNumbered base leaves place
numbered [] base place l at is = cc
numbered (m ∷ leaves) base zero l at is =
    let same : m ≡ l = cc in
    let here : m.role ≡ role.Clock = ap (λ (x : Leaf). x.role) same ∙ is in
    let first : base ≡ base + 0 = omega arith in
    ap (λ (r : Role). slice_get (clock_number r m.width base ++ numbers_by clock_number (base + 1) leaves) 0) here ∙ ap Some first
numbered (m ∷ leaves) base (suc place) l at is = behind m leaves base place (numbered leaves (base + 1) place l at is) m.role refl

-- ---- in settled values

pub root_is_clock : RootIsClock
root_is_clock net _ _ state tick env clock s (input k n l at is before) =
    let plain : 0 + k ≡ k = omega arith in
    s.clock_inputs n k (ap (slice_get (numbers_by clock_number 0 net.leaves)) (sym before) ∙ numbered net.leaves 0 k l at is ∙ ap Some plain)
root_is_clock net _ _ state tick env clock s (driven k j n l at is root) = s.clocks_driven k l (Some j) at is ∙ root_is_clock net j n state tick env clock s root
