-- The lists of numbers in which a leaf of a flat net stands: inputs, clock inputs, outputs and clock outputs.
use Rattle.std.proofs.Common.{◌≡◌, ◌≢◌, ℕ, ◌<◌, List, [], ◌∷◌, Bool, true, false, ◌&&◌, nat_lt, if◌then◌else◌, Option, refl, sym, ap, ◌∙◌, subst, inl, inr, ⊎_elim, eqb, arith, true≢false}
use Rattle.std.proofs.lemmas.Bool.{lt-ltb}
use Rattle.std.proofs.lemmas.Bool.Decides.{eqb_tells}
use Rattle.fir_meaning.specs.working.Flattened as over
use Rattle.fir_meaning.specs.LeafTypes as held
use Rattle.fir_meaning.specs.LeafTypes.{LeafType, a_clock, number, has_bits}
use Rattle.fir_meaning.specs.working.LeafModules.{Role, computed, is_sink, pipe, reading, register, sink, source}
use Rattle.fir_net.specs.declared.leaf.Role as net_leaf
use Rattle.fir_net.specs.declared.leaf.Role.TheVariants as role
use Rattle.fir_net.specs.declared.reads.Read.{Read}
use Rattle.fir_net.specs.working.IsNet.{is_port}
use Rattle.fir_net.specs.working.Settled.{clock_number, clock_output_number, input_number, output_number, with_bits}
use Rattle.fir_flat.specs.working.FlatCircuits.{IsClockedBy, IsDrivenBy}
use Rattle.fir_flatten.proofs.LeafRoles.{IsShaped, clocked_port, driven_port, net_width}

-- a number is given where a leaf is so
abbrev pub given : Bool → ℕ → List ℕ
given is_so k = if is_so then k ∷ [] else []

bits_given : (w k : ℕ) → with_bits w k ≡ given (nat_lt 0 w) k
bits_given w k =
    ⊎_elim
    (λ (t : (eqb w 0 ≡ true) × (w ≡ 0)). subst (λ v. with_bits v k ≡ given (nat_lt 0 v) k) (sym t.1) refl)
    (λ (t : (eqb w 0 ≡ false) × (w ≢ 0)).
    let some : 0 < w = omega (arith, t.1) in
    let test : nat_lt 0 w ≡ true = lt-ltb 0 w some in
    rw (t.0, test) refl)
    (eqb_tells w 0)

driven_none : (f : net_leaf.Role → List ℕ) (x : net_leaf.Role) (r : Read) → IsDrivenBy x r → f (role.Output r) ≡ [] → f (role.Wire r) ≡ [] → f x ≡ []
driven_none f x r (inl e) first second = ap f e ∙ first
driven_none f x r (inr e) first second = ap f e ∙ second

clocked_none : (f : net_leaf.Role → List ℕ) (x : net_leaf.Role) (c : Option ℕ) → IsClockedBy x c → f (role.ClockOutput c) ≡ [] → f (role.ClockWire c) ≡ []
    → f x ≡ []
clocked_none f x c (inl e) first second = ap f e ∙ first
clocked_none f x c (inr e) first second = ap f e ∙ second

module _ (x : net_leaf.Role) (w k : ℕ) where
  pub input_given : (h : LeafType) (r : Role) → IsShaped x h r → w ≡ net_width h → input_number x w k ≡ given (over.is_input r && has_bits h) k
  input_given (number t) source is e = ap (λ y. input_number y w k) is ∙ ap (λ v. with_bits v k) e ∙ bits_given t.width k
  input_given a_clock source is e = ap (λ y. input_number y w k) is
  input_given (number t) sink is e = driven_none (λ y. input_number y w k) x is.0 is.1 refl refl
  input_given a_clock sink is e = clocked_none (λ y. input_number y w k) x is.0 is.1 refl refl
  input_given (number t) (computed d) is e = ap (λ y. input_number y w k) is.1
  input_given a_clock (computed d) is e = ap (λ y. input_number y w k) is.1
  input_given (number t) (register clock reset) is e = ap (λ y. input_number y w k) is.1
  input_given (number t) (reading r) is e = ap (λ y. input_number y w k) is.1
  input_given (number t) (pipe r clock under) is e = ap (λ y. input_number y w k) is.1
  input_given h r is e = absurd is

  pub clock_given : (h : LeafType) (r : Role) → IsShaped x h r → clock_number x w k ≡ given (over.is_input r && held.is_clock h) k
  clock_given (number t) source is = ap (λ y. clock_number y w k) is
  clock_given a_clock source is = ap (λ y. clock_number y w k) is
  clock_given (number t) sink is = driven_none (λ y. clock_number y w k) x is.0 is.1 refl refl
  clock_given a_clock sink is = clocked_none (λ y. clock_number y w k) x is.0 is.1 refl refl
  clock_given (number t) (computed d) is = ap (λ y. clock_number y w k) is.1
  clock_given a_clock (computed d) is = ap (λ y. clock_number y w k) is.1
  clock_given (number t) (register clock reset) is = ap (λ y. clock_number y w k) is.1
  clock_given (number t) (reading r) is = ap (λ y. clock_number y w k) is.1
  clock_given (number t) (pipe r clock under) is = ap (λ y. clock_number y w k) is.1
  clock_given h r is = absurd is

  -- of a port
  pub output_given : (h : LeafType) (r : Role) → IsShaped x h r → w ≡ net_width h → is_port x ≡ true
      → output_number x w k ≡ given (is_sink r && has_bits h) k
  output_given (number t) source is e port = ap (λ y. output_number y w k) is
  output_given a_clock source is e port = ap (λ y. output_number y w k) is
  output_given (number t) sink is e port =
      ap (λ y. output_number y w k) (driven_port x is.0 is.1 port) ∙ ap (λ v. with_bits v k) e ∙ bits_given t.width k
  output_given a_clock sink is e port = clocked_none (λ y. output_number y w k) x is.0 is.1 refl refl
  output_given (number t) (computed d) is e port = ap (λ y. output_number y w k) is.1
  output_given a_clock (computed d) is e port = ap (λ y. output_number y w k) is.1
  output_given (number t) (register clock reset) is e port = ap (λ y. output_number y w k) is.1
  output_given (number t) (reading r) is e port = ap (λ y. output_number y w k) is.1
  output_given (number t) (pipe r clock under) is e port = ap (λ y. output_number y w k) is.1
  output_given h r is e port = absurd is

  pub clock_output_given : (h : LeafType) (r : Role) → IsShaped x h r → is_port x ≡ true
      → clock_output_number x w k ≡ given (is_sink r && held.is_clock h) k
  clock_output_given (number t) source is port = ap (λ y. clock_output_number y w k) is
  clock_output_given a_clock source is port = ap (λ y. clock_output_number y w k) is
  clock_output_given (number t) sink is port = driven_none (λ y. clock_output_number y w k) x is.0 is.1 refl refl
  clock_output_given a_clock sink is port = ap (λ y. clock_output_number y w k) (clocked_port x is.0 is.1 port)
  clock_output_given (number t) (computed d) is port = ap (λ y. clock_output_number y w k) is.1
  clock_output_given a_clock (computed d) is port = ap (λ y. clock_output_number y w k) is.1
  clock_output_given (number t) (register clock reset) is port = ap (λ y. clock_output_number y w k) is.1
  clock_output_given (number t) (reading r) is port = ap (λ y. clock_output_number y w k) is.1
  clock_output_given (number t) (pipe r clock under) is port = ap (λ y. clock_output_number y w k) is.1
  clock_output_given h r is port = absurd is

  -- what is no port is in no list of ports
  pub no_input : is_port x ≡ false → input_number x w k ≡ []
  no_input inner = by x inner
    where
      by : (y : net_leaf.Role) → is_port y ≡ false → input_number y w k ≡ []
      by role.Input inner = absurd (true≢false inner)
      by _ inner = refl

  pub no_clock : is_port x ≡ false → clock_number x w k ≡ []
  no_clock inner = by x inner
    where
      by : (y : net_leaf.Role) → is_port y ≡ false → clock_number y w k ≡ []
      by role.Clock inner = absurd (true≢false inner)
      by _ inner = refl

  pub no_output : is_port x ≡ false → output_number x w k ≡ []
  no_output inner = by x inner
    where
      by : (y : net_leaf.Role) → is_port y ≡ false → output_number y w k ≡ []
      by (role.Output r) inner = absurd (true≢false inner)
      by _ inner = refl

  pub no_clock_output : is_port x ≡ false → clock_output_number x w k ≡ []
  no_clock_output inner = by x inner
    where
      by : (y : net_leaf.Role) → is_port y ≡ false → clock_output_number y w k ≡ []
      by (role.ClockOutput c) inner = absurd (true≢false inner)
      by _ inner = refl
