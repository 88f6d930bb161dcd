-- Roles of one kind: what does not look at what a leaf reads is the same of both.
use Rattle.std.proofs.Common.{◌≡◌, ℕ, List, [], ◌∷◌, Bool, true, false, nat_eq, if◌then◌else◌, refl, sym, ap, ◌∙◌, subst, ◌⊎◌, inl, inr}
use Rattle.std.specs.Prelude.{Option, Some, None, option_map}
use Rattle.fir_net.specs.declared.array.ArrayRead.{ArrayRead}
use Rattle.fir_net.specs.declared.array.Pipe.{Pipe}
use Rattle.fir_net.specs.declared.leaf.Register.{Register}
use Rattle.fir_net.specs.declared.leaf.Role.{Role}
use Rattle.fir_net.specs.declared.leaf.Role.TheVariants as role
use Rattle.fir_net.specs.declared.net.FlatNet.{FlatNet}
use Rattle.fir_net.specs.declared.reads.Read.{Read}
use Rattle.fir_net.specs.declared.reads.Read.TheVariants as read
use Rattle.fir_net.specs.working.IsNet.{is_port}
use Rattle.fir_net.specs.working.Rows.{role_row}
use Rattle.fir_net.specs.working.Settled.{clock_driver, clock_number, clock_output_number, driver, input_number, is_clock, output_number}
use Rattle.fir_net.proofs.NumberedLeaves.{GivesOwn, clocks_own, inputs_own}
use Rattle.fir_equivalence.specs.working.Rewrites.{IsSameArrayRead, IsSameAt, IsSamePipe, IsSameRegister, IsSameRole}

-- the role without what it reads
abbrev no_read : ArrayRead
no_read = record { array = 0; address = read.Leaf 0; enable = read.Leaf 0 }

abbrev pub bare : Role → Role
bare role.Input = role.Input
bare role.Clock = role.Clock
bare (role.Output r) = role.Output (read.Leaf 0)
bare (role.Wire r) = role.Wire (read.Leaf 0)
bare (role.Register d) = role.Register (record { clock = 0; reset = None; next = None })
bare (role.Reading r) = role.Reading no_read
bare (role.Pipe p) = role.Pipe (record { clock = 0; read = no_read; is_new = false })
bare (role.ClockOutput c) = role.ClockOutput None
bare (role.ClockWire c) = role.ClockWire None

-- a function of roles that does not look at what they read
pub record Blind {A : Type 0} (f : Role → A) : Type 0 where
  pub each : (r : Role) → f (bare r) ≡ f r

pub port_blind : Blind is_port
port_blind = record { each = each }
  where
    each : (r : Role) → is_port (bare r) ≡ is_port r
    each role.Input = refl
    each _ = refl

pub clock_blind : Blind is_clock
clock_blind = record { each = each }
  where
    each : (r : Role) → is_clock (bare r) ≡ is_clock r
    each role.Input = refl
    each _ = refl

pub row_blind : (name : List ℕ) (width : ℕ) → Blind (λ r. role_row r name width)
row_blind name width = record { each = each }
  where
    each : (r : Role) → role_row (bare r) name width ≡ role_row r name width
    each role.Input = refl
    each _ = refl

-- which leaves give their numbers: ports, each its own, and whatever they read
pub record GivesPorts (f : Role → ℕ → ℕ → List ℕ) : Type 0 where
  pub blind : (r : Role) (w k : ℕ) → f (bare r) w k ≡ f r w k
  pub none : (r : Role) (w k : ℕ) → is_port r ≡ false → f r w k ≡ []
  pub own : GivesOwn f

bits_own : (w k : ℕ) → ((if nat_eq w 0 then [] else (k ∷ [])) ≡ []) ⊎ ((if nat_eq w 0 then [] else (k ∷ [])) ≡ k ∷ [])
bits_own w k = by (nat_eq w 0)
  where
    by : (b : Bool) → ((if b then [] else (k ∷ [])) ≡ []) ⊎ ((if b then [] else (k ∷ [])) ≡ k ∷ [])
    by true = inl refl
    by false = inr refl

pub inputs_give : GivesPorts input_number
inputs_give = record { blind = blind; none = none; own = inputs_own }
  where
    blind : (r : Role) (w k : ℕ) → input_number (bare r) w k ≡ input_number r w k
    blind role.Input w k = refl
    blind _ w k = refl

    none : (r : Role) (w k : ℕ) → is_port r ≡ false → input_number r w k ≡ []
    none role.Input w k e = cc
    none _ w k e = refl

pub clocks_give : GivesPorts clock_number
clocks_give = record { blind = blind; none = none; own = clocks_own }
  where
    blind : (r : Role) (w k : ℕ) → clock_number (bare r) w k ≡ clock_number r w k
    blind role.Clock w k = refl
    blind _ w k = refl

    none : (r : Role) (w k : ℕ) → is_port r ≡ false → clock_number r w k ≡ []
    none role.Clock w k e = cc
    none _ w k e = refl

pub outputs_give : GivesPorts output_number
outputs_give = record { blind = blind; none = none; own = record { each = own } }
  where
    blind : (r : Role) (w k : ℕ) → output_number (bare r) w k ≡ output_number r w k
    blind (role.Output r) w k = refl
    blind _ w k = refl

    none : (r : Role) (w k : ℕ) → is_port r ≡ false → output_number r w k ≡ []
    none (role.Output r) w k e = cc
    none _ w k e = refl

    own : (r : Role) (w k : ℕ) → (output_number r w k ≡ []) ⊎ (output_number r w k ≡ k ∷ [])
    own (role.Output r) w k = bits_own w k
    own _ w k = inl refl

pub clock_outputs_give : GivesPorts clock_output_number
clock_outputs_give = record { blind = blind; none = none; own = record { each = own } }
  where
    blind : (r : Role) (w k : ℕ) → clock_output_number (bare r) w k ≡ clock_output_number r w k
    blind (role.ClockOutput c) w k = refl
    blind _ w k = refl

    none : (r : Role) (w k : ℕ) → is_port r ≡ false → clock_output_number r w k ≡ []
    none (role.ClockOutput c) w k e = cc
    none _ w k e = refl

    own : (r : Role) (w k : ℕ) → (clock_output_number r w k ≡ []) ⊎ (clock_output_number r w k ≡ k ∷ [])
    own (role.ClockOutput c) w k = inr refl
    own _ w k = inl refl

-- what gives the number of an output is no clock, and what gives that of a clock output is one
pub output_plain : (r : Role) (w k : ℕ) → output_number r w k ≡ k ∷ [] → is_clock r ≡ false
output_plain role.Clock w k e = cc
output_plain (role.ClockOutput c) w k e = cc
output_plain (role.ClockWire c) w k e = cc
output_plain _ w k e = refl

pub clock_output_ticks : (r : Role) (w k : ℕ) → clock_output_number r w k ≡ k ∷ [] → is_clock r ≡ true
clock_output_ticks (role.ClockOutput c) w k e = refl
clock_output_ticks _ w k e = cc

module _ (net other : FlatNet) (number : ℕ → ℕ) where
  same_bare : (width : ℕ) (a b : Role) → IsSameRole net other number width a b → bare b ≡ bare a
  same_bare width role.Input role.Input h = refl
  same_bare width role.Clock role.Clock h = refl
  same_bare width (role.Output r) (role.Output s) h = refl
  same_bare width (role.Wire r) (role.Wire s) h = refl
  same_bare width (role.Register r) (role.Register s) h = refl
  same_bare width (role.Reading r) (role.Reading s) h = refl
  same_bare width (role.Pipe p) (role.Pipe q) h = refl
  same_bare width (role.ClockOutput c) (role.ClockOutput d) h = refl
  same_bare width (role.ClockWire c) (role.ClockWire d) h = refl
  same_bare width _ _ h = absurd h

  pub same_kind : {A : Type 0} (f : Role → A) → Blind f → (width : ℕ) (a b : Role) → IsSameRole net other number width a b → f b ≡ f a
  same_kind f blind width a b h = sym (blind.each b) ∙ ap f (same_bare width a b h) ∙ blind.each a

  -- the role beside one that is known
  pub register_beside : (width : ℕ) (r s : Role) (b : Register) → IsSameRole net other number width r s → s ≡ role.Register b → (a : Register) × (r ≡ role.Register a) × IsSameRegister net other number width a b
  register_beside width r s b h is = by r (subst (IsSameRole net other number width r) is h)
    where
      by : (x : Role) → IsSameRole net other number width x (role.Register b) → (a : Register) × (x ≡ role.Register a) × IsSameRegister net other number width a b
      by (role.Register a) h = (a, refl, h)
      by _ h = absurd h

  pub pipe_beside : (width : ℕ) (r s : Role) (q : Pipe) → IsSameRole net other number width r s → s ≡ role.Pipe q → (p : Pipe) × (r ≡ role.Pipe p) × IsSamePipe net other number p q
  pipe_beside width r s q h is = by r (subst (IsSameRole net other number width r) is h)
    where
      by : (x : Role) → IsSameRole net other number width x (role.Pipe q) → (p : Pipe) × (x ≡ role.Pipe p) × IsSamePipe net other number p q
      by (role.Pipe p) h = (p, refl, h)
      by _ h = absurd h

  pub reading_beside : (width : ℕ) (r s : Role) (b : ArrayRead) → IsSameRole net other number width r s → s ≡ role.Reading b → (a : ArrayRead) × (r ≡ role.Reading a) × IsSameArrayRead net other number a b
  reading_beside width r s b h is = by r (subst (IsSameRole net other number width r) is h)
    where
      by : (x : Role) → IsSameRole net other number width x (role.Reading b) → (a : ArrayRead) × (x ≡ role.Reading a) × IsSameArrayRead net other number a b
      by (role.Reading a) h = (a, refl, h)
      by _ h = absurd h

  pub clock_beside : (width : ℕ) (r s : Role) → IsSameRole net other number width r s → s ≡ role.Clock → r ≡ role.Clock
  clock_beside width r s h is = by r (subst (IsSameRole net other number width r) is h)
    where
      by : (x : Role) → IsSameRole net other number width x role.Clock → x ≡ role.Clock
      by role.Clock h = refl
      by _ h = absurd h

  pub driver_beside : (width : ℕ) (r s : Role) (d : Read) → IsSameRole net other number width r s → driver s ≡ Some d → (c : Read) × (driver r ≡ Some c) × IsSameAt net other number width c d
  driver_beside width role.Input role.Input d h e = cc
  driver_beside width role.Clock role.Clock d h e = cc
  driver_beside width (role.Output r) (role.Output s) d h e = let same : s ≡ d = cc in (r, refl, subst (IsSameAt net other number width r) same h)
  driver_beside width (role.Wire r) (role.Wire s) d h e = let same : s ≡ d = cc in (r, refl, subst (IsSameAt net other number width r) same h)
  driver_beside width (role.Register r) (role.Register s) d h e = cc
  driver_beside width (role.Reading r) (role.Reading s) d h e = cc
  driver_beside width (role.Pipe p) (role.Pipe q) d h e = cc
  driver_beside width (role.ClockOutput c) (role.ClockOutput b) d h e = cc
  driver_beside width (role.ClockWire c) (role.ClockWire b) d h e = cc
  driver_beside width _ _ d h e = absurd h

  pub clock_driver_beside : (width : ℕ) (r s : Role) (d : Option ℕ) → IsSameRole net other number width r s → clock_driver s ≡ Some d → clock_driver r ≡ Some (option_map number d)
  clock_driver_beside width role.Input role.Input d h e = cc
  clock_driver_beside width role.Clock role.Clock d h e = cc
  clock_driver_beside width (role.Output r) (role.Output s) d h e = cc
  clock_driver_beside width (role.Wire r) (role.Wire s) d h e = cc
  clock_driver_beside width (role.Register r) (role.Register s) d h e = cc
  clock_driver_beside width (role.Reading r) (role.Reading s) d h e = cc
  clock_driver_beside width (role.Pipe p) (role.Pipe q) d h e = cc
  clock_driver_beside width (role.ClockOutput c) (role.ClockOutput b) d h e = let same : b ≡ d = cc in ap Some (sym h ∙ ap (option_map number) same)
  clock_driver_beside width (role.ClockWire c) (role.ClockWire b) d h e = let same : b ≡ d = cc in ap Some (sym h ∙ ap (option_map number) same)
  clock_driver_beside width _ _ d h e = absurd h
