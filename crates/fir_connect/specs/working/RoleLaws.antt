-- What the roles of a net are worth: for all values of the leaves within their widths each gives what the leaf's role in the module gives.
use Rattle.std.specs.Prelude.{◌≡◌, ◌↔◌, ℕ, ◌^◌, ◌<◌, [], ◌∷◌, length, Option, Some, None, unwrap_or}
use Rattle.fir_base.specs.Lists.{In}
use Rattle.fir_meaning.specs.working.Choices.{LiveReads}
use Rattle.fir_meaning.specs.Values.{fit, is_high}
use Rattle.fir_meaning.specs.working.LeafBlocks.{exec_all, nothing_stored}
use Rattle.fir_meaning.specs.working.LeafModules.{LeafModule, LeafReset, Role, depth_at, role_at}
use Rattle.fir_meaning.specs.LeafTypes.{LeafType, a_clock, number}
use Rattle.fir_meaning.specs.working.LeafModules as leafed
use Rattle.fir_meaning.specs.working.TermReads.{reads}
use Rattle.fir_meaning.specs.working.Terms.{Term}
use Rattle.fir_meaning.specs.working.TermValues.{clock_of, eval, is_true}
use Rattle.fir_meaning.specs.working.UndrivenLeaves.{AreDriven}
use Rattle.fir_leaf.specs.working.ChoiceLaws.{fitted_at}
use Rattle.fir_leaf_types.specs.working.TypedModules.{IsModuleTyped, held_in}
use Rattle.fir_connect.specs.working.NetReads.{net_reads}
use Rattle.fir_connect.specs.working.NetRoles.{NetReset, NetRole, computed, driven, net_role_at, net_types, pipe, reading, register, source}
use Rattle.fir_connect.specs.working.NetTerms.{NetTerm}
use Rattle.fir_connect.specs.working.NetValues.{term_clock, term_value}

-- values of the leaves of a module, and their clocks
module _ (m : LeafModule) (numbers : ℕ → ℕ) (clocks : ℕ → Option ℕ) where
  -- what the statements store at a leaf
  abbrev pub number_stored : ℕ → Option ℕ
  number_stored x = exec_all (net_types m) (depth_at m) numbers (fitted_at (net_types m) numbers) m.body [] nothing_stored x

  abbrev pub clock_stored : ℕ → Option (Option ℕ)
  clock_stored x =
      exec_all (net_types m) (depth_at m) numbers (λ y t. clock_of (net_types m) (record { numbers = numbers; clocks = clocks }) t) m.body [] nothing_stored x

  -- the number that a term of the net gives to a leaf
  abbrev pub net_fitted : NetTerm → ℕ → ℕ
  net_fitted t x = fit (term_value (net_types m) numbers t) (net_types m x)

  abbrev pub ResetGives : ℕ → Option LeafReset → Option NetReset → Type 0
  ResetGives x None None = Unit {0}
  ResetGives x (Some r) (Some n) =
      (r.is_async ≡ n.is_async) × (is_true (net_types m) numbers r.condition ≡ is_high (term_value (net_types m) numbers n.condition ∷ []))
      × (fitted_at (net_types m) numbers x r.init ≡ net_fitted n.init x)
  ResetGives x _ _ = ⊥

  -- of a leaf that holds a number, or a clock; a register that nothing drives keeps what it shows
  abbrev pub Gives : ℕ → LeafType → Role → NetRole → Type 0
  Gives x (number u) leafed.sink (driven t) = number_stored x ≡ Some (net_fitted t x)
  Gives x a_clock leafed.sink (driven t) = clock_stored x ≡ Some (term_clock (net_types m) numbers clocks t)
  Gives x (number u) (leafed.computed e) (computed t) = eval (net_types m) numbers e ≡ term_value (net_types m) numbers t
  Gives x a_clock (leafed.computed e) (computed t) =
      clock_of (net_types m) (record { numbers = numbers; clocks = clocks }) e ≡ term_clock (net_types m) numbers clocks t
  Gives x h (leafed.register clock reset) (register c r t) =
      (clock_of (net_types m) (record { numbers = numbers; clocks = clocks }) clock ≡ term_clock (net_types m) numbers clocks c)
      × ResetGives x reset r × (unwrap_or (number_stored x) (numbers x) ≡ net_fitted t x)
  Gives x h leafed.source source = Unit {0}
  Gives x h (leafed.reading e) (reading f) = e ≡ f
  Gives x h (leafed.pipe e clock under) (pipe f c u) = (e ≡ f) × (clock ≡ c) × (under ≡ u)
  Gives x h _ _ = ⊥

  abbrev pub RolesGive : Type 0
  RolesGive = (x : ℕ) → x < length m.leaves → Gives x (held_in m x) (role_at m x) (net_role_at m x)

-- «Last connect»: in a module that has types, and in which each leaf is driven that statements must drive
abbrev pub RolesAreWorth : Type 0
RolesAreWorth =
    (m : LeafModule) (numbers : ℕ → ℕ) (clocks : ℕ → Option ℕ) → IsModuleTyped m → AreDriven m → ((x : ℕ) → numbers x < 2 ^ (net_types m x).width)
    → RolesGive m numbers clocks

-- the same leaves are read
abbrev pub TermReads : Term → NetTerm → Type 0
TermReads e t = (y : ℕ) → In (net_reads t) y ↔ In (reads e) y

abbrev pub ResetReads : Option LeafReset → Option NetReset → Type 0
ResetReads None None = Unit {0}
ResetReads (Some r) (Some n) = TermReads r.condition n.condition × TermReads r.init n.init
ResetReads _ _ = ⊥

-- what drives a leaf reads what the live statements read, a node what its expression reads, and the clock and the reset of a register what they read
abbrev pub ReadsTheSame : LeafModule → ℕ → Role → NetRole → Type 0
ReadsTheSame m x leafed.source source = Unit {0}
ReadsTheSame m x leafed.sink (driven t) = (y : ℕ) → In (net_reads t) y ↔ LiveReads (depth_at m x) x m.body y
ReadsTheSame m x (leafed.computed e) (computed t) = TermReads e t
ReadsTheSame m x (leafed.register clock reset) (register c r t) = TermReads clock c × ResetReads reset r
ReadsTheSame m x (leafed.reading e) (reading f) = Unit {0}
ReadsTheSame m x (leafed.pipe e clock under) (pipe f c u) = Unit {0}
ReadsTheSame m x _ _ = ⊥

abbrev pub RolesReadTheSame : Type 0
RolesReadTheSame = (m : LeafModule) (x : ℕ) → ReadsTheSame m x (role_at m x) (net_role_at m x)
