-- The roles of a module's leaves in its net are whole: what drives a leaf, what a node is, and what a register takes at its reset.
use Rattle.std.proofs.Common.{◌≡◌, ℕ, ◌<◌, length, Bool, true, false, Option, Some, None, option_map, ap, subst}
use Rattle.fir_bits.specs.declared.types.NumTy.{NumTy}
use Rattle.fir_meaning.specs.working.LeafModules.{LeafModule, LeafReset, Role, computed, depth_at, pipe, reading, register, role_at, sink, source}
use Rattle.fir_meaning.specs.LeafTypes.{number}
use Rattle.fir_meaning.specs.working.Terms.{Term}
use Rattle.fir_leaf_types.specs.working.TypedModules.{IsModuleTyped, IsResetTyped, IsRoleTyped, held_in}
use Rattle.fir_connect.specs.working.Drivers.{driver_of, start}
use Rattle.fir_connect.specs.working.NetRoles.{net_reset, net_role, net_types}
use Rattle.fir_connect.proofs.GivenTerms.{given_number}
use Rattle.fir_connect.proofs.LoweredTypes.{lowered_type}
use Rattle.fir_flat.specs.working.WholeRoles.{IsModuleWithin, IsResetWhole, IsResetWithin, IsRoleWhole, IsRoleWithin, MayDrive, RolesAreWhole}
use Rattle.fir_flat.proofs.WholeDrivers.{driver_all_may, lowered_may, start_may}
use Rattle.fir_flat.proofs.WholeLowered.{lowered_whole}

module _ (m : LeafModule) where
  reset_whole : (u : NumTy) (clock : Term) (reset : Option LeafReset) → IsResetTyped (held_in m) (number u) reset
      → IsResetWithin (length m.leaves) reset → IsResetWhole m u (option_map (net_reset (net_types m)) reset)
  reset_whole u clock None has inside = tt
  reset_whole u clock (Some r) has inside = (
    lowered_whole (held_in m) (length m.leaves) r.condition _ has.0 inside.0,
    lowered_type (held_in m) r.condition _ has.0,
    lowered_may m u r.init (given_number (held_in m) r.init has.2 u has.1) inside.1,
  )

  module _ (typed : IsModuleTyped m) (within : IsModuleWithin m) (x : ℕ) (u : NumTy) (below : x < length m.leaves) (is : held_in m x ≡ number u) where
    driver_whole : (is_register : Bool) → MayDrive m u (driver_of (net_types m) (depth_at m x) is_register m.body x)
    driver_whole is_register =
        driver_all_may m x u is (depth_at m x) m.body 0 (start (net_types m) is_register x) typed.body within.body (start_may m x u is is_register below)

    role_whole : (r : Role) → IsRoleTyped (held_in m) (number u) r → IsRoleWithin (length m.leaves) r
        → IsRoleWhole m u (net_role (net_types m) (depth_at m x) m.body x r)
    role_whole source has inside = tt
    role_whole sink has inside = driver_whole false
    role_whole (computed t) has inside = record {
      whole = lowered_whole (held_in m) (length m.leaves) t u has inside;
      kind = ap (λ (z : NumTy). z.signed) (lowered_type (held_in m) t u has);
    }
    role_whole (register clock reset) has inside = (reset_whole u clock reset has.2 inside.1, driver_whole true)
    role_whole (reading r) has inside = tt
    role_whole (pipe r clock under) has inside = tt

pub roles_are_whole : RolesAreWhole
roles_are_whole m x u typed within below is =
    role_whole m typed within x u below is (role_at m x) (subst (λ h. IsRoleTyped (held_in m) h (role_at m x)) is (typed.roles x below))
    (within.roles x below)
