-- What drives a leaf in the net reads what the live statements read, a node what its expression reads, and the clock and the reset of a register what they read.
use Rattle.std.proofs.Common.{ℕ, Option, Some, None, option_map}
use Rattle.fir_meaning.specs.working.LeafModules.{LeafModule, LeafReset, Role, computed, depth_at, pipe, reading, register, role_at, sink, source}
use Rattle.fir_connect.specs.working.NetRoles.{net_reset, net_role, net_types}
use Rattle.fir_connect.specs.working.RoleLaws.{ReadsTheSame, ResetReads, RolesReadTheSame}
use Rattle.fir_connect.proofs.DriverReading.{driver_reads}
use Rattle.fir_connect.proofs.LoweredReads.{lowered_reads}

role_reads : (m : LeafModule) (x : ℕ) (r : Role) → ReadsTheSame m x r (net_role (net_types m) (depth_at m x) m.body x r)
role_reads m x source = tt
role_reads m x sink = driver_reads (net_types m) (depth_at m) m.body x
role_reads m x (computed e) = lowered_reads (net_types m) e
role_reads m x (register clock reset) = (lowered_reads (net_types m) clock, reset_reads reset)
  where
    reset_reads : (r : Option LeafReset) → ResetReads r (option_map (net_reset (net_types m)) r)
    reset_reads None = tt
    reset_reads (Some r) = (lowered_reads (net_types m) r.condition, lowered_reads (net_types m) r.init)
role_reads m x (reading e) = tt
role_reads m x (pipe e clock under) = tt

pub roles_read_the_same : RolesReadTheSame
roles_read_the_same m x = role_reads m x (role_at m x)
