use Rattle.std.proofs.Common.{◌≡◌, ◌++◌, map, drop}
use Rattle.ver_ast.specs.Names.{rhs_names}
use Rattle.ver_valid.specs.working.Drivers.{drivers_of}
use Rattle.ver_valid.proofs.ordered.assign_drivers.Given as goal

abbrev pub invariant-loop-assign : goal.invariant-loop-assign
invariant-loop-assign l =
    l.found.items ++ map (λ a. drivers_of l.drivers (rhs_names a.now.rhs)) (drop l.assign-index l.assigns)
    ≡ map (λ a. drivers_of l.drivers (rhs_names a.now.rhs)) l.assigns
