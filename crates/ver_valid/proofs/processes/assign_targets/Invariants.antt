use Rattle.std.proofs.Common.{◌≡◌, ◌++◌, map, drop}
use Rattle.ver_ast.specs.Nets.{targets}
use Rattle.ver_valid.proofs.processes.assign_targets.Given as goal

abbrev pub invariant-loop-assign : goal.invariant-loop-assign
invariant-loop-assign l = map (λ n. n.now) l.names.items ++ targets (map (λ a. a.now) (drop l.assign-index l.assigns)) ≡ targets (map (λ a. a.now) l.assigns)
