use Rattle.std.proofs.Common.{◌≡◌, ◌++◌, take}
use Rattle.std.specs.Prelude.{flat_map}
use Rattle.fir_flatten.specs.working.DesignArrays.{arrays_of_part}
use Rattle.fir_flatten.specs.working.PutModules.{part_of}
use Rattle.fir_flatten.proofs.design_arrays.design_arrays.Given as goal

abbrev pub invariant-loop-copy : goal.invariant-loop-copy
invariant-loop-copy l =
    l.arrays.items ≡ l.initial.arrays.items ++ flat_map (λ k. arrays_of_part k (part_of l.modules k)) (take l.copy-index l.copies)
