use Rattle.std.proofs.Common.{◌≡◌, ℕ, ◌+◌, ◌++◌}
use Rattle.fir_meaning.specs.working.TermReads.{multiples}
use Rattle.fir_driven.proofs.reached.push_elements.Given as goal

abbrev pub invariant-loop : goal.invariant-loop
invariant-loop l =
    (left : ℕ) → l.counter + left ≡ l.pick.length
    → l.fn.leaves.items ++ multiples l.first l.pick.length l.pick.stride ≡ l.leaves.items ++ multiples l.leaf left l.pick.stride
