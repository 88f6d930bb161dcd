-- Beside what a block is judged.
use Rattle.ver_check.specs.declared.block.Beside.{Beside}
use Rattle.ver_check.specs.ItemFaults.{Before}
use Rattle.ver_check.specs.working.Known.{Knows, Drives}

-- the code knows what is declared before, and what blocks write before
pub record HasScope (beside : Beside) (before : Before) : Type 0 where
  pub scope : Knows beside.scope.now before.scope
  pub written : Drives beside.written.now before.written
