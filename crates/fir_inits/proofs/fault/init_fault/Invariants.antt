use Rattle.std.proofs.Common.{◌≡◌, ℕ, ◌<◌, Some}
use Rattle.std.specs.Prelude.{slice_get}
use Rattle.fir_inits.specs.declared.registers.AsyncRegister.{AsyncRegister}
use Rattle.fir_inits.specs.working.Searched.{IsIdle, IsMet}
use Rattle.fir_inits.proofs.fault.init_fault.Given as goal

abbrev pub invariant-loop-register : goal.invariant-loop-register
invariant-loop-register l = record {
  idle : IsIdle l.net l.search;
  met : (i : ℕ) (r : AsyncRegister) → i < l.register-index → slice_get l.register-items i ≡ Some r → IsMet l.search.met.items r.init;
}
