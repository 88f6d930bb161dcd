-- What a list of calls that are to fail says of a call.
use Rattle.std.specs.Prelude.{ℕ, nat_eq, List, Option, find, option_map}
use Rattle.fir_io.specs.declared.planned.CallFault.{CallFault}
use Rattle.fir_io.specs.declared.planned.FailingCall.{FailingCall}

-- the fault of the first entry for call n, where there is one
abbrev pub planned : List FailingCall → ℕ → Option CallFault
planned failing n = option_map (λ f. f.fault) (find (λ f. nat_eq f.call n) failing)
