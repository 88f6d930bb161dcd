-- What the walk knows of what stands before, and how it goes on.
use Rattle.std.specs.Prelude.{◌≡◌, List, [], ◌∷◌, map, flat_map, Result, Ok, Err, not, if◌then◌else◌}
use Rattle.fir_base.specs.Words.{is_among}
use Rattle.fir_base.specs.declared.refused.Refused.{Refused}
use Rattle.ver_fault.specs.declared.fault.VerFault.{VerFault}
use Rattle.ver_fault.specs.Faults.{VFault}
use Rattle.ver_check.specs.declared.walk.Walk.{Walk}
use Rattle.ver_check.specs.declared.walk.Due.{Due}
use Rattle.ver_check.specs.FaultForms.{undriven_fault}
use Rattle.ver_check.specs.Scopes.{Declaration, is_driven}
use Rattle.ver_check.specs.ItemFaults.{Before, Driver}
use Rattle.ver_check.specs.working.Findings.{IsRefusedFor}
use Rattle.ver_check.specs.working.Known.{Knows, Drives}

-- what an assign has to drive, with its place
abbrev pub due_of : Declaration → List Driver
due_of d = if is_driven d.kind then record { name = d.name; place = d.place } ∷ [] else []

abbrev pub due_in : Due → Driver
due_in d = record { name = d.name.now; place = d.place }

pub record Stands (walk : Walk) (before : Before) : Type 0 where
  pub scope : Knows walk.scope before.scope
  pub assigned : Drives walk.assigned before.assigned
  pub written : Drives walk.written before.written
  pub words : walk.words ≡ before.words
  pub due : map due_in walk.due.items ≡ flat_map due_of before.scope

-- goes on where there is no fault; else it is refused for the first
abbrev pub Steps : Result (Unit {0}) (Refused VerFault) → List VFault → Type 0 → Type 0
Steps (Ok x) fs After = (fs ≡ []) × After
Steps (Err e) fs After = IsRefusedFor e fs

-- of what has no driver
abbrev pub missing_faults : List Driver → Driver → List VFault
missing_faults assigned d = if not (is_among (map (λ x. x.name) assigned) d.name) then undriven_fault d.place d.name ∷ [] else []
