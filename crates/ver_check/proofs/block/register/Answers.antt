use Rattle.std.proofs.Common.{◌∙◌, sym}
use Rattle.std.specs.Prelude.{Some, None}
use Rattle.ver_fault.specs.View.{vfault_of}
use Rattle.ver_check.specs.Scopes.{kind_of, register_bits}
use Rattle.ver_check.specs.ItemFaults.{driven_faults, driver_of}
use Rattle.ver_check.proofs.Blocks.{known_kind, unknown_begins, lacking_begins}
use Rattle.ver_check.proofs.block.register.Goals as goal

pub returns-in_ok-undeclared-in-None-clause-found : goal.returns-in_ok-undeclared-in-None-clause-found
returns-in_ok-undeclared-in-None-clause-found c =
    λ before h.
    let n = c.args.name.now in
    unknown_begins register_bits c.args.place n (kind_of before.scope n) (vfault_of c.in_ok-undeclared-in-None.field-0)
    (driven_faults c.args.place n (driver_of before.written n))
    (known_kind c.args.beside.scope.now before.scope h.scope n None (sym c.find.ensures ∙ c.in-None.is)) c.in_ok-undeclared-in-None.ensures

pub returns-in-None-register_bits-clause-found : goal.returns-in-None-register_bits-clause-found
returns-in-None-register_bits-clause-found c =
    λ before h.
    let n = c.args.name.now in
    lacking_begins register_bits c.args.place n (kind_of before.scope n) c.in-Some.entry.kind (driven_faults c.args.place n (driver_of before.written n))
    (known_kind c.args.beside.scope.now before.scope h.scope n (Some c.in-Some.entry) (sym c.find.ensures ∙ c.in-Some.is))
    (sym c.register_bits.ensures ∙ c.in-None-register_bits.is)
