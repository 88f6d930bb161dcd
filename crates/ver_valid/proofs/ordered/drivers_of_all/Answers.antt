use Rattle.std.proofs.Common.{ℕ, List}
use Rattle.std.specs.Prelude.{Vec}
use Rattle.std.specs.declared.alloc.Global.{Global}
use Rattle.std.proofs.lemmas.Result.{IfOk-weaker}
use Rattle.ver_valid.specs.working.Drivers.{IsProcessGraph}
use Rattle.ver_valid.proofs.ProcessReads.{process_drivers}
use Rattle.ver_valid.proofs.ordered.drivers_of_all.Goals as goal

pub returns : goal.returns
returns c =
    IfOk-weaker c.drivers_by.result _ (λ (found : Vec (List ℕ) Global). IsProcessGraph c.args.v.now found.items)
    (λ (found : Vec (List ℕ) Global) all. record {
      drivers = c.in_ok-drivers.drivers;
      drive = c.in_ok-drivers.ensures;
      are = process_drivers c.args.v.now c.in_ok-drivers.drivers c.args.assigns.now c.args.blocks.now found.items c.requires.assigns c.requires.blocks all;
    })
    c.drivers_by.ensures
