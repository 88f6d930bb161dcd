use Rattle.std.proofs.Common.{sym, ap, ◌∙◌}
use Rattle.std.specs.Prelude.{option_copied}
use Rattle.fir_names.proofs.TablesByNumber.{item_is}
use Rattle.fir_flatten.specs.working.PutModules.{ports_of}
use Rattle.fir_flatten.proofs.PutLeaves.{main_is}
use Rattle.fir_flatten.proofs.design_net.main_ports.Goals as goal

pub returns-in-Some-get : goal.returns-in-Some-get
returns-in-Some-get c =
    let parts = c.args.modules.now in
    let main = c.in-Some.main.now in
    let first = sym c.first.ensures.value ∙ ap option_copied c.in-Some.is in
    let there = sym (item_is parts main.module_number c.get.result c.get.ensures.lookup) ∙ ap option_copied c.in-Some-get.is in
    ap ports_of (sym (main_is parts c.args.copies.now main first ∙ there))

pub returns-in-None-get : goal.returns-in-None-get
returns-in-None-get c =
    let parts = c.args.modules.now in
    let main = c.in-Some.main.now in
    let first = sym c.first.ensures.value ∙ ap option_copied c.in-Some.is in
    let missing = sym (item_is parts main.module_number c.get.result c.get.ensures.lookup) ∙ ap option_copied c.in-None-get.is in
    ap ports_of (sym (main_is parts c.args.copies.now main first ∙ missing))
