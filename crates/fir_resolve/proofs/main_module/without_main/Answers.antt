use Rattle.std.proofs.Common.{◌∙◌, sym, ap}
use Rattle.std.specs.Prelude.{is_some}
use Rattle.fir_ast.specs.working.Views.{circuit_of, named_of}
use Rattle.fir_meaning.specs.Components.{find_name}
use Rattle.fir_meaning.specs.Mentions.{module_names}
use Rattle.fir_resolve.proofs.NumberedModules.{has_number, main_absent, main_there}
use Rattle.fir_resolve.proofs.main_module.without_main.Goals as goal

pub returns-then-contains_key : goal.returns-then-contains_key
returns-then-contains_key c = λ numbers.
    let names = module_names (circuit_of c.args.circuit.now) in
    let n = named_of c.args.circuit.now.ident in
    main_there (find_name names n.name) n
    (sym (has_number names n.name) ∙ ap is_some (sym (numbers.each n.name)) ∙ sym c.if-contains_key.ensures)

pub returns : goal.returns
returns c = λ numbers.
    let names = module_names (circuit_of c.args.circuit.now) in
    let n = named_of c.args.circuit.now.ident in
    main_absent (find_name names n.name) n _
    (sym (has_number names n.name) ∙ ap is_some (sym (numbers.each n.name)) ∙ sym c.if-contains_key.ensures)
    c.in_ok-no_module.ensures
