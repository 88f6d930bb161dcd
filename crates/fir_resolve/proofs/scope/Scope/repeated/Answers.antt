use Rattle.std.proofs.Common.{◌∙◌, ap, sym, Some}
use Rattle.fir_ast.specs.working.Views.{named_of}
use Rattle.fir_pass.specs.Groups.{first_of}
use Rattle.fir_names.specs.working.Tabulated.{entry_named}
use Rattle.fir_names.proofs.TableEntries.{second_is, told_by_entry, none_by_entry}
use Rattle.fir_resolve.proofs.scope.Scope.repeated.Goals as goal

pub returns-in_ok-twice-in-Some : goal.returns-in_ok-twice-in-Some
returns-in_ok-twice-in-Some c = λ modules before w.
    let n = named_of c.args.ident.now in
    ap Some c.in_ok-twice-in-Some.ensures
    ∙ told_by_entry (entry_named modules 0 before.declared n.name) c.in-Some.first.now n (c.in-Some.ensures ∙ w.declared.by_name n.name)
    ∙ ap first_of (sym (second_is modules 0 before.declared n))

pub returns-in-None : goal.returns-in-None
returns-in-None c = λ modules before w.
    let n = named_of c.args.ident.now in
    none_by_entry (entry_named modules 0 before.declared n.name) n (c.in-None.ensures ∙ w.declared.by_name n.name)
    ∙ ap first_of (sym (second_is modules 0 before.declared n))
