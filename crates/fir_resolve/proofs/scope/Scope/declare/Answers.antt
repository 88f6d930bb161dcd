use Rattle.std.proofs.Common.{◌∙◌, refl, sym}
use Rattle.fir_ast.specs.working.Views.{named_of}
use Rattle.fir_meaning.specs.Visibility.{declaration_at}
use Rattle.fir_names.proofs.TableEntries.{unnamed}
use Rattle.fir_resolve.proofs.WalkedScopes.{walks_more}
use Rattle.fir_resolve.proofs.scope.Scope.declare.Goals as goal

pub returns-clause-walks : goal.returns-clause-walks
returns-clause-walks c = λ modules before component w none is.
    let n = named_of c.args.ident.now in
    walks_more modules c.args.self.now (record { names = c.declare.new.self; opened = c.args.self.now.opened }) before n component refl
    (c.in_ok-declare.ensures modules before.declared (declaration_at before n component) w.declared (unnamed before.declared n.name none) refl is
    (c.len-depth.ensures ∙ c.args.self.now.opened.ok.0 ∙ sym w.depth))
    w
