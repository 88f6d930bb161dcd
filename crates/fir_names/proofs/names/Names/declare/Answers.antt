use Rattle.std.proofs.Common.{◌∙◌, ap, sym}
use Rattle.fir_ast.specs.working.Views.{named_of}
use Rattle.fir_meaning.specs.Components.{find}
use Rattle.fir_names.proofs.GrownTables.{entry_by, tabulates_more}
use Rattle.fir_names.proofs.names.Names.declare.Goals as goal

pub returns : goal.returns
returns c = λ modules ds d t none named component depth.
    let spelled = ap (λ n. n.name) (sym named) in
    tabulates_more modules c.args.self.now (record { declarations = c.insert.new.self; noted = c.args.self.now.noted }) ds d c.in_ok-name.name _ c.in_ok-insert.ensures.entries
    (c.in_ok-name.ensures.items ∙ c.as_bytes.ensures ∙ spelled)
    (entry_by modules d (named_of c.args.ident.now) c.args.component c.len.result _ c.args.depth named component c.len.ensures.len depth)
    (ap (find ds) (sym spelled) ∙ none) t
