use Rattle.std.proofs.Common.{◌≡◌, List, [], ◌∷◌, ◌++◌, sym, ap, ◌∙◌, subst, length, arith}
use Rattle.fir_type_table.specs.declared.entry.Entry.{Entry}
use Rattle.fir_type_table.specs.working.Fits.{IsTable}
use Rattle.fir_type_table.proofs.GrownTables.{table_more, put_adds}
use Rattle.fir_type_table.proofs.table.TypeTable.put.Goals as goal

pub invariant_of-self-2 : goal.invariant_of-self-2
invariant_of-self-2 c =
    let grown = c.in_ok-push.ensures.items ∙ ap (λ (l : List Entry). l ++ c.args.entry ∷ []) c.self.view_is in
    subst IsTable (sym grown) (table_more c.args.self.now c.args.entry (subst IsTable c.self.view_is c.self.invariant) c.requires)

pub returns : goal.returns
returns c =
    let grown = c.in_ok-push.ensures.items ∙ ap (λ (l : List Entry). l ++ c.args.entry ∷ []) c.self.view_is in
    let counted : c.len-number.result ≡ length c.args.self.now =
    omega (arith, ap length c.self.view_is, c.self.inside.entries.ok.0, c.len-number.ensures) in
    put_adds c.args.self.now c.push.new.self.items c.args.entry c.len-number.result grown counted
