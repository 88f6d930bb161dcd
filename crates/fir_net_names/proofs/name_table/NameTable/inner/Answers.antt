use Rattle.std.proofs.lemmas.Result.{IfOk-weaker}
use Rattle.fir_net_names.specs.working.TableNames.{table_names}
use Rattle.std.proofs.Common.{sym, subst}
use Rattle.ver_words.specs.Names.{IsName}
use Rattle.fir_net_names.proofs.Unreserved.{inner_is_name}
use Rattle.fir_net_names.proofs.FreeNames.{inner_for}
use Rattle.fir_net_names.proofs.name_table.NameTable.inner.Goals as goal

pub returns-clause-first : goal.returns-clause-first
returns-clause-first c =
    let table = c.args.self.now in
    IfOk-weaker c.first_untaken.result _ _ (λ found first. inner_for table.taken (table_names table) c.args.from found first table.held) c.first_untaken.ensures

pub returns-clause-spelled : goal.returns-clause-spelled
returns-clause-spelled c = IfOk-weaker c.first_untaken.result _ _ (λ found first. subst IsName (sym first.is) (inner_is_name found.number)) c.first_untaken.ensures
