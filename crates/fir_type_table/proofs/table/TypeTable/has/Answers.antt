use Rattle.std.proofs.Common.{◌≡◌, length, sym, ap, ◌∙◌, arith}
use Rattle.std.specs.Prelude.{nat_lt}
use Rattle.fir_type_table.proofs.TableTypes.{length_types}
use Rattle.fir_type_table.proofs.table.TypeTable.has.Goals as goal

pub returns : goal.returns
returns c =
    let counted : c.len.result ≡ length c.args.self.now = omega (arith, ap length c.self.view_is, c.self.inside.entries.ok.0, c.len.ensures) in
    ap (nat_lt c.args.id.number) (counted ∙ sym (length_types c.args.self.now))
