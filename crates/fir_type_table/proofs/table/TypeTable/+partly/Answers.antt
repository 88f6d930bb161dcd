use Rattle.std.proofs.Common.{◌∙◌, sym, ap}
use Rattle.fir_ast.specs.Types.{bundle}
use Rattle.fir_meaning.specs.Equivalence.{is_partly_connectable}
use Rattle.fir_type_table.specs.working.Meetings.{fields_partly_met}
use Rattle.fir_type_table.specs.working.Tables.{made_of, member_fields, members_at, type_at, types_of}
use Rattle.fir_type_table.proofs.PartlyMet.{fields_met_are}
use Rattle.fir_type_table.proofs.table.TypeTable.+partly.Goals as goal

pub fit_partly-returns-in-Bundle-Bundle : goal.fit_partly-returns-in-Bundle-Bundle
fit_partly-returns-in-Bundle-Bundle t c =
    let table = c.args.self.now in
    let fs = member_fields (types_of table) (members_at table c.args.a.number) in
    let gs = member_fields (types_of table) (members_at table c.args.b.number) in
    let a_is = c.kind.ensures.made ∙ ap (λ k. made_of (types_of table) k (members_at table c.args.a.number)) c.in-Bundle-Bundle.is-0 in
    let b_is = c.in-Bundle-Bundle.ensures.made in
    c.fields_fit_partly.ensures ∙ ap (fields_partly_met fs) b_is ∙ fields_met_are fs gs
    ∙ ap (λ u. is_partly_connectable u (bundle gs)) (sym a_is) ∙ ap (is_partly_connectable (type_at (types_of table) c.args.a.number)) (sym b_is)
