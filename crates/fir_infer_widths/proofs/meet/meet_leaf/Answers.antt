use Rattle.fir_meaning.specs.WidthRules.{bound}
use Rattle.fir_meaning.specs.SizedMatches.{matches}
use Rattle.fir_meaning.specs.SizedTypes.{scalar}
use Rattle.fir_type_table.specs.working.Tables.{types_of}
use Rattle.fir_infer_widths.specs.working.Meetings.{asked_by}
use Rattle.fir_infer_widths.proofs.MeetLeaves.{sorted_leaf, straight_leaves, turned_leaves, asked_same}
use Rattle.fir_infer_widths.proofs.meet.meet_leaf.Goals as goal

pub returns-in_default : goal.returns-in_default
returns-in_default c = λ meant rules k v t keeps has side.
    let leaf = sorted_leaf (types_of c.args.table.now) meant c.args.right t c.sort.result side c.sort.ensures c.in_default.not-Bundle c.in_default.not-Vector in
    asked_same c.ask.result meant rules (bound leaf.width v) (asked_by (matches c.args.turned (scalar k v) t)) c.ask.new.self
    (turned_leaves c.args.turned k leaf.kind v leaf.width t c.if-turned.true leaf.is) (c.ask.ensures meant rules leaf.width v keeps leaf.has has)

pub returns-in_default-2 : goal.returns-in_default-2
returns-in_default-2 c = λ meant rules k v t keeps has side.
    let leaf = sorted_leaf (types_of c.args.table.now) meant c.args.right t c.sort.result side c.sort.ensures c.in_default.not-Bundle c.in_default.not-Vector in
    asked_same c.ask-in_default-2.result meant rules (bound v leaf.width) (asked_by (matches c.args.turned (scalar k v) t)) c.ask-in_default-2.new.self
    (straight_leaves c.args.turned k leaf.kind v leaf.width t c.if-turned.false leaf.is) (c.ask-in_default-2.ensures meant rules v leaf.width keeps has leaf.has)
