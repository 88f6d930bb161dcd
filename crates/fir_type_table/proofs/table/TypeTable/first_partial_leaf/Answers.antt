use Rattle.fir_meaning.specs.ConnectPairs.{partial_pairs}
use Rattle.fir_type_table.specs.working.Tables.{type_at, types_of}
use Rattle.fir_type_table.specs.working.Wanted.{first_wanted}
use Rattle.fir_type_table.specs.working.Lefts.{left_leaves}
use Rattle.fir_type_table.proofs.WantedPaths.{path_told, none_told}
use Rattle.fir_type_table.proofs.PairedLefts.{wanted_of_lefts}
use Rattle.fir_type_table.proofs.table.TypeTable.first_partial_leaf.Goals as goal

pub returns-then-branch : goal.returns-then-branch
returns-then-branch c =
    let a = type_at (types_of c.args.self.now) c.args.a.number in
    let b = type_at (types_of c.args.self.now) c.args.b.number in
    path_told c.new-path.result.items c.find_partial_leaf.new.path.items c.in_ok-find_partial_leaf.field-0
    (first_wanted c.args.straight c.args.flipped (left_leaves a b)) _ c.new-path.ensures.items c.if-branch.true
    (wanted_of_lefts c.args.straight c.args.flipped (partial_pairs a b)) c.in_ok-find_partial_leaf.ensures

pub returns : goal.returns
returns c =
    let a = type_at (types_of c.args.self.now) c.args.a.number in
    let b = type_at (types_of c.args.self.now) c.args.b.number in
    none_told c.new-path.result.items c.find_partial_leaf.new.path.items c.in_ok-find_partial_leaf.field-0
    (first_wanted c.args.straight c.args.flipped (left_leaves a b)) _ c.if-branch.false
    (wanted_of_lefts c.args.straight c.args.flipped (partial_pairs a b)) c.in_ok-find_partial_leaf.ensures
