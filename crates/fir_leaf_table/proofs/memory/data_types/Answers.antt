use Rattle.std.proofs.Common.{None, length, sym, ap, ◌∙◌}
use Rattle.std.proofs.lemmas.List.{length-map}
use Rattle.std.proofs.lemmas.Result.{IfOk-weaker}
use Rattle.fir_ast.specs.working.TypeViews.{type_of}
use Rattle.fir_meaning.specs.WidthExpressions.{Widths}
use Rattle.fir_meaning.specs.working.LeafMemories.{count_of_data}
use Rattle.fir_leaf_circuit.specs.working.Seen.{type_seen}
use Rattle.fir_leaf_table.proofs.WordLeaves.{held_count}
use Rattle.fir_leaf_table.proofs.memory.data_types.Goals as goal

pub returns-in-Some-clause-count : goal.returns-in-Some-clause-count
returns-in-Some-clause-count c =
    let none : Widths = λ k. 0 in
    IfOk-weaker c.word_types.result _ _
    (λ types held.
    sym (length-map types.items type_seen) ∙ ap length (held none) ∙ held_count none None (type_of c.in-Some.ty.now)
    ∙ ap count_of_data c.in-Some.ensures)
    c.word_types.ensures
