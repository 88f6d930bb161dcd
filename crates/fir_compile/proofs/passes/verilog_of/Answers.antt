use Rattle.ver_ast.specs.working.Laws.{with_places}
use Rattle.fir_compile.proofs.Compiles.{compiles}
use Rattle.fir_compile.proofs.Emitted.{emits}
use Rattle.fir_compile.proofs.passes.verilog_of.Goals as goal

pub lower_pipes-requires-clause-whole : goal.lower_pipes-requires-clause-whole
lower_pipes-requires-clause-whole c = c.in_ok-compiled.ensures.compiled.flattened.whole

pub build-requires-clause-words : goal.build-requires-clause-words
build-requires-clause-words c =
    let h = c.in_ok-compiled.ensures.compiled in
    c.in_ok-lowered.ensures.lowers.names (h.flattened.words (c.spelled_names_are_words.ensures c.args.bytes.now h.circuit h.taken.spelled))

pub returns : goal.returns
returns c =
    let h = c.in_ok-compiled.ensures.compiled in
    let net = c.in_ok-compiled.compiled.net in
    let lowered = c.in_ok-lowered.lowered.0 in
    let order = c.in_ok-lowered.lowered.1 in
    let lowers = c.in_ok-lowered.ensures.lowers in
    let verilog = c.in_ok-verilog.verilog in
    let built = c.in_ok-verilog.ensures in
    emits c.spells_one_tree.ensures c.spells_one_tree-2.ensures c.layout_is_spelled.ensures c.layout_has_no_comment.ensures c.args.bytes.now _ h.circuit verilog h.taken
    (λ places.
    compiles c.nodes_have_their_types.ensures h.circuit net h.flattened h.one lowered lowers order c.in_ok-lowered.ensures.ordered
    (c.ordered_has_one.ensures lowered order lowers.whole c.in_ok-lowered.ensures.ordered) (with_places verilog places)
    (c.built_has_any_places.ensures lowered verilog places built))
    built.valid built.named.spelled c.in_ok-write_verilog.ensures
