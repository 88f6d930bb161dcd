use Rattle.std.proofs.Common.{◌+◌, map, drop, sym, ap, ◌∙◌}
use Rattle.std.proofs.lemmas.List.{drop_all, drop_more}
use Rattle.fir_meaning.specs.OperationTypes.{operand_kinds}
use Rattle.fir_type_table.specs.working.Tables.{types_of}
use Rattle.fir_types.specs.working.Seen.{found_type}
use Rattle.fir_check.proofs.OperandKinds.{kinds_behind, kinds_done, kinds_first, kinds_next, kinds_none}
use Rattle.fir_check.proofs.operations.operand_kinds.Goals as goal

pub loop-found-init : goal.loop-found-init
loop-found-init c =
    let ts = types_of c.args.table.now in
    kinds_first c.new-kinds.result.items (operand_kinds c.args.resets (map (found_type ts) c.args.operands.now)) c.new-kinds.ensures.items

pub loop-found-preserved : goal.loop-found-preserved
loop-found-preserved c =
    let ts = types_of c.args.table.now in
    let operands = c.args.operands.now in
    let i = c.loop-found.found-index in
    let front = c.loop-found.kinds.items in
    let rest = map (found_type ts) (drop (i + 1) operands) in
    let left = ap (map (found_type ts)) (drop_more operands i _ c.loop-found-test.true) in
    kinds_next c.args.resets (operand_kinds c.args.resets (map (found_type ts) operands)) front _ rest c.in-Some.kind
    (sym (c.operand_kind.ensures _ c.sort.ensures) ∙ c.in-Some.is) (c.loop-found.invariant ∙ ap (λ us. kinds_behind front (operand_kinds c.args.resets us)) left)
    ∙ ap (λ kinds. kinds_behind kinds (operand_kinds c.args.resets rest)) (sym c.in_ok-push-in-Some.ensures.items)

pub returns-in-None : goal.returns-in-None
returns-in-None c =
    let ts = types_of c.args.table.now in
    let operands = c.args.operands.now in
    let i = c.loop-found.found-index in
    let front = c.loop-found.kinds.items in
    let rest = map (found_type ts) (drop (i + 1) operands) in
    let left = ap (map (found_type ts)) (drop_more operands i _ c.loop-found-test.true) in
    kinds_none c.args.resets (operand_kinds c.args.resets (map (found_type ts) operands)) front _ rest
    (sym (c.operand_kind.ensures _ c.sort.ensures) ∙ c.in-None.is) (c.loop-found.invariant ∙ ap (λ us. kinds_behind front (operand_kinds c.args.resets us)) left)

pub returns : goal.returns
returns c =
    let ts = types_of c.args.table.now in
    let operands = c.args.operands.now in
    let none = drop_all c.loop-found.found-index operands c.loop-found-test.false in
    kinds_done c.args.resets (operand_kinds c.args.resets (map (found_type ts) operands)) c.loop-found.kinds.items
    (c.loop-found.invariant ∙ ap (λ us. kinds_behind c.loop-found.kinds.items (operand_kinds c.args.resets (map (found_type ts) us))) none)
