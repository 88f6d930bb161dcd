use Rattle.std.proofs.Common.{◌≡◌, ℕ, [], ◌∷◌, ◌++◌, List, refl, sym, ap, ap₂, ◌∙◌}
use Rattle.std.proofs.lemmas.List.{map_more, take_all}
use Rattle.fir_net.specs.declared.node.Node.TheVariants as node
use Rattle.fir_net.specs.declared.node.Operation.{Operation}
use Rattle.fir_net.specs.declared.reads.Read.{Read}
use Rattle.fir_flatten.specs.declared.offsets.Offsets.{Offsets}
use Rattle.fir_flatten.specs.working.MovedNets.{node_moved, read_moved, reads_moved}
use Rattle.fir_flatten.proofs.moved_roles.moved_node.Goals as goal

pub loop-read-preserved : goal.loop-read-preserved
loop-read-preserved c =
    let at = c.args.at.now in
    c.in_ok-push-in-Operation.ensures ∙ ap₂ (λ reads read. reads ++ read ∷ []) c.loop-read.invariant (c.read.ensures ∙ ap (read_moved at) c.read-item.is)
    ∙ sym (map_more (read_moved at) c.as_slice-read-items.result.now c.loop-read.read-index c.read-item.result c.loop-read-test.true)

same_operation : (at : Offsets) (o : Operation) (reads : List Read) (integers : List ℕ) → reads ≡ reads_moved at o.reads → integers ≡ o.integers
    → node.Operation (record o { reads = reads; integers = integers }) ≡ node_moved at (node.Operation o)
same_operation at o reads integers e f = rw (e, f) refl

pub returns-in_ok-integers-in-Operation : goal.returns-in_ok-integers-in-Operation
returns-in_ok-integers-in-Operation c =
    let at = c.args.at.now in
    let all = take_all c.loop-read.read-index c.as_slice-read-items.result.now c.loop-read-test.false ∙ c.as_slice-read-items.ensures in
    same_operation at c.in-Operation.operation c.loop-read.reads c.from_vec.result (c.loop-read.invariant ∙ ap (reads_moved at) all)
    (c.from_vec.ensures ∙ c.in_ok-integers-in-Operation.ensures.items ∙ c.as_slice.ensures)
    ∙ ap (node_moved at) (sym c.in-Operation.is)
