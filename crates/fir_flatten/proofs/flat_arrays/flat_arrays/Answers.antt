-- The arrays are made in turn.
use Rattle.std.proofs.Common.{◌≡◌, ◌++◌, List, length, sym, ap, ◌∙◌}
use Rattle.std.proofs.lemmas.List.{map-id}
use Rattle.std.proofs.lemmas.Iterator.Adapters.{YieldsList-from_vec}
use Rattle.std.proofs.lemmas.Iterator.Consumers.{YieldsList-end}
use Rattle.fir_net.specs.declared.array.Array.{Array}
use Rattle.fir_flatten.specs.declared.design_arrays.DesignArray.{DesignArray}
use Rattle.fir_flatten.specs.working.FlatArrays.{flat_array_of, nodes_of_array}
use Rattle.fir_flatten.proofs.AddedInTurn.{added, made, so_far_more, so_far_none}
use Rattle.fir_flatten.proofs.WrittenArrays.{arrays_add, arrays_made}
use Rattle.fir_flatten.proofs.flat_arrays.flat_arrays.Goals as goal

pub loop-array-init : goal.loop-array-init
loop-array-init c = rw c.in_ok-arrays.ensures.items (so_far_none DesignArray Array flat_array_of nodes_of_array c.args.nodes.now.items)

pub loop-array-preserved : goal.loop-array-preserved
loop-array-preserved c =
    rw c.in_ok-push.ensures.items
    (so_far_more DesignArray Array flat_array_of nodes_of_array c.args.nodes.now.items c.loop-array.nodes.items c.flat_array.new.nodes.items c.loop-array.yielded
    c.in-Some.array c.loop-array.arrays.items _ c.loop-array.invariant c.in_ok-flat_array.ensures.array c.in_ok-flat_array.ensures.nodes)

pub returns-clause-arrays : goal.returns-clause-arrays
returns-clause-arrays c =
    let all = YieldsList-end (YieldsList-from_vec c.args.declared.items (cc) (cc)) c.loop-array.yielded c.loop-array.array-iterator c.loop-array.yielded_by
    c.next.result c.next.new.self c.in-None.is c.next.ensures.steps in
    let whole : c.loop-array.yielded ≡ c.args.declared.items = sym (map-id c.loop-array.yielded) ∙ all.0 in
    c.loop-array.invariant.are
    ∙ ap (λ (xs : List DesignArray). made DesignArray Array flat_array_of nodes_of_array xs (length c.args.nodes.now.items)) whole
    ∙ arrays_made c.args.declared.items (length c.args.nodes.now.items)

pub returns-clause-nodes : goal.returns-clause-nodes
returns-clause-nodes c =
    let all = YieldsList-end (YieldsList-from_vec c.args.declared.items (cc) (cc)) c.loop-array.yielded c.loop-array.array-iterator c.loop-array.yielded_by
    c.next.result c.next.new.self c.in-None.is c.next.ensures.steps in
    let old = c.args.nodes.now.items in
    let whole : c.loop-array.yielded ≡ c.args.declared.items = sym (map-id c.loop-array.yielded) ∙ all.0 in
    c.loop-array.invariant.nodes
    ∙ ap (λ (xs : List DesignArray). old ++ added DesignArray Array flat_array_of nodes_of_array xs (length old)) whole
    ∙ ap (λ ns. old ++ ns) (arrays_add c.args.declared.items (length old))
