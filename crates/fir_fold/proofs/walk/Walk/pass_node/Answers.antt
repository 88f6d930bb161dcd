use Rattle.std.proofs.Common.{◌≤◌, slice_set, sym, ap, ◌∙◌, subst}
use Rattle.fir_fold.specs.working.Standing.{Standing}
use Rattle.fir_fold.specs.working.Walking.{Walking}
use Rattle.fir_fold.proofs.ReadingNodes.{is_simplified, is_ready, item_is}
use Rattle.std.specs.List.{AllByRecursion}
use Rattle.fir_base.proofs.Each.{all_from}
use Rattle.fir_base.proofs.Elements.{number_of}
use Rattle.fir_net.specs.declared.leaf.Leaf.{Leaf}
use Rattle.fir_fold.proofs.walk.Walk.pass_node.Goals as goal

pub simplified-requires-clause-narrow : goal.simplified-requires-clause-narrow
simplified-requires-clause-narrow c =
    subst (AllByRecursion (λ (l : Leaf). l.width ≤ 128)) (sym c.as_slice-2.ensures)
    (all_from (λ (l : Leaf). l.width ≤ 128) c.args.net.now.leaves
    (λ l m. let place = number_of c.args.net.now.leaves l m in c.requires.narrow place.0 l place.1))

pub simplified-requires-clause-node : goal.simplified-requires-clause-node
simplified-requires-clause-node c =
    let n = c.requires.node.1 in
    let item = c.index-as_slice-number.is ∙ item_is c.as_slice.result.now c.args.net.now.nodes c.number.result c.args.number c.index-as_slice-number.result n.0 c.as_slice.ensures c.number.ensures n.1 in
    is_ready c.args.net.now.leaves c.as_slice-2.result.now c.args.self.now _ n.0 c.index-as_slice-number.result c.in_ok-node.node c.as_slice-2.ensures c.self.view_is item c.in_ok-node.ensures n.2

pub returns : goal.returns
returns c =
    let n = c.requires.node.1 in
    let item = c.index-as_slice-number.is ∙ item_is c.as_slice.result.now c.args.net.now.nodes c.number.result c.args.number c.index-as_slice-number.result n.0 c.as_slice.ensures c.number.ensures n.1 in
    let k = c.args.number in
    let r = c.in_ok-stands.stands in (
      n.0,
      n.1,
      record {
        put = c.put_for.new.self;
        by = r;
        replacement = c.in_ok-replacement.replacement;
        simplifies =
            is_simplified c.args.net.now.leaves c.as_slice-2.result.now c.args.self.now _ n.0 c.index-as_slice-number.result c.in_ok-node.node c.in_ok-replacement.replacement c.as_slice-2.ensures c.self.view_is item c.in_ok-node.ensures
            c.in_ok-replacement.ensures;
        puts = c.in_ok-stands.ensures;
        is =
            ap (λ (s : Standing). record { stands = s; nodes = c.self-2.inside.nodes.keys; entries = c.self-2.inside.entries.items }) c.set_node.ensures
            ∙ ap (λ (w : Walking). record { stands = record { leaves = w.stands.leaves; nodes = slice_set w.stands.nodes k r }; nodes = w.nodes; entries = w.entries }) c.self-2.view_is;
      },
    )
