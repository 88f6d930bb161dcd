use Rattle.std.proofs.Common.{◌≡◌, ◌∷◌, ◌+◌, drop, Some, sym, ap, subst, ◌∙◌}
use Rattle.std.specs.Prelude.{slice_get}
use Rattle.std.proofs.lemmas.List.{drop_more}
use Rattle.std.proofs.lemmas.Option.{slice_get-get_or}
use Rattle.fir_net_names.proofs.NamedLeaves.{NamedPorts, ports_more, ports_same}
use Rattle.fir_net_names.proofs.leaf_names.port_names.Goals.{then-is_named_port+in_ok-take_name+in_ok-push, else-is_named_port+in_ok-push-2}
use Rattle.fir_net_names.proofs.leaf_names.port_names.Goals as goal

pub loop-leaf-preserved : goal.loop-leaf-preserved
loop-leaf-preserved c =
    let net = c.args.net.now in
    let i = c.loop-leaf.leaf-index in
    let leaf = c.leaf-item.result in
    let names = c.loop-leaf.names.items in
    let leaves = c.as_slice-leaves.result.now in
    let rest = drop (i + 1) net.leaves in
    let here : slice_get leaves i ≡ Some leaf = slice_get-get_or leaves i leaf c.loop-leaf-test.true ∙ ap Some (sym c.leaf-item.is) in
    let at : slice_get net.leaves i ≡ Some leaf = subst (λ ls. slice_get ls i ≡ Some leaf) c.as_slice-leaves.ensures here in
    let next : drop i net.leaves ≡ leaf ∷ rest =
    subst (λ ls. drop i ls ≡ leaf ∷ drop (i + 1) ls) c.as_slice-leaves.ensures (drop_more leaves i leaf c.loop-leaf-test.true ∙ ap (λ l. l ∷ drop (i + 1) leaves) (sym c.leaf-item.is)) in
    let so_far : NamedPorts net i (leaf ∷ rest) names c.loop-leaf.taken.names = subst (λ left. NamedPorts net i left names c.loop-leaf.taken.names) next c.loop-leaf.invariant in
    elim c.if-is_named_port.branch [
      | then-is_named_port+in_ok-take_name+in_ok-push w ↦
          let more = ports_more net i leaf rest names c.loop-leaf.taken.names so_far w.take_name.new.taken.names w.in_ok-take_name.field-0 at (sym c.is_named_port.ensures ∙ w.if-is_named_port.true) w.in_ok-take_name.ensures in
          rw (w.names-is, w.taken-is, w.in_ok-push.ensures.items) more
      | else-is_named_port+in_ok-push-2 w ↦
          let same = ports_same net i leaf rest names c.loop-leaf.taken.names so_far (sym c.is_named_port.ensures ∙ w.if-is_named_port.false) in
          rw (w.names-is, w.taken-is, w.in_ok-push-2.ensures.items) same
    ]
