use Rattle.std.proofs.Common.{◌≡◌, true, false, refl, sym, ap, ◌∙◌}
use Rattle.fir_leaf.specs.working.Nodes.{entries, node_term, picks_at}
use Rattle.fir_leaf.specs.working.ClockFaults.{index_places, picking_places}
use Rattle.fir_meaning.specs.working.TermReads.{is_among, reached}
use Rattle.fir_driven.proofs.LeafViews.{drive_view}
use Rattle.fir_flatten.proofs.SitesOfStatements.{among_is, lists_apart, lists_here}
use Rattle.fir_flatten.proofs.live_sites.list_drive.Goals as goal

pub returns-then-not-contains : goal.returns-then-not-contains
returns-then-not-contains c = λ depth.
    let nodes = c.args.nodes.now in
    let d = c.args.drive.now in
    let x = c.args.sought.leaf in
    let ps = picks_at (entries nodes) d.picks in
    let apart : is_among (reached d.leaf ps) x ≡ false =
    sym (c.contains.ensures.value ∙ among_is x c.deref.result.now ∙ ap (λ xs. is_among xs x) (c.deref.ensures.value ∙ c.in_ok-reached.ensures))
    ∙ c.if-not-contains.true in
    rw (drive_view nodes d) (lists_apart c.args.sought depth c.args.sites.now.items d.place d.leaf ps (node_term nodes d.given) apart)

pub returns : goal.returns
returns c = λ depth.
    let nodes = c.args.nodes.now in
    let d = c.args.drive.now in
    let x = c.args.sought.leaf in
    let ps = picks_at (entries nodes) d.picks in
    let t = node_term nodes d.given in
    let among : is_among (reached d.leaf ps) x ≡ true =
    sym (c.contains.ensures.value ∙ among_is x c.deref.result.now ∙ ap (λ xs. is_among xs x) (c.deref.ensures.value ∙ c.in_ok-reached.ensures))
    ∙ c.if-not-contains.false in
    rw (drive_view nodes d, c.is_picked.ensures, c.in_ok-push.ensures.items)
    (lists_here c.args.sought depth c.args.sites.now.items d.place d.leaf ps t _ among
    (record {
      place = refl;
      index = c.earlier.ensures (index_places ps) (picking_places t) c.first_index-through.ensures c.first_picking-given.ensures;
    }))
