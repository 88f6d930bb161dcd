use Rattle.std.proofs.Common.{◌≡◌, Some, sym, ◌∙◌}
use Rattle.fir_leaf.specs.declared.node.Node.TheVariants as code
use Rattle.fir_driven.proofs.IndexEntries.{index_is, no_index, past_picks}
use Rattle.fir_driven.proofs.reached.index_at.Goals as goal

pub returns-in_err-pick-clause-none : goal.returns-in_err-pick-clause-none
returns-in_err-pick-clause-none c =
    let place : c.args.picks ≡ Some c.in_ok-place.place = c.in_ok-place.was in
    rw (c.from_residual-in_err-pick.ensures, place) (past_picks c.args.nodes.now c.in_ok-place.place c.in_err-pick.ensures.lookup.3)

pub returns-in-Pick-clause-index : goal.returns-in-Pick-clause-index
returns-in-Pick-clause-index c =
    let there = c.in_ok-pick.ensures.lookup.3 in
    let place : c.args.picks ≡ Some c.in_ok-place.place = c.in_ok-place.was in
    rw place (index_is c.args.nodes.now c.in_ok-place.place c.in-Pick.pick c.earlier.result there.0 (sym c.in-Pick.is ∙ there.1 (code.Pick c.in-Pick.pick))
    c.earlier.ensures)

pub returns-in_default : goal.returns-in_default
returns-in_default c = record {
  index = tt;
  none =
      let there = c.in_ok-pick.ensures.lookup.3 in
      let node = c.in_ok-pick.field-0.now in
      let place : c.args.picks ≡ Some c.in_ok-place.place = c.in_ok-place.was in
      rw place (no_index c.args.nodes.now c.in_ok-place.place node there.0 (there.1 node) c.in_default.not-Pick);
}
