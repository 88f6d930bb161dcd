use Rattle.std.proofs.Common.{◌≡◌, ℕ, ◌<◌, List, length, Some, refl, sym, ap, ◌∙◌, subst, slice_index, rules}
use Rattle.std.specs.Prelude.{slice_get}
use Rattle.std.proofs.lemmas.Option.{slice_get_read}
use Rattle.fir_net.specs.declared.reads.Read.TheVariants as read
use Rattle.fir_net.specs.declared.leaf.Leaf.{Leaf}
use Rattle.fir_tick.specs.working.Roots.{clocks_before, root_at, role_root}
use Rattle.fir_tick.proofs.ClockRoots.{none_rooted, leaf_rooted, node_rooted, all_rooted}
use Rattle.fir_tick.proofs.roots.find_roots.Goals as goal
use Rattle.fir_tick.proofs.roots.find_roots.Goals.{in-Leaf, in-Node}

pub loop-read-init : goal.loop-read-init
loop-read-init c = none_rooted c.args.net.now c.args.order.now c.args.roots.now c.requires.room

pub offset_bounds-leaves-number : goal.offset_bounds-leaves-number
offset_bounds-leaves-number c =
    let order = c.args.order.now in
    let n = c.loop-read.read-index in
    let at : slice_get order n ≡ Some (read.Leaf c.number-number.result) = slice_get_read order (length order) n c.read-item.result refl c.loop-read-test.true c.read-item.is ∙ ap Some (c.in-Leaf.is ∙ ap (λ (k : ℕ). read.Leaf k) (sym c.number-number.ensures)) in
    let below : c.number-number.result < length c.as_slice-leaves.result.now = subst (λ (ls : List Leaf). c.number-number.result < length ls) (sym c.as_slice-leaves.ensures) (c.requires.ordered.only n (read.Leaf c.number-number.result) at) in
    search rules

pub bounds-leaves-number : goal.bounds-leaves-number
bounds-leaves-number c =
    let order = c.args.order.now in
    let n = c.loop-read.read-index in
    let at : slice_get order n ≡ Some (read.Leaf c.number-number.result) = slice_get_read order (length order) n c.read-item.result refl c.loop-read-test.true c.read-item.is ∙ ap Some (c.in-Leaf.is ∙ ap (λ (k : ℕ). read.Leaf k) (sym c.number-number.ensures)) in
    subst (λ (ls : List Leaf). c.number-number.result < length ls) (sym c.as_slice-leaves.ensures) (c.requires.ordered.only n (read.Leaf c.number-number.result) at)

pub find_root-requires : goal.find_root-requires
find_root-requires c =
    let order = c.args.order.now in
    let n = c.loop-read.read-index in
    let at : slice_get order n ≡ Some (read.Leaf c.number-number.result) = slice_get_read order (length order) n c.read-item.result refl c.loop-read-test.true c.read-item.is ∙ ap Some (c.in-Leaf.is ∙ ap (λ (k : ℕ). read.Leaf k) (sym c.number-number.ensures)) in
    subst (λ (m : ℕ). c.number-number.result < m) (sym c.loop-read.invariant.room) (c.requires.ordered.only n (read.Leaf c.number-number.result) at)

pub loop-read-preserved : goal.loop-read-preserved
loop-read-preserved c =
    let net = c.args.net.now in
    let order = c.args.order.now in
    let roots = c.loop-read.roots in
    let n = c.loop-read.read-index in
    let here = slice_get_read order (length order) n c.read-item.result refl c.loop-read-test.true c.read-item.is in
    elim c.match-read.branch [
      | in-Leaf w ↦
          let k = w.number-number.result in
          let at : slice_get order n ≡ Some (read.Leaf k) = here ∙ ap Some (w.in-Leaf.is ∙ ap (λ (j : ℕ). read.Leaf j) (sym w.number-number.ensures)) in
          let below = c.requires.ordered.only n (read.Leaf k) at in
          let leaf : slice_get net.leaves k ≡ Some w.index-leaves-number.result = slice_get_read net.leaves (length net.leaves) k w.index-leaves-number.result refl below (rw c.as_slice-leaves.ensures at w.index-leaves-number.is) in
          let before : w.count_at.result ≡ slice_index (clocks_before 0 net.leaves) k = w.count_at.ensures ∙ ap (λ (ms : List ℕ). slice_index ms k) c.requires.numbers in
          rw (w.roots-is, w.find_root.ensures)
          (leaf_rooted net order c.requires.ordered roots n c.loop-read.invariant k w.index-leaves-number.result (role_root (root_at roots) w.count_at.result w.index-leaves-number.result.role) at leaf
          (ap (λ (m : ℕ). role_root (root_at roots) m w.index-leaves-number.result.role) before))
      | in-Node w ↦ rw w.roots-is (node_rooted net order c.requires.ordered roots n c.loop-read.invariant _ (here ∙ ap Some w.in-Node.is))
    ]

pub returns : goal.returns
returns c = all_rooted c.args.net.now c.args.order.now c.requires.ordered c.loop-read.roots c.loop-read.read-index c.loop-read-test.false c.loop-read.invariant
