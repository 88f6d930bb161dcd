use Rattle.std.proofs.Common.{List, length, sym, ap, ◌∙◌, subst}
use Rattle.fir_net.specs.declared.net.FlatNet.{FlatNet}
use Rattle.fir_net.specs.declared.reads.Read.{Read}
use Rattle.fir_net.specs.working.IsOrder.{IsOrder}
use Rattle.fir_equivalence.specs.working.Rewrites.{Rewrites}
use Rattle.fir_fold.specs.working.IsFolded.{IsFolded}
use Rattle.fir_fold.specs.working.Walking.{IsWalked, Walking}
use Rattle.fir_fold.proofs.FoldedNodes.{is_folded}
use Rattle.fir_fold.proofs.FoldedOrders.{ordered_folded}
use Rattle.fir_fold.proofs.Given.{as_given, is_given}
use Rattle.fir_fold.proofs.Rewritten.{rewrites}
use Rattle.fir_fold.proofs.folding.rewritten.Goals as goal

pub returns-clause-rewrites : goal.returns-clause-rewrites
returns-clause-rewrites c =
    let net = c.args.net in
    let order = c.args.order in
    let w = c.in_ok-stands.field-0 in
    let h : IsWalked net order (length order) w = subst (λ (o : List Read). IsWalked net o (length o) w) c.as_slice.ensures c.in_ok-stands.ensures in
    let given =
    is_given net w _ c.leaves_anew.result c.replace-leaves.result c.from_vec-3.result c.arrays_anew.result c.replace-arrays.result c.stands.view_is c.leaves_anew.ensures c.replace-leaves.ensures.value
    (c.from_vec-3.ensures ∙ c.in_ok-nodes.ensures) c.arrays_anew.ensures c.replace-arrays.ensures.value in
    as_given (λ (other : FlatNet). Rewrites net other (λ k. k)) net w c.leaves_anew.result c.from_vec-3.result c.arrays_anew.result given
    (rewrites c.nodes_have_their_values.ensures c.nodes_have_their_types.ensures net order c.requires.ordered c.requires.whole w h)

pub returns-clause-ordered : goal.returns-clause-ordered
returns-clause-ordered c =
    let net = c.args.net in
    let order = c.args.order in
    let w = c.in_ok-stands.field-0 in
    let h : IsWalked net order (length order) w = subst (λ (o : List Read). IsWalked net o (length o) w) c.as_slice.ensures c.in_ok-stands.ensures in
    let given =
    is_given net w _ c.leaves_anew.result c.replace-leaves.result c.from_vec-3.result c.arrays_anew.result c.replace-arrays.result c.stands.view_is c.leaves_anew.ensures c.replace-leaves.ensures.value
    (c.from_vec-3.ensures ∙ c.in_ok-nodes.ensures) c.arrays_anew.ensures c.replace-arrays.ensures.value in
    let entries = c.from_vec-4.ensures ∙ ap (λ (u : Walking). u.entries) c.stands.view_is in
    as_given (λ (other : FlatNet). IsOrder other c.from_vec-4.result) net w c.leaves_anew.result c.from_vec-3.result c.arrays_anew.result given
    (subst (IsOrder _) (sym entries) (ordered_folded net order c.requires.ordered c.requires.whole w h))

pub returns-clause-folded : goal.returns-clause-folded
returns-clause-folded c =
    let net = c.args.net in
    let order = c.args.order in
    let w = c.in_ok-stands.field-0 in
    let h : IsWalked net order (length order) w = subst (λ (o : List Read). IsWalked net o (length o) w) c.as_slice.ensures c.in_ok-stands.ensures in
    let given =
    is_given net w _ c.leaves_anew.result c.replace-leaves.result c.from_vec-3.result c.arrays_anew.result c.replace-arrays.result c.stands.view_is c.leaves_anew.ensures c.replace-leaves.ensures.value
    (c.from_vec-3.ensures ∙ c.in_ok-nodes.ensures) c.arrays_anew.ensures c.replace-arrays.ensures.value in
    as_given IsFolded net w c.leaves_anew.result c.from_vec-3.result c.arrays_anew.result given (is_folded net order c.requires.ordered c.requires.whole w h)
