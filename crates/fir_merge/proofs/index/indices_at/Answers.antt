use Rattle.std.proofs.Common.{List, [], ◌∷◌, ◌++◌, sym, subst, append_assoc, append-nil}
use Rattle.fir_leaf.specs.working.Nodes.{entries, picks_at}
use Rattle.fir_meaning.specs.working.Terms.{Picks}
use Rattle.fir_merge.specs.declared.index.Index.{Index}
use Rattle.fir_merge.specs.working.Entries.{IndicesBelow, IndicesStand}
use Rattle.fir_merge.proofs.StandingIndices.{indices_below_push}
use Rattle.fir_merge.proofs.index.indices_at.Goals as goal

pub loop-step-preserved : goal.loop-step-preserved
loop-step-preserved c =
    let old = c.loop-step.indices.items in
    let index = c.in-Some.step.index in
    let whole = picks_at (entries c.args.nodes.now) c.args.picks in
    let step = c.in-Some.ensures.step in
    record {
      below = λ n h.
          subst (λ (xs : List Index). IndicesBelow n xs) (sym c.in_ok-push.ensures.items)
          (indices_below_push n old index (c.loop-step.invariant.below n h) (step.below n h));
      stand = λ holds net h xs others.
          let all = c.loop-step.invariant.stand holds net h (index ∷ xs) (step.stand holds net h xs others) in
          subst (λ (l : List Index). IndicesStand holds net (l ++ xs) whole) (sym c.in_ok-push.ensures.items)
          (subst (λ (l : List Index). IndicesStand holds net l whole) (sym (append_assoc old (index ∷ []) xs)) all);
    }

pub returns-clause-stand : goal.returns-clause-stand
returns-clause-stand c = λ holds net h.
    let old = c.loop-step.indices.items in
    let none = subst (λ (ps : Picks). IndicesStand holds net [] ps) (sym (c.in_default.ensures.none holds net h)) tt in
    subst (λ (l : List Index). IndicesStand holds net l (picks_at (entries c.args.nodes.now) c.args.picks)) (append-nil old)
    (c.loop-step.invariant.stand holds net h [] none)
