-- The indices that stand up to a place, one step after another.
use Rattle.std.proofs.Common.{◌≡◌, ℕ, ◌<◌, ◌≤◌, List, [], ◌∷◌, ◌++◌, length, get_or, Some, refl, sym, subst, arith}
use Rattle.fir_leaf.specs.declared.node.Node.{Node as LeafNode}
use Rattle.fir_leaf.specs.declared.node.Pick.{Pick}
use Rattle.fir_leaf.specs.working.Nodes.{Entry, a_term, entries, entry_at, picks_in, some_picks}
use Rattle.fir_meaning.specs.working.TermValues.{Holds}
use Rattle.fir_meaning.specs.working.Terms.{Picks}
use Rattle.fir_driven.specs.working.Indices.{IsIndex}
use Rattle.fir_driven.proofs.IndexEntries.{past_picks}
use Rattle.fir_net.specs.declared.node.Node.{Node}
use Rattle.fir_merge.specs.declared.bound.Bound.{Bound}
use Rattle.fir_merge.specs.declared.index.Index.{Index}
use Rattle.fir_merge.specs.working.Entries.{EntryStands, IndicesBelow, IndicesStand}
use Rattle.fir_merge.specs.working.NodeTerms.{IsBelow}
use Rattle.fir_merge.specs.working.Steps.{IsNoStep, IsStep}
use Rattle.fir_merge.proofs.StandingEntries.{bound_at_below, entry_stands, nodes_length}

pub indices_below_push : (n : ℕ) (xs : List Index) (x : Index) → IndicesBelow n xs → IsBelow n x.bound.read → IndicesBelow n (xs ++ x ∷ [])
indices_below_push n [] x h b = (b, tt)
indices_below_push n (y ∷ xs) x h b = (h.0, indices_below_push n xs x h.1 b)

-- the bound of the indices up to one stands for the last
picks_stand : (holds : Holds) (net : List Node) (b : Bound) (e : Entry) → EntryStands holds net b e → EntryStands holds net b (some_picks (picks_in e))
picks_stand holds net b (a_term t) h = tt
picks_stand holds net b (some_picks ps) h = h

-- an index, and its bound
pub step_is : (nodes : List LeafNode) (bounds : List Bound) (i : ℕ) (b : Bound) (p : Pick) → IsIndex nodes (Some i) p → i < length bounds
    → b ≡ get_or bounds i b
    → IsStep nodes bounds (Some i) (record { index = record { bound = b; length = p.length; stride = p.stride }; before = p.before })
step_is nodes bounds i b p there within is = record {
  below = λ n h. bound_at_below n bounds i b h within is;
  stand = λ holds net h xs others.
      let last = picks_stand holds net b (entry_at (entries nodes) i) (entry_stands holds net bounds nodes i b h within is) in
      subst (λ (ps : Picks). IndicesStand holds net (record { bound = b; length = p.length; stride = p.stride } ∷ xs) ps) (sym there.is)
      (subst (λ (ps : Picks). EntryStands holds net b (some_picks ps)) there.is last, refl, refl, others);
  earlier = there.earlier;
}

-- no bound
pub no_bound : (nodes : List LeafNode) (bounds : List Bound) (i : ℕ) → length bounds ≤ i → IsNoStep nodes bounds (Some i)
no_bound nodes bounds i le = λ holds net h. past_picks nodes i (omega (arith, nodes_length holds net bounds nodes h))
