-- One turn of the walk back, with the premises as the code has them.
use Rattle.std.proofs.Common.{◌≡◌, ℕ, ◌<◌, List, [], ◌∷◌, ◌++◌, Bool, length, get_or, sym, ◌∙◌, subst, inl, inr, Vec, Global}
use Rattle.std.proofs.lemmas.Option.{slice_get_within, get_or_from_slice_get}
use Rattle.fir_infer_resets.specs.declared.graph.Kind.{Kind}
use Rattle.fir_infer_resets.specs.declared.roots.Entry.{Entry}
use Rattle.fir_infer_resets.specs.working.ResetGraphs.{IsAsynchronous, IsResetWalk}
use Rattle.fir_infer_resets.specs.working.Reaching.{IsRootOr, IsQueueOf}
use Rattle.fir_infer_resets.specs.working.Walking.{WalksTo}
use Rattle.fir_infer_resets.proofs.WalkSteps.{walk_goes_on, walk_ended}

-- the walk so far has taken the number of the entry
pub record Turn (graph : List (Vec ℕ Global)) (kinds : List Kind) (queue : List Entry) (place : ℕ) (e : Entry) (walk : List ℕ) : Type 0 where
  pub ends : IsAsynchronous kinds e.node → IsResetWalk graph kinds walk
  pub goes_on : (IsAsynchronous kinds e.node → ⊥) → WalksTo graph kinds queue walk e.from
  pub less : (IsAsynchronous kinds e.node → ⊥) → e.from < place

module _ (graph : List (Vec ℕ Global)) (kinds : List Kind) (marks : List Bool) (queue : List Entry) (q : IsQueueOf graph kinds marks queue) (walk : List ℕ) (place : ℕ) (w : WalksTo graph kinds queue walk place) where
  pub place_within : place < length queue
  place_within = slice_get_within queue place w.entry w.at

  turned : Turn graph kinds queue place w.entry (walk ++ w.entry.node ∷ [])
  turned = record { ends = walk_ended graph kinds queue walk place w q.once; goes_on = λ n. on n (q.comes place w.entry w.at); less = λ n. less n (q.comes place w.entry w.at) }
    where
      on : (IsAsynchronous kinds w.entry.node → ⊥) → IsRootOr graph kinds queue place w.entry → WalksTo graph kinds queue (walk ++ w.entry.node ∷ []) w.entry.from
      on n (inl root) = absurd (n root)
      on n (inr c) = walk_goes_on graph kinds queue walk place w q.once c

      less : (IsAsynchronous kinds w.entry.node → ⊥) → IsRootOr graph kinds queue place w.entry → w.entry.from < place
      less n (inl root) = absurd (n root)
      less n (inr c) = c.less

  pub turn : (e : Entry) (longer : List ℕ) → e ≡ get_or queue place e → longer ≡ walk ++ e.node ∷ [] → Turn graph kinds queue place e longer
  turn e longer is pushed =
      let same : w.entry ≡ e = sym (get_or_from_slice_get queue place w.entry e w.at) ∙ sym is in
      rw pushed (subst (λ (x : Entry). Turn graph kinds queue place x (walk ++ x.node ∷ [])) same turned)
