-- Where all of the queue is done, marked is exactly what is reached.
use Rattle.std.proofs.Common.{◌≡◌, ℕ, zero, suc, ◌+◌, ◌<◌, ◌≤◌, List, Some, length, sym, subst, ⊎_elim, arith, Vec, Global}
use Rattle.std.specs.Prelude.{slice_get}
use Rattle.std.proofs.lemmas.Option.{slice_get_within}
use Rattle.fir_infer_resets.specs.declared.graph.Kind.{Kind}
use Rattle.fir_infer_resets.specs.declared.roots.Entry.{Entry}
use Rattle.fir_infer_resets.specs.declared.roots.Reached.{Reached}
use Rattle.fir_infer_resets.specs.working.ResetGraphs.{IsJoined, IsAsynchronous, IsReached, begins, goes_on, IsFound}
use Rattle.fir_infer_resets.specs.working.Reaching.{IsMarked, ComesFrom, IsSeen, Searching}

module _ (graph : List (Vec ℕ Global)) (kinds : List Kind) (r : Reached) (place : ℕ) (s : Searching graph kinds r place) where
  -- what is queued is reached
  queued : (n k : ℕ) (e : Entry) → k < n → slice_get r.queue.items k ≡ Some e → IsReached graph kinds e.node
  queued zero k e less h = absurd (omega (arith, less))
  queued (suc n) k e less h =
      ⊎_elim
      (λ (root : IsAsynchronous kinds e.node). begins e.node root)
      (λ (c : ComesFrom graph kinds r.queue.items k e). goes_on c.parent.node e.node c.kind c.joined (queued n e.from c.parent (omega (arith, c.less, less)) c.at))
      (s.knows.comes k e h)

  marked_reached : (v : ℕ) → IsMarked r.marks.items v → IsReached graph kinds v
  marked_reached v h =
      let q = s.knows.in_queue v h in
      subst (λ (x : ℕ). IsReached graph kinds x) q.is (queued (q.place + 1) q.place q.entry (omega arith) q.at)

  -- what a marked one is joined to is seen, where the whole queue is done
  around : length r.queue.items ≤ place → (x y : ℕ) → IsMarked r.marks.items x → IsJoined graph x y → IsSeen kinds r.marks.items y
  around done x y m j =
      let q = s.knows.in_queue x m in
      let joined : IsJoined graph q.entry.node y = subst (λ (z : ℕ). IsJoined graph z y) (sym q.is) j in
      s.seen q.place y q.entry (omega (arith, slice_get_within r.queue.items q.place q.entry q.at)) q.at joined

  reached_marked : length r.queue.items ≤ place → (v : ℕ) → IsReached graph kinds v → IsMarked r.marks.items v
  reached_marked done v (begins u root) = s.roots u root
  reached_marked done v (goes_on x u kind j more) = (around done x u (reached_marked done x more) j).reset kind

  pub found : length r.queue.items ≤ place → IsFound graph kinds r.marks.items
  found done =
      record {
        long = s.knows.long;
        reached = marked_reached;
        all = reached_marked done;
        clear = λ x u unsigned j more. (around done x u (reached_marked done x more) j).unsigned unsigned;
      }
