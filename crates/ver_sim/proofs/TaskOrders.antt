-- No tasks of a valid tree read from each other in a circle, and an order of their graph is one of the tasks.
use Rattle.std.proofs.Common.{◌≡◌, ℕ, ◌<◌, List, [], ◌∷◌, ◌++◌, length, refl, sym, ◌∙◌, inl, inr, ⊎_elim, subst}
use Rattle.std.specs.Prelude.{slice_get, Some}
use Rattle.std.proofs.lemmas.Option.{slice_get_within}
use Rattle.fir_base.specs.Lists.{In}
use Rattle.fir_base.proofs.Elements.{get_in}
use Rattle.fir_base.proofs.Members.{each_in, in_either, in_map}
use Rattle.fir_graph.specs.working.HasTarget.{HasTarget}
use Rattle.fir_graph.specs.working.IsCircle.{Chain, Turns}
use Rattle.fir_graph.specs.working.IsOrder.{IsOrder as IsGraphOrder}
use Rattle.fir_graph.proofs.Positions.{distinct_from}
use Rattle.ver_ast.specs.declared.tree.Verilog.{Verilog}
use Rattle.ver_ast.specs.Nets.{names_of}
use Rattle.ver_ast.specs.Processes.{Process, processes, process_reads, target}
use Rattle.ver_ast.specs.Valid.{Valid, ReadsBefore}
use Rattle.ver_ast.proofs.Processes.{sources, target_is_net, undriven}
use Rattle.ver_order.proofs.Elements.{same_by}
use Rattle.ver_sim.specs.declared.task.Task.{Task}
use Rattle.ver_sim.specs.working.Orders.{HasNoCircle, IsTaskGraph, IsTaskOrder, ReadsFrom, sources_of}
use Rattle.ver_sim.specs.working.Tasks.{AreTasks}
use Rattle.ver_sim.specs.working.Valued.{valued}
use Rattle.ver_sim.proofs.KnownNames.{net_is_valued}
use Rattle.ver_sim.proofs.PlacedNames.{same_place}
use Rattle.ver_sim.proofs.TaskTargets.{process_at}

module _ (v : Verilog) (valid : Valid v) (tasks : List Task) (a : AreTasks v tasks) where
  -- so the process reads what the other drives
  reads_target : (k j : ℕ) → ReadsFrom tasks k j → (p q : Process) → slice_get (processes v) k ≡ Some p → slice_get (processes v) j ≡ Some q → In (process_reads p) (target q)
  reads_target k j r p q e f =
      let n = (a.each k r.reader p r.is_reader e).reads r.driver.target r.reads in
      let known = net_is_valued v (target q) (target_is_net v valid q (get_in (processes v) j q f)) in
      subst (In (process_reads p)) (same_place (valued v) n.0 (target q) known (n.2 ∙ (a.each j r.driver q r.is_driver f).targets)) n.1

  module _ (circle : List ℕ) (round : (i : ℕ) → In circle i → (j : ℕ) × In circle j × ReadsFrom tasks i j) where
    -- a process of the circle
    abbrev Turning : Process → Type 0
    Turning p = (k : ℕ) × In circle k × (slice_get (processes v) k ≡ Some p)

    next : (p : Process) → Turning p → (q : Process) × Turning q × In (process_reads p) (target q)
    next p t =
        let r = round t.0 t.1 in
        let q = process_at v valid tasks a r.0 r.2.driver r.2.is_driver in
        (q.0, (r.0, r.1, q.1), reads_target t.0 r.0 r.2 p q.0 t.2 q.1)

    -- where the target of none is known, none stands in an order
    none_ordered : (known : List (List ℕ)) (order : List Process) → ReadsBefore known order → ((p : Process) → In order p → In (processes v) p)
        → ((p : Process) → Turning p → In known (target p) → ⊥) → (p : Process) → Turning p → In order p → ⊥
    none_ordered known [] after only unknown p t m = absurd m
    none_ordered known (q ∷ order) after only unknown p t m =
        ⊎_elim
        (λ (e : q ≡ p). first p t e)
        (λ (i : In order p). none_ordered (target q ∷ known) order after.1 (λ z n. only z (inr n)) later p t i)
        m
      where
        first : (z : Process) → Turning z → q ≡ z → ⊥
        first z u e =
            let n = next z u in
            unknown n.0 n.1 (each_in (process_reads q) known after.0 (target n.0) (subst (λ (y : Process). In (process_reads y) (target n.0)) (sym e) n.2))

        same_process : (z : Process) → Turning z → target q ≡ target z → q ≡ z
        same_process z u e =
            same_by target valid.ordered.0 valid.ordered.1.once q z (valid.ordered.1.each q (only q (inl refl))) (valid.ordered.1.each z (get_in (processes v) u.0 z u.2)) e

        later : (z : Process) → Turning z → In (target q ∷ known) (target z) → ⊥
        later z u n = ⊎_elim (λ (e : target q ≡ target z). first z u (same_process z u e)) (λ (i : In known (target z)). unknown z u i) n

  pub no_circle : HasNoCircle tasks
  no_circle circle k m round =
      let r = round k m in
      let p = process_at v valid tasks a k r.2.reader r.2.is_reader in
      none_ordered circle round (names_of (sources v)) valid.ordered.0 valid.ordered.1.after valid.ordered.1.only
      (λ q t s. undriven v valid (target q) s (in_map target (processes v) q (get_in (processes v) t.0 q t.2))) p.0 (k, m, p.1)
      (valid.ordered.1.each p.0 (get_in (processes v) k p.0 p.1))

module _ (tasks : List Task) (graph : List (List ℕ)) (g : IsTaskGraph tasks graph) where
  abbrev edge : ℕ → ℕ → Type 0
  edge = HasTarget (sources_of graph)

  -- each of a chain has one of those behind it as a target
  chained : (is : List ℕ) (i w : ℕ) → Chain (sources_of graph) i is w → (k : ℕ) → In (i ∷ is) k → (j : ℕ) × In (is ++ w ∷ []) j × edge k j
  chained [] i w c k (inl e) = (w, inl refl, subst (λ (x : ℕ). edge x w) e c)
  chained [] i w c k (inr m) = absurd m
  chained (x ∷ is) i w c k (inl e) = (x, inl refl, subst (λ (z : ℕ). edge z x) e c.0)
  chained (x ∷ is) i w c k (inr m) = let r = chained is x w c.1 k m in (r.0, inr r.1, r.2)

  pub no_turn : HasNoCircle tasks → (circle : List ℕ) → Turns (sources_of graph) circle → ⊥
  no_turn none [] t = t
  no_turn none (i ∷ is) t = none (i ∷ is) i (inl refl) (λ k m. let r = chained is i i t k m in (r.0, back r.0 r.1, g.right k r.0 r.2))
    where
      back : (j : ℕ) → In (is ++ i ∷ []) j → In (i ∷ is) j
      back j m =
          ⊎_elim (λ (n : In is j). inr n) (λ (n : In (i ∷ []) j). ⊎_elim (λ (e : i ≡ j). inl e) (λ (no : ⊥). absurd no) n) (in_either is (i ∷ []) j m)

  pub order_is : (order : List ℕ) → IsGraphOrder (length graph) (sources_of graph) order → IsTaskOrder tasks order
  order_is order o = record {
    all = λ k lt. let i = o.all k (subst (λ (n : ℕ). k < n) (sym g.sized) lt) in get_in order i.0 k i.1;
    once = distinct_from order o.once;
    after = λ i k j e r. o.after i k j e (g.full k j r);
  }

  pub source_within : (k place j : ℕ) → slice_get (sources_of graph k) place ≡ Some j → j < length graph
  source_within k place j e =
      let r = g.right k j (record { place = place; is = e }) in subst (λ (n : ℕ). j < n) (sym g.sized) (slice_get_within tasks j r.driver r.is_driver)
