-- A tree of which enough is known and that has a closed walk has no order of its processes.
use Rattle.std.proofs.Common.{◌≡◌, ℕ, ◌<◌, List, [], ◌∷◌, ◌++◌, sym, ap, ◌∙◌, subst, arith}
use Rattle.std.specs.Prelude.{Some, slice_get}
use Rattle.fir_base.specs.Lists.{In}
use Rattle.fir_base.proofs.Members.{in_map}
use Rattle.fir_graph.proofs.Positions.{distinct_at}
use Rattle.ver_ast.specs.declared.tree.Verilog.{Verilog}
use Rattle.ver_ast.specs.Processes.{Process, processes, process_targets, target}
use Rattle.ver_ast.specs.Valid.{IsOrder}
use Rattle.ver_valid.proofs.ProcessOrders.{place_of, read_earlier}
use Rattle.ver_valid.proofs.Ready.{IsReady, target_no_source}
use Rattle.ver_loop.specs.Loops.{Chained, Depends, IsClosedWalk}
use Rattle.ver_loop.proofs.Givers.{first_depends}

module _ (v : Verilog) (ready : IsReady v) (order : List Process) (o : IsOrder v order) where
  abbrev Stands : ℕ → List ℕ → Type 0
  Stands k n = slice_get (process_targets order) k ≡ Some n

  abbrev Before : ℕ → List ℕ → Type 0
  Before k n = (j : ℕ) × (j < k) × Stands j n

  -- what depends on something is the target of a process
  is_target : (a b : List ℕ) → Depends v a b → In (process_targets (processes v)) a
  is_target a b d = subst (In (process_targets (processes v))) d.gives (in_map target (processes v) d.process d.is_process)

  one_before : (a b : List ℕ) → Depends v a b → In (process_targets (processes v)) b → (k : ℕ) → Stands k a → Before k b
  one_before a b d m k s =
      read_earlier v order o d.process d.is_process b d.reads (target_no_source v ready b m) k (s ∙ ap (λ (n : List ℕ). Some n) (sym d.gives))

  chain_before : (ns : List (List ℕ)) (a last : List ℕ) → Chained v a (ns ++ last ∷ []) → In (process_targets (processes v)) last → (k : ℕ) → Stands k a
      → Before k last
  chain_before [] a last c m k s = one_before a last c.0 m k s
  chain_before (n ∷ ns) a last c m k s =
      let d = first_depends v n ns last c.1 in
      let b = one_before a n c.0 (is_target n d.0 d.1) k s in
      let rest = chain_before ns n last c.1 m b.0 b.2 in
      (rest.0, omega (arith, b.1, rest.1), rest.2)

  pub no_closed_walk : (walk : List (List ℕ)) → IsClosedWalk v walk → ⊥
  no_closed_walk walk c =
      let d = (first_depends v c.first c.between c.first c.chained).1 in
      let k = place_of v order o d.process d.is_process in
      let here : Stands k.0 c.first = k.1 ∙ ap (λ (n : List ℕ). Some n) d.gives in
      let b = chain_before c.between c.first c.first c.chained (is_target c.first _ d) k.0 here in
      let same : b.0 ≡ k.0 = distinct_at (process_targets order) o.once b.0 k.0 c.first b.2 here in
      omega (arith, same, b.1)
