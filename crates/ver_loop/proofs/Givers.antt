-- The items that give names their values.
use Rattle.std.proofs.Common.{ℕ, List, [], ◌∷◌, ◌++◌, refl, inl, subst}
use Rattle.fir_base.specs.Lists.{In}
use Rattle.ver_ast.specs.declared.tree.Verilog.{Verilog}
use Rattle.ver_ast.specs.declared.tree.Item.{Item}
use Rattle.ver_ast.specs.declared.tree.Item.TheVariants as item
use Rattle.ver_ast.specs.Processes.{Process, processes, target}
use Rattle.ver_ast.proofs.Processes.{by_kind}
use Rattle.ver_valid.proofs.TreeMembers.{assign_at}
use Rattle.ver_check.proofs.FaultlessProcesses.{reset_at}
use Rattle.ver_loop.specs.Loops.{Chained, Depends, IsClosedWalk, item_gives}

abbrev Given : Verilog → List ℕ → Type 0
Given v n = (i : Item) × In v.items i × In (item_gives i) n

module _ (v : Verilog) where
  -- a process is an item
  process_given : (p : Process) → In (processes v) p → Given v (target p)
  process_given =
      by_kind v (λ p. Given v (target p)) (λ a m. (item.Assign a, (assign_at v a m).0, inl refl)) (λ b m. (item.Resetting b, reset_at v b m, inl refl))

  pub first_depends : (a : List ℕ) (ns : List (List ℕ)) (b : List ℕ) → Chained v a (ns ++ b ∷ []) → (c : List ℕ) × Depends v a c
  first_depends a [] b h = (b, h.0)
  first_depends a (n ∷ ns) b h = (n, h.0)

  -- something gives the first name of a closed walk its value
  pub first_given : (walk : List (List ℕ)) (c : IsClosedWalk v walk) → Given v c.first
  first_given walk c =
      let d = (first_depends c.first c.between c.first c.chained).1 in subst (Given v) d.gives (process_given d.process d.is_process)
