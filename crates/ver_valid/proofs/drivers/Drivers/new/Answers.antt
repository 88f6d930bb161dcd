use Rattle.std.proofs.Common.{List, ℕ, ◌++◌, map, sym, ap, ◌∙◌, subst}
use Rattle.ver_ast.specs.declared.tree.Assign.{Assign}
use Rattle.ver_ast.specs.declared.tree.Resetting.{Resetting}
use Rattle.ver_ast.specs.Nets.{resets, targets}
use Rattle.ver_valid.specs.working.Numbered.{IsNumbering}
use Rattle.ver_valid.proofs.DrivenNets.{process_targets_are}
use Rattle.ver_valid.proofs.drivers.Drivers.new.Goals as goal

pub returns : goal.returns
returns c =
    let v = c.args.v.now in
    let blocks = ap (λ (bs : List Resetting). map (λ (b : Resetting). b.target) bs) c.requires.blocks in
    record {
      inputs = c.in_ok-inputs.ensures;
      registers = c.in_ok-registers.ensures;
      blocks = subst (λ (ns : List (List ℕ)). IsNumbering ns c.in_ok-asynchronous.field-0) blocks c.in_ok-asynchronous.ensures;
      processes =
          subst (λ (ns : List (List ℕ)). IsNumbering ns c.in_ok-driving.field-0)
          (ap (λ (ns : List (List ℕ)). targets (map (λ a. a.now) c.args.assigns.now) ++ ns) blocks
          ∙ ap (λ (xs : List Assign). targets xs ++ map (λ b. b.target) (resets v)) c.requires.assigns ∙ sym (process_targets_are v))
          c.in_ok-driving.ensures;
    }
