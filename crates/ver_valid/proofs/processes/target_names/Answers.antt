use Rattle.std.proofs.Common.{◌≡◌, List, ◌++◌, map, Bor, sym, ap, ◌∙◌}
use Rattle.std.specs.Prelude.{Vec}
use Rattle.std.specs.declared.alloc.Global.{Global}
use Rattle.std.proofs.lemmas.Result.{IfOk-weaker}
use Rattle.fir_base.specs.declared.name.Name.{Name}
use Rattle.ver_ast.specs.declared.tree.Assign.{Assign}
use Rattle.ver_ast.specs.declared.tree.Resetting.{Resetting}
use Rattle.ver_ast.specs.Nets.{targets}
use Rattle.ver_ast.specs.Nets as tree
use Rattle.ver_ast.specs.Processes.{processes, process_targets}
use Rattle.ver_valid.proofs.DrivenNets.{process_targets_are}
use Rattle.ver_valid.proofs.processes.target_names.Goals as goal

pub returns : goal.returns
returns c =
    IfOk-weaker c.process_targets.result _ (λ (names : Vec (Bor Name) Global). map (λ n. n.now) names.items ≡ process_targets (processes c.args.v.now))
    (λ (names : Vec (Bor Name) Global) all.
    all
    ∙ ap (λ (xs : List (Bor Assign)). targets (map (λ a. a.now) xs) ++ map (λ b. b.target) (map (λ b. b.now) c.as_slice-2.result.now)) c.as_slice.ensures.value
    ∙ ap (λ (xs : List Assign). targets xs ++ map (λ b. b.target) (map (λ b. b.now) c.as_slice-2.result.now)) c.in_ok-assigns.ensures
    ∙ ap (λ (ys : List (Bor Resetting)). targets (tree.assigns c.args.v.now) ++ map (λ b. b.target) (map (λ b. b.now) ys)) c.as_slice-2.ensures.value
    ∙ ap (λ (ys : List Resetting). targets (tree.assigns c.args.v.now) ++ map (λ b. b.target) ys) c.in_ok-blocks.ensures
    ∙ sym (process_targets_are c.args.v.now))
    c.process_targets.ensures
