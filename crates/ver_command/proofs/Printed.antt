-- What the tree of a text prints, `vsim` prints of the text.
use Rattle.std.proofs.Common.{ℕ, List, Bool, Option, refl, subst}
use Rattle.trace_text.specs.Shapes.{TraceShape}
use Rattle.trace_lines.specs.declared.simulation.Lack.{Lack}
use Rattle.trace_lines.specs.Saying.{Saying, lack_line}
use Rattle.ver_ast.specs.working.Laws.{SpellsOneTree}
use Rattle.ver_ast.proofs.OneTick.{one_run}
use Rattle.ver_runner.specs.VerilogLines.{VLacked, VRan}
use Rattle.ver_command.specs.declared.machine.Machine.{Machine}
use Rattle.ver_command.specs.Vsim.{VLacks, VPrints}
use Rattle.ver_command.specs.working.Machines.{IsMadeOf}

module _ (one : SpellsOneTree) (text : List ℕ) (m : Machine) (made : IsMadeOf text m) (with_state : Bool) (order : Option ℕ) where
  pub prints : (says : Saying) (printed : List ℕ) → VRan m.tree order with_state m.shape says printed → VPrints with_state order text says printed
  prints says printed ran =
      let r = subst (λ (s : TraceShape). VRan m.tree order with_state s says printed) made.shaped ran in
      record {
        tree = m.tree;
        taken = made.taken;
        only_tree = λ other spelled. one text other m.tree spelled made.taken.spelled;
        ran = r;
        only_run = λ others run. one_run m.tree made.taken.valid r.init r.ticks others r.shown run r.run;
      }

  pub lacks : (trace : List ℕ) (lack : Lack) (printed : List ℕ) → VLacked m.tree order with_state m.shape trace lack printed
      → VLacks with_state order text trace (lack_line lack) printed
  lacks trace lack printed lacked = record {
    tree = m.tree;
    taken = made.taken;
    lack = lack;
    lacked = subst (λ (s : TraceShape). VLacked m.tree order with_state s trace lack printed) made.shaped lacked;
    line_is = refl;
  }
