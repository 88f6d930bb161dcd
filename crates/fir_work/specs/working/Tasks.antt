-- What a task gives, and whose work it does.
-- A task is found once of a net; it then gives the number of a leaf or a node from all numbers of a tick.
use Rattle.std.specs.Prelude.{◌≡◌, ℕ, List, ◌==◌, if◌then◌else◌}
use Rattle.std.specs.List.{AllByRecursion}
use Rattle.fir_net.specs.declared.reads.Read.{Read}
use Rattle.fir_net.specs.declared.node.Node.{Node}
use Rattle.fir_net.specs.declared.net.FlatNet.{FlatNet}
use Rattle.fir_net.specs.working.Dependence.{support_of}
use Rattle.fir_net.specs.working.Values.{at_width}
use Rattle.fir_work.specs.declared.task.Task.{Task}
use Rattle.fir_work.specs.working.Numbers.{Fits, number_at, place, value_in}
use Rattle.fir_work.specs.working.NodeValues.{held_node}
use Rattle.fir_work.specs.working.Works.{done, CanDo}

-- what a task gives from these numbers
abbrev pub worked : FlatNet → Task → List ℕ → ℕ
worked net t ns = done net ns t.work (number_at ns t.first) (number_at ns t.second) (number_at ns t.third)

-- it can be run on these numbers
abbrev pub CanRun : FlatNet → Task → List ℕ → Type 0
CanRun net t ns = CanDo net ns t.work (number_at ns t.first) (number_at ns t.second)

-- the task of a node gives its number wherever what the node reads has its width
pub record IsNodeTask (net : FlatNet) (node : Node) (t : Task) : Type 0 where
  pub runs : (ns : List ℕ) → AllByRecursion (Fits net ns) (support_of node) → CanRun net t ns
  pub gives : (ns : List ℕ) → AllByRecursion (Fits net ns) (support_of node) → worked net t ns ≡ (held_node (value_in net ns) node).value.number

-- the task of what is read at a width: extended by its own sign, or cut
pub record IsFitTask (net : FlatNet) (r : Read) (width : ℕ) (t : Task) : Type 0 where
  pub runs : (ns : List ℕ) → Fits net ns r → CanRun net t ns
  pub gives : (ns : List ℕ) → Fits net ns r → worked net t ns ≡ at_width (value_in net ns r) width

-- the task of a register of that width under an asynchronous reset: its init while the condition is 1, else its own number
pub record IsShownTask (net : FlatNet) (leaf width : ℕ) (condition init : Read) (t : Task) : Type 0 where
  pub runs : (ns : List ℕ) → Fits net ns init → CanRun net t ns
  pub gives : (ns : List ℕ) → Fits net ns init → worked net t ns ≡ (if number_at ns (place net condition) == 1 then at_width (value_in net ns init) width else number_at ns leaf)
