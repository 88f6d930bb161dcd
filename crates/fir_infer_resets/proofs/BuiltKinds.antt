-- What a search of a circuit's graph finds are the kinds of the circuit's Resets.
use Rattle.std.proofs.Common.{ℕ, List, Bool, Vec, Global}
use Rattle.fir_ast.specs.Circuits.{CircuitTree}
use Rattle.fir_infer_resets.specs.declared.graph.Kind.{Kind}
use Rattle.fir_meaning.specs.ResetItems.{End}
use Rattle.fir_meaning.specs.ResetJoins.{Join}
use Rattle.fir_infer_resets.specs.working.ResetGraphs.{IsFound}
use Rattle.fir_infer_resets.specs.working.ResetLaws.{LeavesHaveClasses, OthersShareClasses}
use Rattle.fir_infer_resets.specs.working.BuiltGraphs.{IsBuilt}
use Rattle.fir_infer_resets.specs.working.FoundKinds.{AreKinds, AllButShared}
use Rattle.fir_infer_resets.proofs.ReachedResets.{marked_asynchronous}
use Rattle.fir_infer_resets.proofs.MarkedClasses.{asynchronous_marked, no_walk}

pub are_kinds : (c : CircuitTree) (js : List Join) (ends : List End) (graph : List (Vec ℕ Global)) (kinds : List Kind) (marks : List Bool) → LeavesHaveClasses c → OthersShareClasses c → AllButShared c js → IsBuilt c js ends graph kinds → IsFound graph kinds marks → AreKinds c ends marks
are_kinds c js ends graph kinds marks leaves elements all built found =
    record {
      kinds = λ e k leaf r class. (
        (λ a. asynchronous_marked c js ends graph kinds marks leaves elements all built found e k a class),
        (λ m. marked_asynchronous c js ends graph kinds built marks leaves found e k leaf r class m),
      );
      clear = no_walk c js ends graph kinds marks leaves elements all built found;
    }
