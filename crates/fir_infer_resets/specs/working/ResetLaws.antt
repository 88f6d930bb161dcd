-- Laws about what is joined.
use Rattle.std.specs.Prelude.{◌≡◌, Some}
use Rattle.fir_ast.specs.Circuits.{CircuitTree}
use Rattle.fir_meaning.specs.ResetItems.{End}
use Rattle.fir_meaning.specs.ResetJoins.{AreElements}
use Rattle.fir_meaning.specs.ResetWalks.{IsLeafOf, Joined}
use Rattle.fir_reset.specs.working.LeafClasses.{Class, class_of}

-- one leaf, or two that a walk of joins links through leaves of their class and ground type alone
pub data Linked (c : CircuitTree) : End → End → Type 0 where
  same : (e : End) → Linked c e e
  then_joined : (e f g : End) → Joined c e f → class_of c e.item ≡ class_of c f.item → e.ground_type ≡ f.ground_type → Linked c f g → Linked c e g

-- each leaf has a class, and two leaves of one class are linked
pub record LeavesHaveClasses (c : CircuitTree) : Type 0 where
  pub has : (e : End) → IsLeafOf c e → (k : Class) × (class_of c e.item ≡ Some k)
  pub linked : (e f : End) (k : Class) → IsLeafOf c e → IsLeafOf c f → class_of c e.item ≡ Some k → class_of c f.item ≡ Some k → Linked c e f

-- two leaves that are joined by anything but a meeting of the text are of one class
abbrev pub OthersShareClasses : CircuitTree → Type 0
OthersShareClasses c = (e f : End) → IsLeafOf c e → IsLeafOf c f → AreElements e f → class_of c e.item ≡ class_of c f.item
