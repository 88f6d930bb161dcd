-- Where the value of each leaf is so far, and what changes of that.
use Rattle.std.specs.Prelude.{◌≡◌, ℕ, ◌<◌, List, length, if◌then◌else◌, slice_get, unwrap_or, true, false, Some}
use Rattle.fir_meaning.specs.working.TermReads.{is_among}
use Rattle.fir_meaning.specs.working.TermValues.{Holds}
use Rattle.fir_net.specs.declared.node.Node.{Node}
use Rattle.fir_connect.specs.working.NetTerms.{NetTerm, choice}
use Rattle.fir_merge.specs.declared.bound.Bound.{Bound}
use Rattle.fir_merge.specs.working.Bounds.{StandsFor}
use Rattle.fir_merge.specs.working.NodeTerms.{Grows}

abbrev pub slot_at : List Bound → Bound → ℕ → Bound
slot_at slots nothing x = unwrap_or (slice_get slots x) nothing

-- it is there, and stands for a term
pub record SlotStands (holds : Holds) (net : List Node) (slots : List Bound) (x : ℕ) (t : NetTerm) : Type 0 where
  pub bound : Bound
  pub is : slice_get slots x ≡ Some bound
  pub stands : StandsFor holds net bound t

-- some have others now, and the rest are as they were
pub record SlotsBecome (old new : List Bound) (now : ℕ → Bound → Bound) : Type 0 where
  pub same_length : length new ≡ length old
  pub each : (x : ℕ) (b : Bound) → slice_get old x ≡ Some b → slice_get new x ≡ Some (now x b)

abbrev pub PutsBack : List Bound → List Bound → List ℕ → (ℕ → Bound) → Type 0
PutsBack old new leaves f = SlotsBecome old new (λ x b. if is_among leaves x then f x else b)

-- each of the leaves stands for the choice between what two bounds stand for, and the rest for what they stood for
pub record Merges (net_old net_new : List Node) (old new : List Bound) (condition : Bound) (leaves : List ℕ) (f g : ℕ → Bound) : Type 0 where
  pub grows : Grows net_old net_new
  pub same_length : length new ≡ length old
  pub chosen : (holds : Holds) (x : ℕ) (c a b : NetTerm) → x < length old → is_among leaves x ≡ true
      → StandsFor holds net_old condition c → StandsFor holds net_old (f x) a → StandsFor holds net_old (g x) b
      → SlotStands holds net_new new x (choice holds c a b)
  pub others : (x : ℕ) → is_among leaves x ≡ false → slice_get new x ≡ slice_get old x
