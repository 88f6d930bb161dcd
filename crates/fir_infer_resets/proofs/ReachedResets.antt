-- What is reached in the graph is asynchronous in the circuit.
use Rattle.std.proofs.Common.{◌≡◌, ℕ, List, Bool, Some, sym, ◌∙◌, inl, inr, ◌⊎◌, arith, Vec, Global}
use Rattle.std.specs.Prelude.{slice_get}
use Rattle.std.proofs.lemmas.Option.{slice_get_within}
use Rattle.fir_base.proofs.Elements.{there}
use Rattle.fir_ast.specs.Circuits.{CircuitTree}
use Rattle.fir_infer_resets.specs.declared.graph.Kind.{Kind}
use Rattle.fir_infer_resets.specs.declared.graph.Kind.TheVariants.{Asynchronous, Reset}
use Rattle.fir_meaning.specs.ResetItems.{End}
use Rattle.fir_meaning.specs.ResetJoins.{Join}
use Rattle.fir_meaning.specs.ResetWalks.{IsReset, IsAsyncReset, IsLeafOf, IsAsynchronous, meets, goes_on, Joined}
use Rattle.fir_reset.specs.working.LeafClasses.{Class, class_of}
use Rattle.fir_infer_resets.specs.working.ResetGraphs.{IsJoined, IsReached, begins, goes_on as reached_on, IsFound}
use Rattle.fir_infer_resets.specs.working.ResetLaws.{Linked, same, then_joined, LeavesHaveClasses}
use Rattle.fir_infer_resets.specs.working.BuiltGraphs.{IsBuilt}
use Rattle.fir_infer_resets.specs.working.FoundKinds.{IsClassMarked}
use Rattle.fir_infer_resets.proofs.EndKinds.{no_async_reset}
use Rattle.fir_infer_resets.proofs.JoinedEnds.{joined_back}

abbrev IsSource : CircuitTree → End → Type 0
IsSource c e = IsAsyncReset e ⊎ IsAsynchronous c e

joined_source : (c : CircuitTree) (e f : End) → IsReset e → Joined c e f → IsSource c f → IsAsynchronous c e
joined_source c e f r j (inl a) = meets e f r j a
joined_source c e f r j (inr a) = goes_on e f r j a

reset_source : (c : CircuitTree) (e : End) → IsReset e → IsSource c e → IsAsynchronous c e
reset_source c e r (inl a) = absurd (no_async_reset e r a)
reset_source c e r (inr a) = a

linked_source : (c : CircuitTree) (e f : End) → Linked c e f → IsReset e → IsAsynchronous c f → IsAsynchronous c e
linked_source c e f (same x) r a = a
linked_source c e f (then_joined x y z j class ground_type more) r a = goes_on x y r j (linked_source c y z more (sym ground_type ∙ r) a)

module _ (c : CircuitTree) (js : List Join) (ends : List End) (graph : List (Vec ℕ Global)) (kinds : List Kind) (built : IsBuilt c js ends graph kinds) where
  -- a number of the graph has an end
  joined_end : (x y : ℕ) → IsJoined graph x y → (e : End) × (slice_get ends x ≡ Some e)
  joined_end x y j = there ends x (omega (arith, slice_get_within graph x j.list j.at, built.is_graph.long, built.long))

  reached_source : (v : ℕ) (e : End) → IsReached graph kinds v → slice_get ends v ≡ Some e → IsSource c e
  reached_source v e (begins u root) is = inl (built.kind u e Asynchronous is root)
  reached_source v e (reached_on x u kind j more) is =
      let before = joined_end x u j in
      let back = joined_back c before.0 e (built.joined x u before.0 e j before.1 is) in
      inr (joined_source c e before.0 (built.kind u e Reset is kind) back (reached_source x before.0 more before.1))

  pub marked_asynchronous : (marks : List Bool) → LeavesHaveClasses c → IsFound graph kinds marks → (e : End) (k : Class) → IsLeafOf c e → IsReset e → class_of c e.item ≡ Some k → IsClassMarked c ends marks k → IsAsynchronous c e
  marked_asynchronous marks leaves found e k leaf r class m =
      linked_source c e m.end
      (leaves.linked e m.end k leaf (built.leaves m.number m.end m.is m.resets) class m.of_class)
      r
      (reset_source c m.end m.resets (reached_source m.number m.end (found.reached m.number m.marked) m.is))
