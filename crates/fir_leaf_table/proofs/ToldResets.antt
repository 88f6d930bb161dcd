-- What tells whether the reset of a register is asynchronous is right.
use Rattle.std.proofs.Common.{◌≡◌, ℕ, ◌+◌, [], ◌++◌, Bool, true, false, if◌then◌else◌, Option, Some, None, refl, sym, ap, ◌∙◌, subst}
use Rattle.std.specs.Prelude.{◌↔◌, IsTrue, option_map, slice_get}
use Rattle.fir_ast.specs.Types.{DataType, async_reset, bundle, clock, reset, sint, uint, vector}
use Rattle.fir_ast.specs.Circuits.{CircuitTree, ModuleTree}
use Rattle.fir_ast.specs.Expressions.{Expression, literal, mux, operation, reference, validif}
use Rattle.fir_ast.specs.Statements.{SinkReference}
use Rattle.fir_meaning.specs.ComponentTypes.{typed_scope}
use Rattle.fir_meaning.specs.ExpressionTypes.{expression_type, reached_by, reaching}
use Rattle.fir_meaning.specs.LeafPaths.{LeafPath}
use Rattle.fir_meaning.specs.working.NameGroups.{HasNames}
use Rattle.fir_meaning.specs.Reaching.{Reached}
use Rattle.fir_meaning.specs.ResetItems.{End}
use Rattle.fir_meaning.specs.ResetWalks.{IsAsynchronous, IsLeafOf, IsReset}
use Rattle.fir_meaning.specs.TypeGroup.{type_faults}
use Rattle.fir_meaning.specs.TypedScopes.{TypedScope}
use Rattle.fir_meaning.specs.Visibility.{Before, declarations}
use Rattle.fir_type_table.specs.working.Saturated.{saturated}
use Rattle.fir_types.specs.working.TypedModules.{leaf_declared}
use Rattle.fir_types.specs.working.Walked.{Begins}
use Rattle.fir_reset.specs.working.Inferred.{leaf_number}
use Rattle.fir_ground.specs.working.ResetKinds.{KindMeant, all_there, asynchronous_kind, inferred_by, inferred_kind, kind_by, kind_of_reset, range_named, synchronous_kind}
use Rattle.fir_ground.proofs.FramedScopes.{scope_joined}
use Rattle.fir_meaning.specs.ModuleScenes.{Scene, scope_before}
use Rattle.fir_meaning.specs.AsyncResets.{async_by, async_reached, async_where, is_async_reset}
use Rattle.fir_leaf_table.specs.declared.frame.Frame.{Frame}
use Rattle.fir_leaf_table.specs.working.Frames.{Frames}
use Rattle.fir_meaning.specs.Scenes.{AreResets, IsAsynchronousAt}
use Rattle.fir_leaf_table.proofs.NamedRanges.{Names, names}
use Rattle.fir_leaf_table.proofs.ReachedResets.{ResetAt, reached_reset}
use Rattle.fir_leaf_circuit.proofs.ResetEnds.{only_resets}

-- the answer is that of the Reset of a number
abbrev pub AnswersReset : CircuitTree → ℕ → ℕ → ℕ → Bool → Type 0
AnswersReset c number declaration offset answer =
    (e : End) (first before : ℕ) → IsLeafOf c e → IsReset e → leaf_declared c number declaration ≡ Some first
    → offset ≡ saturated before → leaf_number c e.item ≡ Some (first + before) → IsTrue answer ↔ IsAsynchronous c e

abbrev pub Answers : CircuitTree → ℕ → KindMeant → Bool → Type 0
Answers c number synchronous_kind answer = answer ≡ false
Answers c number asynchronous_kind answer = answer ≡ true
Answers c number (inferred_kind declaration offset) answer = AnswersReset c number declaration offset answer

same_answer : (a b : Bool) → (a ≡ true → b ≡ true) → (b ≡ true → a ≡ true) → a ≡ b
same_answer true b h k = sym (h refl)
same_answer false true h k = k refl
same_answer false false h k = refl

module _ (c : CircuitTree) (has : HasNames c) (clear : type_faults c ≡ []) (number : ℕ) (inside : ModuleTree)
    (is_module : slice_get c.modules number ≡ Some inside) (scope more : TypedScope)
    (all : typed_scope c.modules (declarations inside) ≡ scope ++ more) (is_async : LeafPath → Bool)
    (resets : AreResets c number is_async) (answer : Bool) where
  -- of a Reset at a path
  at_path : (declaration offset before : ℕ) (path : LeafPath) → AnswersReset c number declaration offset answer → offset ≡ saturated before
      → ResetAt c number declaration before path → answer ≡ is_async path
  at_path declaration offset before path answers is at =
      let told = answers at.at.end at.first before at.at.leaf at.at.resets at.is_first is at.number_is in
      same_answer answer (is_async path)
      (λ h. (resets path).1 (record { end = at.at.end; leaf = at.at.leaf; item = at.at.item; asynchronous = told.0 h }))
      (λ h. told.1 (there at ((resets path).0 h)))
    where
      there : (x : ResetAt c number declaration before path) → IsAsynchronousAt c number path → IsAsynchronous c x.at.end
      there x a =
          let number_is = ap (leaf_number c) (a.item ∙ sym x.at.item) ∙ x.number_is in
          let own = answers a.end x.first before a.leaf (only_resets c a.end a.asynchronous) x.is_first is number_is in
          let told = answers x.at.end x.first before x.at.leaf x.at.resets x.is_first is x.number_is in
          told.0 (own.1 a.asynchronous)

  -- of one that a reference reaches
  of_reached : (s : SinkReference) (r : Reached) (h : Names scope s r) → r.data_type ≡ reset → Answers c number (inferred_by (Some h.range)) answer
      → answer ≡ async_where is_async r.path
  of_reached s r h is = by (all_there h.range.picks) refl
    where
      by : (b : Bool) → all_there h.range.picks ≡ b
          → Answers c number (if b then inferred_kind h.range.declaration (saturated h.range.shared_offset) else synchronous_kind) answer
          → answer ≡ async_where is_async r.path
      by false none answers = answers ∙ sym (ap (async_where is_async) (h.leads.nowhere none))
      by true some answers =
          let below = h.leads.below some in
          let at =
          reached_reset c has clear number inside is_module scope more all s.name h.found h.is_known h.data_type h.has_type h.range.shared_offset r
          below is in
          let own = subst (λ d. AnswersReset c number d (saturated h.range.shared_offset) answer) h.leads.declared answers in
          at_path _ (saturated h.range.shared_offset) h.range.shared_offset _ own refl at ∙ sym (ap (async_where is_async) below.path_is)

  of_reset : (e : Expression) → (expression_type scope e).has ≡ Some reset → Answers c number (inferred_by (range_named scope e)) answer
      → answer ≡ async_reached is_async (reached_by scope e)
  of_reset (reference p n ps) h answers = by (reaching scope s).has refl h answers
    where
      s : SinkReference
      s = record { place = p; name = n; parts = ps }

      by : (o : Option Reached) → (reaching scope s).has ≡ o → option_map (λ (r : Reached). r.data_type) o ≡ Some reset
          → Answers c number (inferred_by (range_named scope (reference p n ps))) answer → answer ≡ async_reached is_async o
      by None is e told = cc
      by (Some r) is e told =
          let named = names scope s r is in
          of_reached s r named (same r.data_type e) (subst (λ o. Answers c number (inferred_by o) answer) named.is_range told)
        where
          same : (t : DataType) → Some t ≡ Some reset → t ≡ reset
          same t k = cc
  of_reset (literal l) h answers = answers
  of_reset (operation p op es ks) h answers = answers
  of_reset (mux p x a b) h answers = answers
  of_reset (validif p x a) h answers = answers

  of_type : (e : Expression) (o : Option DataType) → (expression_type scope e).has ≡ o
      → Answers c number (kind_by (range_named scope e) o) answer
      → answer ≡ async_by is_async (reached_by scope e) o
  of_type e None is answers = answers
  of_type e (Some (uint w)) is answers = answers
  of_type e (Some (sint w)) is answers = answers
  of_type e (Some clock) is answers = answers
  of_type e (Some reset) is answers = of_reset e is answers
  of_type e (Some async_reset) is answers = answers
  of_type e (Some (bundle fs)) is answers = answers
  of_type e (Some (vector t n)) is answers = answers

  pub told_reset : (e : Expression) (kind : KindMeant) → kind ≡ kind_of_reset scope e → Answers c number kind answer
      → answer ≡ is_async_reset is_async scope e
  told_reset e kind is answers = of_type e (expression_type scope e).has refl (subst (λ k. Answers c number k answer) is answers)

-- at a place of the frame's module
pub frame_told : (frame : Frame) (c : CircuitTree) (s : Scene) (before : Before) → Frames frame c s
    → Begins before.declared (declarations s.own.inside)
    → (e : Expression) (kind : KindMeant) → kind ≡ kind_of_reset (scope_before s before) e → (answer : Bool)
    → Answers c frame.number kind answer
    → answer ≡ is_async_reset s.is_async (scope_before s before) e
frame_told frame c s before frames begins e kind is answer answers =
    let ms = s.own.modules in
    told_reset c frames.named frames.typed.clear frame.number s.own.inside frames.is_module (scope_before s before) _
    (ap (λ m. typed_scope m (declarations s.own.inside)) (sym frames.modules) ∙ ap (typed_scope ms) begins.1
    ∙ scope_joined ms before.declared begins.0)
    s.is_async frames.scene.resets answer e kind is answers
