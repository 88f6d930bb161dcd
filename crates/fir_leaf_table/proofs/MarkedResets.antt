-- What is found under the number of a Reset, where numbers stand still.
use Rattle.std.proofs.Common.{◌≡◌, ℕ, ◌+◌, ◌^◌, ◌<◌, ◌≤◌, List, [], Bool, false, Option, Some, None, length, map, refl, sym, ap, ◌∙◌, subst, ⊎_elim, arith}
use Rattle.std.specs.Prelude.{◌↔◌, IsTrue, option_map, slice_get, unwrap_or}
use Rattle.std.proofs.lemmas.Bool.{cases_lt}
use Rattle.std.proofs.lemmas.Option.{none-some, same_Some, slice_get-map, slice_get_past}
use Rattle.fir_ast.specs.Circuits.{CircuitTree}
use Rattle.fir_ast.specs.working.Views.{circuit_of}
use Rattle.fir_meaning.specs.ResetItems.{End}
use Rattle.fir_meaning.specs.ResetWalks.{IsAsynchronous, IsLeafOf, IsReset}
use Rattle.fir_type_table.specs.working.Saturated.{saturated}
use Rattle.fir_types.specs.working.LeafNumbers.{first_leaves}
use Rattle.fir_types.specs.working.TypedModules.{leaf_declared}
use Rattle.fir_meaning.specs.ModuleScenes.{Scene}
use Rattle.fir_reset.specs.working.Inferred.{AreInferred, leaf_number}
use Rattle.fir_leaf_table.specs.declared.frame.Frame.{Frame}
use Rattle.fir_leaf_table.specs.working.Frames.{Frames}
use Rattle.fir_leaf_circuit.proofs.InferredResets.{answers_number}

no_mark : (found : List Bool) (n : ℕ) → length found < 2 ^ 63 → 2 ^ 63 ≤ n → unwrap_or (slice_get found n) false ≡ false
no_mark found n short past = ap (λ o. unwrap_or o false) (slice_get_past found n (omega arith))

same_mark : (found : List Bool) (first offset : ℕ) → length found < 2 ^ 63
    → unwrap_or (slice_get found (saturated first + saturated offset)) false ≡ unwrap_or (slice_get found (first + offset)) false
same_mark found first offset short =
    ⊎_elim
    (λ (h : first + offset < 2 ^ 63).
    let same : saturated first + saturated offset ≡ first + offset = omega arith in ap (λ n. unwrap_or (slice_get found n) false) same)
    (λ (h : 2 ^ 63 ≤ first + offset).
    no_mark found (saturated first + saturated offset) short (omega arith) ∙ sym (no_mark found (first + offset) short h))
    (cases_lt (first + offset) (2 ^ 63))

-- the number of a first leaf, as the code has it
first_read : (frame : Frame) (c : CircuitTree) (s : Scene) → Frames frame c s → (declaration first : ℕ)
    → leaf_declared c frame.number declaration ≡ Some first
    → slice_get frame.first_leaves.now declaration ≡ Some (saturated first)
first_read frame c s frames declaration first is = by (slice_get (first_leaves c) frame.number) refl is
  where
    by : (o : Option (List ℕ)) → slice_get (first_leaves c) frame.number ≡ o → slice_get (unwrap_or o []) declaration ≡ Some first
        → slice_get frame.first_leaves.now declaration ≡ Some (saturated first)
    by None none e =
        absurd (none-some frame.first_leaves.now
        (ap (option_map (map saturated)) (sym none) ∙ sym (slice_get-map (map saturated) (first_leaves c) frame.number) ∙ frames.first_leaves))
    by (Some firsts) some e =
        let same : map saturated firsts ≡ frame.first_leaves.now =
        same_Some (map saturated firsts) frame.first_leaves.now
        (ap (option_map (map saturated)) (sym some) ∙ sym (slice_get-map (map saturated) (first_leaves c) frame.number) ∙ frames.first_leaves) in
        ap (λ ns. slice_get ns declaration) (sym same) ∙ slice_get-map saturated firsts declaration ∙ ap (option_map saturated) e

module _ (frame : Frame) (found : List Bool) (inferred : AreInferred (circuit_of frame.fitted.now) found) (short : length found < 2 ^ 63)
    (declaration shared : ℕ)
    (c : CircuitTree) (s : Scene) (e : End) (first offset : ℕ) (frames : Frames frame c s) (leaf : IsLeafOf c e) (resets : IsReset e)
    (is_first : leaf_declared c frame.number declaration ≡ Some first) (is_shared : shared ≡ saturated offset)
    (number_is : leaf_number c e.item ≡ Some (first + offset)) where
  here : AreInferred c found
  here = subst (λ d. AreInferred d found) frames.circuit inferred

  told : IsTrue (unwrap_or (slice_get found (saturated first + saturated offset)) false) ↔ IsAsynchronous c e
  told =
      subst (λ b. IsTrue b ↔ IsAsynchronous c e) (sym (same_mark found first offset short))
      (answers_number c found here e (first + offset) leaf resets number_is)

  module _ (read : ℕ) (is_read : slice_get frame.first_leaves.now declaration ≡ Some read) where
    sum_is : read + shared ≡ saturated first + saturated offset
    sum_is =
        let same : read ≡ saturated first =
        same_Some read (saturated first) (sym is_read ∙ first_read frame c s frames declaration first is_first) in
        omega arith

    pub answers_sum : (sum : ℕ) → sum ≡ read + shared → IsTrue (unwrap_or (slice_get found sum) false) ↔ IsAsynchronous c e
    answers_sum sum is = subst (λ n. IsTrue (unwrap_or (slice_get found n) false) ↔ IsAsynchronous c e) (sym (is ∙ sum_is)) told

    pub answers_past : 2 ^ 64 ≤ read + shared → IsTrue false ↔ IsAsynchronous c e
    answers_past past =
        subst (λ b. IsTrue b ↔ IsAsynchronous c e) (no_mark found (saturated first + saturated offset) short (omega (arith, past, sum_is))) told
