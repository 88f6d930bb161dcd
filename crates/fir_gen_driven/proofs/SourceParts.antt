-- What any source of the circuit has: its ports, a word for each register, and how many leaves, registers and memories.
use Rattle.std.proofs.Common.{◌≡◌, ℕ, suc, ◌+◌, ◌≤◌, List, [], ◌∷◌, ◌++◌, Bool, length, filter, flat_map, replicate, refl, ap, ap₂, ◌∙◌, subst, append-nil, arith}
use Rattle.fir_base.specs.Ticks.{Shape}
use Rattle.fir_ast.specs.declared.place.Place.{Place}
use Rattle.fir_pass.specs.Meaning.{Counts}
use Rattle.fir_meaning.specs.Elaborated.{IsSourceOf}
use Rattle.fir_meaning.specs.LeafPaths.{LeafPath}
use Rattle.fir_meaning.specs.ModuleScenes.{Scene, behind_all_ports}
use Rattle.fir_meaning.specs.SizedDeclarations.{NumberedModule}
use Rattle.fir_meaning.specs.SourceCircuits.{PlacedArray, PlacedLeaf, all_arrays, all_leaves, array_order_of_instance, placed_arrays, source_shape, widths_in, words_of_instance}
use Rattle.fir_meaning.specs.SourceDesigns.{SourceDesign, no_instances}
use Rattle.fir_meaning.specs.SourceMeaning.{is_register, source_counts}
use Rattle.fir_meaning.specs.SourceRoles.{SourceArray}
use Rattle.fir_meaning.specs.WidthExpressions.{Widths}
use Rattle.fir_gen.specs.working.GenTree.{body, gen_module, gen_tree}
use Rattle.fir_gen_driven.specs.working.Laws.{IsGenSource}
use Rattle.fir_gen_driven.proofs.CountedRegisters.{HasRegisters, counted_body, leaves_in}
use Rattle.fir_gen_driven.proofs.GenScenes.{gen_own, own_is}
use Rattle.fir_gen_driven.proofs.GenSources.{alone, is_alone, main_scene}

abbrev scene_of : NumberedModule → Widths → (LeafPath → Bool) → Scene
scene_of own widths is_async = record { own = own; widths = widths; is_async = is_async }

module _ (at : ℕ → ℕ → Place) (n : ℕ) (some : 1 ≤ n) where
  module _ (widths : Widths) (is_async : LeafPath → Bool) where
    abbrev main : SourceDesign
    main = alone (scene_of (gen_own at n) widths is_async)

    abbrev no_words : List ℕ → List PlacedLeaf
    no_words = words_of_instance [] no_instances

    abbrev no_arrays : List ℕ → List PlacedArray
    no_arrays = array_order_of_instance [] no_instances

    counted : HasRegisters at (scene_of (gen_own at n) widths is_async) no_words no_arrays (behind_all_ports (gen_module at n)) n (body at n)
    counted = counted_body at (scene_of (gen_own at n) widths is_async) no_words no_arrays n some (behind_all_ports (gen_module at n))

    -- those of the registers, behind the ports
    abbrev inner : List PlacedLeaf
    inner = leaves_in at (scene_of (gen_own at n) widths is_async) no_words no_arrays (behind_all_ports (gen_module at n)) (body at n)

    shape_is : source_shape main ≡ record { inputs = 1 ∷ 16 ∷ []; clocks = 1; state = replicate n 16 }
    shape_is =
        let shaped : List ℕ → Shape = λ state. record { inputs = 1 ∷ 16 ∷ []; clocks = 1; state = state } in
        ap shaped (ap₂ (λ words arrays. words ++ flat_map widths_in arrays) counted.words counted.stored ∙ append-nil (replicate n 16))

    leaves_are : length (all_leaves main) ≡ n + 4
    leaves_are =
        let e : suc (suc (suc (suc n))) ≡ n + 4 = omega arith in
        ap (λ (k : ℕ). suc (suc (suc (suc k)))) (ap length (append-nil inner) ∙ counted.leaves) ∙ e

    registers_are : length (filter (λ (p : PlacedLeaf). is_register p.leaf.role) (all_leaves main)) ≡ n
    registers_are = ap (λ ls. length (filter (λ (p : PlacedLeaf). is_register p.leaf.role) ls)) (append-nil inner) ∙ counted.registers

    memories_are : length (all_arrays main) ≡ 0
    memories_are = ap (λ (xs : List SourceArray). length (placed_arrays [] xs ++ [])) counted.arrays

    counts_are : source_counts main ≡ record { leaves = n + 4; registers = n; memories = 0 }
    counts_are =
        let made : ℕ → ℕ → ℕ → Counts = λ leaves registers memories. record { leaves = leaves; registers = registers; memories = memories } in
        ap₂ (λ leaves registers. made leaves registers (length (all_arrays main))) leaves_are registers_are ∙ ap (made (n + 4) n) memories_are

    main_has : IsGenSource n main
    main_has = record { shape = shape_is; outputs = refl; counts = counts_are }

  pub has_source : (t : SourceDesign) → IsSourceOf (gen_tree at n) t → IsGenSource n t
  has_source t h =
      let s : Scene = h.main in
      subst (IsGenSource n) (is_alone at n t h)
      (subst (λ own. IsGenSource n (alone (scene_of own s.widths s.is_async))) (own_is at n 0 s (main_scene at n t h)) (main_has s.widths s.is_async))
