-- No memory has two clocks, as there is none.
use Rattle.std.proofs.Common.{ℕ, [], sym, subst}
use Rattle.fir_base.proofs.Each.{all_at}
use Rattle.fir_base.proofs.Elements.{get_in}
use Rattle.fir_ast.specs.declared.place.Place.{Place}
use Rattle.fir_ast.specs.Faults.{Fault}
use Rattle.fir_pass.specs.Groups.{IsClear}
use Rattle.fir_meaning.specs.ModuleScenes.{Scene}
use Rattle.fir_meaning.specs.SourceDependence.{PlacedModule, all_modules}
use Rattle.fir_meaning.specs.SourceMemoryClocks.{ShowsMemoryClocks, ShowsMemoryFault, memory_clock_group}
use Rattle.fir_meaning.specs.Visits.{Visit, module_visits}
use Rattle.fir_gen.specs.working.GenTree.{gen_tree}
use Rattle.fir_gen_driven.proofs.GenScenes.{IsGenScene, IsNoMemory}
use Rattle.fir_gen_driven.proofs.GenSources.{alone, module_alone, none_of_source}

module _ (s : Scene) (gen : IsGenScene s) where
  none_within : (f : Fault) → ShowsMemoryClocks (record { at = []; scene = s }) f → ⊥
  none_within f h =
      subst IsNoMemory h.is_memory (all_at (λ (v : Visit). IsNoMemory v.statement) (module_visits s.own.inside) gen.no_memory h.visit h.among)

  clear_alone : (f : Fault) → ShowsMemoryFault (alone s) f → ⊥
  clear_alone f h =
      let same = module_alone s h.holder (get_in (all_modules (alone s)) h.number h.holder h.is_holder) in
      none_within f (subst (λ (m : PlacedModule). ShowsMemoryClocks m f) (sym same) h.shows)

pub memory_clocks_clear : (at : ℕ → ℕ → Place) (n : ℕ) → IsClear (memory_clock_group (gen_tree at n))
memory_clocks_clear at n f h = none_of_source at n h.source h.is_source ShowsMemoryFault clear_alone f h.holds
