-- No init of an asynchronous reset reaches an input or state, as no register has such a reset.
use Rattle.std.proofs.Common.{◌≡◌, ℕ, true, false, subst}
use Rattle.std.specs.Prelude.{IsTrue}
use Rattle.fir_ast.specs.declared.place.Place.{Place}
use Rattle.fir_ast.specs.Faults.{Fault}
use Rattle.fir_pass.specs.Groups.{IsClear}
use Rattle.fir_meaning.specs.ModuleScenes.{Scene}
use Rattle.fir_meaning.specs.SourceInits.{ShowsAsyncInit, init_group}
use Rattle.fir_meaning.specs.SourceRoles.{SourceRole}
use Rattle.fir_gen.specs.working.GenTree.{gen_tree}
use Rattle.fir_gen_driven.proofs.GenLeaves.{IsFine}
use Rattle.fir_gen_driven.proofs.GenScenes.{IsGenScene}
use Rattle.fir_gen_driven.proofs.GenSources.{alone, leaf_fine, none_of_source}

clear_alone : (s : Scene) → IsGenScene s → (f : Fault) → ShowsAsyncInit (alone s) f → ⊥
clear_alone s gen f h =
    let fine = subst (λ (r : SourceRole). IsFine h.leaf.leaf.path h.leaf.leaf.holds r) h.is_register (leaf_fine s gen h.leaf h.among).1 in
    let wrong : false ≡ true = subst IsTrue fine.1 h.is_async in cc

pub inits_clear : (at : ℕ → ℕ → Place) (n : ℕ) → IsClear (init_group (gen_tree at n))
inits_clear at n f h = none_of_source at n h.source h.is_source ShowsAsyncInit clear_alone f h.holds
