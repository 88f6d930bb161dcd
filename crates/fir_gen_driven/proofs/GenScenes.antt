-- What is known of a scene of the circuit's module: its leaves, its last drive, and that no memory and no instance stands in it.
use Rattle.std.proofs.Common.{◌≡◌, ℕ, List, [], ◌∷◌, ◌++◌, Bool, true, flat_map, refl, ap, subst, inl, inr}
use Rattle.std.specs.Prelude.{codes}
use Rattle.std.specs.List.{AllByRecursion}
use Rattle.fir_base.specs.Lists.{In}
use Rattle.fir_base.proofs.Elements.{get_in}
use Rattle.fir_ast.specs.declared.place.Place.{Place}
use Rattle.fir_ast.specs.Circuits.{ModuleTree}
use Rattle.fir_ast.specs.Statements.{Block, Statement, memory}
use Rattle.fir_meaning.specs.ModuleScenes.{Scene, behind_all_ports}
use Rattle.fir_meaning.specs.Scenes.{IsSceneOf}
use Rattle.fir_meaning.specs.SizedDeclarations.{NumberedModule, first_numbers, numbered_modules}
use Rattle.fir_meaning.specs.SourceCircuits.{port_leaves}
use Rattle.fir_meaning.specs.SourceDesigns.{instances_of_block}
use Rattle.fir_meaning.specs.SourceDrives.{module_drives, drives}
use Rattle.fir_meaning.specs.SourceRoles.{SourceLeaf, sources_in_block, sources_of_ports}
use Rattle.fir_meaning.specs.Visibility.{Before, at_head, behind}
use Rattle.fir_meaning.specs.Visits.{Branch, Visit, module_visits, visits_in}
use Rattle.fir_gen.specs.working.GenTree.{gen_module, gen_tree}
use Rattle.fir_gen_driven.proofs.PlainScopes.{IsReady}
use Rattle.fir_gen_driven.proofs.BodyTails.{IsTail, body_tail, chosen, declared, driven, register_of, shown}
use Rattle.fir_gen_driven.proofs.LastDrives.{EndsInOutput, tail_drives}
use Rattle.fir_gen_driven.proofs.GenLeaves.{IsFineLeaf, IsRegister, tail_leaves}

abbrev pub IsNoMemory : Statement → Type 0
IsNoMemory (memory p n parts) = ⊥
IsNoMemory _ = Unit {0}

tail_memories : {name : List ℕ} → (b : Block) → IsTail name b → (way : List Bool) (before : Before) (under : List Branch)
    → AllByRecursion (λ (v : Visit). IsNoMemory v.statement) (visits_in way before under b)
tail_memories b (shown p q r other) way before under = (tt, tt)
tail_memories b (declared {name = next} {b = rest} p q t c r condition init tail) way before under =
    (tt, tail_memories rest tail (way ++ true ∷ []) (behind before (register_of p q next t c r condition init)) under)
tail_memories b (driven {b = rest} p sink e tail) way before under = (tt, tail_memories rest tail (way ++ true ∷ []) before under)
tail_memories b (chosen {b = rest} p c q sink e r other f tail) way before under =
    (tt, (tt, (tt, tail_memories rest tail (way ++ true ∷ []) before under)))

tail_instances : {name : List ℕ} → (b : Block) → IsTail name b → instances_of_block b ≡ []
tail_instances b (shown p q r other) = refl
tail_instances b (declared {b = rest} p q t c r condition init tail) = tail_instances rest tail
tail_instances b (driven {b = rest} p sink e tail) = tail_instances rest tail
tail_instances b (chosen {b = rest} p c q sink e r other f tail) = tail_instances rest tail

pub record IsGenScene (s : Scene) : Type 0 where
  pub ports : AllByRecursion IsFineLeaf (port_leaves s)
  pub inner : AllByRecursion (λ (l : SourceLeaf). IsRegister l.role) (sources_in_block s (behind_all_ports s.own.inside) s.own.inside.body)
  pub ends : EndsInOutput (module_drives s)
  pub no_memory : AllByRecursion (λ (v : Visit). IsNoMemory v.statement) (module_visits s.own.inside)
  pub no_instance : instances_of_block s.own.inside.body ≡ []

module _ (at : ℕ → ℕ → Place) (n : ℕ) where
  -- behind the ports the output is known
  head_ready : (modules : List ModuleTree) → IsReady modules (behind_all_ports (gen_module at n)) (codes "y")
  head_ready modules = record { all = (tt, (tt, (tt, (tt, tt)))); output = (_, refl); last = (_, refl) }

  ports_fine : (s : Scene) → AllByRecursion IsFineLeaf (sources_of_ports s at_head (gen_module at n).ports)
  ports_fine s = (tt, (tt, (tt, ((refl, λ e. cc), tt))))

  -- the one module of the circuit, with its numbers
  abbrev pub gen_own : NumberedModule
  gen_own = record { modules = gen_module at n ∷ []; inside = gen_module at n; start = first_numbers (gen_module at n ∷ []) }

  pub own_is : (k : ℕ) (s : Scene) → IsSceneOf (gen_tree at n) k s → gen_own ≡ s.own
  own_is k s is = by (get_in (numbered_modules (gen_tree at n)) k s.own is.own)
    where
      by : In (numbered_modules (gen_tree at n)) s.own → gen_own ≡ s.own
      by (inl e) = e
      by (inr h) = absurd h

  pub gen_scene : (k : ℕ) (s : Scene) → IsSceneOf (gen_tree at n) k s → IsGenScene s
  gen_scene k s is =
      let e = ap (λ (m : NumberedModule). m.inside) (own_is k s is) in
      let m = gen_module at n in
      let tail = body_tail at n in
      let ready = head_ready s.own.modules in
      record {
        ports = subst (λ (m : ModuleTree). AllByRecursion IsFineLeaf (sources_of_ports s at_head m.ports)) e (ports_fine s);
        inner =
            subst (λ (m : ModuleTree). AllByRecursion (λ (l : SourceLeaf). IsRegister l.role) (sources_in_block s (behind_all_ports m) m.body)) e
            (tail_leaves s m.body tail (behind_all_ports m) ready);
        ends =
            subst (λ (m : ModuleTree). EndsInOutput (flat_map (drives s) (module_visits m))) e (tail_drives s m.body tail [] (behind_all_ports m) ready);
        no_memory =
            subst (λ (m : ModuleTree). AllByRecursion (λ (v : Visit). IsNoMemory v.statement) (module_visits m)) e
            (tail_memories m.body tail [] (behind_all_ports m) []);
        no_instance = subst (λ (m : ModuleTree). instances_of_block m.body ≡ []) e (tail_instances m.body tail);
      }
