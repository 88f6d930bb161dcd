-- The leaves and arrays of a module below an instance go in step with those of its statements.
use Rattle.std.proofs.Common.{◌≡◌, ℕ, List, [], ◌∷◌, ◌++◌, map, length, refl, sym, ap, subst, arith}
use Rattle.std.specs.List.{AllByRecursion}
use Rattle.std.proofs.Math.Seq.{drop-append_seam}
use Rattle.fir_meaning.specs.LeafPaths.{LeafPath}
use Rattle.fir_meaning.specs.Visibility.{at_head}
use Rattle.fir_meaning.specs.working.FlatDesigns as flat
use Rattle.fir_meaning.specs.working.FlatLeaves.{placed_array, placed_leaf}
use Rattle.fir_meaning.specs.working.LeafCircuits.{LeafCircuit}
use Rattle.fir_meaning.specs.working.LeafModules.{LeafArray, LeafDeclared, LeafModule, Writing}
use Rattle.fir_meaning.specs.ModuleScenes.{Scene, behind_all_ports}
use Rattle.fir_meaning.specs.working.LeafedModules.{leafed_module, leaves_in_block, leaves_of_ports}
use Rattle.fir_meaning.specs.working.Numberings.{Numbering, moved_writing}
use Rattle.fir_leaf.proofs.MovedTerms.{Stands}
use Rattle.fir_design.specs.working.SameRoles.{SameLeaves, array_on, writing_on}
use Rattle.fir_meaning.specs.SourceCircuits.{inner_leaves, placed, placed_arrays, port_leaves, within}
use Rattle.fir_meaning.specs.SourceRoles.{SourceLeaf, source_arrays, source_leaves, sources_in_block}
use Rattle.fir_design.proofs.FineScenes.{IsFineScene}
use Rattle.fir_design.proofs.InStep.{SameArray, SameWritings}
use Rattle.fir_design.proofs.ListsInStep.{AreInStep}
use Rattle.fir_design.proofs.NamedPaths.{ArrayHasNames, HasName, LeafHasNames, WritingHasNames, name_behind}
use Rattle.fir_design.proofs.NamedSources.{arrays_named, block_named}
use Rattle.fir_design.proofs.PortsInStep.{LeafInStep, ports_long}
use Rattle.fir_design.proofs.ReadRoles.{inner_roles_read}
use Rattle.fir_design.proofs.RolesBelow.{ArraysStand, needs_below, path_below, role_below}
use Rattle.fir_design.proofs.RoleTerms.{RolesRead}

same_behind : (leaves : List LeafDeclared) (arrays : List LeafArray) (ls ms : List LeafDeclared) (ts us : List SourceLeaf) → length ls ≡ length ts
    → SameLeaves leaves arrays (ls ++ ms) (ts ++ us) → SameLeaves leaves arrays ms us
same_behind leaves arrays [] ms [] us long h = h
same_behind leaves arrays [] ms (t ∷ ts) us long h = absurd (omega (arith, long))
same_behind leaves arrays (l ∷ ls) ms [] us long h = absurd (omega (arith, long))
same_behind leaves arrays (l ∷ ls) ms (t ∷ ts) us long h = same_behind leaves arrays ls ms ts us (omega (arith, long)) h.1

module _ (c : LeafCircuit) (n : Numbering) (at : LeafPath) (k : ℕ) (s : Scene) (st : Stands c.leaves n at k (leafed_module s)) where
  abbrev m : LeafModule
  m = leafed_module s

  -- the leaves that are no ports
  module _ (first : ℕ) (arrays : ArraysStand c at first (leafed_module s)) where
    leaves_in_step : (ls : List LeafDeclared) (ts : List SourceLeaf) → SameLeaves m.leaves m.arrays ls ts → RolesRead m ls
        → AllByRecursion LeafHasNames ts → AreInStep (LeafInStep c) (map (placed_leaf at k n first) ls) (placed at (map within ts))
    leaves_in_step [] [] h r g = tt
    leaves_in_step [] (t ∷ ts) h r g = absurd h
    leaves_in_step (l ∷ ls) [] h r g = absurd h
    leaves_in_step (l ∷ ls) (t ∷ ts) h r g = (
      record {
        path = ap (λ q. at ++ q) h.0.0;
        holds = h.0.1;
        role = role_below c n at k m st first arrays l.role t.role r.0 g.0.role h.0.2;
        named = name_behind at l.path (subst HasName (sym h.0.0) g.0.path);
      },
      leaves_in_step ls ts h.1 r.1 g.1,
    )

    pub inner_in_step : IsFineScene s → SameLeaves m.leaves m.arrays m.leaves (source_leaves s)
        → AreInStep (LeafInStep c) (map (placed_leaf at k n first) (flat.inner_leaves m)) (placed at (inner_leaves s))
    inner_in_step f same =
        let head = behind_all_ports s.own.inside in
        let ports = leaves_of_ports s at_head s.own.inside.ports in
        let others = leaves_in_block s head s.own.inside.body in
        let sources = sources_in_block s head s.own.inside.body in
        rw (drop-append_seam ports others)
        (leaves_in_step others sources (same_behind m.leaves m.arrays ports others (port_leaves s) sources (ports_long c s) same)
        (inner_roles_read s f) (block_named s s.own.inside.body head))

  -- and the arrays
  writings_in_step : (ws : List Writing) → AllByRecursion WritingHasNames (map (writing_on m.leaves) ws)
      → SameWritings c at (map (moved_writing n) ws) (map (writing_on m.leaves) ws)
  writings_in_step [] h = tt
  writings_in_step (w ∷ ws) h = (
    record {
      address = path_below c n at k m st w.address h.0.address;
      needs = needs_below c n at k m st w.needs h.0.needs;
      clock = path_below c n at k m st w.clock h.0.clock;
      given = path_below c n at k m st w.given h.0.given;
    },
    writings_in_step ws h.1,
  )

  placed_in_step : (xs : List LeafArray) → AllByRecursion ArrayHasNames (map (array_on m.leaves) xs)
      → AreInStep (SameArray c) (map (placed_array at n) xs) (placed_arrays at (map (array_on m.leaves) xs))
  placed_in_step [] h = tt
  placed_in_step (a ∷ xs) h = (
    record { path = refl; holds = refl; words = refl; writings = writings_in_step a.writings h.0.writings },
    placed_in_step xs h.1,
  )

  pub arrays_in_step : map (array_on m.leaves) m.arrays ≡ source_arrays s
      → AreInStep (SameArray c) (map (placed_array at n) m.arrays) (placed_arrays at (source_arrays s))
  arrays_in_step e =
      subst (λ xs. AreInStep (SameArray c) (map (placed_array at n) m.arrays) (placed_arrays at xs)) e
      (placed_in_step m.arrays (subst (AllByRecursion ArrayHasNames) (sym e) (arrays_named s s.own.inside.body)))
