-- What comes of a circuit that is flattened: its flat net, where none of its clocks is unclear, the ports of each memory have one clock and inits are constants; or
-- its first fault of clocks, or else of the clocks of memories, or else one of an init.
use Rattle.std.proofs.Common.{◌≡◌, ℕ, map, Option, Some, None, option_map, slice_get, ◌⊎◌, refl, ap, inl, inr}
use Rattle.fir_base.specs.Lists.{In}
use Rattle.fir_base.proofs.Elements.{get_in, number_of}
use Rattle.fir_ast.specs.declared.fault.FirFault.{FirFault}
use Rattle.fir_ast.specs.working.CodeFaults.{fault_of}
use Rattle.fir_ast.specs.Circuits.{CircuitTree}
use Rattle.fir_ast.specs.Faults.{E25, Fault}
use Rattle.fir_pass.specs.Groups.{IsClear}
use Rattle.fir_copies.specs.working.CopyLaws.{CopiesGiveAll, CopiesStand}
use Rattle.fir_design.specs.working.SourceLaws.{HasOneTree}
use Rattle.fir_design_faults.specs.working.SameClockFaults.{SameClockFaults}
use Rattle.fir_meaning.specs.Elaborated.{IsSourceOf}
use Rattle.fir_meaning.specs.ModuleScenes.{Scene}
use Rattle.fir_meaning.specs.SourceClocks as source
use Rattle.fir_meaning.specs.SourceClocks.{ShowsAt, clock_group}
use Rattle.fir_meaning.specs.SourceDesigns.{IsSourceDesignOf, SourceDesign}
use Rattle.fir_meaning.specs.SourceCircuits.{PlacedLeaf, all_leaves}
use Rattle.fir_meaning.specs.working.Flattened.{flattened}
use Rattle.fir_meaning.specs.working.LeafCircuits.{LeafCircuit}
use Rattle.fir_meaning.specs.working.LeafNames.{place_of_leaf}
use Rattle.fir_meaning.specs.working.LeafedModules.{leafed_module}
use Rattle.fir_elaborate.specs.declared.elaborated.ModuleCopy.{ModuleCopy}
use Rattle.fir_leaf.specs.working.ClockFaults.{ShowsPickedClock, ShowsTwoLive}
use Rattle.fir_leaf.specs.working.ModuleCircuits.{module_circuit}
use Rattle.fir_memory_clocks.specs.working.MemoriesTold as memories_told
use Rattle.fir_memory_clocks.specs.working.MemoriesTold.{AreClearCopies}
use Rattle.fir_memory_clocks.specs.working.ModuleMemories.{HasClearClocks}
use Rattle.fir_net.specs.declared.net.FlatNet.{FlatNet}
use Rattle.fir_net.specs.working.IsNet.{IsNet}
use Rattle.fir_net.specs.working.IsWritable.{HasConstantInits, HasOneClocks}
use Rattle.fir_inits.specs.working.ShowsInit.{ShowsInit}
use Rattle.fir_flatten.specs.declared.design_net.DesignNet.{DesignNet}
use Rattle.fir_flatten.specs.declared.design_parts.DesignParts.{DesignParts}
use Rattle.fir_flatten.specs.working.ClockTold.{FirstIsTold, IsShownAt, IsToldOf, IsToldOfSource}
use Rattle.fir_flatten.specs.working.DesignNets.{IsNetOfDesign, MakesDesign}
use Rattle.fir_flatten.specs.working.DesignParts.{AreAllMemoriesTyped, AreDesignParts, HasDesign}
use Rattle.fir_flatten.specs.working.FirstSites as sites
use Rattle.fir_flatten.specs.working.FlatDesigns.{IsFlatDesign, IsPlainDesign}
use Rattle.fir_flatten.specs.working.FlatFaults.{ShowsNone, TellsClock, TellsFirst, TellsInit, TellsMemory}
use Rattle.fir_flatten.specs.working.FlattensTo.{IsFlatNetOf}
use Rattle.fir_flatten.specs.working.Laws.{DesignsArePlain, DesignsFlatten, DesignsHaveOneClocks, DesignsTellInits, HasInitsOf, IsClearDesign}
use Rattle.fir_flatten.proofs.DesignCopies.{have_widths}
use Rattle.fir_flatten.proofs.DesignedNets.{source_is}
use Rattle.fir_flatten.proofs.DesignsOfCircuits.{clear_design, designs_beside, tree_of}
use Rattle.fir_flatten.proofs.NamedClocks.{all_have_clocks}
use Rattle.fir_flatten.proofs.NetsOfDesigns.{net_of_design}
use Rattle.fir_flatten.proofs.ViewedModules.{have_scenes}

-- the laws that it rests on
pub record LawsOfDesigns : Type 0 where
  pub one_tree : HasOneTree
  pub stand : CopiesStand
  pub give : CopiesGiveAll
  pub same : SameClockFaults
  pub told : FirstIsTold
  pub plain : DesignsArePlain
  pub one_clocks : DesignsHaveOneClocks
  pub flatten : DesignsFlatten
  pub inits : DesignsTellInits

-- no fault, or the first, of each tree below the main module
abbrev pub TellsOfSources : CircuitTree → Option FirFault → Type 0
TellsOfSources c f = (t : SourceDesign) → IsSourceOf c t → IsToldOfSource t (option_map fault_of f)

clock_code : (t : SourceDesign) (p : PlacedLeaf) (f : Fault) → ShowsAt t p f → f.code ≡ E25
clock_code t p f (inl picked) = ap (λ (g : Fault). g.code) picked.is
clock_code t p f (inr two) = ap (λ (g : Fault). g.code) two.is

module _ (laws : LawsOfDesigns) (c : CircuitTree) (memories : AreAllMemoriesTyped c) (p : DesignParts) (held : AreDesignParts c p) where
  abbrev h : HasDesign c
  h = held.design

  -- what is told of the copies of its modules
  abbrev Tells : Option FirFault → Type 0
  Tells f = sites.TellsFirst p.modules.items (map (λ ns. ns.items) p.names.items) p.elaborated.copies.items f

  tree : (t : SourceDesign) × IsSourceDesignOf h.scenes h.main t
  tree = tree_of c h.scenes h.main h.design h.designed laws.one_tree

  tree_is : IsSourceOf c tree.0
  tree_is = record { scenes = h.scenes; main = h.main; has = h.designed.has; is = tree.1 }

  module _ (f : Option FirFault) (tells : Tells f) where
    told_of_copies : IsToldOf h.scenes p.elaborated.copies.items (option_map fault_of f)
    told_of_copies =
        tells h.scenes (held.parts h.scenes (have_scenes c h.scenes h.main h.design h.designed))
        (all_have_clocks c h.scenes h.main h.design h.designed held.typed held.driven (map (λ ns. ns.items) p.names.items) held.named)

    pub tells_sources : TellsOfSources c f
    tells_sources t src =
        laws.told c h.design t (designs_beside c h.scenes h.main h.design h.designed t (source_is c h.scenes h.main h.design h.designed t src)) h.number
        p.elaborated.copies.items
        (option_map fault_of f) h.at (have_widths c h.scenes h.main h.design h.designed) held.elaborated.copies held.elaborated.prefixes
        told_of_copies

  -- where a fault is found, it is the first
  tells_clock : (f : FirFault) → Tells (Some f) → TellsClock c (fault_of f)
  tells_clock f tells =
      let told : source.TellsClockFault tree.0 (fault_of f) = tells_sources (Some f) tells tree.0 tree_is in
      record {
        code = clock_code tree.0 told.leaf (fault_of f) told.shows;
        told = record { source = tree.0; is_source = tree_is; holds = told };
        shown = record {
          source = tree.0;
          is_source = tree_is;
          holds = record {
            leaf = told.leaf;
            among = get_in (all_leaves tree.0) told.rank.leaf told.leaf told.has_rank.is_leaf;
            shows = told.shows;
          };
        };
      }

  pub tells_fault : (f : FirFault) → Tells (Some f) → TellsFirst c (fault_of f)
  tells_fault f tells = inl (tells_clock f tells)

  -- where none is found, none stands in the circuit
  module _ (tells : Tells None) where
    is_clear : IsClear (clock_group c)
    is_clear f shown = tells_sources None tells shown.source shown.is_source f shown.holds

    is_clear_design : IsClearDesign h.scenes h.design
    is_clear_design =
        clear_design c h.scenes h.main h.design h.designed held.typed held.driven memories
        (λ f shown.
        let same = laws.same c h.design tree.0 f (designs_beside c h.scenes h.main h.design h.designed tree.0 tree.1) in
        tells_sources None tells tree.0 tree_is f (same.0 shown))

    -- nor at a leaf of a copy of a module
    clear_copy : (k : ModuleCopy) (s : Scene) → In p.elaborated.copies.items k → slice_get h.scenes k.module_number ≡ Some s → HasClearClocks (leafed_module s)
    clear_copy k s among at x f lt shown = let v = is_shown shown in told_of_copies None tells v.0 x (place_of_leaf (module_circuit (leafed_module s)) x) v.1 v.2
      where
        is_shown : ShowsPickedClock (module_circuit (leafed_module s)) x f ⊎ ShowsTwoLive (module_circuit (leafed_module s)) x f
            → (i : ℕ) × (g : Fault) × IsShownAt h.scenes p.elaborated.copies.items i x (place_of_leaf (module_circuit (leafed_module s)) x) g
        is_shown (inl picked) =
            let i = number_of p.elaborated.copies.items k among in (
              i.0,
              _,
              record {
                copy = k;
                is = i.1;
                scene = s;
                is_scene = at;
                within = lt;
                place = refl;
                one = picked.index;
                other = picked.index;
                shows = inl (record { first = picked.first; twice = refl });
                told = refl;
              },
            )
        is_shown (inr two) =
            let i = number_of p.elaborated.copies.items k among in (
              i.0,
              _,
              record {
                copy = k;
                is = i.1;
                scene = s;
                is_scene = at;
                within = lt;
                place = refl;
                one = two.first.place;
                other = two.second.place;
                shows = inr (record {
                  is_clock = two.is_clock;
                  is_sink = two.is_sink;
                  none_picks = two.none_picks;
                  first = two.first;
                  second = two.second;
                  rest = two.rest;
                  lives = two.lives;
                  one_is = refl;
                  other_is = refl;
                });
                told = refl;
              },
            )

    pub clear_copies : AreClearCopies c p.elaborated.copies.items
    clear_copies = record {
      names = h.designed.names;
      types = h.designed.types;
      scenes = h.scenes;
      main = h.main;
      has = h.designed.has;
      among = h.designed.among;
      design = h.design;
      sound = h.designed.sound;
      number = h.number;
      at = h.at;
      are = held.elaborated.copies;
      prefixes = held.elaborated.prefixes;
      clear = clear_copy;
    }

    -- where a fault of the clocks of memories is found, it is told
    tells_memory : (f : FirFault) → memories_told.TellsFirst c (fault_of f) → TellsMemory c (fault_of f)
    tells_memory f told = record {
      code = ap (λ (g : Fault). g.code) told.shown.holds.shows.is;
      clear = is_clear;
      told = told.told;
      shown = told.shown;
    }

    pub tells_fault_of_memory : (f : FirFault) → memories_told.TellsFirst c (fault_of f) → TellsFirst c (fault_of f)
    tells_fault_of_memory f told = inr (inl (tells_memory f told))

    module _ (one : memories_told.ShowsNone c p.elaborated.copies.items) (net : DesignNet)
        (makes : MakesDesign p.modules.items p.elaborated.copies.items net) (flat : FlatNet)
        (made :
        (g : LeafCircuit) (ports : ℕ) → IsPlainDesign g ports → IsNetOfDesign g ports net → p.elaborated.state.items ≡ g.words
        → p.elaborated.array_order.items ≡ g.array_order → IsFlatDesign g ports flat) where
      flat_is : IsFlatDesign (flattened h.design) (leafed_module h.main).port_leaves flat
      flat_is =
          made (flattened h.design) (leafed_module h.main).port_leaves (laws.plain c h.scenes h.main h.design h.designed is_clear_design)
          (net_of_design laws.one_tree laws.stand laws.give c h.scenes h.main h.design h.designed is_clear_design.memories h.number h.at p.elaborated
          held.elaborated p.modules.items held.parts net makes) held.elaborated.state held.elaborated.array_order

      pub is_whole : IsNet flat
      is_whole = flat_is.whole

      on_one_clock : HasOneClocks flat
      on_one_clock =
          laws.one_clocks c h.scenes h.main h.design flat p.elaborated h.number h.designed is_clear_design h.at held.elaborated one.one flat_is

      inits_of : HasInitsOf c flat
      inits_of = laws.inits c h.scenes h.main h.design flat h.designed is_clear_design flat_is

      -- where its inits are constants, the flat net of its design is the circuit's
      pub is_flat_net : flat.name ≡ c.named.name → HasConstantInits flat → IsFlatNetOf c flat
      is_flat_net named inits = laws.flatten c h.scenes h.main h.design flat h.designed is_clear_design flat_is named inits on_one_clock

      pub shows_none : HasConstantInits flat → ShowsNone c
      shows_none inits = record { clocks = is_clear; memories = one.clear; inits = inits_of.clear inits }

      -- and where one is not, it is told
      tells_init : (f : FirFault) → ShowsInit flat f → TellsInit c (fault_of f)
      tells_init f shown =
          let told = inits_of.shows f shown in
          record { code = ap (λ (g : Fault). g.code) told.holds.is; clear = is_clear; memories = one.clear; shown = told }

      pub tells_fault_of_init : (f : FirFault) → ShowsInit flat f → TellsFirst c (fault_of f)
      tells_fault_of_init f shown = inr (inr (tells_init f shown))
