-- The fault of a leaf whose clock is unclear, and that no other leaf shows one.
use Rattle.std.proofs.Common.{◌≡◌, ℕ, ◌<◌, List, [], ◌++◌, length, slice_get, Option, Some, None, option_map, refl, sym, ap, ap₂, ◌∙◌, subst, inl, inr}
use Rattle.std.proofs.lemmas.Option.{same_Some, slice_get_within}
use Rattle.fir_base.specs.Lists.{In}
use Rattle.fir_base.proofs.Elements.{get_in}
use Rattle.fir_ast.specs.declared.place.Place.{Place}
use Rattle.fir_ast.specs.declared.fault.FirFault.{FirFault}
use Rattle.fir_ast.specs.declared.fault.FirFault.TheVariants as fault
use Rattle.fir_ast.specs.working.CodeFaults.{fault_of}
use Rattle.fir_ast.specs.Faults.{Fault}
use Rattle.fir_meaning.specs.ModuleScenes.{Scene}
use Rattle.fir_meaning.specs.SourceClocks.{clock_fault}
use Rattle.fir_meaning.specs.working.LeafCircuits.{LeafCircuit, role_of}
use Rattle.fir_meaning.specs.LeafTypes.{a_clock}
use Rattle.fir_meaning.specs.working.LeafModules.{LeafModule, leaf_at, sink}
use Rattle.fir_meaning.specs.working.LeafedModules.{leafed_module}
use Rattle.fir_leaf.specs.working.ClockFaults.{clock_path, clock_places}
use Rattle.fir_leaf.specs.working.ClockRoots.{lives_of}
use Rattle.fir_leaf.specs.working.ModuleCircuits.{module_circuit}
use Rattle.fir_elaborate.specs.declared.elaborated.ModuleCopy.{ModuleCopy}
use Rattle.fir_flatten.specs.declared.clock_evidence.Evidence.{Evidence}
use Rattle.fir_flatten.specs.declared.clock_faults.Site.{Site}
use Rattle.fir_flatten.specs.declared.design_net.ModulePart.{ModulePart}
use Rattle.fir_flatten.specs.working.ClearClocks.{IsUnclear}
use Rattle.fir_flatten.specs.working.ClockEvidence.{IsEvidenceOf, ShowsClockFaultAt, lives_told, twice}
use Rattle.fir_flatten.specs.working.ClockTold.{IsShownAt, IsToldOf, ShowsPlaces, fault_behind}
use Rattle.fir_flatten.specs.working.DesignNets.{ArePartsOf, IsPartOf}
use Rattle.fir_flatten.specs.working.FirstSites.{AllHaveClocks, AreNamed, HasClocks, IsFirstAhead, IsToldAt, IsUnclearAt}
use Rattle.fir_flatten.proofs.MovedFaults.{shows_of}
use Rattle.fir_flatten.proofs.UnclearFaults.{fault_is_unclear, unclear_shows}

-- where a leaf shows a fault, its evidence has the places
pub record HasEvidence (c : LeafCircuit) (z : ℕ) (o : Option Evidence) : Type 0 where
  pub evidence : Evidence
  pub is : o ≡ Some evidence
  pub shows : ShowsPlaces c z evidence.one evidence.other

evidence_of : (c : LeafCircuit) (z : ℕ) (f : Fault) (o : Option Evidence) → ShowsClockFaultAt c z f → IsEvidenceOf c z o → HasEvidence c z o
evidence_of c z f o (inl h) e = record {
  evidence = twice h.index;
  is = e.picked h.index h.first;
  shows = inl (record { first = h.first; twice = refl });
}
evidence_of c z f o (inr h) e =
    let none : clock_places c z (leaf_at c.leaves z).holds (role_of c z) ≡ [] = ap₂ (clock_places c z) h.is_clock h.is_sink ∙ h.none_picks in
    let told : lives_told (leaf_at c.leaves z).holds (role_of c z) (lives_of c z) ≡ Some (record { one = h.first.place; other = h.second.place }) =
    ap₂ (λ t r. lives_told t r (lives_of c z)) h.is_clock h.is_sink ∙ ap (lives_told a_clock sink) h.lives in
    record {
      evidence = record { one = h.first.place; other = h.second.place };
      is = e.unpicked none ∙ told;
      shows = inr (record {
        is_clock = h.is_clock;
        is_sink = h.is_sink;
        none_picks = h.none_picks;
        first = h.first;
        second = h.second;
        rest = h.rest;
        lives = h.lives;
        one_is = refl;
        other_is = refl;
      });
    }

pub unclear_evidence : (m : LeafModule) (z : ℕ) (o : Option Evidence) → HasClocks m → z < length m.leaves → IsUnclear m z → IsEvidenceOf (module_circuit m) z o
    → HasEvidence (module_circuit m) z o
unclear_evidence m z o has lt unclear e =
    let shown = unclear_shows m z has.typed has.driven lt (has.behind z lt) unclear in
    evidence_of (module_circuit m) z shown.0 o shown.1 e

-- what shows a fault is unclear
pub unclear_of : (scenes : List Scene) (copies : List ModuleCopy) → ((s : Scene) → In scenes s → HasClocks (leafed_module s)) → (i z : ℕ) (p : Place) (f : Fault)
    → IsShownAt scenes copies i z p f → IsUnclearAt scenes copies i z p
unclear_of scenes copies each i z p f h =
    let m = leafed_module h.scene in
    let c = module_circuit m in
    let has = each h.scene (get_in scenes h.copy.module_number h.scene h.is_scene) in
    record {
      copy = h.copy;
      is = h.is;
      scene = h.scene;
      is_scene = h.is_scene;
      within = h.within;
      unclear = fault_is_unclear m z (fault_behind [] c z h.one h.other) has.typed h.within (shows_of c z h.one h.other h.shows);
      place = h.place;
    }

module _ (scenes : List Scene) (copies : List ModuleCopy) (modules : List ModulePart) (names : List (List (List ℕ))) (parts : ArePartsOf scenes modules)
    (all : AllHaveClocks scenes names) (site : Site) (u : IsUnclearAt scenes copies site.copy site.leaf site.place) (k : ModuleCopy)
    (is : slice_get copies site.copy ≡ Some k) (p : ModulePart) (part_is : slice_get modules k.module_number ≡ Some p) (ns : List (List ℕ))
    (names_are : slice_get names k.module_number ≡ Some ns) (o : Option Evidence)
    (tells : (m : LeafModule) → IsPartOf m p → site.leaf < length m.leaves → IsEvidenceOf (module_circuit m) site.leaf o) where
  abbrev m : LeafModule
  m = leafed_module u.scene

  copy_is : u.copy ≡ k
  copy_is = same_Some u.copy k (sym u.is ∙ is)

  scene_is : slice_get scenes k.module_number ≡ Some u.scene
  scene_is = ap (λ (q : ModuleCopy). slice_get scenes q.module_number) (sym copy_is) ∙ u.is_scene

  part : IsPartOf (leafed_module u.scene) p
  part = parts.each k.module_number u.scene p scene_is part_is

  found : HasEvidence (module_circuit (leafed_module u.scene)) site.leaf o
  found =
      unclear_evidence m site.leaf o (all.each u.scene (get_in scenes k.module_number u.scene scene_is)) u.within u.unclear
      (tells (leafed_module u.scene) part u.within)

  pub none_never : o ≡ None → ⊥
  none_never e = let never : None ≡ Some found.evidence = sym e ∙ found.is in absurd (cc)

  pub fault_told : (e : Evidence) → o ≡ Some e → (path : List ℕ)
      → ((m : LeafModule) → IsPartOf m p → AreNamed m ns → site.leaf < length m.leaves
      → path ≡ k.prefix ++ clock_path (module_circuit m) site.leaf (leaf_at m.leaves site.leaf).holds)
      → IsShownAt scenes copies site.copy site.leaf site.place (fault_of (fault.Clock site.place path e.one e.other))
  fault_told e same path told =
      let c = module_circuit m in
      let evidence : found.evidence ≡ e = same_Some found.evidence e (sym found.is ∙ same) in
      let path_is = told m part (all.named k.module_number u.scene ns scene_is names_are) u.within in
      record {
        copy = k;
        is = is;
        scene = u.scene;
        is_scene = scene_is;
        within = u.within;
        place = u.place;
        one = e.one;
        other = e.other;
        shows = subst (λ (x : Evidence). ShowsPlaces c site.leaf x.one x.other) evidence found.shows;
        told = ap₂ (λ place text. clock_fault place text e.one e.other) u.place path_is;
      }

-- the first of all
pub none_shown : (scenes : List Scene) (copies : List ModuleCopy) (names : List (List (List ℕ))) → AllHaveClocks scenes names
    → IsFirstAhead scenes copies (length copies) 0 None → IsToldOf scenes copies None
none_shown scenes copies names all h = λ i z p f shown.
    h i z p (inl (slice_get_within copies i shown.copy shown.is)) (unclear_of scenes copies all.each i z p f shown)

pub first_shown : (scenes : List Scene) (copies : List ModuleCopy) (names : List (List (List ℕ))) → AllHaveClocks scenes names → (site : Site)
    → IsFirstAhead scenes copies (length copies) 0 (Some site) → (f : Option FirFault)
    → (IsUnclearAt scenes copies site.copy site.leaf site.place → IsToldAt scenes copies site f) → IsToldOf scenes copies (option_map fault_of f)
first_shown scenes copies names all site h None told = absurd (told h.unclear)
first_shown scenes copies names all site h (Some f) told = record {
  copy = site.copy;
  leaf = site.leaf;
  place = site.place;
  shown = told h.unclear;
  first = λ i z p g shown.
      h.first i z p (inl (slice_get_within copies i shown.copy shown.is)) (unclear_of scenes copies all.each i z p g shown);
}
