-- What is told of a leaf of the code's module is told of that leaf of the module that it stands for.
use Rattle.std.proofs.Common.{◌≡◌, ℕ, ◌<◌, List, length, get_or, ap, sym, ◌∙◌, subst, flat_map, Option}
use Rattle.fir_leaf.specs.working.ClockFaults.{clock_places, live_places}
use Rattle.fir_leaf.specs.working.ClockRoots.{lives_of}
use Rattle.fir_leaf.specs.working.ModuleCircuits.{module_circuit}
use Rattle.fir_leaf.specs.working.NodeBlocks.{block_in}
use Rattle.fir_leaf_circuit.specs.declared.leaf.Leaf.{Leaf}
use Rattle.fir_leaf_circuit.specs.declared.leaf_module.LeafModule.{LeafModule}
use Rattle.fir_leaf_circuit.specs.working.Seen.{HasView, leaf_seen, role_seen, type_seen, unnamed}
use Rattle.fir_meaning.specs.LeafTypes.{a_clock}
use Rattle.fir_meaning.specs.working.Choices.{Live, lives_all}
use Rattle.fir_meaning.specs.working.LeafBlocks.{LeafBlock}
use Rattle.fir_meaning.specs.working.LeafModules.{LeafDeclared, LeafModule as Viewed, leaf_at, sink}
use Rattle.fir_whens.proofs.CoveredViews.{same_leaf}
use Rattle.fir_whens.proofs.SinksOfCode.{leaf_read}
use Rattle.fir_flatten.specs.declared.clock_evidence.Evidence.{Evidence}
use Rattle.fir_flatten.specs.declared.live_sites.LiveSite.{LiveSite}
use Rattle.fir_flatten.specs.working.LiveSites.{AreSitesOf}
use Rattle.fir_flatten.specs.working.ClockEvidence.{IsEvidenceOf, Tells, first_two, lives_told}

module _ (m : LeafModule) (meant : Viewed) (has : HasView m meant) (x : ℕ) (l : Leaf)
    (is : leaf_seen m.nodes.items l ≡ unnamed (leaf_at meant.leaves x)) where
  pub evidence_by : (e : Option Evidence)
      → Tells (clock_places (module_circuit meant) x (type_seen l.holds) (role_seen m.nodes.items l.role))
      (lives_told (type_seen l.holds) (role_seen m.nodes.items l.role) (lives_of (module_circuit meant) x)) e
      → IsEvidenceOf (module_circuit meant) x e
  evidence_by e h =
      let by : LeafDeclared → Type 0 =
      λ (d : LeafDeclared).
      Tells (clock_places (module_circuit meant) x d.holds d.role) (lives_told d.holds d.role (lives_of (module_circuit meant) x)) e in
      subst by is h

  pub lives_are : lives_all l.depth x (block_in m.nodes.items m.body.items) 0 ≡ lives_of (module_circuit meant) x
  lives_are =
      ap (λ (d : ℕ). lives_all d x (block_in m.nodes.items m.body.items) 0) (ap (λ (d : LeafDeclared). d.depth) is)
      ∙ ap (λ (b : LeafBlock). lives_all (leaf_at meant.leaves x).depth x b 0) has.body

  pub evidence_of_sink : (sites : List LiveSite) (e : Option Evidence) → type_seen l.holds ≡ a_clock → role_seen m.nodes.items l.role ≡ sink
      → AreSitesOf (lives_all l.depth x (block_in m.nodes.items m.body.items) 0) sites
      → ((ls : List Live) → AreSitesOf ls sites → Tells (flat_map live_places ls) (first_two ls) e) → IsEvidenceOf (module_circuit meant) x e
  evidence_of_sink sites e clock is_sink are tells =
      evidence_by e (rw (clock, is_sink) (tells (lives_of (module_circuit meant) x) (subst (λ (ls : List Live). AreSitesOf ls sites) lives_are are)))

-- the leaf of the code under a number
module _ (m : LeafModule) (meant : Viewed) (has : HasView m meant) (x : ℕ) (l : Leaf) where
  pub seen_there : x < length m.leaves.items → l ≡ get_or m.leaves.items x l → leaf_seen m.nodes.items l ≡ unnamed (leaf_at meant.leaves x)
  seen_there within is = sym (leaf_read m x l within is) ∙ same_leaf m meant has x
