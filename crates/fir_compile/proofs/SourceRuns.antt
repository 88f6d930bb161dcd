-- How the source of a circuit runs, by way of the circuit's flat net.
use Rattle.std.proofs.Common.{◌≡◌, ℕ, List, Option, map, refl, sym, ap, ◌∙◌, subst}
use Rattle.fir_base.specs.Ticks.{Shape, FitEach, HasShape}
use Rattle.fir_ast.specs.Circuits.{CircuitTree}
use Rattle.fir_meaning.specs.Elaborated.{IsSourceOf}
use Rattle.fir_meaning.specs.LeafPaths.{LeafPath}
use Rattle.fir_meaning.specs.SourceAllows.{Allows, next as source_next}
use Rattle.fir_meaning.specs.SourceCircuits.{clock_outputs, outputs as source_outputs, source_shape}
use Rattle.fir_meaning.specs.SourceDesigns.{SourceDesign}
use Rattle.fir_meaning.specs.SourceOne.{HasOne, One}
use Rattle.fir_meaning.specs.SourceValues.{PathEnv}
use Rattle.fir_net.specs.declared.net.FlatNet.{FlatNet}
use Rattle.fir_net.specs.working.Allows.{Allows as NetAllows}
use Rattle.fir_net.specs.working.Laws.{NodesHaveTheirTypes}
use Rattle.fir_net.specs.working.Next.{next}
use Rattle.fir_net.specs.working.One.{HasOne as NetHasOne, One as NetOne}
use Rattle.fir_net.specs.working.Settled.{clock_outputs as net_clock_outputs, outputs, shape}
use Rattle.fir_flatten.specs.working.FlattensTo.{FlattensTo, MeansSource}
use Rattle.fir_outcome.specs.Runs.{RunsOnce}
use Rattle.fir_compile.proofs.AllRuns.{AllowsOne, AllowsSome, Includes, KeepsShape, runs_once}
use Rattle.fir_compile.proofs.KeptShapes.{next_fits}

same_env : (e f : PathEnv) → ((x : LeafPath) → e.numbers x ≡ f.numbers x) → ((x : LeafPath) → e.clocks x ≡ f.clocks x) → e ≡ f
same_env e f p q = λ i. record { numbers = λ x. p x i; clocks = λ x. q x i }

-- with one choice of values a source shows one thing, and one state follows
pub source_allows_one : (t : SourceDesign) → One t → AllowsOne (Allows t)
source_allows_one t one state tick a b p q =
    let has : HasOne t state tick = one state tick p.1.shaped in
    let same : q.0 ≡ p.0 = same_env q.0 p.0 (has.same q.0 p.0 q.1 p.1) (has.same_clocks q.0 p.0 q.1 p.1) in
    let shown : b.outputs ≡ a.outputs = sym q.2 ∙ ap (λ (e : PathEnv). map e.numbers (source_outputs t)) same ∙ p.2 in
    let clocks : b.clocks ≡ a.clocks = sym q.3 ∙ ap (λ (e : PathEnv). map e.clocks (clock_outputs t)) same ∙ p.3 in
    let after : b.state ≡ a.state = sym q.4 ∙ ap (source_next t state tick.clocks) same ∙ p.4 in
    λ i. record { outputs = shown i; clocks = clocks i; state = after i }

module _ (c : CircuitTree) (net : FlatNet) (flat : FlattensTo c net) (net_one : NetOne net) (t : SourceDesign) (is : IsSourceOf c t) where
  means : MeansSource t net
  means = flat.each t is

  pub source_one : One t
  source_one = means.one.1 net_one

  pub from_net : Includes (NetAllows net) (Allows t)
  from_net s k o r n x = (means.allows s k o r n).0 x

  pub to_net : Includes (Allows t) (NetAllows net)
  to_net s k o r n x = (means.allows s k o r n).1 x

  allows_some : AllowsSome (source_shape t) (Allows t)
  allows_some state tick shaped =
      let h : NetHasOne net state tick = net_one state tick (subst (λ (s : Shape). HasShape s state tick) (sym means.shapes) shaped) in
      let shown : List ℕ = map h.env (outputs net) in
      let after : List ℕ = next net state h.env h.clock tick in
      let clocks : List (Option ℕ) = map h.clock (net_clock_outputs net) in
      (shown, clocks, after, from_net state tick shown clocks after (h.env, h.clock, h.settled, refl, refl, refl))

  module _ (types : NodesHaveTheirTypes) where
    keeps_shape : KeepsShape (source_shape t) (Allows t)
    keeps_shape state tick shown clocks after allowed =
        let h : NetAllows net state tick shown clocks after = to_net state tick shown clocks after allowed in
        let fits = next_fits types net flat.whole state tick h.0 h.1 h.2 in
        subst (λ (s : Shape). FitEach s.state after) means.shapes (subst (λ (words : List ℕ). FitEach (shape net).state words) h.5 fits)

    pub source_runs_once : RunsOnce (source_shape t) (Allows t)
    source_runs_once = runs_once (source_shape t) (Allows t) allows_some keeps_shape (source_allows_one t source_one)
