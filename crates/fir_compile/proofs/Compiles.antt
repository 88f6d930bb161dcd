-- What a circuit compiles to, by way of its net, and of that without pipes.
use Rattle.std.proofs.Common.{◌≡◌, List, ◌∙◌, subst}
use Rattle.fir_ast.specs.Circuits.{CircuitTree}
use Rattle.fir_meaning.specs.Elaborated.{IsSourceOf}
use Rattle.fir_meaning.specs.SourceAllows.{Allows}
use Rattle.fir_meaning.specs.SourceCircuits.{source_shape}
use Rattle.fir_meaning.specs.SourceDesigns.{SourceDesign}
use Rattle.fir_net.specs.declared.net.FlatNet.{FlatNet}
use Rattle.fir_net.specs.declared.reads.Read.{Read}
use Rattle.fir_net.specs.working.IsOrder.{IsOrder}
use Rattle.fir_net.specs.working.Rows.{net_arrays, net_rows, net_words}
use Rattle.fir_net.specs.working.Laws.{NodesHaveTheirTypes}
use Rattle.fir_net.specs.working.One.{One as NetOne}
use Rattle.fir_flatten.specs.SourceRows.{source_rows, source_words}
use Rattle.fir_flatten.specs.working.FlattensTo.{FlattensTo, MeansSource}
use Rattle.fir_mem.specs.working.Lowers.{Lowers}
use Rattle.ver_ast.specs.declared.tree.Verilog.{Verilog}
use Rattle.ver_ast.specs.Allows.{VAllows}
use Rattle.ver_ast.specs.Nets.{shape as v_shape}
use Rattle.ver_build.specs.NamedFor.{IsNamedFor}
use Rattle.ver_build.specs.working.Builds.{Builds}
use Rattle.fir_outcome.specs.Compiles.{Compiles, CompilesTo}
use Rattle.fir_outcome.specs.Runs.{RunsOnce}
use Rattle.fir_compile.proofs.AllRuns.{Includes, same_once, same_runs}
use Rattle.fir_compile.proofs.SourceRuns.{from_net, source_one, source_runs_once, to_net}
use Rattle.fir_compile.proofs.WordBlocks.{words_have_blocks}

module _ (types : NodesHaveTheirTypes) (c : CircuitTree) (net : FlatNet) (flat : FlattensTo c net) (one : NetOne net) (low : FlatNet) (lowers : Lowers net low)
    (order : List Read) (is_order : IsOrder low order) (low_one : NetOne low) (v : Verilog) (made : Builds low v) where
  module _ (t : SourceDesign) (is : IsSourceOf c t) where
    means : MeansSource t net
    means = flat.each t is

    shapes : v_shape v ≡ source_shape t
    shapes = made.shapes ∙ lowers.shapes ∙ means.shapes

    forth : Includes (VAllows v) (Allows t)
    forth s k o r n x = from_net c net flat one t is s k o r n ((lowers.allows s k o r n).0 ((made.allows s k o r n).0 x))

    back : Includes (Allows t) (VAllows v)
    back s k o r n x = (made.allows s k o r n).1 ((lowers.allows s k o r n).1 (to_net c net flat one t is s k o r n x))

    runs_once : RunsOnce (source_shape t) (Allows t)
    runs_once = source_runs_once c net flat one t is types

    v_runs_once : RunsOnce (v_shape v) (VAllows v)
    v_runs_once =
        same_once (Allows t) (VAllows v) (source_shape t) (v_shape v) shapes (same_runs (Allows t) (VAllows v) back)
        (same_runs (VAllows v) (Allows t) forth) runs_once

    compiles_to : CompilesTo c.named.name t v
    compiles_to = record {
      named =
          subst (λ arrays. IsNamedFor c.named.name (source_rows t) (source_words t) arrays v) (lowers.arrays ∙ means.arrays)
          (subst (λ words. IsNamedFor c.named.name (source_rows t) words (net_arrays low) v) (lowers.words ∙ means.words)
          (subst (λ rows. IsNamedFor c.named.name rows (net_words low) (net_arrays low) v) (lowers.rows ∙ means.ports)
          (subst (λ name. IsNamedFor name (net_rows low) (net_words low) (net_arrays low) v) (lowers.name ∙ flat.named) made.named)));
      shapes = shapes;
      one = source_one c net flat one t is;
      allows = λ s k o r n. (forth s k o r n, back s k o r n);
      runs = λ s ks os. (same_runs (VAllows v) (Allows t) forth s ks os, same_runs (Allows t) (VAllows v) back s ks os);
      runs_once = runs_once;
    }

  pub compiles : Compiles c v
  compiles = record {
    arranged = made.arranged;
    with_blocks = λ t is. words_have_blocks t net flat.whole (flat.each t is) low lowers order is_order low_one made.arranged.with_block made.with_blocks;
    valid = made.valid;
    v_one = made.one;
    v_runs_once = v_runs_once flat.source flat.is_source;
    source = flat.source;
    is_source = flat.is_source;
    each = compiles_to;
  }
