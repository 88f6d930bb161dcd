-- The line of what a circuit has, of a text that is taken.
use Rattle.std.proofs.Common.{◌≡◌, ℕ, List, sym, ap, ◌∙◌}
use Rattle.fir_parse.specs.working.Laws.{SpellsOneTree}
use Rattle.fir_net.specs.declared.net.FlatNet.{FlatNet}
use Rattle.fir_net.specs.declared.totals.Counts.{Counts}
use Rattle.fir_net.specs.working.Counted.{array_count, leaf_count, register_count}
use Rattle.fir_flatten.specs.working.FlattensTo.{net_counts}
use Rattle.fir_compile.specs.working.Counted.{CountsText, counts_of}
use Rattle.fir_outcome.specs.Checks.{Checks, counts_line}

pub same_counts : (n : Counts) (net : FlatNet) → n.leaves ≡ leaf_count net → n.registers ≡ register_count net → n.memories ≡ array_count net
    → counts_of n ≡ net_counts net
same_counts n net a b c = λ i. record { leaves = a i; registers = b i; memories = c i }

pub checks : SpellsOneTree → (bytes line : List ℕ) (net : FlatNet) (n : Counts) → CountsText bytes net → counts_of n ≡ net_counts net
    → line ≡ counts_line (counts_of n) → Checks bytes line
checks one bytes line net n h counted is = record {
  circuit = h.compiles.circuit;
  taken = h.compiles.taken;
  only_circuit = λ other spelled. one bytes other h.compiles.circuit spelled h.compiles.taken.spelled;
  source = h.compiles.flattened.source;
  is_source = h.compiles.flattened.is_source;
  each = λ t of. is ∙ ap counts_line (counted ∙ sym (h.counted t of));
}
