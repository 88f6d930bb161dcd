use Rattle.std.proofs.Common.{drop}
use Rattle.fir_net_names.proofs.NamedLeaves.{NamedWords}
use Rattle.fir_net_names.proofs.leaf_names.name_words.Given as goal

abbrev pub invariant-loop-word : goal.invariant-loop-word
invariant-loop-word l = NamedWords l.net (drop l.word-index l.net.state) l.names.items l.taken.names
