-- Which nets have names that the text of a module can be written with: what names and shapes of traces ask for beside a whole net.
use Rattle.std.specs.Prelude.{List, IsTrue}
use Rattle.std.specs.List.{AllByRecursion}
use Rattle.ver_words.specs.Names.{is_word}
use Rattle.fir_net.specs.Paths.{base_name}
use Rattle.fir_net.specs.declared.array.Array.{Array}
use Rattle.fir_net.specs.declared.leaf.Leaf.{Leaf}
use Rattle.fir_net.specs.declared.net.FlatNet.{FlatNet}

abbrev pub AreWordLeaves : List Leaf → Type 0
AreWordLeaves = AllByRecursion (λ l. IsTrue (is_word (base_name l.path)))

abbrev pub AreWordArrays : List Array → Type 0
AreWordArrays = AllByRecursion (λ a. IsTrue (is_word (base_name a.path)))

-- the net's name and the base name of each leaf and each array are words
pub record HasWordNames (net : FlatNet) : Type 0 where
  pub word : IsTrue (is_word net.name)
  pub leaves : AreWordLeaves net.leaves
  pub arrays : AreWordArrays net.arrays
