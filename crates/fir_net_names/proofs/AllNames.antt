-- The names of leaves and those of arrays together: they are taken one after the other, none stands twice, and each is spelled as a name.
use Rattle.std.proofs.Common.{ℕ, List, [], ◌++◌, map, sym, ◌∙◌}
use Rattle.std.specs.Prelude.{Option}
use Rattle.std.specs.BTreeSet.{BTreeSet}
use Rattle.std.specs.List.{AllByRecursion}
use Rattle.fir_base.specs.Lists.{Distinct}
use Rattle.fir_base.proofs.Each.{all_joined}
use Rattle.fir_base.proofs.Twins.{distinct_joined}
use Rattle.ver_words.specs.Names.{IsName}
use Rattle.fir_net.specs.declared.net.FlatNet.{FlatNet}
use Rattle.fir_net.specs.working.IsNet.{IsNet}
use Rattle.fir_net.specs.working.WordNames.{HasWordNames}
use Rattle.fir_net_names.specs.Names.{AreNamed}
use Rattle.fir_net_names.specs.working.LeafNamed.{array_base, base_at, name_at, named_leaves, somes}
use Rattle.fir_net_names.specs.working.NameSets.{Holds, HasNames}
use Rattle.fir_net_names.proofs.HeldNames.{or_none}
use Rattle.fir_net_names.proofs.NamesInTurn.{named_among_same, named_joined}
use Rattle.fir_net_names.proofs.TakenNames.{all_distinct, all_held, all_new, all_spelled, array_word, base_word, same_in_turn}

module _ (net : FlatNet) (leaves arrays : List (Option (List ℕ))) (old new : BTreeSet (List ℕ)) (first : HasNames (base_at net) [] (named_leaves net) leaves old)
    (behind : (before : List (List ℕ)) → Holds old before → HasNames (array_base net) before net.array_order arrays new) where
  -- the arrays take theirs behind the names of the leaves
  pub then : HasNames (array_base net) (somes leaves) net.array_order arrays new
  then = behind (somes leaves) (all_held (base_at net) [] (named_leaves net) leaves old first)

  pub both_named :
      AreNamed [] (map (base_at net) (named_leaves net) ++ map (array_base net) net.array_order)
      (somes (map (name_at leaves) (named_leaves net)) ++ somes (map (name_at arrays) net.array_order))
  both_named =
      let in_turn = somes (map (name_at leaves) (named_leaves net)) in
      let others = somes (map (name_at arrays) net.array_order) in
      named_joined [] (map (base_at net) (named_leaves net)) in_turn (map (array_base net) net.array_order) others first.named
      (λ known same. named_among_same (somes leaves) known
      (λ n. sym (same_in_turn (base_at net) [] (named_leaves net) leaves old first n) ∙ or_none _ ∙ sym (same n))
      (map (array_base net) net.array_order) others then.named)

  pub both_held : Holds new (somes leaves ++ somes arrays)
  both_held = all_held (array_base net) (somes leaves) net.array_order arrays new then

  pub both_distinct : Distinct (somes leaves ++ somes arrays)
  both_distinct =
      distinct_joined (somes leaves) (somes arrays) (all_distinct (base_at net) [] (named_leaves net) leaves old first)
      (all_distinct (array_base net) (somes leaves) net.array_order arrays new then)
      (all_new (array_base net) (somes leaves) net.array_order arrays new then)

  pub both_spelled : IsNet net → HasWordNames net → AllByRecursion IsName (somes leaves ++ somes arrays)
  both_spelled whole words =
      all_joined IsName (somes leaves) (somes arrays)
      (all_spelled (base_at net) [] (named_leaves net) leaves old first (base_word net whole words.leaves))
      (all_spelled (array_base net) (somes leaves) net.array_order arrays new then (array_word net whole words.arrays))
