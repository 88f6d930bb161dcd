-- Each group of faults up to that of costs is clear.
use Rattle.std.proofs.Common.{ℕ, zero, suc, ◌≤◌, arith}
use Rattle.fir_ast.specs.declared.place.Place.{Place}
use Rattle.fir_pass.specs.Groups.{IsClear, group_at, of_cost}
use Rattle.fir_meaning.specs.SourceMeaning.{circuit_groups, circuit_meaning}
use Rattle.fir_meaning.specs.Mentions.{circuit_mentions}
use Rattle.fir_meaning.specs.NameGroups.{faults_in}
use Rattle.fir_meaning.specs.TypeGroup.{type_faults}
use Rattle.fir_meaning.specs.OverFaults.{over_faults}
use Rattle.fir_meaning.specs.LegalFaults.{legal_faults}
use Rattle.fir_gen.specs.working.GenTree.{gen_tree}
use Rattle.fir_gen_checked.specs.working.Laws.{GenIsChecked}
use Rattle.fir_gen_checked.proofs.NoFaults.{none_in}
use Rattle.fir_gen_checked.proofs.ClearNames.{names_clear}
use Rattle.fir_gen_checked.proofs.ClearHierarchy.{hierarchy_clear}
use Rattle.fir_gen_checked.proofs.ClearTypes.{types_clear}
use Rattle.fir_gen_checked.proofs.ClearResets.{resets_clear}
use Rattle.fir_gen_checked.proofs.LowCosts.{cost_clear}
use Rattle.fir_gen_checked.proofs.ClearWidths.{all_legal, none_over}

module _ (at : ℕ → ℕ → Place) (n : ℕ) (some : 1 ≤ n) (small : n ≤ 4096) where
  group_clear : (k : ℕ) → k ≤ of_cost → IsClear (group_at (circuit_groups (gen_tree at n)) k)
  group_clear zero low f m = m
  group_clear (suc zero) low f m = none_in (faults_in (circuit_mentions (gen_tree at n))) (names_clear at n some small) f m
  group_clear (suc (suc zero)) low f m = m
  group_clear (suc (suc (suc zero))) low f h = hierarchy_clear at n f h
  group_clear (suc (suc (suc (suc zero)))) low f m = none_in (type_faults (gen_tree at n)) (types_clear at n some small) f m
  group_clear (suc (suc (suc (suc (suc zero))))) low f h = resets_clear at n some small f h
  group_clear (suc (suc (suc (suc (suc (suc zero)))))) low f h = none_in (over_faults (gen_tree at n) h.0) (none_over at n some small h.0) f h.2
  group_clear (suc (suc (suc (suc (suc (suc (suc zero))))))) low f h =
      none_in (legal_faults (gen_tree at n) h.0) (all_legal at n some small h.0) f h.2
  group_clear (suc (suc (suc (suc (suc (suc (suc (suc zero)))))))) low f h = cost_clear at n some small f h
  group_clear (suc (suc (suc (suc (suc (suc (suc (suc (suc k))))))))) low f h = absurd (omega arith)

pub gen_is_checked : GenIsChecked
unfolding circuit_meaning
gen_is_checked at n some small k from upto = group_clear at n some small k upto
