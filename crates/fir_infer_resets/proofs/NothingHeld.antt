-- The graph of nothing.
use Rattle.std.proofs.Common.{◌≡◌, ℕ, [], refl, sym, ap, ◌∙◌, subst, map}
use Rattle.std.specs.BTreeMap.{IsEmpty}
use Rattle.std.proofs.lemmas.Option.{none-some}
use Rattle.fir_ast.specs.Circuits.{CircuitTree}
use Rattle.fir_infer_resets.specs.declared.item.End.{End as EndOfCode}
use Rattle.fir_infer_resets.specs.declared.joined.Joined.{Joined}
use Rattle.fir_infer_resets.specs.working.ResetGraphs.{IsJoined}
use Rattle.fir_infer_resets.specs.working.BuiltGraphs.{IsBuilt}
use Rattle.fir_infer_resets.specs.working.PathKeys.{path_key}
use Rattle.fir_infer_resets.specs.working.Holding.{AreEnds, Holds}
use Rattle.fir_infer_resets.proofs.KeyTables.{under_none}

no_edge : (x y : ℕ) → IsJoined [] x y → ⊥
no_edge x y j = none-some j.list j.at

nothing_built : (c : CircuitTree) → IsBuilt c [] [] [] []
nothing_built c = record {
  is_graph = record { long = refl; within = λ x y j. absurd (no_edge x y j) };
  long = refl;
  kind = λ x e k h i. absurd (none-some e h);
  leaves = λ x e h r. absurd (none-some e h);
  once = λ x y e r h i. absurd (none-some e h);
  joined = λ x y e f j h i. absurd (no_edge x y j);
  meets = λ x y j. absurd (no_edge x y j);
  both_ways = λ x y j. absurd (no_edge x y j);
  classes = λ x y e f h i r s class. absurd (none-some e h);
  stand = λ j i r. absurd i;
}

pub nothing_held : (c : CircuitTree) (joined : Joined) → joined.ends.items ≡ [] → joined.kinds.items ≡ [] → joined.graph.items ≡ [] → IsEmpty joined.numbers → Holds c [] joined
nothing_held c joined ends kinds graph numbers = record {
  ends = [];
  are = subst (λ owns. AreEnds owns []) (sym ends) tt;
  same_kinds = ap (map (λ (o : EndOfCode). o.kind)) ends ∙ sym kinds;
  built = subst (λ g. IsBuilt c [] [] g joined.kinds.items) (sym graph) (subst (IsBuilt c [] [] []) (sym kinds) (nothing_built c));
  known = λ number x leaf h. absurd (none-some x (sym (under_none joined.numbers numbers (path_key number leaf)) ∙ h));
  all = λ number x leaf p h. absurd (none-some _ h);
  classes = λ x e k h r class. absurd (none-some e h);
}
