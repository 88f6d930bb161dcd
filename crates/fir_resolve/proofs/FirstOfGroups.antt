-- From what each group of names has to the first fault of the circuit, and to what the pass keeps.
use Rattle.std.proofs.Common.{◌≡◌, ℕ, zero, suc, ◌<◌, ◌≤◌, List, [], ◌∷◌, Option, Some, None, Result, Ok, Err, IfOk, Vec, Global, refl, sym, ap, subst, inl, inr, arith}
use Rattle.std.proofs.lemmas.Option.{none-some}
use Rattle.fir_base.specs.declared.refused.Refused.{Refused}
use Rattle.fir_base.specs.declared.refused.Refused.TheVariants.{Fault, Memory}
use Rattle.fir_base.specs.Lists.{In}
use Rattle.fir_base.proofs.Members.{in_flat_map_from}
use Rattle.fir_ast.specs.declared.place.Place.{Place}
use Rattle.fir_ast.specs.declared.fault.FirFault.{FirFault}
use Rattle.fir_ast.specs.Statements.{PlacedName}
use Rattle.fir_ast.specs.declared.circuit.Circuit.{Circuit}
use Rattle.fir_ast.specs.Circuits.{CircuitTree}
use Rattle.fir_ast.specs.working.Views.{circuit_of}
use Rattle.fir_ast.specs.Faults.{Fault as ToldFault}
use Rattle.fir_ast.specs.working.CodeFaults.{fault_of}
use Rattle.fir_pass.specs.Groups.{group_of, first_of, IsClear}
use Rattle.fir_pass.specs.Law.{IsFirst}
use Rattle.fir_pass.specs.working.Law.{Passes}
use Rattle.fir_meaning.specs.Components.{Declaration, find, find_name}
use Rattle.fir_meaning.specs.Mentions.{Mention, declares, uses, instantiates, circuit_mentions, module_names}
use Rattle.fir_meaning.specs.NameGroups.{second_faults, hidden_faults, missing_faults, mention_faults, faults_in, absent_faults, no_main_faults, IsRecursive, name_group}
use Rattle.fir_meaning.specs.working.NameGroups.{HasNames}
use Rattle.fir_meaning.specs.SourceMeaning.{circuit_meaning}
use Rattle.fir_meaning.specs.working.Stages.{IsClearOf, IsTreeOf}
use Rattle.fir_meaning.proofs.KeptTrees.{first_in, none_clear, first_at, keeps_tree}
use Rattle.fir_names.specs.declared.names.Names.{Names}
use Rattle.fir_names.specs.working.Judged.{JudgesModules}
use Rattle.fir_names.specs.working.Ordered.{OrdersModules}
use Rattle.fir_names.specs.working.IsNamed.{Judges}

nothing_first : (fs : List ToldFault) → None ≡ first_of fs → fs ≡ []
nothing_first [] h = refl
nothing_first (f ∷ fs) h = absurd (none-some f h)

-- the groups of the faults
second_group : (found : Option PlacedName) (n : PlacedName) (f : ToldFault) → In (second_faults found n) f → group_of f.code ≡ 1
second_group None n f m = absurd m
second_group (Some first) n f (inl e) = subst (λ (g : ToldFault). group_of g.code ≡ 1) e refl
second_group (Some first) n f (inr m) = absurd m

hidden_group : (found : Option Declaration) (p : Place) (name : List ℕ) (f : ToldFault) → In (hidden_faults found p name) f → group_of f.code ≡ 1
hidden_group None p name f (inl e) = subst (λ (g : ToldFault). group_of g.code ≡ 1) e refl
hidden_group None p name f (inr m) = absurd m
hidden_group (Some d) p name f m = absurd m

missing_group : (found : Option PlacedName) (n : PlacedName) (f : ToldFault) → In (missing_faults found n) f → group_of f.code ≡ 1
missing_group None n f (inl e) = subst (λ (g : ToldFault). group_of g.code ≡ 1) e refl
missing_group None n f (inr m) = absurd m
missing_group (Some first) n f m = absurd m

mention_group : (m : Mention) (f : ToldFault) → In (mention_faults m) f → group_of f.code ≡ 1
mention_group (declares before n) f m = second_group (find_name before n.name) n f m
mention_group (uses visible p name) f m = hidden_group (find visible name) p name f m
mention_group (instantiates modules n) f m = missing_group (find_name modules n.name) n f m

absent_group : (found : Option PlacedName) (n : PlacedName) (f : ToldFault) → In (absent_faults found n) f → group_of f.code ≡ 2
absent_group None n f (inl e) = subst (λ (g : ToldFault). group_of g.code ≡ 2) e refl
absent_group None n f (inr m) = absurd m
absent_group (Some first) n f m = absurd m

module _ (c : CircuitTree) where
  names_first : (f : ToldFault) → first_of (faults_in (circuit_mentions c)) ≡ Some f → IsFirst 1 3 (circuit_meaning c) f
  unfolding circuit_meaning
  names_first f h =
      let there = first_in (faults_in (circuit_mentions c)) f h in
      let mention = in_flat_map_from mention_faults (circuit_mentions c) f there in
      first_at 1 3 1 (circuit_meaning c) f (mention_group mention.0 f mention.2) (omega arith) (omega arith) h there (λ j low high. absurd (omega arith))

  main_first : (f : ToldFault) → faults_in (circuit_mentions c) ≡ [] → first_of (no_main_faults c) ≡ Some f → IsFirst 1 3 (circuit_meaning c) f
  unfolding circuit_meaning
  main_first f none h =
      let there = first_in (no_main_faults c) f h in
      first_at 1 3 2 (circuit_meaning c) f (absent_group (find_name (module_names c) c.named.name) c.named f there) (omega arith) (omega arith) h there before
    where
      before : (j : ℕ) → 1 ≤ j → j < 2 → IsClear ((circuit_meaning c).group j)
      before zero low high = absurd (omega arith)
      before (suc zero) low high = none_clear (faults_in (circuit_mentions c)) none
      before (suc (suc j)) low high = absurd (omega arith)

  hierarchy_first : (f : ToldFault) → faults_in (circuit_mentions c) ≡ [] → no_main_faults c ≡ [] → IsRecursive c f → IsFirst 1 3 (circuit_meaning c) f
  unfolding circuit_meaning
  hierarchy_first f none main r =
      first_at 1 3 3 (circuit_meaning c) f (ap (λ (g : ToldFault). group_of g.code) r.4) (omega arith) (omega arith) r r before
    where
      before : (j : ℕ) → 1 ≤ j → j < 3 → IsClear ((circuit_meaning c).group j)
      before zero low high = absurd (omega arith)
      before (suc zero) low high = none_clear (faults_in (circuit_mentions c)) none
      before (suc (suc zero)) low high = none_clear (no_main_faults c) main
      before (suc (suc (suc j))) low high = absurd (omega arith)

  -- a refusal of each step is that of the whole
  pub judges_names : (e : Refused FirFault) → JudgesModules (module_names c) c.modules (Err e) → Judges c (Err e)
  judges_names (Fault f) h = names_first (fault_of f) h
  judges_names Memory h = tt

  pub judges_main : (f : FirFault) → faults_in (circuit_mentions c) ≡ [] → Some (fault_of f) ≡ first_of (no_main_faults c) → Judges c (Err (Fault f))
  judges_main f none h = main_first (fault_of f) none (sym h)

  pub judges_order : (e : Refused FirFault) → faults_in (circuit_mentions c) ≡ [] → None ≡ first_of (no_main_faults c) → OrdersModules c (Err e)
      → Judges c (Err e)
  judges_order (Fault f) none main r = hierarchy_first (fault_of f) none (nothing_first (no_main_faults c) main) r
  judges_order Memory none main r = tt

  -- and where each step is Ok, the names are there
  pub judges_ok : (tables : Vec Names Global) (order : Vec ℕ Global) → JudgesModules (module_names c) c.modules (Ok tables)
      → None ≡ first_of (no_main_faults c) → OrdersModules c (Ok order) → Judges c (Ok (tables, order))
  judges_ok tables order names main ordered = record {
    clear = record {
      names = none_clear (faults_in (circuit_mentions c)) names.0;
      main = none_clear (no_main_faults c) (nothing_first (no_main_faults c) main);
      hierarchy = ordered.1;
    };
    tabulated = names.1;
    ordered = ordered.0;
  }

  clear_at : HasNames c → (k : ℕ) → 1 ≤ k → k ≤ 3 → IsClear ((circuit_meaning c).group k)
  unfolding circuit_meaning
  clear_at h zero low high = absurd (omega arith)
  clear_at h (suc zero) low high = h.names
  clear_at h (suc (suc zero)) low high = h.main
  clear_at h (suc (suc (suc zero))) low high = h.hierarchy
  clear_at h (suc (suc (suc (suc k)))) low high = absurd (omega arith)

  pub names_clear : (ok : faults_in (circuit_mentions c) ≡ []) → IsClear (name_group c)
  names_clear ok = none_clear (faults_in (circuit_mentions c)) ok

-- what comes out with the same tree is a stage of the same circuit
pub keeps_resolved : {E : Type 0} → (t : Circuit) (r : Result Circuit E) → IfOk r (λ n. n ≡ t) → IfOk r (λ n. HasNames (circuit_of t))
    → IfOk r (Passes IsTreeOf IsTreeOf (IsClearOf 1 3) t)
keeps_resolved {E = E} t (Ok n) same clear = keeps_tree {E = E} 1 3 t (Ok n) same (clear_at (circuit_of t) clear)
keeps_resolved t (Err e) same clear = tt
