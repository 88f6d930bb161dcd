-- An assign whose target is found to be an input.
use Rattle.std.proofs.Common.{◌≡◌, ℕ, List, [], ◌∷◌, ◌++◌, Option, Some, None, Result, refl, sym, ap, ◌∙◌, subst}
use Rattle.fir_base.specs.declared.refused.Refused.{Refused}
use Rattle.std.specs.Prelude.{option_map}
use Rattle.ver_ast.specs.declared.place.VPlace.{VPlace}
use Rattle.ver_ast.specs.declared.tree.Assign.{Assign}
use Rattle.ver_places.specs.Places.{place_at}
use Rattle.ver_fault.specs.declared.fault.VerFault.{VerFault}
use Rattle.ver_check.specs.declared.kind.Kind.{Kind}
use Rattle.ver_check.specs.declared.kind.Kind.TheVariants as kind
use Rattle.ver_check.specs.declared.scope.Entry.{Entry}
use Rattle.ver_check.specs.FaultForms.{twice_fault}
use Rattle.ver_check.specs.ItemFaults.{Before, assign_faults_by}
use Rattle.ver_check.specs.Scopes.{Declaration}
use Rattle.ver_check.specs.SideFaults.{truth_faults}
use Rattle.ver_check.specs.working.Findings.{Finds}
use Rattle.ver_check.specs.working.Known.{entry_of}

module _ (before : Before) (a : Assign) (ps : List VPlace) (w : ℕ) (result : Result Unit (Refused VerFault)) where
  abbrev DueAt : VPlace → Type 0
  DueAt place = Finds result (truth_faults w a.rhs (place_at 1 ps) ++ twice_fault (place_at 1 ps) a.target place ∷ [])

  of_input : (n : List ℕ) (k : Kind) (q : VPlace) → k ≡ kind.Input w → DueAt q → Finds result (assign_faults_by before (Some (record { name = n; kind = k; place = q })) a ps)
  of_input n k q is due = subst (λ (x : Kind). Finds result (assign_faults_by before (Some (record { name = n; kind = x; place = q })) a ps)) (sym is) due

  -- what is due of an input at its declaration is what is due of the assign
  pub input_found : (o : Option Declaration) (e : Entry) → option_map entry_of o ≡ Some e → e.kind ≡ kind.Input w → DueAt e.place
      → Finds result (assign_faults_by before o a ps)
  input_found None e found is due = absurd (cc)
  input_found (Some d) e found is due =
      let same : entry_of d ≡ e = cc in
      of_input d.name d.kind d.place (ap (λ (x : Entry). x.kind) same ∙ is) (subst (λ (x : Entry). DueAt x.place) (sym same) due)
