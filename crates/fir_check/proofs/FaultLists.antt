-- The first fault of lists of faults that stand one behind the other, where those in front are empty.
use Rattle.std.proofs.Common.{◌≡◌, List, [], ◌++◌, Result, sym, subst}
use Rattle.fir_base.specs.declared.refused.Refused.{Refused}
use Rattle.fir_ast.specs.declared.fault.FirFault.{FirFault}
use Rattle.fir_ast.specs.Faults.{Fault}
use Rattle.fir_types.specs.working.Judged.{IsFirstOf}
use Rattle.fir_types.specs.working.Walked.{Judges}
use Rattle.fir_check.proofs.CheckedForms.{first_left, first_right}
use Rattle.fir_check.proofs.StatementFaults.{both_clear}

pub judged_right : {A : Type 0} (xs ys : List Fault) (r : Result A (Refused FirFault)) → xs ≡ [] → Judges ys r → Judges (xs ++ ys) r
judged_right xs ys r none h = subst (λ zs. Judges (zs ++ ys) r) (sym none) h

module _ (a b d e : List Fault) where
  pub in_first : (r : Refused FirFault) → IsFirstOf a r → IsFirstOf (a ++ b ++ d ++ e) r
  in_first r h = first_left (a ++ b ++ d) e r (first_left (a ++ b) d r (first_left a b r h))

  pub in_second : (r : Refused FirFault) → a ≡ [] → IsFirstOf b r → IsFirstOf (a ++ b ++ d ++ e) r
  in_second r one h = first_left (a ++ b ++ d) e r (first_left (a ++ b) d r (first_right a b r one h))

  pub in_third : (r : Refused FirFault) → a ≡ [] → b ≡ [] → IsFirstOf d r → IsFirstOf (a ++ b ++ d ++ e) r
  in_third r one two h = first_left (a ++ b ++ d) e r (first_right (a ++ b) d r (both_clear a b one two) h)

  pub in_fourth : {A : Type 0} (r : Result A (Refused FirFault)) → a ≡ [] → b ≡ [] → d ≡ [] → Judges e r → Judges (a ++ b ++ d ++ e) r
  in_fourth r one two three h = judged_right (a ++ b ++ d) e r (both_clear (a ++ b) d (both_clear a b one two) three) h

-- of three lists
module _ (a b d : List Fault) where
  pub first_of_three : (r : Refused FirFault) → IsFirstOf a r → IsFirstOf (a ++ b ++ d) r
  first_of_three r h = first_left (a ++ b) d r (first_left a b r h)

  pub second_of_three : (r : Refused FirFault) → a ≡ [] → IsFirstOf b r → IsFirstOf (a ++ b ++ d) r
  second_of_three r one h = first_left (a ++ b) d r (first_right a b r one h)

  pub third_of_three : {A : Type 0} (r : Result A (Refused FirFault)) → a ≡ [] → b ≡ [] → Judges d r → Judges (a ++ b ++ d) r
  third_of_three r one two h = judged_right (a ++ b) d r (both_clear a b one two) h
