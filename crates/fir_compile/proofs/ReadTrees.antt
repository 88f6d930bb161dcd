-- What the tokens of a text spell the text spells, and the fault of a text without tokens, or of its tokens, is one of the text.
use Rattle.std.proofs.Common.{◌≡◌, ℕ, List, Ok, Err, refl, inl, inr, subst}
use Rattle.fir_base.specs.declared.refused.Refused.{Refused}
use Rattle.fir_base.specs.declared.refused.Refused.TheVariants as refused
use Rattle.fir_ast.specs.declared.fault.FirFault.{FirFault}
use Rattle.fir_ast.specs.Faults.{Fault}
use Rattle.fir_ast.specs.working.CodeFaults.{fault_of}
use Rattle.fir_ast.specs.Circuits.{CircuitTree}
use Rattle.fir_lex.specs.Tokens.{Placed}
use Rattle.fir_lex.specs.working.Lexed.{lexed}
use Rattle.fir_lex.specs.TokensOf.{place_after}
use Rattle.fir_lex.specs.working.Laws.{LexedFormByForm, FaultsFormByForm}
use Rattle.fir_lex.specs.working.Steps.{Gives}
use Rattle.fir_parse.specs.Limits.{everywhere}
use Rattle.fir_parse.specs.CircuitForms.{IsSpelled}
use Rattle.fir_parse.specs.Spells.{Spells, terminals}
use Rattle.fir_parse.specs.TextFaults.{IsFirstTextFault, TextFault}
use Rattle.fir_compile.specs.working.Readings.{IsTree}

pub without_tokens : (faults_by_form : FaultsFormByForm) (bytes : List ℕ) (r : Refused FirFault) → Gives (Err r) (lexed bytes) → IsTree bytes (Err r)
without_tokens faults_by_form bytes (refused.Fault f) h = inl ((faults_by_form bytes (fault_of f)).0 (f, h, refl))
without_tokens faults_by_form bytes refused.Memory h = tt

module _ (form_by_form : LexedFormByForm) (bytes : List ℕ) (ts : List Placed) (lexes : lexed bytes ≡ Ok ts) where
  pub tree_read : (c : CircuitTree) → IsSpelled everywhere c (terminals ts) → Spells bytes c
  tree_read c spelled = (ts, (form_by_form bytes ts).0 lexes, spelled)

  pub fault_read : (text : List ℕ) → text ≡ bytes → (f : Fault) → IsFirstTextFault (place_after text) (terminals ts) f → TextFault bytes f
  fault_read text same f first = inr (ts, (form_by_form bytes ts).0 lexes, subst (λ b. IsFirstTextFault (place_after b) (terminals ts) f) same first)
