-- What a text spells, or which fault it has.
use Rattle.std.proofs.Common.{◌≡◌, ℕ, List, Result, Ok, Err, refl, sym, ap, ◌∙◌, subst, ◌⊎◌, inl, inr}
use Rattle.fir_ast.specs.declared.fault.FirFault.{FirFault}
use Rattle.fir_ast.specs.Faults.{Fault}
use Rattle.fir_ast.specs.working.CodeFaults.{fault_of}
use Rattle.fir_ast.specs.Circuits.{CircuitTree}
use Rattle.fir_lex.specs.Tokens.{Placed}
use Rattle.fir_lex.specs.working.Lexed.{lexed}
use Rattle.fir_lex.specs.TokensOf.{place_after, AreTokensOf}
use Rattle.fir_lex.specs.TokenFaults.{TokenFault}
use Rattle.fir_lex.specs.working.Laws.{LexedFormByForm, FaultsFormByForm}
use Rattle.fir_parse.specs.Limits.{everywhere}
use Rattle.fir_parse.specs.CircuitForms.{IsSpelled}
use Rattle.fir_parse.specs.Spells.{Spells, terminals}
use Rattle.fir_parse.specs.TextFaults.{TextFault, IsFirstTextFault}
use Rattle.fir_parse.specs.working.Reading.{Outcome, read}
use Rattle.fir_parse.specs.working.Laws.{HasTree, HasFault}
use Rattle.fir_parse.proofs.FirstFaults.{first_fault}
use Rattle.fir_parse.proofs.FaultsRead.{one_fault, no_tree}
use Rattle.fir_parse.proofs.FormsReadCircuits.{forms_read}
use Rattle.fir_parse.proofs.FormsSpelled.{forms_found}

same_tokens : (r : Result (List Placed) FirFault) (ts us : List Placed) → r ≡ Ok ts → r ≡ Ok us → ts ≡ us
same_tokens r ts us p q = cc

same_fault : (r : Result (List Placed) FirFault) (f g : FirFault) → r ≡ Err f → r ≡ Err g → f ≡ g
same_fault r f g p q = cc

module _ (form_by_form : LexedFormByForm) where
  one_list : (bytes : List ℕ) (ts us : List Placed) → AreTokensOf bytes ts → AreTokensOf bytes us → us ≡ ts
  one_list bytes ts us p q = same_tokens (lexed bytes) us ts ((form_by_form bytes us).1 q) ((form_by_form bytes ts).1 p)

  pub one_tree : (bytes : List ℕ) (a b : CircuitTree) → Spells bytes a → Spells bytes b → a ≡ b
  one_tree bytes a b (ts, p, x) (us, q, y) =
      let first = forms_read everywhere (place_after bytes) (terminals ts) a x in
      let second =
      forms_read everywhere (place_after bytes) (terminals ts) b (subst (λ vs. IsSpelled everywhere b (terminals vs)) (one_list bytes ts us p q) y) in
      cc

  by_reading : (bytes : List ℕ) (ts : List Placed) → AreTokensOf bytes ts → (o : Outcome) → read (place_after bytes) (terminals ts) ≡ o
      → HasTree bytes ⊎ HasFault bytes
  by_reading bytes ts p (Ok c) h = inl (c, (ts, p, forms_found everywhere (place_after bytes) (terminals ts) c h))
  by_reading bytes ts p (Err f) h = inr (fault_of f, inr (ts, p, first_fault (place_after bytes) (terminals ts) f h))

module _ (form_by_form : LexedFormByForm) (faults_by_form : FaultsFormByForm) where
  no_tokens : (bytes : List ℕ) (ts : List Placed) (f : Fault) → TokenFault bytes f → AreTokensOf bytes ts → ⊥
  no_tokens bytes ts f e p =
      let given : lexed bytes ≡ Ok ts = (form_by_form bytes ts).1 p in
      let other = ((faults_by_form bytes f).1 e).1 in
      absurd (cc)

  by_tokens : (bytes : List ℕ) (r : Result (List Placed) FirFault) → lexed bytes ≡ r → HasTree bytes ⊎ HasFault bytes
  by_tokens bytes (Ok ts) e = by_reading form_by_form bytes ts ((form_by_form bytes ts).0 e) (read (place_after bytes) (terminals ts)) refl
  by_tokens bytes (Err f) e = inr (fault_of f, inl ((faults_by_form bytes (fault_of f)).0 (f, e, refl)))

  pub tree_or_fault : (bytes : List ℕ) → HasTree bytes ⊎ HasFault bytes
  tree_or_fault bytes = by_tokens bytes (lexed bytes) refl

  pub not_both : (bytes : List ℕ) → HasTree bytes → HasFault bytes → ⊥
  not_both bytes (c, (ts, p, h)) (f, inl e) = no_tokens bytes ts f e p
  not_both bytes (c, (ts, p, h)) (f, inr (us, q, first)) =
      no_tree (place_after bytes) (terminals us) f c first
      (subst (λ vs. IsSpelled everywhere c (terminals vs)) (sym (one_list form_by_form bytes ts us p q)) h)

  pub one_text_fault : (bytes : List ℕ) (f g : Fault) → TextFault bytes f → TextFault bytes g → f ≡ g
  one_text_fault bytes f g (inl p) (inl q) =
      let first = (faults_by_form bytes f).1 p in
      let second = (faults_by_form bytes g).1 q in
      let same : first.0 ≡ second.0 = same_fault (lexed bytes) first.0 second.0 first.1 second.1 in
      first.2 ∙ ap fault_of same ∙ sym second.2
  one_text_fault bytes f g (inl p) (inr (us, q, first)) = absurd (no_tokens bytes us f p q)
  one_text_fault bytes f g (inr (ts, p, first)) (inl q) = absurd (no_tokens bytes ts g q p)
  one_text_fault bytes f g (inr (ts, p, first)) (inr (us, q, second)) =
      one_fault (place_after bytes) (terminals ts) f g first
      (subst (λ vs. IsFirstTextFault (place_after bytes) (terminals vs) g) (one_list form_by_form bytes ts us p q) second)
