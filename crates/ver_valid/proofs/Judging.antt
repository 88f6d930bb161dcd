-- Answers of judging calls, passed on.
use Rattle.std.proofs.Common.{◌≡◌, ℕ}
use Rattle.std.specs.Prelude.{Result, Ok, Err}
use Rattle.std.specs.Result.{IsErrAnd}
use Rattle.std.proofs.lemmas.Result.{err_from_is_err_and}
use Rattle.fir_base.specs.declared.refused.Refused.{Refused}
use Rattle.fir_base.specs.declared.refused.Refused.TheVariants.{Fault, Memory}
use Rattle.ver_valid.specs.declared.misfit.Misfit.{Misfit}
use Rattle.ver_valid.specs.working.Judgement.{Denies, Judges, Gives}

-- what denies a fact denies one that is stronger
pub denied : (e : Refused Misfit) (P : Type 0) → (P → ⊥) → Denies e P
denied (Fault f) P h = h
denied Memory P h = tt

pub denied_more : (e : Refused Misfit) (P Q : Type 0) → (Q → P) → Denies e P → Denies e Q
denied_more (Fault f) P Q h d = λ q. d (h q)
denied_more Memory P Q h d = tt

pub judged_same : {T : Type 0} (r : Result T (Refused Misfit)) (P Q : Type 0) → (P → Q) → (Q → P) → Judges r P → Judges r Q
judged_same (Ok x) P Q to back h = to h
judged_same (Err e) P Q to back h = denied_more e P Q back h

pub given_same : (r : Result ℕ (Refused Misfit)) (P Q : ℕ → Type 0) → ((w : ℕ) → P w → Q w) → ((w : ℕ) → Q w → P w) → Gives r P → Gives r Q
given_same (Ok w) P Q to back h = (to w h.0, λ u q. h.1 u (back u q))
given_same (Err e) P Q to back h = denied_more e ((u : ℕ) × P u) ((u : ℕ) × Q u) (λ q. (q.0, back q.0 q.1)) h

-- a call that ends with the answer of another that was not Ok
pub given_err : (r : Result ℕ (Refused Misfit)) (e : Refused Misfit) (P : ℕ → Type 0) → IsErrAnd r (λ x. x ≡ e) → Denies e ((u : ℕ) × P u) → Gives r P
given_err r e P h d = let p = err_from_is_err_and r h in rw (p.1, p.2) d

pub judged_err : {T : Type 0} (r : Result T (Refused Misfit)) (e : Refused Misfit) (P : Type 0) → IsErrAnd r (λ x. x ≡ e) → Denies e P → Judges r P
judged_err r e P h d = let p = err_from_is_err_and r h in rw (p.1, p.2) d
