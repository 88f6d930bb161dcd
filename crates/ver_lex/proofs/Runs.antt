-- Runs of bytes that pass a test, and what stands behind them.
use Rattle.std.proofs.Common.{◌≡◌, ℕ, ◌≤◌, Bool, true, false, List, [], ◌∷◌, ◌++◌, length, refl, sym, ap, ◌∙◌, subst, arith}
use Rattle.std.specs.Prelude.{IsTrue, take_while}
use Rattle.std.specs.List.{AllByRecursion}
use Rattle.std.proofs.lemmas.List.Sums.{take_while-cons}
use Rattle.ver_ast.proofs.Reach.{NotNext}

abbrev pub AllPass : (ℕ → Bool) → List ℕ → Type 0
AllPass p = AllByRecursion (λ b. IsTrue (p b))

-- what is taken while a test passes is a run, and nothing behind it goes on with it
pub record Run (p : ℕ → Bool) (bytes : List ℕ) : Type 0 where
  pub behind : List ℕ
  pub parts : bytes ≡ take_while p bytes ++ behind
  pub all : AllPass p (take_while p bytes)
  pub ends : NotNext p behind

run_at : (p : ℕ → Bool) (b : ℕ) (bs : List ℕ) (t : Bool) → p b ≡ t → Run p bs → Run p (b ∷ bs)
run_at p b bs true e r = record {
  behind = r.behind;
  parts = rw (take_while-cons p b bs, e) (ap {B = List ℕ} (λ (x : List ℕ). b ∷ x) r.parts);
  all = rw (take_while-cons p b bs, e) (e, r.all);
  ends = r.ends;
}
run_at p b bs false e r = record {
  behind = b ∷ bs;
  parts = rw (take_while-cons p b bs, e) refl;
  all = rw (take_while-cons p b bs, e) tt;
  ends = e;
}

pub run : (p : ℕ → Bool) (bytes : List ℕ) → Run p bytes
run p [] = record { behind = []; parts = refl; all = tt; ends = tt }
run p (b ∷ bs) = run_at p b bs (p b) refl (run p bs)

stops : (p : ℕ → Bool) (bs : List ℕ) → NotNext p bs → take_while p bs ≡ []
stops p [] h = refl
stops p (b ∷ bs) h = take_while-cons p b bs ∙ rw h refl

-- a run that nothing goes on is taken whole
pub run_taken : (p : ℕ → Bool) (s behind : List ℕ) → AllPass p s → NotNext p behind → take_while p (s ++ behind) ≡ s
run_taken p [] behind all h = stops p behind h
run_taken p (b ∷ bs) behind all h =
    take_while-cons p b (bs ++ behind) ∙ rw all.0 (ap {B = List ℕ} (λ (r : List ℕ). b ∷ r) (run_taken p bs behind all.1 h))

-- a run at the front is within the one that is taken
pub run_within : (p : ℕ → Bool) (r more s behind : List ℕ) → AllPass p r → NotNext p behind → s ++ behind ≡ r ++ more → length r ≤ length s
run_within p [] more s behind all n e = omega arith
run_within p (c ∷ r) more [] behind all n e =
    let fails : NotNext p (c ∷ (r ++ more)) = subst (NotNext p) e n in
    let passes : p c ≡ true = all.0 in
    absurd (cc)
run_within p (c ∷ r) more (b ∷ s) behind all n e =
    let rest : s ++ behind ≡ r ++ more = cc in
    let shorter = run_within p r more s behind all.1 n rest in
    omega (arith, shorter)

-- two runs that nothing goes on are the same
pub same_runs : (p : ℕ → Bool) (s behind r more : List ℕ) → AllPass p s → AllPass p r → NotNext p behind → NotNext p more → s ++ behind ≡ r ++ more
    → (s ≡ r) × (behind ≡ more)
same_runs p [] behind [] more h k n m e = (refl, e)
same_runs p [] behind (c ∷ r) more h k n m e =
    let fails : NotNext p (c ∷ (r ++ more)) = subst (NotNext p) e n in
    let passes : p c ≡ true = k.0 in
    absurd (cc)
same_runs p (b ∷ s) behind [] more h k n m e =
    let fails : NotNext p (b ∷ (s ++ behind)) = subst (NotNext p) (sym e) m in
    let passes : p b ≡ true = h.0 in
    absurd (cc)
same_runs p (b ∷ s) behind (c ∷ r) more h k n m e =
    let first : b ≡ c = cc in
    let rest : s ++ behind ≡ r ++ more = cc in
    let same = same_runs p s behind r more h.1 k.1 n m rest in
    let run : b ∷ s ≡ c ∷ r = cc in
    (run, same.1)
