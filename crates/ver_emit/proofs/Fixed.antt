-- Texts that are written alike in each tree.
-- Such a text is read by computing, and its tokens stand before those of the rest.
use Rattle.std.proofs.Common.{◌≡◌, ℕ, List, [], ◌∷◌, ◌++◌, Option, Some, None, refl, sym, ap, ◌∙◌, append_assoc, true}
use Rattle.std.specs.Prelude.{option_map}
use Rattle.std.specs.List.{list_all}
use Rattle.ver_ast.specs.Tokens.{VToken}
use Rattle.ver_ast.specs.working.TokenSteps.{Pending, between, TokenStep, step, go_on, tokens_from, tokens}
use Rattle.ver_emit.proofs.ReadText.{Reads, is_fixed, alike_behind}

-- the tokens that a text closes, and what is pending behind it
abbrev run_on : TokenStep → (Pending → TokenStep) → TokenStep
run_on None rest = None
run_on (Some s) rest = option_map (λ r. (s.0 ++ r.0, r.1)) (rest s.1)

abbrev pub run : Pending → List ℕ → TokenStep
run pending [] = Some ([], pending)
run pending (b ∷ bs) = run_on (step pending b) (λ next. run next bs)

no_more : (o : Option (List VToken)) → o ≡ option_map (λ ts. [] ++ ts) o
no_more None = refl
no_more (Some ts) = refl

before_both : (us vs : List VToken) (o : Option (List VToken))
    → option_map (λ ts. us ++ ts) (option_map (λ ts. vs ++ ts) o) ≡ option_map (λ ts. (us ++ vs) ++ ts) o
before_both us vs None = refl
before_both us vs (Some ts) = ap Some (sym (append_assoc us vs ts))

before_step : (us : List VToken) (r : TokenStep) (rest : Pending → Option (List VToken))
    → option_map (λ ts. us ++ ts) (go_on r rest) ≡ go_on (option_map (λ s. (us ++ s.0, s.1)) r) rest
before_step us None rest = refl
before_step us (Some r) rest = before_both us r.0 (rest r.1)

-- where the rest is read in two parts
in_parts : (s : TokenStep) (front : Pending → TokenStep) (whole back : Pending → Option (List VToken)) → ((p : Pending) → whole p ≡ go_on (front p) back)
    → go_on s whole ≡ go_on (run_on s front) back
in_parts None front whole back h = refl
in_parts (Some s) front whole back h = ap (option_map (λ ts. s.0 ++ ts)) (h s.1) ∙ before_step s.0 (front s.1) back

run_before : (text rest : List ℕ) (pending : Pending) → tokens_from pending (text ++ rest) ≡ go_on (run pending text) (λ next. tokens_from next rest)
unfolding tokens_from
run_before [] rest pending = no_more (tokens_from pending rest)
run_before (b ∷ bs) rest pending =
    in_parts (step pending b) (λ next. run next bs) (λ next. tokens_from next (bs ++ rest)) (λ next. tokens_from next rest)
    (λ next. run_before bs rest next)

-- a text behind which nothing is pending
fixed_read : (text rest : List ℕ) (us ts : List VToken) → run between text ≡ Some (us, between) → tokens rest ≡ Some ts
    → tokens (text ++ rest) ≡ Some (us ++ ts)
fixed_read text rest us ts read e =
    run_before text rest between ∙ ap (λ s. go_on s (λ next. tokens_from next rest)) read ∙ ap (option_map (λ vs. us ++ vs)) e

pub fixed_spelled : (text rest : List ℕ) (us gs : List VToken) → run between text ≡ Some (us, between) → list_all is_fixed us ≡ true → Reads rest gs
    → Reads (text ++ rest) (us ++ gs)
fixed_spelled text rest us gs read fixed r =
    record { read = us ++ r.read; is_read = fixed_read text rest us r.read read r.is_read; alike = alike_behind us gs r.read fixed r.alike }
