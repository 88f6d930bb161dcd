-- One step of a pass.
use Rattle.std.proofs.Common.{◌≡◌, ℕ, ◌+◌, ◌<◌, List, [], ◌∷◌, ◌++◌, drop, set, get_or, length, sym, ap, ◌∙◌, append_assoc}
use Rattle.std.proofs.lemmas.List.{drop_more}
use Rattle.fir_bits.specs.Values.{BitVector}
use Rattle.fir_tick.specs.declared.plan.InputPlan.{InputPlan}
use Rattle.fir_tick.specs.working.Passes.{vector_of, values_of, with_inputs}

pub inputs_more : (ps : List InputPlan) (vs ns all : List ℕ) (j : ℕ) (d : InputPlan) → j < length ps → j < length vs → with_inputs (drop j ps) (drop j vs) ns ≡ all
    → with_inputs (drop (j + 1) ps) (drop (j + 1) vs) (set ns (get_or ps j d).leaf (get_or vs j 0)) ≡ all
inputs_more ps vs ns all j d a b h =
    sym (ap (λ (qs : List InputPlan). with_inputs qs (drop j vs) ns) (drop_more ps j d a) ∙ ap (λ (ms : List ℕ). with_inputs (get_or ps j d ∷ drop (j + 1) ps) ms ns) (drop_more vs j 0 b)) ∙ h

pub values_more : (ws ns : List ℕ) (vs all : List BitVector) (j d : ℕ) → j < length ws → j < length ns → vs ++ values_of (drop j ws) (drop j ns) ≡ all
    → (vs ++ vector_of (get_or ws j d) (get_or ns j 0) ∷ []) ++ values_of (drop (j + 1) ws) (drop (j + 1) ns) ≡ all
values_more ws ns vs all j d a b h =
    append_assoc vs (vector_of (get_or ws j d) (get_or ns j 0) ∷ []) (values_of (drop (j + 1) ws) (drop (j + 1) ns))
    ∙ ap (λ (rest : List BitVector). vs ++ rest) (sym (ap (λ (qs : List ℕ). values_of qs (drop j ns)) (drop_more ws j d a) ∙ ap (λ (ms : List ℕ). values_of (get_or ws j d ∷ drop (j + 1) ws) ms) (drop_more ns j 0 b)))
    ∙ h
