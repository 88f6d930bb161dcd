-- Where the names of leaves are distinct, each is the name of one leaf.
use Rattle.std.proofs.Common.{◌≡◌, ℕ, zero, suc, ◌+◌, List, [], ◌∷◌, sym, ap, ◌∙◌, inl, inr, subst, arith, Option, Some, None, refl}
use Rattle.fir_base.specs.Lists.{In, Distinct}
use Rattle.fir_net_names.specs.working.LeafNamed.{somes, name_at}
use Rattle.ver_ast.specs.Nets.{SizedNet, names_of}
use Rattle.ver_ast.proofs.Widths.{declared_width}

-- the names with their numbers, from k on
numbered : ℕ → List (Option (List ℕ)) → List SizedNet
numbered k [] = []
numbered k (None ∷ names) = numbered (suc k) names
numbered k (Some n ∷ names) = (n, k) ∷ numbered (suc k) names

numbered_names : (k : ℕ) (names : List (Option (List ℕ))) → names_of (numbered k names) ≡ somes names
unfolding numbered
numbered_names k [] = refl
numbered_names k (None ∷ names) = numbered_names (suc k) names
numbered_names k (Some n ∷ names) = ap (λ ns. n ∷ ns) (numbered_names (suc k) names)

in_numbered : (j : ℕ) (names : List (Option (List ℕ))) (k : ℕ) (n : List ℕ) → name_at names k ≡ Some n → In (numbered j names) (n, j + k)
unfolding numbered
in_numbered j [] k n e = absurd (cc)
in_numbered j (None ∷ names) zero n e = absurd (cc)
in_numbered j (None ∷ names) (suc k) n e =
    let place : suc j + k ≡ j + suc k = omega arith in
    subst (λ (i : ℕ). In (numbered (suc j) names) (n, i)) place (in_numbered (suc j) names k n e)
in_numbered j (Some m ∷ names) zero n e =
    let same : m ≡ n = cc in
    let place : j ≡ j + 0 = omega arith in
    inl (ap (λ (x : List ℕ). (x, j)) same ∙ ap (λ (i : ℕ). (n, i)) place)
in_numbered j (Some m ∷ names) (suc k) n e =
    let place : suc j + k ≡ j + suc k = omega arith in
    inr (subst (λ (i : ℕ). In (numbered (suc j) names) (n, i)) place (in_numbered (suc j) names k n e))

pub same_place : (names : List (Option (List ℕ))) → Distinct (somes names) → (i k : ℕ) (n : List ℕ) → name_at names i ≡ Some n
    → name_at names k ≡ Some n → i ≡ k
same_place names once i k n a b =
    let each : Distinct (names_of (numbered 0 names)) = subst Distinct (sym (numbered_names 0 names)) once in
    let first : 0 + i ≡ i = omega arith in
    let second : 0 + k ≡ k = omega arith in
    let x = subst (λ (j : ℕ). In (numbered 0 names) (n, j)) first (in_numbered 0 names i n a) in
    let y = subst (λ (j : ℕ). In (numbered 0 names) (n, j)) second (in_numbered 0 names k n b) in
    sym (declared_width (numbered 0 names) each n i x) ∙ declared_width (numbered 0 names) each n k y
