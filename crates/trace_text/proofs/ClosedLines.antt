-- Words that are each closed by a space, and the line of such words: a newline stands in the place of the last space.
use Rattle.std.proofs.Common.{◌≡◌, ℕ, ◌+◌, ◌-◌, ◌<◌, List, [], ◌∷◌, ◌++◌, length, map, take, get_or, refl, sym, ap, ◌∙◌, append_assoc, length-append, arith}
use Rattle.std.proofs.Math.Seq.{take-append_seam}
use Rattle.std.proofs.lemmas.List.{append-nil, map-append, take_more}
use Rattle.fir_bits.specs.Values.{BitVector}
use Rattle.trace_text.specs.OutputLines.{spaced, value_text}
use Rattle.trace_text.specs.working.ClosedWords.{closed}

pub closed-append : (vs ws : List (List ℕ)) → closed (vs ++ ws) ≡ closed vs ++ closed ws
closed-append [] ws = refl
closed-append (v ∷ vs) ws = ap (λ t. (v ++ 32 ∷ []) ++ t) (closed-append vs ws) ∙ sym (append_assoc (v ++ 32 ∷ []) (closed vs) (closed ws))

-- a value more
pub values_more : (out : List ℕ) (vs : List BitVector) (i : ℕ) (v : BitVector) → i < length vs → v ≡ get_or vs i v
    → ((out ++ closed (map value_text (take i vs))) ++ value_text v) ++ 32 ∷ [] ≡ out ++ closed (map value_text (take (i + 1) vs))
values_more out vs i v h is =
    let more : take (i + 1) vs ≡ take i vs ++ v ∷ [] = take_more vs i v h ∙ ap (λ x. take i vs ++ x ∷ []) (sym is) in
    let words : closed (map value_text (take (i + 1) vs)) ≡ closed (map value_text (take i vs)) ++ (value_text v ++ 32 ∷ []) =
    ap (λ xs. closed (map value_text xs)) more ∙ ap closed (map-append value_text (take i vs) (v ∷ [])) ∙ closed-append (map value_text (take i vs)) (value_text v ∷ [])
    ∙ ap (λ t. closed (map value_text (take i vs)) ++ t) (append-nil (value_text v ++ 32 ∷ [])) in
    append_assoc (out ++ closed (map value_text (take i vs))) (value_text v) (32 ∷ []) ∙ append_assoc out (closed (map value_text (take i vs))) (value_text v ++ 32 ∷ [])
    ∙ ap (λ t. out ++ t) (sym words)

-- the last space stands behind the spaced words
closed_spaced : (w : List ℕ) (ws : List (List ℕ)) → closed (w ∷ ws) ≡ spaced (w ∷ ws) ++ 32 ∷ []
closed_spaced w [] = append-nil (w ++ 32 ∷ [])
closed_spaced w (v ∷ ws) =
    ap (λ t. (w ++ 32 ∷ []) ++ t) (closed_spaced v ws) ∙ append_assoc w (32 ∷ []) (spaced (v ∷ ws) ++ 32 ∷ []) ∙ sym (append_assoc w (32 ∷ spaced (v ∷ ws)) (32 ∷ []))

front : (xs : List ℕ) (x : ℕ) → take (length (xs ++ x ∷ []) - 1) (xs ++ x ∷ []) ≡ xs
front xs x =
    let count : length (xs ++ x ∷ []) - 1 ≡ length xs = omega (arith, length-append xs (x ∷ [])) in
    rw count (take-append_seam xs (x ∷ []))

without_last : (ws : List (List ℕ)) → take (length (closed ws) - 1) (closed ws) ≡ spaced ws
without_last [] = refl
without_last (w ∷ ws) = ap (λ t. take (length t - 1) t) (closed_spaced w ws) ∙ front (spaced (w ∷ ws)) 32

-- the whole line, from its three parts
pub whole_line : (a b c : List (List ℕ)) (empty first second third : List ℕ) (n : ℕ) → empty ≡ [] → first ≡ empty ++ closed a → second ≡ first ++ closed b → third ≡ second ++ closed c → n ≡ length third
    → take (n - 1) third ++ 10 ∷ [] ≡ spaced ((a ++ b) ++ c) ++ 10 ∷ []
whole_line a b c empty first second third n e f s t long =
    let front : second ≡ closed (a ++ b) = s ∙ ap (λ x. x ++ closed b) (f ∙ ap (λ x. x ++ closed a) e) ∙ sym (closed-append a b) in
    let all : third ≡ closed ((a ++ b) ++ c) = t ∙ ap (λ x. x ++ closed c) front ∙ sym (closed-append (a ++ b) c) in
    ap (λ k. take (k - 1) third ++ 10 ∷ []) long ∙ ap (λ x. take (length x - 1) x ++ 10 ∷ []) all ∙ ap (λ x. x ++ 10 ∷ []) (without_last ((a ++ b) ++ c))
